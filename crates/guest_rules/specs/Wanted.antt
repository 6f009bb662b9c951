-- The tag of the page that a command needs.
use Rattle.std.specs.Prelude.{ℕ, ◌/◌, Option, Some, None}
use Rattle.cmm_types.specs.declared.page.TheConstants.{PAGE}
use Rattle.cmm_types.specs.declared.page.Tag.{Tag}
use Rattle.cmm_types.specs.declared.page.Tag.TheVariants.{File}
use Rattle.cmm_types.specs.declared.command.Op.{Op}
use Rattle.cmm_types.specs.declared.command.Op.TheVariants.{Read, Write, Sync, MapFile, MapAnon, Unmap, Load, Store, Pin, Unpin}
use Rattle.guest_maps.specs.MapsView.{find_slot, tag_at}
use Rattle.guest_rules.specs.declared.parts.Parts.{Parts}

-- what is shown at a page of the mapping in a slot, if one was found
abbrev pub found_tag : Parts → Option ℕ → ℕ → Option Tag
found_tag parts None index = None
found_tag parts (Some slot) index = tag_at parts.maps slot index

-- the tag of the page that a command of a process needs
abbrev pub wanted_tag : Parts → ℕ → Op → Option Tag
wanted_tag parts process (Read file off len) = Some (File file (off / PAGE))
wanted_tag parts process (Write file off bytes) = Some (File file (off / PAGE))
wanted_tag parts process (Load number off len) = found_tag parts (find_slot parts.maps process number) (off / PAGE)
wanted_tag parts process (Store number off bytes) = found_tag parts (find_slot parts.maps process number) (off / PAGE)
wanted_tag parts process (Pin number index) = found_tag parts (find_slot parts.maps process number) index
wanted_tag parts process (Unpin number index) = found_tag parts (find_slot parts.maps process number) index
wanted_tag parts process (Sync file) = None
wanted_tag parts process (MapFile number file first count writable) = None
wanted_tag parts process (MapAnon number count) = None
wanted_tag parts process (Unmap number) = None
