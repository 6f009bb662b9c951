-- A processor's turns up to the first that didn't move.
use Rattle.std.specs.Prelude.{ℕ, zero, suc, ◌+◌, ◌*◌, Option, Some, None}
use Rattle.cmm_types.specs.declared.plan.TheConstants.{MAX_FILE_PAGES}
use Rattle.cmm_types.specs.declared.command.Op.{Op}
use Rattle.cmm_types.specs.declared.command.Op.TheVariants.{Read, Write, Sync, MapFile, MapAnon, Unmap, Load, Store, Pin, Unpin}
use Rattle.cmm_types.specs.declared.turn.Turn.{Turn}
use Rattle.cmm_types.specs.declared.turn.Turn.TheVariants.{Moved, Finished, Waits, Again, Idle}
use Rattle.cmm_types.specs.declared.turn.Alone.{Alone}
use Rattle.cmm_types.specs.declared.turn.Alone.TheVariants.{Finished as AloneFinished, Waits as AloneWaits, Idle as AloneIdle}
use Rattle.cmm_flat.specs.Legal.{process_of}
use Rattle.cmm_storage.specs.Program.{Program, done, bind}
use Rattle.guest_maps.specs.MapsView.{MapsView, slot_at, find_slot}
use Rattle.guest_rules.specs.declared.processor.Phase.{Phase}
use Rattle.guest_rules.specs.declared.processor.Phase.TheVariants.{Start, Fill, Room as AtRoom, Sync as AtSync, SyncWrite, Teardown}
use Rattle.guest_rules.specs.GuestState.{GuestState, processor_at}
use Rattle.guest_rules.specs.Turns.{file_pages, mapping_pages, turn}

-- the pages of the mapping in a slot that was found
abbrev pub found_pages : MapsView → Option ℕ → ℕ
found_pages maps None = 0
found_pages maps (Some slot) = mapping_pages (slot_at maps slot)

-- how many pages the mapping has that an unmap of this number ends, or is taking off already
abbrev pub pages_to_tear : GuestState → (cpu number : ℕ) → Phase → ℕ
pages_to_tear g cpu number Start = found_pages g.parts.maps (find_slot g.parts.maps (process_of g.plan cpu) number)
pages_to_tear g cpu number (Teardown slot index) = mapping_pages (slot_at g.parts.maps slot)
pages_to_tear g cpu number (Fill page) = 0
pages_to_tear g cpu number (AtRoom page) = 0
pages_to_tear g cpu number (AtSync index) = 0
pages_to_tear g cpu number (SyncWrite index page) = 0

-- so many turns a processor's command takes at most, over a storage that never misses: 12, a sync 3 more for each page of its file, and an
-- unmap 3 more for each page of its mapping
abbrev pub turns_of : GuestState → (cpu : ℕ) → Op → ℕ
turns_of g cpu (Read file off len) = 12
turns_of g cpu (Write file off bytes) = 12
turns_of g cpu (Sync file) = 12 + 3 * file_pages g.plan.files file
turns_of g cpu (MapFile number file first count writable) = 12
turns_of g cpu (MapAnon number count) = 12
turns_of g cpu (Unmap number) = 12 + 3 * pages_to_tear g cpu number (processor_at g cpu).phase
turns_of g cpu (Load number off len) = 12
turns_of g cpu (Store number off bytes) = 12
turns_of g cpu (Pin number index) = 12
turns_of g cpu (Unpin number index) = 12

-- and so many any command of any plan
unfoldable pub most_turns : ℕ
most_turns = 12 + 3 * MAX_FILE_PAGES

-- what follows a turn: the next where it moved. A storage that never misses never answers `Again`
abbrev pub alone_after : (GuestState → Program (GuestState × Alone)) → ℕ → GuestState → Turn → Program (GuestState × Alone)
alone_after next turns g Moved = next g
alone_after next turns g Finished = done (g, AloneFinished (turns + 1))
alone_after next turns g (Waits page owner) = done (g, AloneWaits turns page owner)
alone_after next turns g (Again why) = done (g, AloneIdle)
alone_after next turns g Idle = done (g, AloneIdle)

-- at most `left` further turns, after `turns` that moved. A command never takes more turns than it may, so the first case doesn't come
abbrev pub alone_within : ℕ → ℕ → GuestState → ℕ → Program (GuestState × Alone)
alone_within zero turns g cpu = done (g, AloneIdle)
alone_within (suc left) turns g cpu = bind (turn g cpu) (λ went. alone_after (λ h. alone_within left (turns + 1) h cpu) turns went.0 went.1)

-- a processor's turns up to the first that didn't move
abbrev pub alone : GuestState → ℕ → Program (GuestState × Alone)
alone g cpu = alone_within most_turns 0 g cpu
