-- A command wants the same tag, through the same slot, while the mapping slots stay.
use Rattle.std.specs.Prelude.{◌≡◌, ℕ, ◌/◌, List, Bool, Option, Some, None, position, refl}
use Rattle.std.proofs.Common.{ap, ◌∙◌}
use Rattle.cmm_types.specs.declared.page.TheConstants.{PAGE}
use Rattle.cmm_types.specs.declared.command.Op.{Op}
use Rattle.cmm_types.specs.declared.command.Op.TheVariants.{Read, Write, Load, Store, Pin, Unpin}
use Rattle.cmm_flat.specs.Legal.{process_of}
use Rattle.guest_maps.specs.declared.slot.Slot.{Slot}
use Rattle.guest_maps.specs.MapsView.{find_slot, is_mapping}
use Rattle.guest_rules.specs.declared.parts.Parts.{Parts}
use Rattle.guest_rules.specs.GuestState.{GuestState, with_parts}
use Rattle.guest_rules.proofs.Kept.PinsKept.{tag-same}
use Rattle.guest_rules.proofs.Cases.TurnCases.{Maps, found_tag, wanted_tag}

pub found_same : (old new : Parts) (process number : ℕ) → new.maps.slots ≡ old.maps.slots → find_slot new.maps process number ≡ find_slot old.maps process number
found_same old new process number same = ap (λ (slots : List (Option Slot)). position (is_mapping process number) slots) same

tag_in-same : (old new : Parts) (o : Option ℕ) (index : ℕ) → new.maps.slots ≡ old.maps.slots → found_tag new o index ≡ found_tag old o index
tag_in-same old new None index same = refl
tag_in-same old new (Some slot) index same = tag-same old.maps new.maps slot index same

tag_found : (old new : Parts) (process number index : ℕ) → new.maps.slots ≡ old.maps.slots
    → found_tag new (find_slot new.maps process number) index ≡ found_tag old (find_slot old.maps process number) index
tag_found old new process number index same = ap (λ o. found_tag new o index) (found_same old new process number same) ∙ tag_in-same old new (find_slot old.maps process number) index same

pub wanted-same : (old new : Parts) (process : ℕ) (op : Op) → new.maps.slots ≡ old.maps.slots → wanted_tag new process op ≡ wanted_tag old process op
wanted-same old new process (Read file off len) same = refl
wanted-same old new process (Write file off bytes) same = refl
wanted-same old new process (Load number off len) same = tag_found old new process number (off / PAGE) same
wanted-same old new process (Store number off bytes) same = tag_found old new process number (off / PAGE) same
wanted-same old new process (Pin number index) same = tag_found old new process number index same
wanted-same old new process (Unpin number index) same = tag_found old new process number index same
wanted-same old new process op same = refl

pub maps-same : (g : GuestState) (new : Parts) (cpu : ℕ) (op : Op) (writes : Bool) (slot off : ℕ) → new.maps.slots ≡ g.parts.maps.slots → Maps g cpu op writes slot off
    → Maps (with_parts g new) cpu op writes slot off
maps-same g new cpu (Load number at len) writes slot off same (is, found, here) = (is, found_same g.parts new (process_of g.plan cpu) number same ∙ found, here)
maps-same g new cpu (Store number at bytes) writes slot off same (is, found, here) = (is, found_same g.parts new (process_of g.plan cpu) number same ∙ found, here)
maps-same g new cpu op writes slot off same maps = absurd maps
