-- What an unmap leaves of its slot: the mapping isn't found any more from its first turn on, and behind the last page the slot is free.
use Rattle.std.specs.Prelude.{◌≡◌, ℕ, true, Option, Some, None, refl}
use Rattle.std.proofs.Common.{sym, ◌∙◌}
use Rattle.cmm_types.specs.declared.turn.Turn.{Turn}
use Rattle.guest_maps.specs.declared.slot.Slot.{Slot}
use Rattle.guest_maps.specs.MapsView.{MapsView, slot_at, find_slot, is_mapping, torn_slot}
use Rattle.guest_maps.specs.Laws.SlotLaws.{mapping_is}
use Rattle.guest_maps.specs.Laws.TornLaws.{find_slot-torn_slot_same}
use Rattle.guest_rules.specs.declared.parts.Parts.{Parts}
use Rattle.guest_rules.specs.GuestState.{GuestState, with_parts}
use Rattle.guest_rules.specs.Turns.{mapping_pages}
use Rattle.guest_rules.proofs.Cases.TurnCases.{TearsPast}
use Rattle.guest_rules.proofs.Cases.MapsFound.{found_slot}
use Rattle.guest_rules.proofs.Cases.TornPast.{HasTornPast, has_torn_past}

-- an unmap went on behind a page of its slot, with these tables, or has ended
abbrev pub IsPast : GuestState → (cpu slot index : ℕ) → Parts → GuestState → Turn → Type 0
IsPast g cpu slot index after h t = HasTornPast (with_parts g after) cpu slot index (mapping_pages (slot_at g.parts.maps slot)) h t

pub is_past : (g : GuestState) (cpu slot index : ℕ) (after : Parts) (h : GuestState) (t : Turn) → TearsPast g cpu slot index after h t → IsPast g cpu slot index after h t
is_past g cpu slot index after h t passes = has_torn_past (with_parts g after) cpu slot index (mapping_pages (slot_at g.parts.maps slot)) h t passes

-- a mapping that was found is in that slot alone, where no two live mappings of a process have one number
abbrev pub AreApart : MapsView → Type 0
AreApart maps =
    (slot other : ℕ) (mapping another : Slot) → slot_at maps slot ≡ Some mapping → slot_at maps other ≡ Some another → mapping.live ≡ true → another.live ≡ true
    → mapping.process ≡ another.process → mapping.map ≡ another.map → slot ≡ other

found_alone : (maps : MapsView) (slot process number other : ℕ) (o : Option Slot) → AreApart maps → find_slot maps process number ≡ Some slot → slot_at maps other ≡ o
    → is_mapping process number o ≡ true → other ≡ slot
found_alone maps slot process number other None apart found at is = absurd (cc is)
found_alone maps slot process number other (Some another) apart found at is =
    let its = found_slot maps process number slot found in
    let own = mapping_is process number another is in
    apart other slot another its.mapping at its.at own.0 its.live (own.1 ∙ sym its.process_is) (own.2 ∙ sym its.number_is)

pub torn_not_found : (maps : MapsView) (slot process number : ℕ) → AreApart maps → find_slot maps process number ≡ Some slot → find_slot (torn_slot maps slot) process number ≡ None
torn_not_found maps slot process number apart found =
    find_slot-torn_slot_same maps slot process number (λ other is. found_alone maps slot process number other (slot_at maps other) apart found refl is)
