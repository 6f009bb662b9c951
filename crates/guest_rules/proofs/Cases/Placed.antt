-- The place of a pin or of its end that isn't refused.
use Rattle.std.proofs.Common.{◌≡◌, ◌<◌, ℕ, Bool, true, false, not, nat_lt, if◌then◌else◌, Some, None, refl, ap, sym, ◌∙◌}
use Rattle.std.proofs.lemmas.Bool.{ltb-true}
use Rattle.cmm_types.specs.declared.page.Tag.{Tag}
use Rattle.cmm_types.specs.declared.command.Op.{Op}
use Rattle.cmm_types.specs.declared.command.FlatRefusal.TheVariants.{NoMapping, OutOfRange, Pinned, NotPinned}
use Rattle.cmm_flat.specs.Legal.{process_of}
use Rattle.guest_maps.specs.declared.slot.Slot.{Slot}
use Rattle.guest_maps.specs.MapsView.{MapsView, IsPlace, slot_at, find_slot, pinned_at, tag_of, tag_at}
use Rattle.guest_maps.specs.Laws.MapsLaws.{IsPlace-from}
use Rattle.guest_rules.specs.GuestState.{GuestState}
use Rattle.guest_rules.specs.Turns.{mapping_pages, refusal_of_pin, refusal_of_pin_at, refusal_in}
use Rattle.guest_rules.proofs.Cases.TurnCases.{Starts, Wants, found_tag, wanted_tag, pin_op}
use Rattle.guest_rules.proofs.Cases.MapsFound.{found_slot, tag_at-place}

-- a page of a live mapping, which isn't pinned and is to be, or is pinned and isn't to be
pub record PinPlace (maps : MapsView) (process number slot index : ℕ) (pins : Bool) : Type 0 where
  pub found : find_slot maps process number ≡ Some slot
  pub mapping : Slot
  pub at : slot_at maps slot ≡ Some mapping
  pub below : index < mapping.count
  pub was : pinned_at maps slot index ≡ not pins

-- what an accepted pin or unpin finds
record IsAccepted (maps : MapsView) (slot index : ℕ) (pins : Bool) : Type 0 where
  within : index < mapping_pages (slot_at maps slot)
  was : pinned_at maps slot index ≡ not pins

accepted_pin : (maps : MapsView) (slot index : ℕ) (pins : Bool) → refusal_of_pin_at maps pins index (Some slot) ≡ None → IsAccepted maps slot index pins
accepted_pin maps slot index pins e = let k = of (nat_lt index (mapping_pages (slot_at maps slot))) pins (pinned_at maps slot index) e in record { within = ltb-true _ _ k.0; was = k.1 }
  where
    of : (b pins pinned : Bool) → (if b then refusal_of_pin pins pinned else Some OutOfRange) ≡ None → (b ≡ true) × (pinned ≡ not pins)
    of true true true e = let bad : Some Pinned ≡ None = e in absurd cc
    of true true false e = (refl, refl)
    of true false true e = (refl, refl)
    of true false false e = let bad : Some NotPinned ≡ None = e in absurd cc
    of false pins pinned e = let bad : Some OutOfRange ≡ None = e in absurd cc

-- one definition of both refusals
refusal-pin : (g : GuestState) (process : ℕ) (pins : Bool) (number index : ℕ)
    → refusal_in g process (pin_op pins number index) ≡ refusal_of_pin_at g.parts.maps pins index (find_slot g.parts.maps process number)
refusal-pin g process true number index = refl
refusal-pin g process false number index = refl

-- the place, where the slot was found
pub pin-place : (g : GuestState) (cpu : ℕ) (pins : Bool) (number index slot : ℕ) → Starts g cpu (pin_op pins number index) → find_slot g.parts.maps (process_of g.plan cpu) number ≡ Some slot
    → PinPlace g.parts.maps (process_of g.plan cpu) number slot index pins
pin-place g cpu pins number index slot starts found =
    let at = found_slot g.parts.maps (process_of g.plan cpu) number slot found in
    let k = accepted_pin g.parts.maps slot index pins (ap (refusal_of_pin_at g.parts.maps pins index) (sym found) ∙ sym (refusal-pin g (process_of g.plan cpu) pins number index) ∙ starts.accepted) in
    record { found = found; mapping = at.mapping; at = at.at; below = rw at.at at k.within; was = k.was }

-- there is one
pub pin-found : (g : GuestState) (cpu : ℕ) (pins : Bool) (number index : ℕ) → Starts g cpu (pin_op pins number index) → find_slot g.parts.maps (process_of g.plan cpu) number ≡ None → ⊥
pin-found g cpu pins number index starts none =
    let bad : Some NoMapping ≡ None = ap (refusal_of_pin_at g.parts.maps pins index) (sym none) ∙ sym (refusal-pin g (process_of g.plan cpu) pins number index) ∙ starts.accepted in cc

-- the tag that it wants is the place's
pub pin-wants : (g : GuestState) (process : ℕ) (pins : Bool) (number index slot : ℕ) → find_slot g.parts.maps process number ≡ Some slot
    → wanted_tag g.parts process (pin_op pins number index) ≡ tag_at g.parts.maps slot index
pin-wants g process true number index slot found = ap (λ o. found_tag g.parts o index) found
pin-wants g process false number index slot found = ap (λ o. found_tag g.parts o index) found

-- a pin or an unpin reaches a page of the mapping in a slot
pub record ReachesPlace (g : GuestState) (cpu : ℕ) (op : Op) (slot index : ℕ) : Type 0 where
  pub starts : Starts g cpu op
  pub tag : Tag
  pub shown : tag_at g.parts.maps slot index ≡ Some tag
  pub wants : Wants g cpu op tag
  pub place : IsPlace g.parts.maps slot index

pub pin-reaches : (g : GuestState) (cpu : ℕ) (pins : Bool) (number index slot : ℕ) → Starts g cpu (pin_op pins number index) → find_slot g.parts.maps (process_of g.plan cpu) number ≡ Some slot
    → ReachesPlace g cpu (pin_op pins number index) slot index
pin-reaches g cpu pins number index slot starts found =
    let k = pin-place g cpu pins number index slot starts found in
    let shown = tag_at-place g.parts.maps slot index k.mapping k.at k.below in
    record {
      starts = starts;
      tag = tag_of k.mapping.shown slot index;
      shown = shown;
      wants = pin-wants g (process_of g.plan cpu) pins number index slot found ∙ shown;
      place = IsPlace-from g.parts.maps slot index k.mapping k.at k.below;
    }
