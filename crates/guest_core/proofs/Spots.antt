-- What a place of a mapping tells of the bytes there.
use Rattle.std.specs.Prelude.{◌≡◌, ℕ, nat_lt, cond, if◌then◌else◌, Bool, true, false, Option, Some, None, IsSome, refl}
use Rattle.std.proofs.Common.{arith, ap, ◌∙◌}
use Rattle.std.proofs.lemmas.Bool.Decides.{nat_tests}
use Rattle.cmm_types.specs.declared.command.FlatRefusal.TheVariants.{OutOfRange}
use Rattle.guest_maps.specs.declared.slot.Slot.{Slot}
use Rattle.guest_maps.specs.declared.slot.Spot.{Spot}
use Rattle.guest_maps.specs.declared.slot.Pte.{Pte}
use Rattle.guest_maps.specs.MapsView.{MapsView, slot_at, entry_at, pinned_at, tag_at, tag_in, slot_has_page, spot_of, spot_at, IsPlace}
use Rattle.guest_maps.specs.Laws.MapsLaws.{spot_at-some, spot_at-none}
use Rattle.guest_rules.specs.Turns.{mapping_pages, refusal_of_pin, refusal_of_pin_at}

-- what is seen of a place that the mapping has
pub record IsSeen (maps : MapsView) (slot index : ℕ) (spot : Spot) : Type 0 where
  pub tag : tag_at maps slot index ≡ Some spot.tag
  pub pte : entry_at maps slot index ≡ spot.pte

pub seen-spot : (maps : MapsView) (slot index : ℕ) (spot : Spot) → spot_at maps slot index ≡ Some spot → IsSeen maps slot index spot
seen-spot maps slot index spot e = let k = of (slot_at maps slot) (entry_at maps slot index) e in record { tag = k.0; pte = k.1 }
  where
    test : (b : Bool) (x : Spot) → cond b (Some x) None ≡ Some spot → (cond b (Some x.tag) None ≡ Some spot.tag) × (x.pte ≡ spot.pte)
    test true x z = let same : x ≡ spot = cc z in (ap (λ q. Some q.tag) same, ap (λ q. q.pte) same)
    test false x z = let bad : None ≡ Some spot = z in absurd cc

    of : (o : Option Slot) (pte : Option Pte) → spot_of o slot index pte ≡ Some spot → (tag_in o slot index ≡ Some spot.tag) × (pte ≡ spot.pte)
    of None pte z = let bad : None ≡ Some spot = z in absurd cc
    of (Some mapping) pte z = test (nat_lt index mapping.count) _ z

pub spot-there : (maps : MapsView) (slot index : ℕ) → IsPlace maps slot index → IsSome (spot_at maps slot index)
spot-there maps slot index place = of (slot_at maps slot) (entry_at maps slot index) place
  where
    test : (b : Bool) (x : Spot) → b ≡ true → IsSome (cond b (Some x) None)
    test true x e = refl
    test false x e = let bad : false ≡ true = e in absurd cc

    of : (o : Option Slot) (pte : Option Pte) → slot_has_page o index ≡ true → IsSome (spot_of o slot index pte)
    of None pte e = let bad : false ≡ true = e in absurd cc
    of (Some mapping) pte e = test (nat_lt index mapping.count) _ e

-- the test of a place
pub place_test : (o : Option Slot) (index : ℕ) → nat_lt index (mapping_pages o) ≡ slot_has_page o index
place_test None index = grind (arith, nat_tests)
place_test (Some mapping) index = refl

pub refusal-outside : (maps : MapsView) (pins : Bool) (slot index : ℕ) → spot_at maps slot index ≡ None → refusal_of_pin_at maps pins index (Some slot) ≡ Some OutOfRange
refusal-outside maps pins slot index e =
    ap (λ b. if b then refusal_of_pin pins (pinned_at maps slot index) else Some OutOfRange) (place_test (slot_at maps slot) index ∙ spot_at-none maps slot index e)

pub refusal-placed : (maps : MapsView) (pins : Bool) (slot index : ℕ) (spot : Spot) → spot_at maps slot index ≡ Some spot
    → refusal_of_pin_at maps pins index (Some slot) ≡ refusal_of_pin pins (pinned_at maps slot index)
refusal-placed maps pins slot index spot e =
    ap (λ b. if b then refusal_of_pin pins (pinned_at maps slot index) else Some OutOfRange) (place_test (slot_at maps slot) index ∙ (spot_at-some maps slot index spot e).0)
