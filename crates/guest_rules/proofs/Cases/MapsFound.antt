-- What is found in the mapping slots.
use Rattle.std.specs.Prelude.{◌≡◌, ◌<◌, ◌+◌, ℕ, suc, List, [], ◌∷◌, length, Bool, true, false, cond, Option, Some, None, get_or, count_by, nat_lt, refl}
use Rattle.std.proofs.Common.{arith, ap, ◌∙◌}
use Rattle.std.proofs.lemmas.Bool.Decides.{nat_tests}
use Rattle.std.proofs.lemmas.List.Quantifiers.{position-Some}
use Rattle.std.proofs.lemmas.List.Sums.{sum_by-cons}
use Rattle.guest_maps.specs.declared.slot.Slot.{Slot}
use Rattle.guest_maps.specs.MapsView.{MapsView, slot_at, find_slot, is_mapping, tag_of, tag_at}

-- what stands in a slot that was found
pub record IsFoundSlot (maps : MapsView) (process number slot : ℕ) : Type 0 where
  pub mapping : Slot
  pub at : slot_at maps slot ≡ Some mapping
  pub live : mapping.live ≡ true
  pub process_is : mapping.process ≡ process
  pub number_is : mapping.map ≡ number

pub found_slot : (maps : MapsView) (process number slot : ℕ) → find_slot maps process number ≡ Some slot → IsFoundSlot maps process number slot
found_slot maps process number slot e = of (slot_at maps slot) refl (position-Some (is_mapping process number) maps.slots slot None e).1
  where
    of : (o : Option Slot) → slot_at maps slot ≡ o → is_mapping process number o ≡ true → IsFoundSlot maps process number slot
    of None at is = absurd (cc is)
    of (Some mapping) at is = record { mapping = mapping; at = at; live = grind (arith, nat_tests); process_is = grind (arith, nat_tests); number_is = grind (arith, nat_tests) }

-- where everything passes the test, all are counted
pub all_counted : {X : Type 0} (p : X → Bool) (d : X) (xs : List X) → ((i : ℕ) → i < length xs → p (get_or xs i d) ≡ true) → count_by p xs ≡ length xs
all_counted p d [] passes = refl
all_counted p d (x ∷ xs) passes =
    let rest = all_counted p d xs (λ i l. passes (suc i) (omega (arith, l))) in
    sum_by-cons (λ y. cond (p y) 1 0) x xs ∙ ap (λ b. cond b 1 0 + count_by p xs) (passes 0 (omega arith)) ∙ omega (arith, rest)

-- where everything fails the test, none is
pub none_counted : {X : Type 0} (p : X → Bool) (d : X) (xs : List X) → ((i : ℕ) → i < length xs → p (get_or xs i d) ≡ false) → count_by p xs ≡ 0
none_counted p d [] fails = refl
none_counted p d (x ∷ xs) fails =
    let rest = none_counted p d xs (λ i l. fails (suc i) (omega (arith, l))) in
    sum_by-cons (λ y. cond (p y) 1 0) x xs ∙ ap (λ b. cond b 1 0 + count_by p xs) (fails 0 (omega arith)) ∙ omega (arith, rest)

-- what is shown at a page that a mapping has
pub tag_at-place : (maps : MapsView) (slot index : ℕ) (mapping : Slot) → slot_at maps slot ≡ Some mapping → index < mapping.count → tag_at maps slot index ≡ Some (tag_of mapping.shown slot index)
tag_at-place maps slot index mapping at within =
    let yes : nat_lt index mapping.count ≡ true = grind (arith, nat_tests) in
    rw (at, tag_at, yes) refl
