-- Laws of a list of slots, where a mapping is added, torn down or gone.
use Rattle.std.proofs.Common.{◌≡◌, ◌≢◌, ℕ, suc, ◌+◌, ◌<◌, ◌≤◌, Bool, true, false, not, nat_eq, List, [], ◌∷◌, length, set, get_or, replicate}
use Rattle.std.proofs.Common.{Option, Some, None, is_none, ◌⊎◌, inl, inr, refl, sym, ap, ◌∙◌, subst, arith, ⊎_elim, position, count_by, zero-add}
use Rattle.std.proofs.lemmas.List.{length-set, length-replicate, get_or-set_same, get_or-set_other, get_or_past, get_or-replicate}
use Rattle.std.proofs.lemmas.List.Sums.{sum_by-cons, sum_by-set}
use Rattle.std.proofs.lemmas.Bool.{cases_Bool, cases_eq, cases_lt, eqb-true, eq-eqb, and_parts, and_from, false_from_ne_true, both_ways}
use Rattle.cmm_types.specs.declared.plan.TheConstants.{MAX_MAPPING_SLOTS}
use Rattle.cmm_types.specs.Sums.{one_if}
use Rattle.guest_maps.specs.declared.slot.Slot.{Slot}
use Rattle.guest_maps.specs.MapsView.{is_live_slot, is_torn, is_mapping, IsInRange, AreInRange, AreSlots, torn}
use Rattle.guest_maps.specs.FirstPlace.{position_kept, position_only, position_none, none_passes}

-- ---- one slot's mapping

pub mapping_is : (process number : ℕ) (slot : Slot) → is_mapping process number (Some slot) ≡ true → (slot.live ≡ true) × (slot.process ≡ process) × (slot.map ≡ number)
mapping_is process number slot is =
    let parts = and_parts slot.live _ is in
    let rest = and_parts (nat_eq slot.process process) _ parts.1 in
    (parts.0, eqb-true slot.process process rest.0, eqb-true slot.map number rest.1)

pub own_mapping : (slot : Slot) → slot.live ≡ true → is_mapping slot.process slot.map (Some slot) ≡ true
own_mapping slot live = and_from slot.live _ live (and_from (nat_eq slot.process slot.process) _ (eq-eqb _ _ refl) (eq-eqb slot.map slot.map refl))

pub other_mapping : (process number : ℕ) (slot : Slot) → (slot.process ≡ process → slot.map ≡ number → ⊥) → is_mapping process number (Some slot) ≡ false
other_mapping process number slot apart = false_from_ne_true _ (λ is. let own = mapping_is process number slot is in apart own.1 own.2)

-- a slot that isn't live has no mapping
pub none_unless_live : (process number : ℕ) (slot : Option Slot) → is_live_slot slot ≡ false → is_mapping process number slot ≡ false
none_unless_live process number None not_live = refl
none_unless_live process number (Some slot) not_live = false_from_ne_true _ (λ is. both_ways slot.live not_live (mapping_is process number slot is).0)

pub live_torn : (slot : Option Slot) → is_live_slot (torn slot) ≡ false
live_torn None = refl
live_torn (Some slot) = refl

pub torn-is_torn : (slot : Option Slot) → is_live_slot slot ≡ true → is_torn (torn slot) ≡ true
torn-is_torn None is = is
torn-is_torn (Some slot) is = refl

in_range_torn : (slot : Option Slot) → IsInRange slot → IsInRange (torn slot)
in_range_torn None in_range = in_range
in_range_torn (Some slot) in_range = in_range

pub live_within : (slots : List (Option Slot)) (place : ℕ) → is_live_slot (get_or slots place None) ≡ true → place < length slots
live_within slots place lives = ⊎_elim (λ below. below) (λ past. absurd (both_ways _ (ap is_live_slot (get_or_past slots place None past)) lives)) (cases_lt place (length slots))

-- ---- a list of slots with one of them set

in_range_set : (slots : List (Option Slot)) (place : ℕ) (slot : Option Slot) → AreInRange slots → IsInRange slot → AreInRange (set slots place slot)
in_range_set slots place slot all one other =
    ⊎_elim
    (λ same.
    ⊎_elim
    (λ within. subst (λ k. IsInRange (get_or (set slots place slot) k None)) (sym same) (subst IsInRange (sym (get_or-set_same slots place slot None within)) one))
    (λ past. subst IsInRange (sym (get_or_past (set slots place slot) other None (omega (arith, length-set slots place slot)))) (tt {0}))
    (cases_lt place (length slots)))
    (λ apart. subst IsInRange (sym (get_or-set_other slots place other slot None apart)) (all other))
    (cases_eq other place)

-- a mapping stands where it stood before, or in the slot that was set
abbrev IsOldOrNew : List (Option Slot) → ℕ → Option Slot → ℕ → ℕ → ℕ → Type 0
IsOldOrNew slots place slot process number k = ((k ≡ place) × (is_mapping process number slot ≡ true)) ⊎ ((k ≢ place) × (is_mapping process number (get_or slots k None) ≡ true))

old_or_new : (slots : List (Option Slot)) (place : ℕ) (slot : Option Slot) (process number k : ℕ) → is_mapping process number (get_or (set slots place slot) k None) ≡ true
    → IsOldOrNew slots place slot process number k
old_or_new slots place slot process number k passes =
    ⊎_elim
    (λ same.
    ⊎_elim
    (λ within.
    let there = ap (is_mapping process number) (sym (get_or-set_same slots place slot None within)) in
    inl (same, there ∙ ap (λ i. is_mapping process number (get_or (set slots place slot) i None)) (sym same) ∙ passes))
    (λ past. absurd (both_ways _ (ap (is_mapping process number) (get_or_past (set slots place slot) k None (omega (arith, length-set slots place slot)))) passes))
    (cases_lt place (length slots)))
    (λ apart. inr (apart, ap (is_mapping process number) (sym (get_or-set_other slots place k slot None apart)) ∙ passes))
    (cases_eq k place)

-- ---- a mapping is added in a free slot

added_apart : (slots : List (Option Slot)) (place : ℕ) (mapping : Slot) → AreSlots slots → position (is_mapping mapping.process mapping.map) slots ≡ None → (i j process number : ℕ)
    → is_mapping process number (get_or (set slots place (Some mapping)) i None) ≡ true → is_mapping process number (get_or (set slots place (Some mapping)) j None) ≡ true → i ≡ j
added_apart slots place mapping sound new i j process number at_i at_j =
    one i j (old_or_new slots place (Some mapping) process number i at_i) (old_or_new slots place (Some mapping) process number j at_j)
  where
    none_there : (k : ℕ) → is_mapping process number (Some mapping) ≡ true → is_mapping process number (get_or slots k None) ≡ false
    none_there k is =
        let own = mapping_is process number mapping is in
        let none = subst (λ n. position (is_mapping process n) slots ≡ None) own.2 (subst (λ p. position (is_mapping p mapping.map) slots ≡ None) own.1 new) in
        none_passes (is_mapping process number) slots None none refl k

    one : (i j : ℕ) → IsOldOrNew slots place (Some mapping) process number i → IsOldOrNew slots place (Some mapping) process number j → i ≡ j
    one i j (inl a) (inl b) = a.0 ∙ sym b.0
    one i j (inl a) (inr b) = absurd (both_ways _ (none_there j a.1) b.1)
    one i j (inr a) (inl b) = absurd (both_ways _ (none_there i b.1) a.1)
    one i j (inr a) (inr b) = sound.apart i j process number a.1 b.1

pub AreSlots-added : (slots : List (Option Slot)) (place : ℕ) (mapping : Slot) → AreSlots slots → IsInRange (Some mapping) → position (is_mapping mapping.process mapping.map) slots ≡ None
    → AreSlots (set slots place (Some mapping))
AreSlots-added slots place mapping sound in_range new =
    record {
      few = omega (arith, length-set slots place (Some mapping), sound.few);
      in_range = in_range_set slots place (Some mapping) sound.in_range in_range;
      apart = added_apart slots place mapping sound new;
    }

pub position-added_same : (slots : List (Option Slot)) (place process number : ℕ) (mapping : Slot) → AreSlots slots → place < length slots
    → position (is_mapping mapping.process mapping.map) slots ≡ None → is_mapping process number (Some mapping) ≡ true
    → position (is_mapping process number) (set slots place (Some mapping)) ≡ Some place
position-added_same slots place process number mapping sound within new is =
    let stands : is_mapping process number (get_or (set slots place (Some mapping)) place None) ≡ true = ap (is_mapping process number) (get_or-set_same slots place (Some mapping) None within) ∙ is in
    position_only (is_mapping process number) (set slots place (Some mapping)) place None (omega (arith, length-set slots place (Some mapping))) stands
    (λ j at_j. added_apart slots place mapping sound new j place process number at_j stands)

-- a slot is set that isn't this mapping's and wasn't
pub position-set_other : (slots : List (Option Slot)) (place process number : ℕ) (slot : Option Slot) → is_mapping process number (get_or slots place None) ≡ false
    → is_mapping process number slot ≡ false → position (is_mapping process number) (set slots place slot) ≡ position (is_mapping process number) slots
position-set_other slots place process number slot was is = position_kept (is_mapping process number) slots place slot None (is ∙ sym was)

-- ---- a slot is set to one that isn't live

pub unlive_apart : (slots : List (Option Slot)) (place : ℕ) (slot : Option Slot) → is_live_slot slot ≡ false → (k process number : ℕ)
    → is_mapping process number (get_or (set slots place slot) k None) ≡ true
    → (k ≢ place) × (is_mapping process number (get_or slots k None) ≡ true)
unlive_apart slots place slot not_live k process number passes =
    ⊎_elim
    (λ new. absurd (both_ways _ (none_unless_live process number slot not_live) new.1))
    (λ old. old)
    (old_or_new slots place slot process number k passes)

pub AreSlots-unlive : (slots : List (Option Slot)) (place : ℕ) (slot : Option Slot) → AreSlots slots → is_live_slot slot ≡ false → IsInRange slot → AreSlots (set slots place slot)
AreSlots-unlive slots place slot sound not_live in_range =
    record {
      few = omega (arith, length-set slots place slot, sound.few);
      in_range = in_range_set slots place slot sound.in_range in_range;
      apart = λ i j process number at_i at_j.
          sound.apart i j process number (unlive_apart slots place slot not_live i process number at_i).1 (unlive_apart slots place slot not_live j process number at_j).1;
    }

pub AreSlots-torn : (slots : List (Option Slot)) (place : ℕ) → AreSlots slots → AreSlots (set slots place (torn (get_or slots place None)))
AreSlots-torn slots place sound =
    AreSlots-unlive slots place (torn (get_or slots place None)) sound (live_torn (get_or slots place None)) (in_range_torn (get_or slots place None) (sound.in_range place))

-- the mapping's number is free
pub position-unlive_same : (slots : List (Option Slot)) (place process number : ℕ) (slot : Option Slot) → AreSlots slots → is_mapping process number (get_or slots place None) ≡ true
    → is_live_slot slot ≡ false → position (is_mapping process number) (set slots place slot) ≡ None
position-unlive_same slots place process number slot sound was not_live =
    position_none (is_mapping process number) (set slots place slot) None
    (λ j below. false_from_ne_true _ (λ passes. let there = unlive_apart slots place slot not_live j process number passes in there.0 (sound.apart j place process number there.1 was)))

-- ---- how many slots are live or being torn down

pub slots_counted : (p : Option Slot → Bool) (slots : List (Option Slot)) (place : ℕ) (slot : Option Slot) (was is : Bool) → place < length slots → p (get_or slots place None) ≡ was → p slot ≡ is
    → count_by p (set slots place slot) + one_if was ≡ count_by p slots + one_if is
slots_counted p slots place slot was is within was_p is_p =
    ap (λ b. count_by p (set slots place slot) + one_if b) (sym was_p)
    ∙ sum_by-set (λ x. one_if (p x)) slots place slot None within
    ∙ ap (λ b. count_by p slots + one_if b) is_p

-- each slot is live, torn down or free
slot_counts : (slot : Option Slot) → one_if (is_live_slot slot) + one_if (is_torn slot) + one_if (is_none slot) ≡ 1
slot_counts None = omega arith
slot_counts (Some slot) = ⊎_elim (λ live. omega (arith, ap one_if live, ap (λ b. one_if (not b)) live)) (λ torn. omega (arith, ap one_if torn, ap (λ b. one_if (not b)) torn)) (cases_Bool slot.live)

pub all_counted : (slots : List (Option Slot)) → count_by is_live_slot slots + count_by is_torn slots + count_by is_none slots ≡ length slots
all_counted [] = omega arith
all_counted (x ∷ xs) =
    omega (arith, slot_counts x, all_counted xs, sum_by-cons (λ s. one_if (is_live_slot s)) x xs, sum_by-cons (λ s. one_if (is_torn s)) x xs, sum_by-cons (λ s. one_if (is_none s)) x xs)

pub none_counted : (p : Option Slot → Bool) (slots : List (Option Slot)) → ((k : ℕ) → k < length slots → p (get_or slots k None) ≡ false) → count_by p slots ≡ 0
none_counted p [] none = refl
none_counted p (x ∷ xs) none =
    sum_by-cons (λ s. one_if (p s)) x xs ∙ ap (λ b. one_if b + count_by p xs) (none 0 (omega arith)) ∙ zero-add (count_by p xs) ∙ none_counted p xs (λ k below. none (suc k) (omega arith))

-- ---- every slot is free

pub none_at : (n k : ℕ) → get_or {A = Option Slot} (replicate n None) k None ≡ None
none_at n k = ⊎_elim (λ below. get_or-replicate n k None None below) (λ past. get_or_past (replicate n None) k None (omega (arith, length-replicate {A = Option Slot} n None))) (cases_lt k n)

pub AreSlots-free : (n : ℕ) → n ≤ MAX_MAPPING_SLOTS → AreSlots (replicate n None)
AreSlots-free n few =
    record {
      few = omega (arith, length-replicate {A = Option Slot} n None);
      in_range = λ k. subst IsInRange (sym (none_at n k)) (tt {0});
      apart = λ i j process number at_i at_j. absurd (both_ways _ (ap (is_mapping process number) (none_at n i)) at_i);
    }
