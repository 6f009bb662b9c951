-- The table of live slots is kept as slots are set.
use Rattle.std.proofs.Common.{◌≡◌, ◌≢◌, ℕ, ◌+◌, ◌-◌, ◌*◌, ◌<◌, ◌≤◌, true, false, List, length, set, get_or, replicate, Option, Some, None, ◌⊎◌, inl, inr, refl, sym, ap, ◌∙◌, subst, arith, position}
use Rattle.std.proofs.lemmas.List.{length-set, get_or-set_same, get_or-set_other}
use Rattle.std.proofs.lemmas.Bool.{cases_eq}
use Rattle.cmm_types.specs.declared.command.TheConstants.{MAX_MAPPING_NUMBERS}
use Rattle.cmm_types.specs.declared.plan.TheConstants.{MAX_MAPPING_SLOTS, MAX_PROCESSES}
use Rattle.guest_maps.specs.declared.slot.Slot.{Slot}
use Rattle.guest_maps.specs.MapsView.{is_live_slot, is_mapping, IsInRange, AreSlots, torn}
use Rattle.guest_maps.specs.SlotTable.{number_place, IsSlotIndex}
use Rattle.guest_maps.specs.FirstPlace.{position_none}
use Rattle.guest_maps.specs.Laws.SlotLaws.{own_mapping, other_mapping, AreSlots-added, AreSlots-torn, position-added_same}
use Rattle.guest_maps.specs.Laws.SlotLaws.{position-set_other, position-unlive_same, slots_counted, none_at, none_counted, AreSlots-free}

number_exact : (p q n m : ℕ) → n < MAX_MAPPING_NUMBERS → m < MAX_MAPPING_NUMBERS → number_place p n ≡ number_place q m → (p ≡ q) × (n ≡ m)
number_exact p q n m below within same = (omega arith, omega arith)

-- another place of the table is another mapping's
not_own : (process number at : ℕ) (mapping : Slot) → at ≡ number_place mapping.process mapping.map → number_place process number ≢ at → is_mapping process number (Some mapping) ≡ false
not_own process number at mapping at_is other = other_mapping process number mapping (λ p n. other (ap (λ q. number_place q number) (sym p) ∙ ap (number_place mapping.process) (sym n) ∙ sym at_is))

own : (process number : ℕ) (mapping : Slot) → process ≡ mapping.process → number ≡ mapping.map → mapping.live ≡ true → is_mapping process number (Some mapping) ≡ true
own process number mapping p n lives = ap (λ q. is_mapping q number (Some mapping)) p ∙ ap (λ m. is_mapping mapping.process m (Some mapping)) n ∙ own_mapping mapping lives

pub IsTable-added : (slots : List (Option Slot)) (found : List (Option ℕ)) (live place at : ℕ) (mapping : Slot) → IsSlotIndex slots found live → place < length slots → get_or slots place None ≡ None
    → mapping.live ≡ true → IsInRange (Some mapping) → position (is_mapping mapping.process mapping.map) slots ≡ None → at ≡ number_place mapping.process mapping.map
    → IsSlotIndex (set slots place (Some mapping)) (set found at (Some place)) (live + 1)
IsTable-added slots found live place at mapping table within free lives in_range new at_is =
    record {
      sound = AreSlots-added slots place mapping table.sound in_range new;
      whole = length-set found at (Some place) ∙ table.whole;
      finds = λ process number p n. finds process number p n (cases_eq (number_place process number) at);
      counts = omega (arith, table.counts, slots_counted is_live_slot slots place (Some mapping) false true within (ap is_live_slot free) lives);
    }
  where
    finds : (process number : ℕ) → process < MAX_PROCESSES → number < MAX_MAPPING_NUMBERS → (number_place process number ≡ at) ⊎ (number_place process number ≢ at)
        → get_or (set found at (Some place)) (number_place process number) None ≡ position (is_mapping process number) (set slots place (Some mapping))
    finds process number p n (inl same) =
        let exact = number_exact process mapping.process number mapping.map n in_range.1 (same ∙ at_is) in
        ap (λ k. get_or (set found at (Some place)) k None) same
        ∙ get_or-set_same found at (Some place) None (omega (arith, at_is, table.whole, in_range.0, in_range.1))
        ∙ sym (position-added_same slots place process number mapping table.sound within new (own process number mapping exact.0 exact.1 lives))
    finds process number p n (inr other) =
        get_or-set_other found at (number_place process number) (Some place) None other
        ∙ table.finds process number p n
        ∙ sym (position-set_other slots place process number (Some mapping) (ap (is_mapping process number) free) (not_own process number at mapping at_is other))

pub IsTable-torn : (slots : List (Option Slot)) (found : List (Option ℕ)) (live place at : ℕ) (mapping : Slot) → IsSlotIndex slots found live → place < length slots
    → get_or slots place None ≡ Some mapping → mapping.live ≡ true → at ≡ number_place mapping.process mapping.map → IsSlotIndex (set slots place (torn (Some mapping))) (set found at None) (live - 1)
IsTable-torn slots found live place at mapping table within was lives at_is =
    record {
      sound = subst (λ slot. AreSlots (set slots place (torn slot))) was (AreSlots-torn slots place table.sound);
      whole = length-set found at None ∙ table.whole;
      finds = λ process number p n. finds process number p n (cases_eq (number_place process number) at);
      counts = omega (arith, table.counts, slots_counted is_live_slot slots place (torn (Some mapping)) true false within (ap is_live_slot was ∙ lives) refl);
    }
  where
    in_range : IsInRange (Some mapping)
    in_range = subst IsInRange was (table.sound.in_range place)

    finds : (process number : ℕ) → process < MAX_PROCESSES → number < MAX_MAPPING_NUMBERS → (number_place process number ≡ at) ⊎ (number_place process number ≢ at)
        → get_or (set found at None) (number_place process number) None ≡ position (is_mapping process number) (set slots place (torn (Some mapping)))
    finds process number p n (inl same) =
        let exact = number_exact process mapping.process number mapping.map n in_range.1 (same ∙ at_is) in
        ap (λ k. get_or (set found at None) k None) same
        ∙ get_or-set_same found at None None (omega (arith, at_is, table.whole, in_range.0, in_range.1))
        ∙ sym (position-unlive_same slots place process number (torn (Some mapping)) table.sound (ap (is_mapping process number) was ∙ own process number mapping exact.0 exact.1 lives) refl)
    finds process number p n (inr other) =
        get_or-set_other found at (number_place process number) None None other
        ∙ table.finds process number p n
        ∙ sym (position-set_other slots place process number (torn (Some mapping)) (ap (is_mapping process number) was ∙ not_own process number at mapping at_is other) refl)

pub IsTable-free : (n : ℕ) (found : List (Option ℕ)) → n ≤ MAX_MAPPING_SLOTS → length found ≡ MAX_PROCESSES * MAX_MAPPING_NUMBERS → ((place : ℕ) → get_or found place None ≡ None)
    → IsSlotIndex (replicate n None) found 0
IsTable-free n found few whole empty =
    record {
      sound = AreSlots-free n few;
      whole = whole;
      finds =
          λ process number p q. empty (number_place process number) ∙ sym (position_none (is_mapping process number) (replicate n None) None (λ j below. ap (is_mapping process number) (none_at n j)));
      counts = sym (none_counted is_live_slot (replicate n None) (λ k below. ap is_live_slot (none_at n k)));
    }
