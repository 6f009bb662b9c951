-- What is found in a cycle of words.
use Rattle.std.proofs.Common.{◌≡◌, ℕ, suc, ◌+◌, ◌-◌, ◌<◌, ◌≤◌, get_or, ⊎_elim, Bool, true, false, not, ◌||◌, ◌&&◌, cond, nat_lt}
use Rattle.std.proofs.Common.{List, [], ◌∷◌, length, take, drop, Option, Some, None, is_some, IfSome, position, refl, sym, ◌∙◌, ap, arith}
use Rattle.std.specs.List.{list_any, position_or_len}
use Rattle.std.specs.Option.{option_or, option_map}
use Rattle.std.proofs.lemmas.List.{take-append-drop, take_all, length-drop}
use Rattle.std.proofs.lemmas.Bool.{and_parts, cases_lt}
use Rattle.std.proofs.Math.Bool.{or_comm}
use Rattle.std.proofs.lemmas.List.Quantifiers.{position-Some}
use Rattle.std.proofs.lemmas.List.{places}
use Rattle.std.proofs.lemmas.Grind.{common_steps}
use Rattle.std.proofs.lemmas.List.Folds.{list_any-append}
use Rattle.essa_state.specs.declared.fields.Fields.{Fields}
use Rattle.host_clock.specs.Victim.{is_candidate, is_takeable, from_hand}
use Rattle.marks.specs.Marking.{wrapped}
use Rattle.marks.proofs.Joined.{position-append}

found_behind : (p x : ℕ) → is_some (cond (nat_lt (1 + p) (suc x)) (Some (1 + p)) None) ≡ is_some (cond (nat_lt p x) (Some p) None)
found_behind p x = grind arith

found_first : (x : ℕ) → is_some {T = ℕ} (cond (nat_lt 0 (suc x)) (Some 0) None) ≡ true
found_first x = grind arith

either_true : (a : Bool) → (a || true) ≡ true
either_true true = refl
either_true false = refl

one_more : (candidate free any_free any : Bool) → (any_free || any) ≡ any → (((candidate && free) || any_free) || (candidate || any)) ≡ (candidate || any)
one_more true true any_free any h = refl
one_more true false any_free true h = either_true any_free
one_more true false any_free false h = either_true any_free
one_more false free any_free any h = h

some_of_two : (a b : Option ℕ) → is_some (option_or a b) ≡ (is_some a || is_some b)
some_of_two None b = refl
some_of_two (Some x) b = refl

-- the first place in the cycle is the first from the hand on, or else the first before the hand behind all those
pub cycle_place : (p : Fields → Bool) (words : List Fields) (hand : ℕ) (on before : Option ℕ) → hand ≤ length words → on ≡ position p (take (length words - hand) (drop hand words))
    → before ≡ position p (take hand words) → option_or on (option_map (λ k. length words - hand + k) before) ≡ position p (from_hand words hand)
cycle_place p words hand on before within on_is before_is =
    let rest : length (drop hand words) ≡ length words - hand = length-drop hand words in
    let whole : take (length words - hand) (drop hand words) ≡ drop hand words = take_all (length words - hand) (drop hand words) (omega (arith, rest)) in
    rw (on_is, before_is, whole, ← rest) (sym (position-append p (drop hand words) (take hand words)))

-- a place is found exactly where some element passes
pub position-found : {X : Type 0} (p : X → Bool) (xs : List X) → is_some (position p xs) ≡ list_any p xs
position-found p [] = refl
position-found {X} p (x ∷ xs) =
    elim (p x) as (λ b. is_some (cond (nat_lt (cond (not b) (1 + position_or_len p xs) 0) (length (x ∷ xs))) (Some (cond (not b) (1 + position_or_len p xs) 0)) None) ≡ (b || list_any p xs)) [
      | true ↦ found_first (length xs)
      | false ↦ (rw (← position-found p xs) (found_behind (position_or_len p xs) (length xs)))
    ]

-- some word of the cycle passes exactly where some word does
pub any_from_hand : (p : Fields → Bool) (words : List Fields) (hand : ℕ) → list_any p (from_hand words hand) ≡ list_any p words
any_from_hand p words hand =
    list_any-append p (drop hand words) (take hand words) ∙ or_comm (list_any p (drop hand words)) (list_any p (take hand words)) ∙ sym (list_any-append p (take hand words) (drop hand words))
    ∙ ap (list_any p) (take-append-drop hand words)

-- where an unreferenced page may be taken, some candidate is there
pub takeable_any : (xs : List Fields) → (list_any (is_takeable false) xs || list_any (is_takeable true) xs) ≡ list_any is_candidate xs
takeable_any [] = refl
takeable_any (x ∷ xs) = one_more (is_candidate x) (not x.referenced) (list_any (is_takeable false) xs) (list_any (is_takeable true) xs) (takeable_any xs)

-- so a victim is found exactly where there is a candidate
pub victim_found : (words : List Fields) (hand : ℕ) → is_some (option_or (position (is_takeable false) (from_hand words hand)) (position (is_takeable true) (from_hand words hand)))
    ≡ list_any is_candidate words
victim_found words hand =
    some_of_two (position (is_takeable false) (from_hand words hand)) (position (is_takeable true) (from_hand words hand))
    ∙ rw (position-found (is_takeable false) (from_hand words hand), position-found (is_takeable true) (from_hand words hand))
    (takeable_any (from_hand words hand) ∙ any_from_hand is_candidate words hand)

-- the word so many steps from the hand stands at the wrapped place
pub around : (words : List Fields) (hand k : ℕ) (d : Fields) → hand < length words → k < length words → get_or (from_hand words hand) k d ≡ get_or words (wrapped (length words) (hand + k)) d
around words hand k d held within =
    ⊎_elim (λ near. grind (arith, places, common_steps)) (λ far. grind (arith, places, common_steps)) (cases_lt k (length words - hand))

-- whatever may be taken is a candidate
pub takeable_candidate : (in_need : Bool) (word : Fields) → is_takeable in_need word ≡ true → is_candidate word ≡ true
takeable_candidate true word h = h
takeable_candidate false word h = (and_parts (is_candidate word) (not word.referenced) h).0

-- what may be taken at the first place found is a candidate
pub place_candidate : (in_need : Bool) (words : List Fields) (hand : ℕ) (first : Option ℕ) → hand < length words → IfSome first (λ steps. steps < length words)
    → first ≡ position (is_takeable in_need) (from_hand words hand) → IfSome first (λ steps. (d : Fields) → is_candidate (get_or words (wrapped (length words) (hand + steps)) d) ≡ true)
place_candidate in_need words hand None held within h = tt
place_candidate in_need words hand (Some steps) held within h =
    λ d. takeable_candidate in_need _ (rw (around words hand steps d held within) at (position-Some (is_takeable in_need) (from_hand words hand) steps d (sym h)).1)
