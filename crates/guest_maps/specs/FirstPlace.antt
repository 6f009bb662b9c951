-- Laws of the first element of a list that passes a test, where one element is set.
use Rattle.std.proofs.Common.{◌≡◌, ℕ, ◌<◌, ◌≤◌, Bool, true, false, List, length, set, get_or, Some, None, ◌⊎◌, inl, inr, refl, sym, ap, ◌∙◌, arith, ⊎_elim, position}
use Rattle.std.specs.List.{position_or_len}
use Rattle.std.proofs.lemmas.List.{length-set, get_or_past}
use Rattle.std.proofs.lemmas.List.Folds.{position_or_len-set}
use Rattle.std.proofs.lemmas.List.Sums.{position_or_len_is, fails_before_first}
use Rattle.std.proofs.lemmas.Bool.{lt-ltb, le-ltb, cond-true, cond-false, cases_lt, false_from_ne_true}

pub position_kept : {X : Type 0} (p : X → Bool) (xs : List X) (i : ℕ) (y d : X) → p y ≡ p (get_or xs i d) → position p (set xs i y) ≡ position p xs
position_kept p xs i y d same = rw (position_or_len-set p xs i y d same, length-set xs i y) refl

-- the only element that passes is the first
pub position_only : {X : Type 0} (p : X → Bool) (xs : List X) (i : ℕ) (d : X) → i < length xs → p (get_or xs i d) ≡ true → ((j : ℕ) → p (get_or xs j d) ≡ true → j ≡ i) → position p xs ≡ Some i
position_only p xs i d within passes only =
    let first : position_or_len p xs ≡ i =
    position_or_len_is p xs i d (omega arith) (λ j below. false_from_ne_true (p (get_or xs j d)) (λ other. absurd (omega (arith, only j other)))) (λ _. passes) in
    cond-true _ _ _ (lt-ltb (position_or_len p xs) (length xs) (omega arith)) ∙ ap Some first

pub position_none : {X : Type 0} (p : X → Bool) (xs : List X) (d : X) → ((j : ℕ) → j < length xs → p (get_or xs j d) ≡ false) → position p xs ≡ None
position_none p xs d fails =
    let past : position_or_len p xs ≡ length xs = position_or_len_is p xs (length xs) d (omega arith) fails (λ within. absurd (omega (arith, within))) in
    cond-false _ _ _ (le-ltb (position_or_len p xs) (length xs) (omega arith))

-- where no element passes, none does within the list
pub none_within : {X : Type 0} (p : X → Bool) (xs : List X) (d : X) → position p xs ≡ None → (j : ℕ) → j < length xs → p (get_or xs j d) ≡ false
none_within p xs d none j below = fails_before_first p xs j d (omega (arith, past (cases_lt (position_or_len p xs) (length xs))))
  where
    past : (position_or_len p xs < length xs) ⊎ (length xs ≤ position_or_len p xs) → length xs ≤ position_or_len p xs
    past (inl less) = absurd (cc (sym (cond-true _ (Some (position_or_len p xs)) None (lt-ltb (position_or_len p xs) (length xs) less)) ∙ none))
    past (inr above) = above

-- nor anywhere, where what stands for a place outside doesn't pass
pub none_passes : {X : Type 0} (p : X → Bool) (xs : List X) (d : X) → position p xs ≡ None → p d ≡ false → (j : ℕ) → p (get_or xs j d) ≡ false
none_passes p xs d none outside j =
    ⊎_elim
    (λ below. none_within p xs d none j below)
    (λ above. ap p (get_or_past xs j d above) ∙ outside)
    (cases_lt j (length xs))
