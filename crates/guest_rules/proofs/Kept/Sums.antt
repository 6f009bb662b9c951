-- Sums below a count: of sums, in another order, of numbers of which at most one isn't 0, and of a count in a list.
use Rattle.std.specs.Prelude.{nat_eq}
use Rattle.std.proofs.Common.{◌≡◌, ◌≢◌, ◌<◌, ◌≤◌, ◌+◌, ℕ, zero, suc, Bool, not, List, [], ◌∷◌, length, get_or, cond, count_by, refl, ap, sym, ◌∙◌, inl, inr, arith}
use Rattle.std.proofs.lemmas.Bool.{cases_eq}
use Rattle.std.proofs.lemmas.Bool.Decides.{nat_tests}
use Rattle.std.specs.List.{sum_by}
use Rattle.std.proofs.lemmas.List.Sums.{sum_by-cons}
use Rattle.cmm_types.specs.Sums.{sum_below, one_if}
use Rattle.cmm_types.specs.Laws.SumLaws.{sum_below-none, sum_below-add}

pub sum_below-mono : (f g : ℕ → ℕ) (count : ℕ) → ((i : ℕ) → i < count → f i ≤ g i) → sum_below f count ≤ sum_below g count
sum_below-mono f g zero each = omega arith
sum_below-mono f g (suc count) each = omega (arith, sum_below-mono f g count (λ i h. each i (omega arith)), each count (omega arith))

-- by rows as by columns
pub sum_below-swap : (f : ℕ → ℕ → ℕ) (rows columns : ℕ) → sum_below (λ i. sum_below (f i) columns) rows ≡ sum_below (λ j. sum_below (λ i. f i j) rows) columns
sum_below-swap f zero columns = sym (sum_below-none (λ j. 0) columns (λ i h. refl))
sum_below-swap f (suc rows) columns =
    ap (λ n. n + sum_below (f rows) columns) (sum_below-swap f rows columns) ∙ sym (sum_below-add (λ j. sum_below (λ i. f i j) rows) (f rows) columns)

-- at most one of the numbers isn't 0
pub sum_below-single : (f : ℕ → ℕ) (most count : ℕ) → ((i : ℕ) → i < count → f i ≤ most) → ((i j : ℕ) → i < count → j < count → f i ≢ 0 → f j ≢ 0 → i ≡ j) → sum_below f count ≤ most
sum_below-single f most zero each one = omega arith
sum_below-single f most (suc count) each one = elim (cases_eq (f count) 0) [
  | inl z ↦ omega (arith, z, sum_below-single f most count (λ i h. each i (omega arith)) (λ i j hi hj. one i j (omega arith) (omega arith)))
  | inr n ↦
      let others : sum_below f count ≡ 0 = sum_below-none f count (λ i h. elim (cases_eq (f i) 0) [
        | inl e ↦ e
        | inr m ↦ let same : i ≡ count = one i count (omega arith) (omega arith) m n in absurd (omega (arith, h, same))
      ]) in
      omega (arith, others, each count (omega arith))
]

-- from some count on the numbers are 0
pub sum_below-fewer : (f : ℕ → ℕ) (few count : ℕ) → few ≤ count → ((i : ℕ) → few ≤ i → i < count → f i ≡ 0) → sum_below f count ≡ sum_below f few
sum_below-fewer f few zero within rest = let none : few ≡ 0 = omega (arith, within) in ap (sum_below f) (sym none)
sum_below-fewer f few (suc count) within rest = elim (cases_eq few (suc count)) [
  | inl z ↦ ap (sum_below f) (sym z)
  | inr n ↦ let less : few ≤ count = omega (arith, within, n) in omega (arith, sum_below-fewer f few count less (λ i a b. rest i a (omega arith)), rest count less (omega arith))
]

sum_below-first : (f : ℕ → ℕ) (count : ℕ) → sum_below f (suc count) ≡ f 0 + sum_below (λ i. f (suc i)) count
sum_below-first f zero = omega arith
sum_below-first f (suc count) = omega (arith, sum_below-first f count)

-- a sum over a list
pub sum_below-list : {X : Type 0} (f : X → ℕ) (d : X) (xs : List X) → sum_by f xs ≡ sum_below (λ i. f (get_or xs i d)) (length xs)
sum_below-list f d [] = refl
sum_below-list f d (x ∷ xs) =
    let first = sum_below-first (λ i. f (get_or (x ∷ xs) i d)) (length xs) in
    sum_by-cons f x xs ∙ omega (arith, sum_below-list f d xs, first)

-- where a sum isn't 0 one of its numbers isn't
pub some_below : (f : ℕ → ℕ) (count : ℕ) → sum_below f count ≢ 0 → (i : ℕ) × (i < count) × (f i ≢ 0)
some_below f zero some = absurd (some refl)
some_below f (suc count) some = elim (cases_eq (f count) 0) [
  | inl z ↦
      let rest = some_below f count (λ none. some (omega (arith, none, z))) in
      (rest.0, omega (arith, rest.1), rest.2)
  | inr n ↦ (count, omega arith, n)
]

-- how many elements of a list pass a test
pub count_below : {X : Type 0} (p : X → Bool) (d : X) (xs : List X) → count_by p xs ≡ sum_below (λ i. one_if (p (get_or xs i d))) (length xs)
count_below p d [] = refl
count_below p d (x ∷ xs) =
    let first = sum_below-first (λ i. one_if (p (get_or (x ∷ xs) i d))) (length xs) in
    sum_by-cons (λ y. cond (p y) 1 0) x xs ∙ omega (arith, count_below p d xs, first)

-- a number that isn't 0 is at least 1
pub one_if-some : (n : ℕ) → one_if (not (nat_eq n 0)) ≤ n
one_if-some zero = omega arith
one_if-some (suc n) = let one : one_if (not (nat_eq (suc n) 0)) ≡ 1 = grind (arith, nat_tests) in omega (arith, one)

-- bounds one behind the other, over numbers that aren't looked into
pub at_most : {a b : ℕ} → a ≡ b → a ≤ b
at_most e = omega (arith, e)

pub at_most-then : {a b c : ℕ} → a ≤ b → b ≤ c → a ≤ c
at_most-then first second = omega (arith, first, second)
