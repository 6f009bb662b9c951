-- How many different numbers there are, by the first number and the others.
use Rattle.std.proofs.Common.{◌≡◌, ◌∙◌, ℕ, ◌+◌, ◌-◌, ◌<◌, ◌≤◌, List, [], ◌∷◌, true, false, cond, length, get_or, take, drop, refl, ap, arith}
use Rattle.std.proofs.lemmas.List.{take_rest}
use Rattle.cmm_io.specs.FailurePlan.{is_in}
use Rattle.cmm_io.specs.Counted.{distinct}

-- the numbers behind the first, as a slice of them has them
abbrev pub others : List ℕ → List ℕ
others xs = take (length xs - 1) (drop 1 xs)

at_first : (xs : List ℕ) → 1 ≤ length xs → distinct xs ≡ cond (is_in (drop 1 xs) (get_or xs 0 0)) (distinct (drop 1 xs)) (distinct (drop 1 xs) + 1)
at_first [] some = absurd (omega (arith, some))
at_first (n ∷ ns) some = refl

at_slice : (xs : List ℕ) → 1 ≤ length xs → distinct xs ≡ cond (is_in (others xs) (get_or xs 0 0)) (distinct (others xs)) (distinct (others xs) + 1)
at_slice xs some = rw (take_rest xs 1) (at_first xs some)

pub distinct-again : (xs : List ℕ) → 1 ≤ length xs → is_in (others xs) (get_or xs 0 0) ≡ true → distinct xs ≡ distinct (others xs)
distinct-again xs some again = at_slice xs some ∙ ap (λ b. cond b (distinct (others xs)) (distinct (others xs) + 1)) again

pub distinct-new : (xs : List ℕ) → 1 ≤ length xs → is_in (others xs) (get_or xs 0 0) ≡ false → distinct xs ≡ distinct (others xs) + 1
distinct-new xs some new = at_slice xs some ∙ ap (λ b. cond b (distinct (others xs)) (distinct (others xs) + 1)) new

pub distinct-none : (xs : List ℕ) → length xs < 1 → distinct xs ≡ 0
distinct-none [] none = refl
distinct-none (n ∷ ns) none = absurd (omega (arith, none))
