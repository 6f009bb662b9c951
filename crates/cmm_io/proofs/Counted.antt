-- A plan's failed calls are at most its different numbers, whatever calls were made.
use Rattle.std.specs.Prelude.{◌≡◌, ℕ, ◌+◌, ◌-◌, ◌^◌, ◌<◌, ◌≤◌, List, [], ◌∷◌, Bool, true, false, cond, ◌==◌, ◌||◌, nat_le, All}
use Rattle.std.proofs.Common.{refl, sym, ap, subst, arith, ◌∙◌}
use Rattle.std.proofs.lemmas.Bool.{eqb-true}
use Rattle.std.proofs.lemmas.List.Elements.{All-head, All-tail}
use Rattle.cmm_types.specs.Sums.{one_if}
use Rattle.cmm_io.specs.Faults.{raised}
use Rattle.cmm_io.specs.FailurePlan.{FailurePlan, is_in, failure_plan_of, fails_next, after_call, after_next}
use Rattle.cmm_io.specs.Counted.{IsCounted, distinct, reached}
use Rattle.cmm_io.proofs.Planned.{is_in-in_order}

-- a number that comes again adds nothing
reached-again : (x : ℕ) (xs : List ℕ) (calls : ℕ) → is_in xs x ≡ true → reached (x ∷ xs) calls ≡ reached xs calls
reached-again x xs calls again = ap (λ b. cond b (reached xs calls) (cond (nat_le x calls) (reached xs calls + 1) (reached xs calls))) again

-- and one that doesn't come again is counted where it is reached
reached-new : (x : ℕ) (xs : List ℕ) (calls : ℕ) → is_in xs x ≡ false → reached (x ∷ xs) calls ≡ one_if (nat_le x calls) + reached xs calls
reached-new x xs calls new =
    ap (λ b. cond b (reached xs calls) (cond (nat_le x calls) (reached xs calls + 1) (reached xs calls))) new ∙ at (nat_le x calls)
  where
    at : (b : Bool) → cond b (reached xs calls + 1) (reached xs calls) ≡ one_if b + reached xs calls
    at true = omega arith
    at false = omega arith

one_later : (x n m : ℕ) → n ≤ m → one_if (nat_le x n) ≤ one_if (nat_le x m)
one_later x n m later = grind (arith, later)

one_more : (n m : ℕ) → n < m → one_if (nat_le m n) + 1 ≤ one_if (nat_le m m)
one_more n m more = grind (arith, more)

-- later calls have reached no fewer
reached-later : (xs : List ℕ) (n m : ℕ) → n ≤ m → reached xs n ≤ reached xs m
reached-later [] n m later = omega arith
reached-later (x ∷ xs) n m later = at (is_in xs x) refl (reached-later xs n m later)
  where
    at : (b : Bool) → is_in xs x ≡ b → reached xs n ≤ reached xs m → reached (x ∷ xs) n ≤ reached (x ∷ xs) m
    at true again rest = omega (arith, reached-again x xs n again, reached-again x xs m again, rest)
    at false new rest = omega (arith, reached-new x xs n new, reached-new x xs m new, one_later x n m later, rest)

-- and one more, where a later call's number is planned
reached-more : (xs : List ℕ) (n m : ℕ) → n < m → is_in xs m ≡ true → reached xs n + 1 ≤ reached xs m
reached-more [] n m more there = let bad : false ≡ true = there in absurd cc
reached-more (x ∷ xs) n m more there = at (is_in xs x) (x == m) refl refl there (λ behind. reached-more xs n m more behind)
  where
    later : n ≤ m
    later = omega (arith, more)

    behind-first : (x == m) ≡ true → is_in xs x ≡ true → is_in xs m ≡ true
    behind-first same = subst (λ y. is_in xs y ≡ true) (eqb-true x m same)

    at : (b c : Bool) → is_in xs x ≡ b → (x == m) ≡ c → (c || is_in xs m) ≡ true → (is_in xs m ≡ true → reached xs n + 1 ≤ reached xs m) → reached (x ∷ xs) n + 1 ≤ reached (x ∷ xs) m
    at true true again same there' rest = omega (arith, reached-again x xs n again, reached-again x xs m again, rest (behind-first same again))
    at true false again other behind rest = omega (arith, reached-again x xs n again, reached-again x xs m again, rest behind)
    at false true new same there' rest =
        let one : one_if (nat_le x n) + 1 ≤ one_if (nat_le x m) = subst (λ y. one_if (nat_le y n) + 1 ≤ one_if (nat_le y m)) (sym (eqb-true x m same)) (one_more n m more) in
        omega (arith, reached-new x xs n new, reached-new x xs m new, one, reached-later xs n m later)
    at false false new other behind rest = omega (arith, reached-new x xs n new, reached-new x xs m new, one_later x n m later, rest behind)

-- those that calls have reached are at most all
reached-most : (xs : List ℕ) (calls : ℕ) → reached xs calls ≤ distinct xs
reached-most [] calls = omega arith
reached-most (x ∷ xs) calls = at (is_in xs x) refl (reached-most xs calls)
  where
    all : Bool → ℕ
    all b = cond b (distinct xs) (distinct xs + 1)

    one : (b : Bool) → one_if b ≤ 1
    one true = omega arith
    one false = omega arith

    at : (b : Bool) → is_in xs x ≡ b → reached xs calls ≤ distinct xs → reached (x ∷ xs) calls ≤ all (is_in xs x)
    at true again rest = subst (λ b. reached (x ∷ xs) calls ≤ all b) (sym again) (omega (arith, reached-again x xs calls again, rest))
    at false new rest = subst (λ b. reached (x ∷ xs) calls ≤ all b) (sym new) (omega (arith, reached-new x xs calls new, one (nat_le x calls), rest))

-- what holds of all numbers holds of one that is among them
is_in-bound : (most : ℕ) (xs : List ℕ) (call : ℕ) → All (λ n. n < most) xs → is_in xs call ≡ true → call < most
is_in-bound most [] call each there = let bad : false ≡ true = there in absurd cc
is_in-bound most (x ∷ xs) call each there = at (x == call) refl there (λ behind. is_in-bound most xs call (All-tail (λ n. n < most) x xs each) behind)
  where
    at : (b : Bool) → (x == call) ≡ b → (b || is_in xs call) ≡ true → (is_in xs call ≡ true → call < most) → call < most
    at true same there' rest = subst (λ y. y < most) (eqb-true x call same) (All-head (λ n. n < most) x xs each)
    at false other behind rest = rest behind

-- before the first call
pub counted-opening : (numbers : List ℕ) → IsCounted numbers (failure_plan_of numbers)
counted-opening numbers = record { planned = refl; calls = omega arith; failed = omega arith }

-- a call keeps it: a planned number is reached once
pub counted-next : (numbers : List ℕ) (plan : FailurePlan) → All (λ n. n < 2 ^ 32) numbers → IsCounted numbers plan → IsCounted numbers (after_next plan)
counted-next numbers plan range counted = at (fails_next plan) refl
  where
    fits : raised plan.calls ≤ 2 ^ 64 - 1
    fits = omega arith

    later : plan.calls ≤ raised plan.calls
    later = omega (arith, counted.calls)

    at : (b : Bool) → fails_next plan ≡ b → IsCounted numbers (after_call plan b)
    at true fails =
        let planned : is_in numbers (raised plan.calls) ≡ true =
        sym (is_in-in_order numbers (raised plan.calls)) ∙ ap (λ xs. is_in xs (raised plan.calls)) (sym counted.planned) ∙ fails in
        let few : raised plan.calls < 2 ^ 32 = is_in-bound (2 ^ 32) numbers (raised plan.calls) range planned in
        let more : plan.calls < raised plan.calls = omega (arith, few) in
        record {
          planned = counted.planned;
          calls = fits;
          failed = omega (arith, counted.failed, reached-more numbers plan.calls (raised plan.calls) more planned);
        }
    at false done = record {
      planned = counted.planned;
      calls = fits;
      failed = omega (arith, counted.failed, reached-later numbers plan.calls (raised plan.calls) later);
    }

-- at most as many calls failed as different numbers were planned
pub counted-most : (numbers : List ℕ) (plan : FailurePlan) → IsCounted numbers plan → plan.faults ≤ distinct numbers
counted-most numbers plan counted = omega (arith, counted.failed, reached-most numbers plan.calls)

-- where nothing is planned there is no number
pub distinct-none : (numbers : List ℕ) → numbers ≡ [] → distinct numbers ≡ 0
distinct-none numbers none = ap distinct none
