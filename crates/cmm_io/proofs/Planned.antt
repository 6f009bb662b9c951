use Rattle.std.proofs.Common.{◌≡◌, ◌∙◌, ℕ, ◌<◌, ◌≤◌, List, length, get_or, true, false, Result, Ok, Err, refl, sym, ap, IsPermutation, MatchResult, is_ok, ⊎_elim, arith}
use mathlib.Core.Path.{fun_ext}
use Rattle.std.specs.Bool.{◌==◌}
use Rattle.std.specs.Ordering.{nat_cmp, eq_by_cmp}
use Rattle.std.specs.Cmp.{unsigned_tied}
use Rattle.std.specs.List.{list_any}
use Rattle.std.specs.FinSet as set
use Rattle.std.specs.FinSet.{contains-items, contains-from_list_nat, same_set, nat_cmp-IsAntisymmetric}
use Rattle.std.proofs.lemmas.Cmp.{nat_cmp_total, nat_eq_equiv}
use Rattle.std.proofs.lemmas.Bool.{eqb-true, cases_lt}
use Rattle.std.proofs.lemmas.List.Elements.{All-from_get_or}
use Rattle.std.proofs.lemmas.List.Folds.{list_any_at, list_any_none}
use Rattle.std.proofs.lemmas.List.Sorted.{list_any-IsPermutation}
use Rattle.cmm_io.specs.FailurePlan.{in_order, is_in}

-- numbers in another order are the same set
pub in_order-permutation : (xs ys : List ℕ) → IsPermutation xs ys → in_order ys ≡ in_order xs
in_order-permutation xs ys p =
    ap set.items (same_set nat_cmp_total nat_cmp-IsAntisymmetric _ _ (λ q.
    contains-from_list_nat ys q ∙ sym (list_any-IsPermutation _ xs ys p) ∙ sym (contains-from_list_nat xs q)))

-- the test is symmetric
flipped : (q : ℕ) → (xs : List ℕ) → list_any (eq_by_cmp nat_cmp q) xs ≡ is_in xs q
flipped q xs = ap (λ p. list_any p xs) (fun_ext (λ y. unsigned_tied q y ∙ nat_eq_equiv.symm q y))

-- to list the numbers in order changes none
pub is_in-in_order : (xs : List ℕ) (call : ℕ) → is_in (in_order xs) call ≡ is_in xs call
is_in-in_order xs call =
    sym (flipped call (in_order xs)) ∙ sym (contains-items _ call) ∙ contains-from_list_nat xs call

apart : (a b : ℕ) → (a ≡ b → ⊥) → (a == b) ≡ false
apart a b ne = elim (a == b) as (λ t. (a == b) ≡ t → t ≡ false) [ true ↦ λ e. absurd (ne (eqb-true a b e)) | false ↦ λ _. refl ] refl

-- what a search in ascending numbers found
pub is_in-searched : (xs : List ℕ) (call : ℕ) (r : Result ℕ ℕ)
    → MatchResult r (λ i. (i < length xs) × (get_or xs i 0 ≡ call)) (λ i. (i ≤ length xs) × ((k : ℕ) → k < i → get_or xs k 0 < call) × ((k : ℕ) → i ≤ k → k < length xs → call < get_or xs k 0))
    → is_ok r ≡ is_in xs call
is_in-searched xs call (Ok i) h = sym (list_any_at (λ n. n == call) xs i 0 h.0 (ap (λ n. n == call) h.1 ∙ nat_eq_equiv.refl call))
is_in-searched xs call (Err i) h =
    sym (list_any_none (λ n. n == call) xs (All-from_get_or (λ n. (n == call) ≡ false) xs 0
    (λ k l. apart (get_or xs k 0) call (λ e. ⊎_elim (λ below. omega (arith, h.1 k below)) (λ above. omega (arith, h.2 k above l)) (cases_lt k i)))))
