-- Sums of zeros and of sums.
use Rattle.std.proofs.Common.{◌≡◌, ◌<◌, ◌+◌, ℕ, zero, suc, refl, arith}
use Rattle.cmm_types.specs.Sums.{sum_below}

pub sum_below-none : (f : ℕ → ℕ) (count : ℕ) → ((i : ℕ) → i < count → f i ≡ 0) → sum_below f count ≡ 0
sum_below-none f zero each = refl
sum_below-none f (suc count) each = omega (arith, sum_below-none f count (λ i h. each i (omega arith)), each count (omega arith))

pub sum_below-add : (f g : ℕ → ℕ) (count : ℕ) → sum_below (λ i. f i + g i) count ≡ sum_below f count + sum_below g count
sum_below-add f g zero = refl
sum_below-add f g (suc count) = omega (arith, sum_below-add f g count)
