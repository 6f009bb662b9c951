-- Sums over the numbers below a bound, and what a test adds to a count.
use Rattle.std.specs.Prelude.{ℕ, zero, suc, ◌+◌, Bool, cond}

-- the sum of a number over the numbers below a count
abbrev pub sum_below : (ℕ → ℕ) → ℕ → ℕ
sum_below number zero = 0
sum_below number (suc count) = sum_below number count + number count

-- one where a test holds
abbrev pub one_if : Bool → ℕ
one_if b = cond b 1 0
