-- Positions in two lists that are put together.
use Rattle.std.proofs.Common.{◌≡◌, ℕ, ◌+◌, ◌≤◌, Bool, not, cond, eqb, nat_lt, List, ◌++◌, length, Some, None, position, arith, length-append}
use Rattle.std.specs.List.{position_or_len}
use Rattle.std.specs.Option.{option_or, option_map}
use Rattle.std.proofs.lemmas.List.Folds.{prefix_len-append}
use Rattle.std.proofs.lemmas.List.Sums.{prefix_len-le-length}

-- of two lists of which the first has x elements and its first place is p, and the second's is q among y
joined_places : (p x q y : ℕ) → p ≤ x → cond (nat_lt (cond (eqb p x) (x + q) p) (x + y)) (Some (cond (eqb p x) (x + q) p)) None
    ≡ option_or (cond (nat_lt p x) (Some p) None) (option_map (λ k. x + k) (cond (nat_lt q y) (Some q) None))
joined_places p x q y within = grind arith

-- the first place in two lists is the first's, or the second's behind the first
pub position-append : {X : Type 0} (p : X → Bool) (xs ys : List X) → position p (xs ++ ys) ≡ option_or (position p xs) (option_map (λ k. length xs + k) (position p ys))
position-append p xs ys =
    rw (prefix_len-append (λ x. not (p x)) xs ys, length-append xs ys) (joined_places (position_or_len p xs) (length xs) (position_or_len p ys) (length ys) (prefix_len-le-length (λ x. not (p x)) xs))
