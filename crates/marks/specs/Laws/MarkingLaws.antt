-- Laws of places in a cycle.
use Rattle.std.specs.Prelude.{◌≡◌, ℕ, ◌+◌, ◌<◌}
use Rattle.std.proofs.Common.{arith}
use Rattle.marks.specs.Marking.{wrapped}

pub wrapped-same : (count place : ℕ) → place < count → wrapped count place ≡ place
wrapped-same count place below = grind (arith, below)

pub wrapped-over : (count place : ℕ) → wrapped count (count + place) ≡ place
wrapped-over count place = grind arith
