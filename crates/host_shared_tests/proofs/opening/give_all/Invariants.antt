use Rattle.std.proofs.Common.{◌≡◌, ◌≤◌, ◌+◌, All, length}
use Rattle.host_shared.specs.Bodies.{body_house}
use Rattle.host_shared_tests.proofs.opening.give_all.Given as goal

abbrev pub decreases-loop-body : goal.decreases-loop-body
decreases-loop-body l = length l.bodies.items

abbrev pub invariant-loop-body : goal.invariant-loop-body
invariant-loop-body l = (l.seat.pool ≡ l.fn.seat.pool) × (l.lent + length l.bodies.items ≤ length l.fn.bodies.items) × All (λ b. body_house b ≡ l.pool.table) l.bodies.items
