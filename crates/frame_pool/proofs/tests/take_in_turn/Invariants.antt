use Rattle.std.proofs.Common.{◌≡◌}
use Rattle.frame_pool.proofs.tests.take_in_turn.Given as goal

abbrev pub invariant-loop : goal.invariant-loop
invariant-loop l = l.seat.pool ≡ l.pool
