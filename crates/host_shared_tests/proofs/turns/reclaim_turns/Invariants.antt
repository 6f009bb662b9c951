use Rattle.host_shared.specs.Reclaiming.{CanReclaim}
use Rattle.host_shared_tests.proofs.turns.reclaim_turns.Given as goal

abbrev pub invariant-loop : goal.invariant-loop
invariant-loop l = CanReclaim l.words l.pool l.reclaimer.seats.items l.reclaimer.pool_seat
