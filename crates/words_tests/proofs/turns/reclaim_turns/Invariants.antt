use Rattle.std.proofs.Common.{◌≡◌, ◌≤◌, None}
use Rattle.words_tests.proofs.turns.reclaim_turns.Given as goal

abbrev pub invariant-loop : goal.invariant-loop
invariant-loop l = (l.seat.words ≡ l.words) × (l.seat.view.held ≡ None) × (l.discards ≤ l.counter)
