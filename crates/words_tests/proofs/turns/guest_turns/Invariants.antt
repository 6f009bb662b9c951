use Rattle.std.proofs.Common.{◌≡◌, ◌≤◌, None}
use Rattle.words_tests.proofs.turns.guest_turns.Given as goal

abbrev pub invariant-loop-turn : goal.invariant-loop-turn
invariant-loop-turn l = (l.seat.words ≡ l.words) × (l.seat.view.held ≡ None) × (l.busy ≤ l.turn)
