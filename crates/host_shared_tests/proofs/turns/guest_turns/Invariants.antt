use Rattle.std.proofs.Common.{◌≡◌, ◌≤◌, None}
use Rattle.host_shared.specs.Binding.{IsBoundTo}
use Rattle.host_shared_tests.proofs.turns.guest_turns.Given as goal

abbrev pub invariant-loop-turn : goal.invariant-loop-turn
invariant-loop-turn l = IsBoundTo l.words l.pool l.storage × (l.storage.held ≡ None) × (l.pages ≤ l.storage.seat.words.pages)
