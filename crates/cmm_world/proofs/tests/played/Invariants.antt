use Rattle.std.proofs.Common.{◌≡◌}
use Rattle.cmm_world.specs.WorldView.{plans_of}
use Rattle.cmm_world.proofs.tests.played.Given as goal

-- the guests' plans stay
abbrev pub invariant-loop-event : goal.invariant-loop-event
invariant-loop-event l = plans_of l.world.state ≡ l.fn.plan.guests
