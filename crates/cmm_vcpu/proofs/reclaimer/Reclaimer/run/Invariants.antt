use Rattle.host_shared.specs.Reclaiming.{CanReclaim}
use Rattle.cmm_vcpu.proofs.reclaimer.Reclaimer.run.Given as goal

abbrev pub invariant-loop : goal.invariant-loop
invariant-loop g l = (goal.iterator-loop g).can_next l.iterator' × (goal.iterator-loop g).is_finite l.iterator' × CanReclaim l.words l.pool l.self.seats l.self.pool
