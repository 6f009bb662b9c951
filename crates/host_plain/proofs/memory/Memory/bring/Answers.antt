use Rattle.std.proofs.Common.{◌∙◌, rules, subst, sym}
use Rattle.cmm_io.specs.FailurePlan.{fails_next}
use Rattle.host_plain.specs.MemoryState.{MemoryState, IsMemory}
use Rattle.host_plain.specs.Eviction.{brought_at}
use Rattle.host_plain.proofs.Keeping.{brought_at-keeps}
use Rattle.host_plain.proofs.Seen.{sound-by, after-good}
use Rattle.host_plain.proofs.memory.Memory.bring.Goals as goal

pub returns-in-Ok-clause-memory : goal.returns-in-Ok-clause-memory
returns-in-Ok-clause-memory c = search rules

pub invariant_of-self : goal.invariant_of-self
invariant_of-self c =
    let sound : IsMemory c.args.self.now = subst (λ (m : MemoryState). IsMemory m) c.self.view_is c.self.invariant in
    sound-by _ _ (returns-in-Ok-clause-memory c ∙ after-good (fails_next c.args.pager.now) c.args.self.now (brought_at c.args.self.now c.args.place) (sym c.in-Ok.ensures.failed))
    (brought_at-keeps c.args.self.now c.args.place sound c.requires.place c.requires.preserved c.requires.frame).sound
