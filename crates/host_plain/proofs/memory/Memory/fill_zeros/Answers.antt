use Rattle.std.proofs.Common.{rules, subst}
use Rattle.host_plain.specs.MemoryState.{MemoryState, IsMemory}
use Rattle.host_plain.proofs.Kept.{zeroed_kept}
use Rattle.host_plain.proofs.Seen.{sound-by}
use Rattle.host_plain.proofs.memory.Memory.fill_zeros.Goals as goal

pub returns : goal.returns
returns c = search rules

pub invariant_of-self : goal.invariant_of-self
invariant_of-self c =
    let sound : IsMemory c.args.self.now = subst (λ (m : MemoryState). IsMemory m) c.self.view_is c.self.invariant in
    sound-by _ _ (returns c) (zeroed_kept c.args.self.now c.args.place sound c.requires.place c.requires.zero c.requires.frame)
