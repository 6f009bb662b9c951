use Rattle.cmm_vcpu.proofs.LookedAll.{LooksSo}
use Rattle.cmm_vcpu.proofs.kernel.Kernel.look_at_all.Given as goal

-- the pages so far were looked at
abbrev pub invariant-loop-page : goal.invariant-loop-page
invariant-loop-page l = LooksSo l.fn.self l.self l.page
