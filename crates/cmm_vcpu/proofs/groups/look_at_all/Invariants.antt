use Rattle.cmm_vcpu.proofs.GroupsEnded.{LooksOver}
use Rattle.cmm_vcpu.proofs.groups.look_at_all.Given as goal

-- the groups so far were looked at
abbrev pub invariant-loop-i : goal.invariant-loop-i
invariant-loop-i l = LooksOver l.fn.groups l.groups l.i
