use Rattle.std.specs.Prelude.{ℕ, ◌<◌}
use Rattle.cmm_vcpu.specs.KernelState.{IsDone}
use Rattle.cmm_vcpu.proofs.group.all_done.Given as goal

-- the processors so far are done
abbrev pub invariant-loop-cpu : goal.invariant-loop-cpu
invariant-loop-cpu l = (cpu : ℕ) → cpu < l.cpu → IsDone l.kernel.guest cpu
