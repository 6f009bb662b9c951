use Rattle.std.proofs.Common.{subst}
use Rattle.cmm_vcpu.specs.KernelState.{KernelState, IsKernel}
use Rattle.cmm_vcpu.proofs.Completed.{has_run}
use Rattle.cmm_vcpu.proofs.kernel.Kernel.has_run.Goals as goal

pub returns : goal.returns
returns c = has_run c.args.self.now (subst (λ (k : KernelState). IsKernel k) c.self.view_is c.self.invariant.0) c.requires
