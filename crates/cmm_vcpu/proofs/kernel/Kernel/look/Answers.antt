use Rattle.std.proofs.Common.{◌≡◌, ◌∙◌, sym, ap, subst}
use Rattle.host_shared.specs.Binding.{StorageState}
use Rattle.host_shared.specs.Served.{storage_of}
use Rattle.cmm_vcpu.specs.KernelState.{KernelState, IsKernel}
use Rattle.cmm_vcpu.specs.LastLooks.{looked_storage}
use Rattle.cmm_vcpu.proofs.Looked.{kernel_looked}
use Rattle.cmm_vcpu.proofs.kernel.Kernel.look.Goals as goal

abbrev inside : (c : goal.After-look) → KernelState
inside c = record { guest = c.self.inside.guest; disk = c.self.inside.disk; storage = c.self.inside.storage; looked = c.self.inside.looked.items }

stored : (c : goal.After-look) → storage_of c.look.new.self ≡ looked_storage c.self.inside.storage c.args.page c.look.result
stored c = c.look.ensures.looked ∙ ap (λ (s : StorageState). looked_storage s c.args.page c.look.result) c.bind.ensures.storage

kernel : (c : goal.After-look) → IsKernel (record (inside c) { storage = storage_of c.look.new.self })
kernel c =
    subst (λ (s : StorageState). IsKernel (record (inside c) { storage = s })) (sym (stored c)) (kernel_looked (inside c) c.args.page c.look.result c.self.invariant.0)

pub invariant_of-self : goal.invariant_of-self
invariant_of-self c = (kernel c, c.self.invariant.1)

pub returns-clause-kernel : goal.returns-clause-kernel
returns-clause-kernel c = kernel c
