use Rattle.std.proofs.Common.{◌≡◌, ◌≤◌, sym, subst, arith}
use Rattle.std.specs.Prelude.{vec_capacity}
use Rattle.guest_rules.specs.GuestState.{GuestState}
use Rattle.cmm_vcpu.specs.KernelState.{KernelState, IsKernel, opening_kernel}
use Rattle.cmm_vcpu.proofs.OpeningKernel.{opening_fits}
use Rattle.cmm_vcpu.proofs.kernel.Kernel.open.Goals as goal

opening : (c : goal.In_ok-looked)
    → ◌≡◌ {A = KernelState}
    (record { guest = c.in_ok-guest.guest; disk = c.in_ok-disk.disk; storage = c.args.storage; looked = c.in_ok-looked.looked.items })
    (opening_kernel c.args.plan.now c.args.storage)
opening c = λ i. record { guest = c.in_ok-guest.ensures.opening i; disk = c.in_ok-disk.ensures i; storage = c.args.storage; looked = c.in_ok-looked.ensures.items i }

pub invariant_of-result : goal.invariant_of-result
invariant_of-result c = (
  subst IsKernel (sym (opening c)) (opening_fits c.args.plan.now c.args.storage c.requires.range c.requires.storage),
  subst (λ (g : GuestState). g.plan.pages ≤ vec_capacity c.in_ok-looked.looked) (sym c.in_ok-guest.ensures.opening) (omega (arith, c.in_ok-looked.ensures.exact)),
)

pub returns : goal.returns
returns c = opening c
