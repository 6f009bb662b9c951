use Rattle.std.proofs.Common.{◌≡◌, ◌<◌, ◌≤◌, ◌∙◌, length, sym, ap, subst}
use Rattle.std.specs.Prelude.{vec_capacity}
use Rattle.cmm_types.specs.declared.plan.GuestPlan.{GuestPlan}
use Rattle.cmm_vcpu.specs.KernelState.{KernelState, words_of, own_words, pool_of}
use Rattle.cmm_vcpu.proofs.KernelTurns.{AfterTurn, after_turn, turn_keeps}
use Rattle.cmm_vcpu.proofs.kernel.Kernel.turn.Goals as goal

abbrev inside : (c : goal.After-step) → KernelState
inside c = record { guest = c.self.inside.guest; disk = c.self.inside.disk; storage = c.self.inside.storage; looked = c.self.inside.looked.items }

has_cpu : (c : goal.After-step) → c.args.cpu < length c.self.inside.guest.processors
has_cpu c =
    let planned : c.args.cpu < length c.self.inside.guest.plan.cpus = subst (λ (k : KernelState). c.args.cpu < length k.guest.plan.cpus) (sym c.self.view_is) c.requires.cpu in
    subst (λ n. c.args.cpu < n) (sym c.self.invariant.0.fits.fit.sizes.processors) planned

after : (c : goal.After-step) → AfterTurn (inside c) c.step.new.self c.step.new.st c.step.new.disk
after c =
    after_turn (inside c) c.args.cpu c.bind-pages.result c.step.new.self c.step.result c.step.new.st c.step.new.disk c.self.invariant.0 c.bind-pages.ensures.storage c.bind-pages.result.bound
    c.step.new.st.bound (has_cpu c) c.step.ensures.row

-- the kernel before, as its fields were
was : (c : goal.After-step) → inside c ≡ c.args.self.now
was c = c.self.view_is

pub shape_of-self-inside : goal.shape_of-self-inside
shape_of-self-inside c =
    sym c.bind-pages.ensures.same
    ∙ sym (turn_keeps c.self.inside.guest c.args.cpu c.bind-pages.result c.self.inside.disk c.step.new.self c.step.result c.step.new.st c.step.new.disk c.step.ensures.row).lent

pub invariant_of-self : goal.invariant_of-self
invariant_of-self c = ((after c).kernel, subst (λ (p : GuestPlan). p.pages ≤ vec_capacity c.self.inside.looked) (sym (after c).plan) c.self.invariant.1)

pub returns-clause-kernel : goal.returns-clause-kernel
returns-clause-kernel c = (after c).kernel

pub returns-clause-words : goal.returns-clause-words
returns-clause-words c = (after c).words ∙ ap words_of (was c)

pub returns-clause-own : goal.returns-clause-own
returns-clause-own c = (after c).own ∙ ap own_words (was c)

pub returns-clause-pool : goal.returns-clause-pool
returns-clause-pool c = (after c).pool ∙ ap pool_of (was c)
