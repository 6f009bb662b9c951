-- Where every processor is done, the journal is complete, and no more commands failed than were planned to.
use Rattle.std.specs.Prelude.{◌≡◌, ◌<◌, ◌≤◌, ℕ, List, [], length, map, get_or, Some, None, slice_get}
use Rattle.std.proofs.Common.{refl, sym, arith, inl, inr, ◌∙◌}
use Rattle.std.proofs.lemmas.List.{same_lists, get_or-map, length-map}
use Rattle.std.proofs.lemmas.Option.{slice_get_cases, slice_get-get_or}
use Rattle.cmm_types.specs.declared.plan.CpuPlan.{CpuPlan}
use Rattle.cmm_types.specs.declared.plan.GuestPlan.{GuestPlan}
use Rattle.cmm_types.specs.declared.command.Op.{Op}
use Rattle.cmm_flat.specs.Legal.{Complete, Progress, at_start, command_of, walk_of, start_of}
use Rattle.cmm_flat.specs.Laws.LegalLaws.{length-cpus, length-start}
use Rattle.guest_rules.specs.GuestState.{GuestState, processor_at}
use Rattle.guest_rules.specs.Fit.{JournalFit, command_count, entries_of}
use Rattle.guest_rules.proofs.Causes.FailuresKept.{fails_as_planned}
use Rattle.cmm_vcpu.specs.KernelState.{KernelState, IsKernel, AllDone, HasRun}

no_cpu : CpuPlan
no_cpu = record { process = 0; commands = [] }

-- as many entries as commands, where the place behind them has no command
at_end : (plan : GuestPlan) (cpu place entries : ℕ) → cpu < length plan.cpus → command_of plan cpu place ≡ None → place ≤ entries → entries ≤ command_count plan cpu
    → entries ≡ length (get_or plan.cpus cpu no_cpu).commands
at_end plan cpu place entries below none from within =
    let its = get_or plan.cpus cpu no_cpu in
    let there : slice_get plan.cpus cpu ≡ Some its = slice_get-get_or plan.cpus cpu no_cpu below in
    let gone : slice_get its.commands place ≡ None = rw (there, command_of) at none in
    let most : entries ≤ length its.commands = rw (there, command_count) at within in
    past its.commands place entries gone from most
  where
    past : (ops : List Op) (place entries : ℕ) → slice_get ops place ≡ None → place ≤ entries → entries ≤ length ops → entries ≡ length ops
    past ops place entries gone from most = elim (slice_get_cases ops place).1 [
      | inl found ↦ let bad : None ≡ Some found.0 = sym gone ∙ found.2 in absurd cc
      | inr over ↦ omega (arith, over.0, from, most)
    ]

pub complete : (g : GuestState) → JournalFit g → length g.processors ≡ length g.plan.cpus → AllDone g → Complete g.plan g.journal
complete g fit size done = (fit.legal, same_lists (map (λ (p : Progress). p.next) walked) (map (λ (c : CpuPlan). length c.commands) g.plan.cpus) sizes each)
  where
    walked : List Progress
    walked = (walk_of g.plan (start_of g.plan) g.journal).cpus

    count : length walked ≡ length g.plan.cpus
    count = length-cpus g.plan (start_of g.plan) g.journal ∙ length-start g.plan

    sizes : length (map (λ (p : Progress). p.next) walked) ≡ length (map (λ (c : CpuPlan). length c.commands) g.plan.cpus)
    sizes = length-map walked (λ p. p.next) ∙ count ∙ sym (length-map g.plan.cpus (λ c. length c.commands))

    each : (k : ℕ) (d : ℕ) → k < length (map (λ (p : Progress). p.next) walked) → get_or (map (λ (p : Progress). p.next) walked) k d ≡ get_or (map (λ (c : CpuPlan). length c.commands) g.plan.cpus) k d
    each k d lt =
        let here : k < length walked = rw length-map at lt in
        let planned : k < length g.plan.cpus = rw (← count) here in
        let below : k < length g.processors = rw size planned in
        let place = (processor_at g k).place in
        get_or-map (λ (p : Progress). p.next) walked k at_start d here
        ∙ fit.places k below
        ∙ at_end g.plan k place (entries_of (processor_at g k)) planned (done k planned) (omega arith) (fit.within k below)
        ∙ sym (get_or-map (λ (c : CpuPlan). length c.commands) g.plan.cpus k no_cpu d planned)

pub has_run : (k : KernelState) → IsKernel k → AllDone k.guest → HasRun k.guest.plan k
has_run k kernel done = record {
  plan_is = refl;
  kernel = kernel;
  complete = complete k.guest kernel.fits.fit.journal kernel.fits.fit.sizes.processors done;
  failures =
      fails_as_planned k.guest.plan k.guest.journal k.disk.failures k.storage.pager kernel.fits.fit.journal.legal kernel.fits.failures.disk kernel.fits.failures.paging
      kernel.fits.disk_calls kernel.fits.pager_calls;
}
