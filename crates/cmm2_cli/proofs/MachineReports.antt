-- The reports of a machine that has run are those of the plan's guests, and `check` accepts them.
use Rattle.std.specs.Prelude.{◌≡◌, ◌<◌, ℕ, ◌+◌, ◌-◌, ◌^◌, [], true, length, map, slice_index_or}
use Rattle.std.specs.List.{range_with_len}
use Rattle.std.proofs.Common.{refl, sym, ap, subst, arith, ◌∙◌}
use Rattle.std.proofs.lemmas.List.{get_or-map, length-map, map-id}
use Rattle.std.proofs.lemmas.List.FromFn.{length-range_with_len, get_or-range_with_len}
use Rattle.cmm_types.specs.declared.plan.GuestPlan.{GuestPlan}
use Rattle.cmm_types.specs.declared.plan.Scenario.{Scenario}
use Rattle.cmm_types.specs.InRange.{ScenarioInRange}
use Rattle.cmm_report.specs.Report.{report_of}
use Rattle.cmm_check.specs.declared.verdict.Verdict.TheVariants.{Accepted}
use Rattle.cmm_check.specs.Accepted.{IsLegalGuest, AreLegalGuests}
use Rattle.cmm_check.specs.Verdict.{verdict_of}
use Rattle.cmm_check.proofs.LegalLaws.{legal_is_accepted, legal_guests}
use Rattle.cmm_types.specs.NoPlan.{no_plan, plan_at}
use Rattle.cmm_vcpu.specs.KernelState.{HasRun}
use Rattle.cmm_vcpu.specs.Machines.{MachineState, IsOfPlan, AllHaveRun, kernel_at}
use Rattle.cmm2_cli.specs.Running.{IsRunReport, AreRunReports, looked_discards, machine_report, machine_reports, no_report}

length-reports : (m : MachineState) → length (machine_reports m) ≡ m.guests
length-reports m =
    let all : m.guests - 0 ≡ m.guests = omega arith in
    length-map (range_with_len 0 (m.guests - 0)) (machine_report m) ∙ length-range_with_len 0 (m.guests - 0) ∙ all

report-at : (m : MachineState) (guest : ℕ) → guest < m.guests → slice_index_or (machine_reports m) guest no_report ≡ machine_report m guest
report-at m guest below =
    let left : guest < m.guests - 0 = omega (arith, below) in
    let within : guest < length (range_with_len 0 (m.guests - 0)) = rw length-range_with_len left in
    let from : 0 + guest ≡ guest = omega arith in
    let at : slice_index_or (range_with_len 0 (m.guests - 0)) guest 0 ≡ guest = get_or-range_with_len 0 (m.guests - 0) guest 0 left ∙ from in
    get_or-map (machine_report m) (range_with_len 0 (m.guests - 0)) guest 0 no_report within ∙ ap (machine_report m) at

module _ (plan : Scenario) (m n : MachineState) (of : IsOfPlan plan m) (run : AllHaveRun m n) where
  its_report : (guest : ℕ) → guest < length plan.guests → IsRunReport (plan_at plan guest) (machine_report n guest)
  its_report guest lt =
      let below : guest < m.guests = omega (arith, lt, of.count) in
      let ran : HasRun (plan_at plan guest) (kernel_at n guest) = subst (λ p. HasRun p (kernel_at n guest)) (of.plans guest below) (run.each guest below) in
      record { complete = ran.complete; faults = run.faults guest below; failures = ran.failures }

  pub are_run_reports : AreRunReports plan (machine_reports n)
  are_run_reports = record {
    count = length-reports n ∙ run.count ∙ of.count;
    each = λ guest lt.
        subst (IsRunReport (plan_at plan guest)) (sym (report-at n guest (omega (arith, lt, of.count, run.count)))) (its_report guest lt);
  }

  pub run_accepted : ScenarioInRange plan → ((guest : ℕ) → guest < n.guests → looked_discards n guest < 2 ^ 64)
      → verdict_of plan (report_of true [] (machine_reports n)) ≡ Accepted
  run_accepted range counts =
      legal_is_accepted plan (report_of true [] (machine_reports n)) range (record {
        run = true;
        answers = [];
        guests = machine_reports n;
        text = refl;
        answered = record { each_event = refl; numbers = λ k d lt. absurd (omega (arith, lt)) };
        legal = legal;
      })
    where
      each : (guest : ℕ) → guest < length plan.guests → IsLegalGuest true (plan_at plan guest) (machine_report n guest)
      each guest lt =
          let its = its_report guest lt in
          record {
            legal = its.complete.0;
            complete = λ _. its.complete;
            by_disk = its.failures.by_disk;
            by_pager = its.failures.by_pager;
            faults = its.faults;
            counted = counts guest (omega (arith, lt, of.count, run.count));
          }

      legal : AreLegalGuests true plan.guests (machine_reports n)
      legal =
          let all : length plan.guests ≡ n.guests - 0 = omega (arith, of.count, run.count) in
          subst (λ k. AreLegalGuests true plan.guests (map (machine_report n) (range_with_len 0 k))) all
          (subst (λ ps. AreLegalGuests true ps (map (machine_report n) (range_with_len 0 (length plan.guests)))) (map-id plan.guests)
          (legal_guests true (λ (p : GuestPlan). p) no_plan (machine_report n) plan.guests each))
