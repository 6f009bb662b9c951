-- What a report says of a machine that has run, and what the program answers to a plan that it runs.
use Rattle.std.specs.Prelude.{◌≡◌, ℕ, ◌-◌, ◌<◌, ◌≤◌, List, [], length, true, Option, map, sum_by, slice_index_or}
use Rattle.std.specs.List.{range_with_len}
use Rattle.cmm_types.specs.declared.plan.GuestPlan.{GuestPlan}
use Rattle.cmm_types.specs.declared.plan.Scenario.{Scenario}
use Rattle.cmm_types.specs.NoPlan.{plan_at}
use Rattle.cmm_flat.specs.Legal.{Complete}
use Rattle.cmm_report.specs.Report.{GuestReport, report_of}
use Rattle.cmm_check.specs.declared.verdict.Verdict.TheVariants.{Accepted}
use Rattle.cmm_check.specs.Verdict.{verdict_of}
use Rattle.guest_rules.specs.FailsAsPlanned.{FailsAsPlanned}
use Rattle.cmm_vcpu.specs.Machines.{MachineState, kernel_at, looked_at}
use Rattle.cmm2_cli.specs.declared.status.Status.{Status}
use Rattle.cmm2_cli.specs.declared.status.Status.TheVariants.{Done}
use Rattle.cmm2_cli.specs.Outcome.{Answers}

-- how often a page of the guest was discarded, by the last look at each page
abbrev pub looked_discards : MachineState → ℕ → ℕ
looked_discards m guest = sum_by (λ word. word.count) (looked_at m guest)

abbrev pub machine_report : MachineState → ℕ → GuestReport
machine_report m guest = record {
  journal = (kernel_at m guest).guest.journal;
  discards = looked_discards m guest;
  faults = (kernel_at m guest).guest.parts.faults;
}

-- those of the guests from this number on
abbrev pub machine_reports_from : MachineState → ℕ → List GuestReport
machine_reports_from m guest = map (machine_report m) (range_with_len guest (m.guests - guest))

abbrev pub machine_reports : MachineState → List GuestReport
machine_reports m = machine_reports_from m 0

-- the journal is one legal history of the flat machine, with each command of the guest once and in its processor's order; the faults counted
-- are at most the discards; and no more commands failed for the disk or the pager than calls of them were planned to
pub record IsRunReport (plan : GuestPlan) (report : GuestReport) : Type 0 where
  pub complete : Complete plan report.journal
  pub faults : report.faults ≤ report.discards
  pub failures : FailsAsPlanned plan report.journal

abbrev pub no_report : GuestReport
no_report = record { journal = []; discards = 0; faults = 0 }

-- there is such a report of each guest of the plan
pub record AreRunReports (plan : Scenario) (reports : List GuestReport) : Type 0 where
  pub count : length reports ≡ length plan.guests
  pub each : (guest : ℕ) → guest < length plan.guests → IsRunReport (plan_at plan guest) (slice_index_or reports guest no_report)

module _ {K : Type 0} (faults : K → ℕ) (written : K → Option (List ℕ)) (old new : K) where
  -- the report is one that the plan's threads may come to: of some such reports of its guests. `check` accepts it
  pub record Runs (plan : Scenario) (result : Status) : Type 0 where
    pub reports : List GuestReport
    pub report : Answers faults written old new (report_of true [] reports) Done result
    pub run : AreRunReports plan reports
    pub accepted : verdict_of plan (report_of true [] reports) ≡ Accepted
