-- What came of a plan's run, over all its guests, and the line that tells it of a generated plan.
use Rattle.std.specs.Prelude.{ℕ, List, length, sum_by}
use Rattle.cmm_types.specs.declared.plan.Scenario.{Scenario}
use Rattle.cmm_generate.specs.Generated.{generated}
use Rattle.cmm_report.specs.declared.report.Totals.{Totals}
use Rattle.cmm_report.specs.Lines.{summary_line}
use Rattle.cmm_report.specs.Report.{GuestReport}
use Rattle.cmm_world.specs.Run.{run_of}
use Rattle.cmm2_cli.specs.Reports.{reports_of}

-- the lines of all journals, the discards of all pages, and the runs of all discard handlers
abbrev pub entries_in_all : List GuestReport → ℕ
entries_in_all reports = sum_by (λ report. length report.journal) reports

abbrev pub discards_in_all : List GuestReport → ℕ
discards_in_all reports = sum_by (λ report. report.discards) reports

abbrev pub faults_in_all : List GuestReport → ℕ
faults_in_all reports = sum_by (λ report. report.faults) reports

-- the totals of some guests' reports, behind so many events
abbrev pub totals_in : (events : ℕ) → List GuestReport → Totals
totals_in events reports = record { events = events; entries = entries_in_all reports; discards = discards_in_all reports; faults = faults_in_all reports }

abbrev pub run_totals : Scenario → Totals
run_totals plan = totals_in (length plan.schedule) (reports_of (run_of plan).1)

-- the line on the scenario that is generated from a number
abbrev pub demo_text : (start size : ℕ) → List ℕ
demo_text start size = summary_line start size (run_totals (generated start size))
