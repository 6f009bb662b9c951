-- The verdict on a report: its lines are walked in order, and each has to fit.
use Rattle.std.specs.Prelude.{ℕ, zero, suc, ◌+◌, ◌-◌, ◌==◌, Bool, true, false, List, [], ◌∷◌, length, take, Option, Some, None, Result, Ok, Err, count_by}
use Rattle.cmm_types.specs.declared.plan.GuestPlan.{GuestPlan}
use Rattle.cmm_types.specs.declared.plan.Scenario.{Scenario}
use Rattle.cmm_scenario.specs.Outcome.{◌>>=◌}
use Rattle.cmm_check.specs.declared.verdict.Verdict.{Verdict}
use Rattle.cmm_check.specs.declared.verdict.Verdict.TheVariants.{Accepted, Rejected}
use Rattle.cmm_check.specs.Reading.{cut}
use Rattle.cmm_check.specs.Heads.{is_run_of, event_fits, entries_told, end_of}
use Rattle.cmm_check.specs.Journal.{LinesWalked, no_lines_walked, entry_fits}

-- what comes of a part of a report: something and the text behind it, or the text from the first line on that doesn't fit
abbrev pub Part : Type 0 → Type 0
Part A = Result (A × List ℕ) (List ℕ)

abbrev pub with_line : {A : Type 0} → List ℕ → List ℕ → Option A → Part A
with_line text rest None = Err text
with_line text rest (Some x) = Ok (x, rest)

abbrev pub with_cut : {A : Type 0} → (List ℕ → Option A) → List ℕ → Option (List ℕ × List ℕ) → Part A
with_cut reads text None = Err text
with_cut reads text (Some parts) = with_line text parts.1 (reads parts.0)

-- a line that says something
unfoldable pub line_that : {A : Type 0} → (List ℕ → Option A) → List ℕ → Part A
line_that reads text = with_cut reads text (cut 10 text)

-- as many lines of events, numbered from here on
abbrev pub events_fit : ℕ → ℕ → List ℕ → Result (List ℕ) (List ℕ)
events_fit number zero text = Ok text
events_fit number (suc count) text = line_that (event_fits number) text >>= λ next. events_fit (number + 1) count next.1

-- as many lines of entries
abbrev pub entries_fit : GuestPlan → LinesWalked → ℕ → List ℕ → Result (List ℕ) (List ℕ)
entries_fit plan walked zero text = Ok text
entries_fit plan walked (suc count) text = line_that (entry_fits plan walked) text >>= λ next. entries_fit plan next.0 count next.1

-- a guest's line and its entries
unfoldable pub guest_fits : Bool → ℕ → GuestPlan → List ℕ → Result (List ℕ) (List ℕ)
guest_fits run number plan text = line_that (entries_told run number plan) text >>= λ next. entries_fit plan (no_lines_walked plan) next.0 next.1

abbrev pub guests_fit : Bool → ℕ → List GuestPlan → List ℕ → Result (List ℕ) (List ℕ)
guests_fit run number [] text = Ok text
guests_fit run number (plan ∷ plans) text = guest_fits run number plan text >>= guests_fit run (number + 1) plans

-- the last line, and nothing after it
abbrev pub ended : List ℕ → Result (List ℕ) (List ℕ)
ended [] = Ok []
ended (byte ∷ text) = Err (byte ∷ text)

unfoldable pub end_fits : List ℕ → Result (List ℕ) (List ℕ)
end_fits text = line_that end_of text >>= λ next. ended next.1

-- the events of a replay; a run has none
abbrev pub schedule_fits : Bool → ℕ → List ℕ → Result (List ℕ) (List ℕ)
schedule_fits true events text = Ok text
schedule_fits false events text = events_fit 0 events text

-- the whole report
unfoldable pub report_fits : Scenario → List ℕ → Result (List ℕ) (List ℕ)
report_fits plan report = do
  head ← line_that is_run_of report
  guests ← schedule_fits head.0 (length plan.schedule) head.1
  last ← guests_fit head.0 0 plan.guests guests
  end_fits last

-- the number of the line that begins where this rest of a report does, counted from 1
abbrev pub line_number : List ℕ → List ℕ → ℕ
line_number report rest = count_by (λ byte. byte == 10) (take (length report - length rest) report) + 1

abbrev pub verdict_with : List ℕ → Result (List ℕ) (List ℕ) → Verdict
verdict_with report (Ok rest) = Accepted
verdict_with report (Err rest) = Rejected (line_number report rest)

-- accepted where every line fits, and else rejected with the number of the first that doesn't: also of a line that is
-- missing, and of a rest without a line feed
abbrev pub verdict_of : Scenario → List ℕ → Verdict
verdict_of plan report = verdict_with report (report_fits plan report)
