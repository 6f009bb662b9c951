-- A report that is legal for a plan: the text of answers, and of journals that are legal.
use Rattle.std.specs.Prelude.{ℕ, ◌^◌, ◌<◌, ◌≤◌, ◌≡◌, Bool, true, if◌then◌else◌, List, [], ◌∷◌, length, All}
use Rattle.cmm_types.specs.declared.plan.GuestPlan.{GuestPlan}
use Rattle.cmm_types.specs.declared.plan.Scenario.{Scenario}
use Rattle.cmm_types.specs.declared.event.Answer.{Answer}
use Rattle.cmm_flat.specs.Legal.{Legal, Complete}
use Rattle.cmm_flat.specs.Failures.{disk_failures, paging_failures}
use Rattle.cmm_report.specs.Report.{GuestReport, report_of}
use Rattle.cmm_check.specs.Answers.{AnswerFits}
use Rattle.cmm_io.specs.Counted.{distinct}

-- the journal is legal, and complete in a run; at most as many commands failed as calls are planned to; and at most as
-- many faults were handled as pages discarded
pub record IsLegalGuest (run : Bool) (plan : GuestPlan) (guest : GuestReport) : Type 0 where
  pub legal : Legal plan guest.journal
  pub complete : run ≡ true → Complete plan guest.journal
  pub by_disk : disk_failures guest.journal ≤ distinct plan.disk_fail
  pub by_pager : paging_failures guest.journal ≤ distinct plan.pager_fail
  pub faults : guest.faults ≤ guest.discards
  pub counted : guest.discards < 2 ^ 64

-- each guest of a plan, and what a report says of it
abbrev pub AreLegalGuests : Bool → List GuestPlan → List GuestReport → Type 0
AreLegalGuests run [] [] = Unit {0}
AreLegalGuests run [] (guest ∷ guests) = ⊥
AreLegalGuests run (plan ∷ plans) [] = ⊥
AreLegalGuests run (plan ∷ plans) (guest ∷ guests) = IsLegalGuest run plan guest × AreLegalGuests run plans guests

-- a replay has an answer for each event, a run has none
pub record AreAnswers (run : Bool) (plan : Scenario) (answers : List Answer) : Type 0 where
  pub each_event : length answers ≡ (if run then 0 else length plan.schedule)
  pub numbers : All AnswerFits answers

-- what a legal report says
pub record LegalReport (plan : Scenario) (report : List ℕ) : Type 0 where
  pub run : Bool
  pub answers : List Answer
  pub guests : List GuestReport
  pub text : report ≡ report_of run answers guests
  pub answered : AreAnswers run plan answers
  pub legal : AreLegalGuests run plan.guests guests
