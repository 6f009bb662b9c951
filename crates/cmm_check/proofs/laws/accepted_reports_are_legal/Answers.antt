use Rattle.cmm_report.specs.Report.{report_of}
use Rattle.cmm_report.proofs.ReportLaws.{journals_determined}
use Rattle.cmm_check.proofs.AcceptedLaws.{accepted_is_legal}
use Rattle.cmm_check.proofs.LegalLaws.{legal_guests-fit}
use Rattle.cmm_check.proofs.laws.accepted_reports_are_legal.Goals as goal

pub returns-clause-legal : goal.returns-clause-legal
returns-clause-legal c = accepted_is_legal

pub returns-clause-no_others : goal.returns-clause-no_others
returns-clause-no_others c plan run answers guests range fits accepted =
    let is = accepted_is_legal plan (report_of run answers guests) accepted in
    (is.guests, is.run, is.legal, journals_determined run is.run answers is.answers guests is.guests fits (legal_guests-fit plan is.run is.guests range is.legal) is.text)
