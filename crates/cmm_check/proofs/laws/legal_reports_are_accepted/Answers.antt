use Rattle.std.proofs.Common.{refl}
use Rattle.cmm_report.specs.Report.{report_of}
use Rattle.cmm_check.proofs.LegalLaws.{legal_is_accepted}
use Rattle.cmm_check.proofs.laws.legal_reports_are_accepted.Goals as goal

pub returns : goal.returns
returns c plan run answers guests range answered legal =
    legal_is_accepted plan (report_of run answers guests) range
    (record { run = run; answers = answers; guests = guests; text = refl; answered = answered; legal = legal })
