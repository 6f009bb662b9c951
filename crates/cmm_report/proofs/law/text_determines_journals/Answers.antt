use Rattle.cmm_report.proofs.ReportLaws.{journals_determined}
use Rattle.cmm_report.proofs.law.text_determines_journals.Goals as goal

pub returns : goal.returns
returns c = journals_determined
