use Rattle.cmm_report.proofs.JournalLaws.{text_determines, lines_determine}
use Rattle.cmm_report.proofs.law.text_determines_journal.Goals as goal

pub returns-clause-determines : goal.returns-clause-determines
returns-clause-determines c = text_determines

pub returns-clause-no_more : goal.returns-clause-no_more
returns-clause-no_more c = lines_determine
