use Rattle.std.proofs.Common.{take}
use Rattle.cmm_report.specs.Report.{journal_text}
use Rattle.cmm_report.proofs.Written.{Wrote}
use Rattle.cmm_report.proofs.report.write_journal.Given as goal

abbrev pub invariant-loop-entry : goal.invariant-loop-entry
invariant-loop-entry g l = Wrote g.K.Sink.faults g.K.Sink.written l.fn.out l.out (journal_text (take l.entry-index l.journal))
