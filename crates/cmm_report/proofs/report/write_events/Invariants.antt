use Rattle.std.proofs.Common.{take}
use Rattle.cmm_report.specs.Report.{events_text}
use Rattle.cmm_report.proofs.Written.{Wrote}
use Rattle.cmm_report.proofs.report.write_events.Given as goal

abbrev pub invariant-loop-number : goal.invariant-loop-number
invariant-loop-number g l = Wrote g.K.Sink.faults g.K.Sink.written l.fn.out l.out (events_text 0 (take l.number l.answers))
