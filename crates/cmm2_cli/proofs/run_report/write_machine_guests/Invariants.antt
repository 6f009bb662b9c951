use Rattle.std.proofs.Common.{Result}
use Rattle.cmm_io.specs.SinkBytes.{Writes}
use Rattle.cmm_io.specs.declared.write.WriteFault.{WriteFault}
use Rattle.cmm_report.specs.Report.{guests_text}
use Rattle.cmm2_cli.specs.Running.{machine_reports, machine_reports_from}
use Rattle.cmm2_cli.proofs.run_report.write_machine_guests.Given as goal

-- who writes the guests that are left has written all of them
abbrev pub invariant-loop-guest : goal.invariant-loop-guest
invariant-loop-guest g l = (out : g.row.K.Denot) (result : Result (Unit {0}) WriteFault)
    → Writes g.K.Sink.faults g.K.Sink.written l.out out (guests_text l.guest (machine_reports_from l.machine l.guest)) result
    → Writes g.K.Sink.faults g.K.Sink.written l.fn.out out (guests_text 0 (machine_reports l.machine)) result
