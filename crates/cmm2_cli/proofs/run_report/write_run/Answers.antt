use Rattle.std.proofs.Common.{◌++◌, true}
use Rattle.cmm_io.specs.Laws.SinkBytesLaws.{Writes-then, Writes-stop}
use Rattle.cmm_report.specs.Lines.{head_line, end_line}
use Rattle.cmm_report.specs.Report.{guests_text}
use Rattle.cmm2_cli.specs.Running.{machine_reports}
use Rattle.cmm2_cli.proofs.run_report.write_run.Goals as goal

pub returns-in_err-write_run_body : goal.returns-in_err-write_run_body
returns-in_err-write_run_body g c =
    Writes-stop g.K.Sink.faults g.K.Sink.written _ _ (head_line true ++ guests_text 0 (machine_reports c.args.machine.now))
    end_line _ _ c.from_residual.ensures.0 c.in_err-write_run_body.ensures

pub returns : goal.returns
returns g c =
    Writes-then g.K.Sink.faults g.K.Sink.written _ _ _ (head_line true ++ guests_text 0 (machine_reports c.args.machine.now))
    end_line _ _ c.in_ok-write_run_body.ensures c.write_end.ensures
