use Rattle.std.proofs.Common.{◌++◌, false}
use Rattle.cmm_io.specs.Laws.SinkBytesLaws.{Writes-then, Writes-stop}
use Rattle.cmm_report.specs.Lines.{head_line, end_line}
use Rattle.cmm_report.specs.Report.{events_text, guests_text}
use Rattle.cmm2_cli.specs.Reports.{reports_of}
use Rattle.cmm2_cli.proofs.report.write_replay.Goals as goal

pub returns-in_err-write_body : goal.returns-in_err-write_body
returns-in_err-write_body g c =
    Writes-stop g.K.Sink.faults g.K.Sink.written _ _ (head_line false ++ events_text 0 c.args.world.now.answers ++ guests_text 0 (reports_of c.args.world.now.state))
    end_line _ _ c.from_residual.ensures.0 c.in_err-write_body.ensures

pub returns : goal.returns
returns g c =
    Writes-then g.K.Sink.faults g.K.Sink.written _ _ _ (head_line false ++ events_text 0 c.args.world.now.answers ++ guests_text 0 (reports_of c.args.world.now.state))
    end_line _ _ c.in_ok-write_body.ensures c.write_end.ensures
