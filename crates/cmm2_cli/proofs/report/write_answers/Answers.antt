use Rattle.std.proofs.Common.{false}
use Rattle.cmm_io.specs.Laws.SinkBytesLaws.{Writes-then, Writes-stop}
use Rattle.cmm_report.specs.Lines.{head_line}
use Rattle.cmm_report.specs.Report.{events_text}
use Rattle.cmm2_cli.proofs.report.write_answers.Goals as goal

pub returns-in_err-write_head : goal.returns-in_err-write_head
returns-in_err-write_head g c = Writes-stop g.K.Sink.faults g.K.Sink.written _ _ (head_line false) (events_text 0 c.args.answers.now) _ _ c.from_residual.ensures.0 c.in_err-write_head.ensures

pub returns : goal.returns
returns g c = Writes-then g.K.Sink.faults g.K.Sink.written _ _ _ (head_line false) (events_text 0 c.args.answers.now) _ _ c.in_ok-write_head.ensures c.write_events.ensures
