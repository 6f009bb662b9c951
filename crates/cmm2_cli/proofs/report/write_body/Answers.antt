use Rattle.std.proofs.Common.{◌++◌, false, subst}
use Rattle.cmm_io.specs.SinkBytes.{Writes}
use Rattle.cmm_io.specs.Laws.SinkBytesLaws.{Writes-then, Writes-stop}
use Rattle.cmm_report.specs.Lines.{head_line}
use Rattle.cmm_report.specs.Report.{events_text, guests_text}
use Rattle.cmm2_cli.specs.Reports.{reports_of}
use Rattle.cmm2_cli.proofs.report.write_body.Goals as goal

pub returns-in_err-write_answers : goal.returns-in_err-write_answers
returns-in_err-write_answers g c =
    subst (λ answers. Writes g.K.Sink.faults g.K.Sink.written c.args.out.now c.write_answers.new.out
    (head_line false ++ events_text 0 answers ++ guests_text 0 (reports_of c.args.world.now.state)) c.from_residual.result) c.answers.ensures
    (Writes-stop g.K.Sink.faults g.K.Sink.written _ _ (head_line false ++ events_text 0 c.answers.result.now)
    (guests_text 0 (reports_of c.args.world.now.state)) _ _ c.from_residual.ensures.0 c.in_err-write_answers.ensures)

pub returns : goal.returns
returns g c =
    subst (λ answers. Writes g.K.Sink.faults g.K.Sink.written c.args.out.now c.write_guests.new.out
    (head_line false ++ events_text 0 answers ++ guests_text 0 (reports_of c.args.world.now.state)) c.write_guests.result) c.answers.ensures
    (Writes-then g.K.Sink.faults g.K.Sink.written _ _ _ (head_line false ++ events_text 0 c.answers.result.now)
    (guests_text 0 (reports_of c.args.world.now.state)) _ _ c.in_ok-write_answers.ensures c.write_guests.ensures)
