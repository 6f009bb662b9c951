use Rattle.std.proofs.Common.{◌≡◌, ◌∙◌, ◌++◌, ap, subst, length, rules}
use Rattle.cmm_io.specs.SinkBytes.{Writes}
use Rattle.cmm_io.specs.Laws.SinkBytesLaws.{Writes-then, Writes-stop}
use Rattle.cmm_report.specs.Lines.{guest_line}
use Rattle.cmm_report.specs.Report.{journal_text}
use Rattle.cmm_report.proofs.report.write_guest.Goals as goal

pub returns-in_err-write_line : goal.returns-in_err-write_line
returns-in_err-write_line g c =
    let number : c.from.result ≡ c.args.guest = search rules in
    let line = c.guest_line-line.ensures ∙ ap (λ n. guest_line n (length c.args.journal.now) c.args.discards c.args.faults) number in
    subst (λ text. Writes g.K.Sink.faults g.K.Sink.written c.args.out.now c.write_line.new.out (text ++ journal_text c.args.journal.now) c.from_residual.result) line
    (Writes-stop g.K.Sink.faults g.K.Sink.written _ _ c.guest_line-line.result (journal_text c.args.journal.now) _ _ c.from_residual.ensures.0 c.in_err-write_line.ensures)

pub returns : goal.returns
returns g c =
    let number : c.from.result ≡ c.args.guest = search rules in
    let line = c.guest_line-line.ensures ∙ ap (λ n. guest_line n (length c.args.journal.now) c.args.discards c.args.faults) number in
    subst (λ text. Writes g.K.Sink.faults g.K.Sink.written c.args.out.now c.write_journal.new.out (text ++ journal_text c.args.journal.now) c.write_journal.result) line
    (Writes-then g.K.Sink.faults g.K.Sink.written _ _ _ c.guest_line-line.result (journal_text c.args.journal.now) _ _ c.in_ok-write_line.ensures c.write_journal.ensures)
