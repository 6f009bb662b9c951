use Rattle.std.proofs.Common.{◌∙◌, ◌+◌, ◌++◌, sym, ap, take, drop}
use Rattle.cmm_report.specs.Report.{journal_text}
use Rattle.cmm_report.proofs.Written.{wrote_more, stopped, journal_more, journal_split}
use Rattle.cmm_report.proofs.report.write_journal.Goals as goal

pub returns-in_err-write_line : goal.returns-in_err-write_line
returns-in_err-write_line g c =
    let journal = c.args.journal.now in
    let index = c.loop-entry.entry-index in
    let rest = journal_text (drop (index + 1) journal) in
    let done = journal_text (take index journal) in
    let parts = journal_split journal index c.entry-item.result c.loop-entry-test.true c.entry-item.is ∙ ap (λ t. done ++ (t ++ rest)) (sym c.entry_line-line.ensures) in
    stopped g.K.Sink.faults g.K.Sink.written _ _ _ done c.entry_line-line.result rest (journal_text journal) _ _ parts c.from_residual.ensures.0 c.loop-entry.invariant c.in_err-write_line.ensures

pub loop-entry-preserved : goal.loop-entry-preserved
loop-entry-preserved g c =
    let journal = c.args.journal.now in
    let index = c.loop-entry.entry-index in
    let done = journal_text (take index journal) in
    let parts = journal_more journal index c.entry-item.result c.loop-entry-test.true c.entry-item.is ∙ ap (λ t. done ++ t) (sym c.entry_line-line.ensures) in
    wrote_more g.K.Sink.faults g.K.Sink.written _ _ _ done c.entry_line-line.result (journal_text (take (index + 1) journal)) parts c.loop-entry.invariant c.in_ok-write_line.ensures
