use Rattle.std.proofs.Common.{◌∙◌, ◌+◌, ◌++◌, sym, ap, take, drop}
use Rattle.cmm_report.specs.Report.{events_text}
use Rattle.cmm_report.proofs.Written.{wrote_more, stopped, events_more_at, events_split_at}
use Rattle.cmm_report.proofs.report.write_events.Goals as goal

pub returns-in_err-write_line : goal.returns-in_err-write_line
returns-in_err-write_line g c =
    let answers = c.args.answers.now in
    let number = c.loop-number.number in
    let rest = events_text (number + 1) (drop (number + 1) answers) in
    let done = events_text 0 (take number answers) in
    let parts = events_split_at answers number _ c.loop-number-test.true ∙ ap (λ t. done ++ (t ++ rest)) (sym c.event_line-line.ensures) in
    stopped g.K.Sink.faults g.K.Sink.written _ _ _ done c.event_line-line.result rest (events_text 0 answers) _ _ parts c.from_residual.ensures.0 c.loop-number.invariant c.in_err-write_line.ensures

pub loop-number-preserved : goal.loop-number-preserved
loop-number-preserved g c =
    let answers = c.args.answers.now in
    let number = c.loop-number.number in
    let done = events_text 0 (take number answers) in
    let parts = events_more_at answers number _ c.loop-number-test.true ∙ ap (λ t. done ++ t) (sym c.event_line-line.ensures) in
    wrote_more g.K.Sink.faults g.K.Sink.written _ _ _ done c.event_line-line.result (events_text 0 (take (number + 1) answers)) parts c.loop-number.invariant c.in_ok-write_line.ensures
