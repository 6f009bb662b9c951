use Rattle.std.proofs.Common.{◌≡◌, ◌∙◌, Ok, rules}
use Rattle.cmm_check.specs.Heads.{event_fits}
use Rattle.cmm_check.specs.Verdict.{line_that}
use Rattle.cmm_check.proofs.OneMore.{events_more}
use Rattle.cmm_check.proofs.verdict.events.Goals as goal

pub loop-number-preserved : goal.loop-number-preserved
loop-number-preserved c =
    let fits : line_that (event_fits c.loop-number.number) c.loop-number.rest.now ≡ Ok (c.in_ok-next.field-0-0, c.in_ok-next.next.now) = search rules in
    c.loop-number.invariant ∙ events_more c.loop-number.number c.args.count c.loop-number.rest.now (c.in_ok-next.field-0-0, c.in_ok-next.next.now) c.loop-number-test.true fits
