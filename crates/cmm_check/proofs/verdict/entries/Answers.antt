use Rattle.std.proofs.Common.{◌≡◌, ◌∙◌, Ok, rules}
use Rattle.cmm_check.specs.Journal.{entry_fits}
use Rattle.cmm_check.specs.Verdict.{line_that}
use Rattle.cmm_check.proofs.OneMore.{entries_more}
use Rattle.cmm_check.proofs.verdict.entries.Goals as goal

pub loop-preserved : goal.loop-preserved
loop-preserved c =
    let fits : line_that (entry_fits c.args.plan.now c.loop.journal) c.loop.rest.now ≡ Ok (c.entry_line.new.journal, c.in_ok-rest.rest.now) = search rules in
    let more = entries_more c.args.plan.now c.loop.journal c.loop.counter c.args.count c.loop.rest.now (c.entry_line.new.journal, c.in_ok-rest.rest.now) c.loop-test.true fits in
    (c.loop.invariant.0 ∙ more, c.entry_line.ensures.same)
