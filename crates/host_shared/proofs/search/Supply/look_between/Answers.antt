use Rattle.std.specs.Prelude.{◌≡◌, ◌≤◌, true, false}
use Rattle.std.proofs.Common.{rules, arith}
use Rattle.host_shared.specs.Looks.{is_page}
use Rattle.host_shared.proofs.Supplies.{keeps_on}
use Rattle.host_shared.proofs.Searches.{between_skips, between_looks}
use Rattle.host_shared.proofs.search.Supply.look_between.Goals as goal

pub loop-page-preserved-then-is_page : goal.loop-page-preserved-then-is_page
loop-page-preserved-then-is_page c =
    let i = c.loop-page.invariant in
    let above : c.args.from ≤ c.loop-page.page = search (rules, arith) in
    let same : is_page c.args.skip c.loop-page.page ≡ true = search rules in (
      i.0,
      i.1,
      i.2,
      between_skips c.args.skip c.args.from c.loop-page.page c.args.seat.now.view c.loop-page.seat.view c.args.self.now.seat.dry c.loop-page.self.seat.dry c.loop-page.looks above same i.3,
      omega (arith, i.4, above),
    )

pub returns-in-Frame-clause-keeps : goal.returns-in-Frame-clause-keeps
returns-in-Frame-clause-keeps c =
    let kept = keeps_on c.args.self.now c.loop-page.self c.look.new.self c.loop-page.invariant.2 c.in-Frame.ensures.keeps in record { pool = kept.pool; calls = kept.calls; faults = kept.faults }

pub returns-in-Paging-clause-keeps : goal.returns-in-Paging-clause-keeps
returns-in-Paging-clause-keeps c = keeps_on c.args.self.now c.loop-page.self c.look.new.self c.loop-page.invariant.2 c.in-Paging.ensures.keeps

pub loop-page-preserved : goal.loop-page-preserved
loop-page-preserved c =
    let i = c.loop-page.invariant in
    let above : c.args.from ≤ c.loop-page.page = search (rules, arith) in
    let other : is_page c.args.skip c.loop-page.page ≡ false = search rules in (
      search rules,
      search rules,
      keeps_on c.args.self.now c.loop-page.self c.look.new.self i.2 c.in-Nothing.ensures.keeps,
      between_looks c.args.skip c.args.from c.loop-page.page c.args.seat.now.view c.loop-page.seat.view c.look.new.seat.view c.args.self.now.seat.dry c.loop-page.self.seat.dry c.look.new.self.seat.dry
          c.loop-page.looks c.in-Nothing.looks above other i.3 c.in-Nothing.ensures.nothing c.in-Nothing.ensures.one,
      omega (arith, i.4, above),
    )
