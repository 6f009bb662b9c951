use Rattle.std.proofs.Common.{rules, arith, ◌≡◌, ◌+◌, ◌∙◌, false, ap, sym}
use Rattle.host_shared.specs.Looks.{freed_in}
use Rattle.host_shared.specs.Reclaiming.{freed_of, given_more}
use Rattle.host_shared.proofs.Looking.{pass_more, freed_more, given_on}
use Rattle.host_shared.proofs.reclaim.reclaim_guest.Goals as goal

pub loop-page-preserved : goal.loop-page-preserved
loop-page-preserved g c =
    let one = c.reclaim_page-outcome.ensures.outcome in
    let count : c.freed_of-freed.result ≡ freed_of c.reclaim_page-outcome.result = c.freed_of-freed.ensures.count in
    let freed : freed_in c.reclaim_page-outcome.new.seat.view ≡ freed_in c.loop-page.seat.view + freed_of c.reclaim_page-outcome.result =
    freed_more c.reclaim_page-outcome.result c.loop-page.page false c.loop-page.seat.view c.reclaim_page-outcome.new.seat.view _ _ one in (
      search rules,
      search rules,
      search (rules, arith),
      pass_more c.loop-page.page c.args.seat.now.view c.loop-page.seat.view c.reclaim_page-outcome.new.seat.view c.reclaim_page-outcome.result _ _ _ c.loop-page.invariant.2
          c.reclaim_page-outcome.ensures.faults c.loop-page.invariant.3 one,
      omega (arith, freed, c.loop-page.invariant.4, count),
      omega (arith, c.loop-page.invariant.5, c.freed_of-freed.ensures.few),
      given_on c.args.pool_seat.now c.loop-page.pool_seat c.reclaim_page-outcome.new.pool_seat c.loop-page.freed c.freed_of-freed.result c.loop-page.invariant.6
          (c.reclaim_page-outcome.ensures.given ∙ ap (λ n. given_more c.loop-page.pool_seat n) (sym count)),
    )
