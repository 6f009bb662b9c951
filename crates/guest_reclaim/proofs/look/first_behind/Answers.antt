use Rattle.std.proofs.Common.{length, ◌∙◌, sym, arith}
use Rattle.guest_pages.specs.PagesView.{info_at}
use Rattle.guest_reclaim.specs.Sought.{passes}
use Rattle.guest_reclaim.proofs.Finding.{found_later}
use Rattle.guest_reclaim.proofs.look.first_behind.Goals as goal

pub loop-page-preserved : goal.loop-page-preserved
loop-page-preserved c =
    let parts = c.args.parts.now in
    c.loop-page.invariant
    ∙ found_later (λ page. passes parts c.args.sought (info_at parts.pages page)) c.loop-page.page (length parts.pages.infos)
    (omega (arith, c.loop-page-test.true, c.count-page-end.ensures)) (sym c.passes.ensures ∙ c.if-passes.false)
