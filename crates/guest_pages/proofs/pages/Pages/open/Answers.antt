use Rattle.std.proofs.Common.{◌≡◌, ◌<◌, All, length, reverse, ap, sym, ◌∙◌, subst, arith}
use Rattle.std.specs.List.{range_with_len}
use Rattle.std.proofs.lemmas.List.{reverse-reverse}
use Rattle.guest_pages.specs.PagesView.{AreDistinct}
use Rattle.guest_pages.proofs.Stack.{range_more, distinct_range, below_range}
use Rattle.guest_pages.proofs.pages.Pages.open.Goals as goal

pub loop-page-preserved : goal.loop-page-preserved
loop-page-preserved c = (
  rw (c.in_ok-push.ensures.items, c.loop-page.invariant.0) (sym (range_more c.loop-page.page)),
  omega (arith, c.in_ok-push.ensures.capacity, c.loop-page.invariant.1),
)

-- the stack has every page, page 0 first
in_order : (c : goal.After-reverse) → reverse c.reverse.new.self.items ≡ range_with_len 0 c.args.count
in_order c =
    ap reverse c.reverse.ensures.items
    ∙ reverse-reverse c.loop-page.free.items
    ∙ c.loop-page.invariant.0
    ∙ ap (range_with_len 0) (omega (arith, c.loop-page-test.false))

all_infos : (c : goal.After-reverse) → length c.in_ok-infos.infos.items ≡ c.args.count
all_infos c = omega (arith, c.in_ok-infos.ensures.len)

pub invariant_of-result : goal.invariant_of-result
invariant_of-result c = (
  subst AreDistinct (sym (in_order c)) (distinct_range 0 c.args.count),
  subst (λ free. All (λ page. page < length c.in_ok-infos.infos.items) free) (sym (in_order c))
      (subst (λ n. All (λ page. page < n) (range_with_len 0 c.args.count)) (sym (all_infos c)) (below_range c.args.count)),
  omega (arith, all_infos c, c.reverse.ensures.capacity, c.loop-page.invariant.1),
  omega (arith, all_infos c, c.requires.most),
)
