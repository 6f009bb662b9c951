use Rattle.std.proofs.Common.{◌≡◌, ◌-◌, length}
use Rattle.std.specs.List.{find, range_with_len}
use Rattle.guest_pages.specs.PagesView.{info_at}
use Rattle.guest_reclaim.specs.Sought.{passes}
use Rattle.guest_reclaim.proofs.look.first_behind.Given as goal

abbrev pub invariant-loop-page : goal.invariant-loop-page
invariant-loop-page l =
    find (λ page. passes l.parts l.sought (info_at l.parts.pages page)) (range_with_len l.start (length l.parts.pages.infos - l.start))
    ≡ find (λ page. passes l.parts l.sought (info_at l.parts.pages page)) (range_with_len l.page (length l.parts.pages.infos - l.page))
