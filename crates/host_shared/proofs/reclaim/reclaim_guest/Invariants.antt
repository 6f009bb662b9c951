use Rattle.std.proofs.Common.{◌≡◌, ◌≤◌, ◌+◌, None, false}
use Rattle.host_shared.specs.Looks.{GrewByLooks, pages_but, freed_in}
use Rattle.host_shared.specs.Reclaiming.{IsReclaim, given_more}
use Rattle.host_shared.proofs.reclaim.reclaim_guest.Given as goal

abbrev pub invariant-loop-page : goal.invariant-loop-page
invariant-loop-page g l =
    (l.seat.words ≡ l.fn.seat.words)
    × (l.seat.view.held ≡ None)
    × (g.P.Pager.faults l.fn.pager ≤ g.P.Pager.faults l.pager)
    × GrewByLooks (IsReclaim false (g.P.Pager.faults l.fn.pager) (g.P.Pager.faults l.pager)) (pages_but None 0 l.page) l.fn.seat.view l.seat.view
    × (l.freed + freed_in l.fn.seat.view ≡ freed_in l.seat.view)
    × (l.freed ≤ l.page)
    × (l.pool_seat ≡ given_more l.fn.pool_seat l.freed)
