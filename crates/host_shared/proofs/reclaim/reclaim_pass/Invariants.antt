use Rattle.std.proofs.Common.{◌≡◌, ◌≤◌, take}
use Rattle.std.specs.List.{sum_by}
use Rattle.host_shared.specs.Reclaiming.{CanReclaim, given_more}
use Rattle.host_shared.proofs.Passing.{PassedBelow}
use Rattle.host_shared.proofs.reclaim.reclaim_pass.Given as goal

abbrev pub invariant-loop-guest : goal.invariant-loop-guest
invariant-loop-guest g l =
    CanReclaim l.words l.pool l.seats l.pool_seat
    × (g.P.Pager.faults l.fn.pager ≤ g.P.Pager.faults l.pager)
    × PassedBelow l.guest l.fn.seats l.seats (g.P.Pager.faults l.fn.pager) (g.P.Pager.faults l.pager) l.freed
    × (l.freed ≤ sum_by (λ w. w.pages) (take l.guest l.words))
    × (l.pool_seat ≡ given_more l.fn.pool_seat l.freed)
