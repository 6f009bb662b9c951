use Rattle.std.proofs.Common.{◌≤◌, take}
use Rattle.std.specs.List.{sum_by}
use Rattle.host_shared.specs.Reclaiming.{CanReclaim}
use Rattle.host_shared.specs.Searching.{Searched}
use Rattle.host_shared.specs.Finding.{KeepsSupply}
use Rattle.host_shared.proofs.search.Supply.look_at_guests.Given as goal

abbrev pub invariant-loop-guest : goal.invariant-loop-guest
invariant-loop-guest l =
    CanReclaim l.words l.pool l.hosts l.self.seat
    × KeepsSupply l.fn.self l.self
    × Searched l.held.guest l.held.page l.from l.guest l.fn.hosts l.hosts l.fn.self.seat.dry l.self.seat.dry l.looks
    × (l.looks ≤ sum_by (λ w. w.pages) (take l.guest l.words))
