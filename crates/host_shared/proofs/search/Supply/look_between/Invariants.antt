use Rattle.std.proofs.Common.{◌≡◌, ◌≤◌, ◌-◌, None}
use Rattle.host_shared.specs.Finding.{KeepsSupply}
use Rattle.host_shared.proofs.Searches.{Between}
use Rattle.host_shared.proofs.search.Supply.look_between.Given as goal

abbrev pub invariant-loop-page : goal.invariant-loop-page
invariant-loop-page l =
    (l.seat.words ≡ l.fn.seat.words)
    × (l.seat.view.held ≡ None)
    × KeepsSupply l.fn.self l.self
    × Between l.skip l.from l.page l.fn.seat.view l.seat.view l.fn.self.seat.dry l.self.seat.dry l.looks
    × (l.looks ≤ l.page - l.from)
