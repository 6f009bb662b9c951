use Rattle.std.proofs.Common.{◌≡◌, All, None, map, take}
use Rattle.state_words.specs.SeatView.{Seated}
use Rattle.cmm_vcpu.proofs.open.seats_of.Given as goal

-- the seats at the words so far
abbrev pub invariant-loop-guest : goal.invariant-loop-guest
invariant-loop-guest l =
    (l.words ≡ l.fn.words) × (l.hosts ≡ l.fn.hosts)
    × (map (λ (s : Seated). s.words) l.seats.items ≡ take l.guest l.words) × All (λ (s : Seated). s.view.held ≡ None) l.seats.items
