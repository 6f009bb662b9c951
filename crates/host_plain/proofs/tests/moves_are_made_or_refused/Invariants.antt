use Rattle.std.proofs.Common.{◌≡◌, [], ◌∷◌, length, None}
use Rattle.host_plain.proofs.tests.moves_are_made_or_refused.Given as goal

abbrev pub invariant-loop-action : goal.invariant-loop-action
invariant-loop-action g l = record {
  held : l.host.held ≡ None;
  guests : length l.host.pagers ≡ 1;
  starts : l.host.starts ≡ 0 ∷ 4 ∷ [];
}
