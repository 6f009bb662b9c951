use Rattle.std.proofs.Common.{◌≡◌, [], ◌∷◌, length, None}
use Rattle.host_plain.proofs.tests.one_frame_goes_from_page_to_page.Given as goal

abbrev pub invariant-loop-turn : goal.invariant-loop-turn
invariant-loop-turn g l = record {
  held : l.host.held ≡ None;
  guests : length l.host.pagers ≡ 1;
  starts : l.host.starts ≡ 0 ∷ 4 ∷ [];
}
