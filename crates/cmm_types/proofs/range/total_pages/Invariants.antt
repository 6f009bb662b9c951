use Rattle.std.proofs.Common.{◌≡◌, take}
use Rattle.cmm_types.specs.InRange.{guest_pages_of}
use Rattle.cmm_types.proofs.range.total_pages.Given as goal

abbrev pub invariant-loop-guest : goal.invariant-loop-guest
invariant-loop-guest l = l.pages ≡ guest_pages_of (take l.guest-index l.guests)
