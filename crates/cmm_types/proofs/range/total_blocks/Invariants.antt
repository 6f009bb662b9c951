use Rattle.std.proofs.Common.{◌≡◌, take}
use Rattle.cmm_types.specs.InRange.{guest_blocks_of}
use Rattle.cmm_types.proofs.range.total_blocks.Given as goal

abbrev pub invariant-loop-guest : goal.invariant-loop-guest
invariant-loop-guest l = l.blocks ≡ guest_blocks_of (take l.guest-index l.guests)
