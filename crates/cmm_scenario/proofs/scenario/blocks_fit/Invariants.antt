use Rattle.std.proofs.Common.{◌≡◌, ◌+◌, take, sum_by}
use Rattle.cmm_types.specs.InRange.{blocks_of}
use Rattle.cmm_scenario.proofs.scenario.blocks_fit.Given as goal

abbrev pub invariant-loop-guest : goal.invariant-loop-guest
invariant-loop-guest l = l.left + sum_by blocks_of (take l.guest-index l.guests) ≡ 65536
