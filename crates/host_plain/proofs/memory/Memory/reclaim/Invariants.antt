use Rattle.std.proofs.Common.{◌≡◌, false}
use Rattle.host_plain.specs.HostMoves.{reclaimed}
use Rattle.host_plain.proofs.Calling.{so_far}
use Rattle.host_plain.proofs.memory.Memory.reclaim.Given as goal

abbrev pub invariant-loop-moved : goal.invariant-loop-moved
invariant-loop-moved l = reclaimed l.fn.self l.fn.pager l.moved ≡ so_far l.moved false l.self l.pager
