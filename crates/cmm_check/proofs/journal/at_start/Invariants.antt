use Rattle.std.proofs.Common.{◌≡◌, map, take}
use Rattle.cmm_flat.specs.Legal.{at_start}
use Rattle.cmm_check.proofs.journal.at_start.Given as goal

abbrev pub invariant-loop-cpu : goal.invariant-loop-cpu
invariant-loop-cpu l = l.processors.items ≡ map (λ cpu. at_start) (take l._cpu-index l.cpus)
