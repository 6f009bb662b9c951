use Rattle.std.proofs.Common.{◌≡◌, take}
use Rattle.guest_core.proofs.copies.copy_cpus.Given as goal

abbrev pub invariant-loop-cpu : goal.invariant-loop-cpu
invariant-loop-cpu l = l.copies.items ≡ take l.cpu-index l.cpus
