use Rattle.std.proofs.Common.{◌≡◌, length, take}
use Rattle.std.specs.List.{sum_by}
use Rattle.cmm_check.proofs.lines.all_commands.Given as goal

abbrev pub invariant-loop-cpu : goal.invariant-loop-cpu
invariant-loop-cpu l = (l.cpu-items ≡ l.plan.cpus) × (l.count ≡ sum_by (λ cpu. length cpu.commands) (take l.cpu-index l.plan.cpus))
