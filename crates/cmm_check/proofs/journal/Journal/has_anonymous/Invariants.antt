use Rattle.std.proofs.Common.{◌≡◌, ◌-◌, take}
use Rattle.std.specs.List.{sum_by}
use Rattle.cmm_check.proofs.journal.Journal.has_anonymous.Given as goal

abbrev pub invariant-loop-cpu : goal.invariant-loop-cpu
invariant-loop-cpu l = l.left ≡ l.pages - sum_by (λ cpu. cpu.ended) (take l.cpu-index l.self.walk.cpus)
