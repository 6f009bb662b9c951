use Rattle.std.proofs.Common.{◌≡◌, ◌+◌, take, sum_by}
use Rattle.cmm_scenario.proofs.scenario.without_blocks.Given as goal

abbrev pub invariant-loop-file : goal.invariant-loop-file
invariant-loop-file l = l.left + sum_by (λ file. file.pages) (take l.file-index l.file-items) ≡ l.number
