use Rattle.std.proofs.Common.{ℕ, ◌<◌}
use Rattle.cmm_check.specs.Split.{HasMark}
use Rattle.cmm_check.proofs.input.split.Given as goal

abbrev pub invariant-loop-feed : goal.invariant-loop-feed
invariant-loop-feed l = (k : ℕ) → k < l.feed → HasMark l.input k → ⊥
