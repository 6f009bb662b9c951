use Rattle.std.proofs.Common.{◌≡◌, ◌≤◌, ◌-◌, length}
use Rattle.host_plain.specs.Eviction.{aged_words}
use Rattle.host_plain.proofs.words.Words.age_between.Given as goal

abbrev pub invariant-loop-place : goal.invariant-loop-place
invariant-loop-place l = (l.self ≡ aged_words l.initial.self l.from (l.start - l.from)) × (l.from ≤ l.start) × (l.start ≤ l.to) × (l.to ≤ length l.self)

abbrev pub decreases-loop-place : goal.decreases-loop-place
decreases-loop-place l = l.to - l.start
