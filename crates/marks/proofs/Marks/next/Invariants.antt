use Rattle.std.proofs.Common.{◌≤◌, ◌-◌}
use Rattle.marks.specs.Marking.{NoneMarked}
use Rattle.marks.proofs.Marks.next.Given as goal

abbrev pub invariant-loop-place : goal.invariant-loop-place
invariant-loop-place l = (l.from ≤ l.place) × NoneMarked l.self l.from l.place

abbrev pub decreases-loop-place : goal.decreases-loop-place
decreases-loop-place l = l.to - l.place
