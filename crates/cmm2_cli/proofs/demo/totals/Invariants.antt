use Rattle.cmm2_cli.proofs.Sums.{AreSums}
use Rattle.cmm2_cli.proofs.demo.totals.Given as goal

abbrev pub invariant-loop-guest : goal.invariant-loop-guest
invariant-loop-guest l = AreSums l.world.state l.guest l.entries l.discarded l.faults
