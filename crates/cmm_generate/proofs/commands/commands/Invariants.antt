use Rattle.cmm_generate.specs.Draws.{Draws}
use Rattle.cmm_generate.specs.Generated.{commands}
use Rattle.cmm_generate.proofs.commands.commands.Given as goal

abbrev pub invariant-loop-j : goal.invariant-loop-j
invariant-loop-j l = Draws (commands l.j) l.fn.numbers.number l.numbers.number l.ops.items
