use Rattle.cmm_generate.specs.Draws.{Draws, times}
use Rattle.cmm_generate.specs.Generated.{file}
use Rattle.cmm_generate.proofs.plan.files.Given as goal

abbrev pub invariant-loop : goal.invariant-loop
invariant-loop l = Draws (times l.counter file) l.fn.numbers.number l.numbers.number l.files.items
