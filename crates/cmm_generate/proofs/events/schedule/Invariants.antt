use Rattle.cmm_generate.specs.Draws.{Draws}
use Rattle.cmm_generate.specs.Generated.{schedule}
use Rattle.cmm_generate.proofs.events.schedule.Given as goal

abbrev pub invariant-loop-j : goal.invariant-loop-j
invariant-loop-j l = Draws (schedule l.j) l.fn.numbers.number l.numbers.number l.schedule.items
