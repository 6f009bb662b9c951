use Rattle.cmm_io.proofs.Counted.{counted-opening, counted-next, counted-most, distinct-none}
use Rattle.cmm_io.proofs.laws.failed_calls_are_planned.Goals as goal

pub returns-clause-open : goal.returns-clause-open
returns-clause-open c = counted-opening

pub returns-clause-next : goal.returns-clause-next
returns-clause-next c = counted-next

pub returns-clause-most : goal.returns-clause-most
returns-clause-most c = counted-most

pub returns-clause-none : goal.returns-clause-none
returns-clause-none c = distinct-none
