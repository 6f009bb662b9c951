use Rattle.cmm_flat.specs.Laws.CountLaws.{legal-most, complete-all, complete-from_all}
use Rattle.cmm_flat.proofs.laws.entries_are_of_commands.Goals as goal

pub returns-clause-most : goal.returns-clause-most
returns-clause-most c = legal-most

pub returns-clause-complete : goal.returns-clause-complete
returns-clause-complete c plan journal legal = (complete-all plan journal, complete-from_all plan journal legal)
