use Rattle.cmm_flat.specs.Laws.LegalLaws.{progress_of-after_other, next-after}
use Rattle.cmm_flat.proofs.laws.entry_takes_its_number.Goals as goal

pub returns-clause-others : goal.returns-clause-others
returns-clause-others c = progress_of-after_other

pub returns-clause-own : goal.returns-clause-own
returns-clause-own c = next-after
