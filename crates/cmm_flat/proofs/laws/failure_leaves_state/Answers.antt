use Rattle.cmm_flat.specs.Laws.LegalLaws.{flat-after_failure}
use Rattle.cmm_flat.proofs.laws.failure_leaves_state.Goals as goal

pub returns : goal.returns
returns c = flat-after_failure
