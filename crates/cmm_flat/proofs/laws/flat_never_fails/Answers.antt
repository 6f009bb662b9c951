use Rattle.cmm_flat.specs.Laws.FlatLaws.{never_fails}
use Rattle.cmm_flat.proofs.laws.flat_never_fails.Goals as goal

pub returns : goal.returns
returns c = never_fails
