use Rattle.cmm_storage.specs.Laws.HoldLaws.{touch_resident-succeeds}
use Rattle.cmm_storage.proofs.laws.touches_of_resident_pages_succeed.Goals as goal

pub returns : goal.returns
returns c = touch_resident-succeeds
