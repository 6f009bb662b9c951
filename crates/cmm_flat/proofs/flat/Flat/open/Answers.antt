use Rattle.cmm_flat.specs.Laws.SoundLaws.{sound_without}
use Rattle.cmm_flat.proofs.flat.Flat.open.Goals as goal

pub invariant_of-result : goal.invariant_of-result
invariant_of-result c = sound_without c.loop-plan.files.items c.new-2.result c.new-2.ensures
