use Rattle.cmm_flat.specs.Laws.FlatLaws.{lengths-flat_step, sound-flat_step}
use Rattle.cmm_flat.specs.Laws.LegalLaws.{sound-start, sound-after}
use Rattle.cmm_flat.proofs.laws.steps_stay_sound.Goals as goal

pub returns-clause-lengths : goal.returns-clause-lengths
returns-clause-lengths c = lengths-flat_step

pub returns-clause-sound : goal.returns-clause-sound
returns-clause-sound c = sound-flat_step

pub returns-clause-start : goal.returns-clause-start
returns-clause-start c = sound-start

pub returns-clause-entry : goal.returns-clause-entry
returns-clause-entry c = sound-after
