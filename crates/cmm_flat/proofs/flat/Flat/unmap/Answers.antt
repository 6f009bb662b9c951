use Rattle.cmm_flat.specs.Laws.SoundLaws.{sound_removed}
use Rattle.cmm_flat.proofs.flat.Flat.unmap.Goals as goal

pub invariant_of-self : goal.invariant_of-self
invariant_of-self c = sound_removed c.self.inside.files.items c.self.inside.mappings c.remove.new.self c.args.process c.args.map c.remove.ensures c.self.invariant
