use Rattle.cmm_flat.specs.declared.mapping.Shown.TheVariants.{Anonymous}
use Rattle.cmm_flat.specs.Laws.SoundLaws.{sound_inserted, shows_zeros}
use Rattle.cmm_flat.proofs.flat.Flat.map_anon.Goals as goal

pub invariant_of-self-2 : goal.invariant_of-self-2
invariant_of-self-2 c =
    let files = c.self.inside.files.items in
    let shows = shows_zeros files c.in_ok-zeros.field-0 c.in_ok-none.field-0 c.args.count c.in_ok-zeros.ensures c.in_ok-none.ensures c.requires.few in
    sound_inserted files c.self.inside.mappings c.insert.new.self c.args.process c.args.map
    (record { shown = Anonymous c.in_ok-zeros.field-0; pins = c.in_ok-none.field-0 }) c.in_ok-insert.ensures.ok shows c.self.invariant
