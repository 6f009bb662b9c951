use Rattle.std.proofs.Common.{◌≡◌, sym, ap, ◌∙◌, subst, Some, length, arith}
use Rattle.std.specs.FinMap as finite
use Rattle.cmm_flat.specs.Mapping.{HasRoom, written}
use Rattle.cmm_flat.specs.State.{FlatState, Shows, key_of, mapping_at}
use Rattle.cmm_flat.specs.Laws.SoundLaws.{sound_inserted, shows_written, has_room}
use Rattle.cmm_flat.proofs.flat.Flat.store.Goals as goal

pub invariant_of-self-in-Anonymous : goal.invariant_of-self-in-Anonymous
invariant_of-self-in-Anonymous c =
    let mapping = c.in-Some.mapping.now in
    let files = c.self.inside.files.items in
    let at : finite.get c.self.inside.mappings (key_of c.args.process c.args.map) ≡ Some mapping = ap (λ s. mapping_at s c.args.process c.args.map) c.self.view_is ∙ sym c.in-Some.ensures.at in
    let shows : Shows files mapping = subst (λ (s : FlatState). Shows s.files mapping) (sym c.self.view_is) c.in-Some.ensures.shows in
    let new = c.as_slice-bytes.result.now in
    let room : HasRoom mapping.shown c.args.off (length new) = has_room files mapping.shown (length mapping.pins) c.args.off (length new) shows.1 (omega (arith, c.if-off-bytes.false)) in
    sound_inserted files c.self.inside.mappings c.write-in-Anonymous.new.self c.args.process c.args.map (written mapping c.args.off new) (c.write-in-Anonymous.ensures mapping at)
    (shows_written files mapping c.args.off new room shows) c.self.invariant
