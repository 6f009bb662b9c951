use Rattle.std.proofs.Common.{◌≡◌, sym, ap, ◌∙◌, subst, Some, true}
use Rattle.std.specs.FinMap as finite
use Rattle.cmm_flat.specs.Mapping.{with_pin}
use Rattle.cmm_flat.specs.State.{FlatState, Shows, key_of, mapping_at}
use Rattle.cmm_flat.specs.Laws.SoundLaws.{sound_inserted, shows_pinned}
use Rattle.cmm_flat.proofs.flat.Flat.pin.Goals as goal

pub invariant_of-self : goal.invariant_of-self
invariant_of-self c =
    let mapping = c.in-Some.mapping.now in
    let files = c.self.inside.files.items in
    let at : finite.get c.self.inside.mappings (key_of c.args.process c.args.map) ≡ Some mapping = ap (λ s. mapping_at s c.args.process c.args.map) c.self.view_is ∙ sym c.in-Some.ensures.at in
    let shows : Shows files mapping = subst (λ (s : FlatState). Shows s.files mapping) (sym c.self.view_is) c.in-Some.ensures.shows in
    sound_inserted files c.self.inside.mappings c.set_pin.new.self c.args.process c.args.map (with_pin mapping c.args.page true) (c.set_pin.ensures mapping at)
    (shows_pinned files mapping c.args.page true shows) c.self.invariant
