use Rattle.std.proofs.Common.{◌≡◌, ◌<◌, length, None, get_or, position, sym, subst}
use Rattle.guest_maps.specs.MapsView.{is_mapping}
use Rattle.guest_maps.proofs.Table.{IsTable-added}
use Rattle.guest_maps.proofs.slots.Slots.add.Goals as goal

pub invariant_of-self : goal.invariant_of-self
invariant_of-self c =
    IsTable-added _ _ _ _ _ _ c.self.invariant
    (subst (λ slots. c.args.slot < length slots) (sym c.self.view_is) c.requires.slot)
    (subst (λ slots. get_or slots c.args.slot None ≡ None) (sym c.self.view_is) c.requires.free)
    c.requires.live
    c.requires.range
    (subst (λ slots. position (is_mapping c.args.mapping.process c.args.mapping.map) slots ≡ None) (sym c.self.view_is) c.requires.new)
    c.place_of.ensures.place

pub returns-clause-sound : goal.returns-clause-sound
returns-clause-sound c = (invariant_of-self c).sound
