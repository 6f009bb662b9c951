use Rattle.std.proofs.Common.{◌≡◌, Some, None, true, get_or, sym, ap, ◌∙◌, subst}
use Rattle.std.proofs.lemmas.List.{get_or_read}
use Rattle.guest_maps.specs.MapsView.{is_live_slot}
use Rattle.guest_maps.specs.Laws.SlotLaws.{live_within}
use Rattle.guest_maps.proofs.Table.{IsTable-torn}
use Rattle.guest_maps.proofs.slots.Slots.tear.Goals as goal

lives : (c : goal.After-self-3-1) → is_live_slot (get_or c.self.inside.slots.items c.args.slot None) ≡ true
lives c = subst (λ slots. is_live_slot (get_or slots c.args.slot None) ≡ true) (sym c.self.view_is) c.requires

mapping : (c : goal.After-self-3-1) → get_or c.self.inside.slots.items c.args.slot None ≡ Some c.in-Some.mapping
mapping c = sym (get_or_read c.self.inside.slots.items c.args.slot c.index.result.now (live_within c.self.inside.slots.items c.args.slot (lives c)) c.index.ensures None) ∙ c.in-Some.is

pub invariant_of-self : goal.invariant_of-self
invariant_of-self c =
    IsTable-torn c.self.inside.slots.items c.self.inside.found.items c.self.inside.live c.args.slot c.place_of.result c.in-Some.mapping c.self.invariant
    (live_within c.self.inside.slots.items c.args.slot (lives c))
    (mapping c)
    (sym (ap is_live_slot (mapping c)) ∙ lives c)
    c.place_of.ensures.place
