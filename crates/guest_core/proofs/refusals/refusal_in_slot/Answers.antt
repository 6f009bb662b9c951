use Rattle.std.proofs.Common.{sym, ap, ◌∙◌}
use Rattle.guest_maps.specs.Laws.MapsLaws.{spot_at-some}
use Rattle.guest_rules.specs.Turns.{refusal_of_pin}
use Rattle.guest_core.proofs.Spots.{refusal-outside, refusal-placed}
use Rattle.guest_core.proofs.refusals.refusal_in_slot.Goals as goal

pub pinned-requires : goal.pinned-requires
pinned-requires c =
    (spot_at-some c.args.maps.now c.args.slot c.args.index _ (sym c.spot.ensures ∙ c.in-Some.is)).0

pub returns-in-None : goal.returns-in-None
returns-in-None c =
    sym (refusal-outside c.args.maps.now c.args.pins c.args.slot c.args.index (sym c.spot.ensures ∙ c.in-None.is))

pub returns-in-Some : goal.returns-in-Some
returns-in-Some c =
    c.refusal_of_pin.ensures ∙ ap (refusal_of_pin c.args.pins) c.pinned.ensures ∙ sym (refusal-placed c.args.maps.now c.args.pins c.args.slot c.args.index _ (sym c.spot.ensures ∙ c.in-Some.is))
