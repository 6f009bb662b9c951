use Rattle.std.proofs.Common.{◌≡◌, true, sym, subst, ◌∙◌}
use Rattle.guest_maps.specs.MapsView.{slot_at, is_live_slot}
use Rattle.guest_rules.specs.GuestState.{GuestState}
use Rattle.guest_rules.proofs.Ready.ReadyCalls.{unmap-live}
use Rattle.guest_core.proofs.guest.Guest.unmap_turn.Goals as goal

pub tear-requires : goal.tear-requires
tear-requires c =
    subst (λ (h : GuestState). is_live_slot (slot_at h.parts.maps c.in-Some.slot) ≡ true) (sym c.self.view_is)
    (unmap-live c.args.self.now c.args.cpu c.args.map c.in-Some.slot (sym c.slot_of.ensures ∙ c.in-Some.is))
