use Rattle.std.proofs.Common.{sym, subst, ◌∙◌}
use Rattle.guest_rules.specs.GuestState.{GuestState}
use Rattle.guest_rules.specs.Calls.{CanPin}
use Rattle.guest_core.proofs.guest.Guest.pin_turn.Goals as goal

pub pin_page-requires-clause-pin : goal.pin_page-requires-clause-pin
pin_page-requires-clause-pin g c =
    subst (λ (h : GuestState). CanPin h.parts c.args.page c.in-Some.slot c.args.index c.args.pins) (sym c.self.view_is)
    (c.requires.pin c.in-Some.slot (sym c.slot_of.ensures ∙ c.in-Some.is))
