use Rattle.std.proofs.Common.{◌/◌, sym, subst, ◌∙◌}
use Rattle.cmm_types.specs.declared.page.TheConstants.{PAGE}
use Rattle.guest_rules.specs.GuestState.{GuestState}
use Rattle.guest_rules.specs.Calls.{CanMap}
use Rattle.guest_core.proofs.guest.Guest.resolve_turn.Goals as goal

pub resolve-requires-clause-map : goal.resolve-requires-clause-map
resolve-requires-clause-map g c =
    subst (λ (h : GuestState). CanMap h.parts c.args.page c.in-Some.slot (c.args.off / PAGE)) (sym c.self.view_is)
    (c.requires.maps c.in-Some.slot (sym c.slot_of.ensures ∙ c.in-Some.is))
