use Rattle.std.proofs.Common.{◌∙◌, ◌<◌, ap, length, subst, sym}
use Rattle.std.proofs.lemmas.List.{get_or_default}
use Rattle.guest_rules.specs.GuestState.{opening_guest}
use Rattle.cmm_types.specs.NoPlan.{no_plan}
use Rattle.cmm_world.specs.WorldState.{guest_at}
use Rattle.cmm_world.specs.WorldView.{WorldView}
use Rattle.cmm_world.proofs.world.World.guest.Goals as goal

pub returns : goal.returns
returns c =
    let below : c.args.guest < length c.self.inside.guests.items = subst (λ (w : WorldView). c.args.guest < length w.state.guests) (sym c.self.view_is) c.requires in
    c.index.ensures
    ∙ get_or_default c.self.inside.guests.items c.args.guest c.index.result.now (opening_guest no_plan) below
    ∙ ap (λ (w : WorldView). guest_at w.state c.args.guest) c.self.view_is
