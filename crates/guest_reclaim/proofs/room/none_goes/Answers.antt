use Rattle.std.proofs.Common.{ap, sym, ◌∙◌}
use Rattle.std.specs.Prelude.{Option, ℕ, is_some}
use Rattle.guest_pages.specs.declared.info.PageInfo.{PageInfo}
use Rattle.guest_rules.specs.MakeRoom.{is_locked}
use Rattle.guest_rules.proofs.Cases.FirstPage.{first_from-Some, first_locked-owned}
use Rattle.guest_reclaim.proofs.room.none_goes.Goals as goal

pub info-requires : goal.info-requires
info-requires c = (first_from-Some c.args.parts.now is_locked c.in-Some.page (sym c.first_from.ensures ∙ c.in-Some.is)).below

pub unwrap-owner-requires : goal.unwrap-owner-requires
unwrap-owner-requires c =
    let owned = first_locked-owned c.args.parts.now c.in-Some.page (sym c.first_from.ensures ∙ c.in-Some.is) in
    ap (λ (o : Option ℕ). is_some o) (ap (λ (i : PageInfo). i.owner) c.info.ensures ∙ owned.1)
