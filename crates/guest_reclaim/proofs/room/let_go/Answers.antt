use Rattle.std.proofs.Common.{length, ◌<◌, sym, subst, ◌∙◌, ap}
use Rattle.guest_rules.specs.declared.parts.Parts.{Parts}
use Rattle.guest_rules.proofs.Kept.RowChanges.{change-freed}
use Rattle.guest_reclaim.proofs.room.let_go.Goals as goal

pub pass-requires : goal.pass-requires
pass-requires g c =
    let below = c.requires.taken.in_use.below in
    subst (λ n. c.args.page < n) (sym (ap (λ (p : Parts). length p.pages.infos) c.forget.ensures.row ∙ (change-freed c.args.parts.now c.args.page below).size)) below
