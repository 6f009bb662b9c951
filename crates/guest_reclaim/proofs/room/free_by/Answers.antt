use Rattle.std.proofs.Common.{◌≡◌, subst, sym, ◌∙◌, ap}
use Rattle.guest_rules.specs.declared.parts.Parts.{Parts}
use Rattle.guest_rules.specs.Calls.{IsInUse}
use Rattle.guest_rules.specs.Rows.{with_change}
use Rattle.guest_reclaim.proofs.Changed.{in_use-changed}
use Rattle.guest_reclaim.proofs.room.free_by.Goals as goal

pub let_go-requires : goal.let_go-requires
let_go-requires g c =
    let same : c.make_stable.new.parts ≡ c.args.parts.now = c.in-Ok-make_stable.ensures.same in
    let tables = c.mark_changed.ensures.tables ∙ ap (λ (parts : Parts). with_change parts c.args.page c.mark_changed.result) same in
    record {
      taken = record {
        in_use = subst (λ (parts : Parts). IsInUse parts c.args.page) (sym tables) (in_use-changed c.args.parts.now c.args.page c.mark_changed.result c.requires.takes.in_use);
        held = c.mark_changed.ensures.held.held;
      };
    }
