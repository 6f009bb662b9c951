use Rattle.std.proofs.Common.{sym, ◌∙◌}
use Rattle.guest_rules.specs.MakeRoom.{can_go}
use Rattle.guest_rules.proofs.Cases.FirstPage.{first_from-Some}
use Rattle.guest_reclaim.proofs.room.run_make_room.Goals as goal

pub free_by-requires : goal.free_by-requires
free_by-requires g c = record {
  takes = c.requires.can.takes c.in-Some.page (first_from-Some c.args.parts.now (can_go c.args.parts.now) c.in-Some.page (sym c.first_from.ensures ∙ c.in-Some.is)).below;
}
