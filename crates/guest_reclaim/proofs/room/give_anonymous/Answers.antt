use Rattle.std.proofs.Common.{sym, ◌∙◌}
use Rattle.guest_reclaim.proofs.Slots.{slot_given, slot_there}
use Rattle.guest_reclaim.proofs.room.give_anonymous.Goals as goal

pub returns-then-is_none : goal.returns-then-is_none
returns-then-is_none c =
    c.assign.ensures.assigned ∙ sym (slot_given c.args.cache.now c.args.slot c.args.index c.slot.result _ (sym c.slot.ensures) c.is_none.ensures c.if-is_none.true)

pub returns-else-is_none : goal.returns-else-is_none
returns-else-is_none c = sym (slot_there c.args.cache.now c.args.slot c.args.index c.slot.result _ (sym c.slot.ensures) c.is_none.ensures c.if-is_none.false)
