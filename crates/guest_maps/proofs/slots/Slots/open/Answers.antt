use Rattle.std.proofs.Common.{◌≡◌, None, replicate, rules, sym, subst}
use Rattle.guest_maps.specs.SlotTable.{IsSlotIndex}
use Rattle.guest_maps.proofs.Table.{IsTable-free}
use Rattle.guest_maps.proofs.slots.Slots.open.Goals as goal

pub invariant_of-result : goal.invariant_of-result
invariant_of-result c =
    let slots_are : c.in_ok-vec.field-0.items ≡ replicate c.args.slots None = search rules in
    subst (λ slots. IsSlotIndex slots c.in_ok-none_found.field-0.items 0) (sym slots_are)
    (IsTable-free c.args.slots c.in_ok-none_found.field-0.items c.requires c.in_ok-none_found.ensures.whole c.in_ok-none_found.ensures.empty)
