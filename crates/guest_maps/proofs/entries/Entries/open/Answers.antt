use Rattle.std.proofs.Common.{◌≡◌, None, replicate, rules}
use Rattle.guest_maps.proofs.Chains.{HasChains-opening, all_same}
use Rattle.guest_maps.proofs.entries.Entries.open.Goals as goal

pub invariant_of-result : goal.invariant_of-result
invariant_of-result c =
    let first : c.in_ok-vec.field-0.items ≡ replicate c.args.pages None = search rules in
    all_same c.in_ok-open.ensures first c.in_ok-open-2.ensures c.in_ok-open-3.ensures (HasChains-opening c.args.pages c.args.places)
