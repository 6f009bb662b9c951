use Rattle.std.proofs.Common.{◌≡◌, ◌-◌, ◌∙◌, [], map, sym, ap, arith, rules}
use Rattle.std.specs.FinMap as finite
use Rattle.std.proofs.lemmas.Map.Iter.{rest_all}
use Rattle.std.specs.Map.Iter.{deref}
use Rattle.cmm_flat.specs.Legal.{pinned_pages, sum_over}
use Rattle.cmm_flat.proofs.Totals.{total, total_of, reached}
use Rattle.cmm_flat.proofs.mappings.Mappings.has_pinned.Goals as goal

pub returns : goal.returns
returns c =
    let empty : c.loop-mapping.mapping-iterator ≡ [] = rest_all deref c.loop-mapping.mapping-iterator c.next.new.self c.next.result c.in-None.is c.next.ensures.steps in
    let start : c.into_iter-mapping-iterator.result ≡ map (λ e. e.1) c.self.inside.live.entries = search rules in
    let all = total_of pinned_pages c.self.inside.live.entries c.args.self.now c.values-mapping-items.ensures.ordered c.self.view_is in
    let whole = ap (total pinned_pages) start ∙ sym all in
    let none = ap (total pinned_pages) empty in
    let left : c.loop-mapping.left ≡ c.args.count - sum_over (λ live. pinned_pages live.1) (finite.entries c.args.self.now) = omega (arith, c.loop-mapping.invariant, whole, none) in
    reached c.args.count c.loop-mapping.left (sum_over (λ live. pinned_pages live.1) (finite.entries c.args.self.now)) left
