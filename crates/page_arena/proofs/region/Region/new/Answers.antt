use Rattle.std.proofs.Common.{◌≡◌, ℕ, suc, refl, ◌+◌, List, [], ◌∷◌, replicate, All, subst, zero-add, arith}
use Rattle.std.proofs.lemmas.List.FromFn.{map-range_with_len_more}
use Rattle.std.specs.Vec.Iter.{into_iter_items}
use Rattle.cmm_types.specs.declared.page.TheConstants.{PAGE}
use Rattle.page_arena.proofs.region.Region.new.Goals as goal

pub loop-bytes-preserved : goal.loop-bytes-preserved
loop-bytes-preserved c =
    let number_is : 0 + c.loop-bytes.number ≡ c.loop-bytes.number = zero-add c.loop-bytes.number in
    let IsZeros = λ (bytes : List ℕ). bytes ≡ replicate PAGE 0 in
    let all : All IsZeros (c.in-Some.bytes ∷ into_iter_items c.next.new.self) = subst (All IsZeros) c.in-Some.ensures.steps.0 c.loop-bytes.invariant.3 in
    let first : c.in-Some.bytes ≡ replicate PAGE 0 = all 0 [] (omega arith) in (
      rw (
        c.push_reserved.ensures.items,
        c.loop-bytes.invariant.0,
        c.of.ensures,
        c.again.ensures,
        first,
        map-range_with_len_more _ 0 c.loop-bytes.number c.loop-bytes.number number_is,
      ) refl,
      omega (arith, c.push_reserved.ensures.len, c.push_reserved.ensures.capacity, c.in-Some.ensures.steps.1, c.loop-bytes.invariant.1),
      omega (arith, c.in-Some.ensures.steps.1, c.loop-bytes.invariant.2),
      λ k d below. all (suc k) d (omega (arith, below)),
    )
