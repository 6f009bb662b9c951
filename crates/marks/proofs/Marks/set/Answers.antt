use Rattle.std.proofs.Common.{◌≡◌, ◌<◌, ◌/◌, ◌∙◌, List, Bool, ap, sym, subst, arith, length, rules, slice_index_or, slice_set, false, lit≤}
use Rattle.std.proofs.Math.ListN.{length-set}
use Rattle.std.proofs.lemmas.List.{get_or_default, set-get_or}
use Rattle.marks.specs.Marking.{AreCounts, is_marked, recounted}
use Rattle.marks.proofs.Marked.{counts_set, count-most, same-mark, other-mark}
use Rattle.marks.proofs.Marks.set.Goals as goal

pub returns-then-index-mark : goal.returns-then-index-mark
returns-then-index-mark c =
    let below : c.args.place < length c.self.inside.marks.items = search rules in
    let at : is_marked c.self.inside.marks.items c.args.place ≡ c.args.mark =
    sym (get_or_default c.self.inside.marks.items c.args.place c.index.result.now false below) ∙ sym c.index.ensures ∙ same-mark c.index.result.now c.args.mark c.if-index-mark.true in
    let same : slice_set c.self.inside.marks.items c.args.place c.args.mark ≡ c.self.inside.marks.items =
    ap (slice_set c.self.inside.marks.items c.args.place) (sym at) ∙ set-get_or c.self.inside.marks.items c.args.place false in
    subst (λ (marks : List Bool). marks ≡ slice_set marks c.args.place c.args.mark) c.self.view_is (sym same)

pub recounted-requires : goal.recounted-requires
recounted-requires c =
    let below : c.args.place < length c.self.inside.marks.items = search rules in
    let inside : c.args.place / 32 < length c.self.inside.blocks.items = omega (arith, below, c.self.invariant.0.all) in
    let at : c.index-2.result.now ≡ slice_index_or c.self.inside.blocks.items (c.args.place / 32) 0 =
    c.index-2.ensures ∙ get_or_default c.self.inside.blocks.items (c.args.place / 32) c.index-2.result.now 0 inside in
    rw at (count-most 32 c.self.inside.marks.items c.self.inside.blocks.items (c.args.place / 32) 1024 c.self.invariant.0 inside (lit≤ tt))

pub recounted-requires-2 : goal.recounted-requires-2
recounted-requires-2 c =
    let below : c.args.place < length c.self.inside.marks.items = search rules in
    let inside : c.args.place / 1024 < length c.self.inside.groups.items = omega (arith, below, c.self.invariant.1.all) in
    let at : c.index-3.result.now ≡ slice_index_or c.self.inside.groups.items (c.args.place / 1024) 0 =
    c.index-3.ensures ∙ get_or_default c.self.inside.groups.items (c.args.place / 1024) c.index-3.result.now 0 inside in
    rw at (count-most 1024 c.self.inside.marks.items c.self.inside.groups.items (c.args.place / 1024) 1024 c.self.invariant.1 inside (lit≤ tt))

pub invariant_of-self : goal.invariant_of-self
invariant_of-self c =
    let below : c.args.place < length c.self.inside.marks.items = search rules in
    let block : c.args.place / 32 < length c.self.inside.blocks.items = omega (arith, below, c.self.invariant.0.all) in
    let group : c.args.place / 1024 < length c.self.inside.groups.items = omega (arith, below, c.self.invariant.1.all) in
    let in_block : c.index-2.result.now ≡ slice_index_or c.self.inside.blocks.items (c.args.place / 32) 0 =
    c.index-2.ensures ∙ get_or_default c.self.inside.blocks.items (c.args.place / 32) c.index-2.result.now 0 block in
    let in_group : c.index-3.result.now ≡ slice_index_or c.self.inside.groups.items (c.args.place / 1024) 0 =
    c.index-3.ensures ∙ get_or_default c.self.inside.groups.items (c.args.place / 1024) c.index-3.result.now 0 group in
    let at : is_marked c.self.inside.marks.items c.args.place ≡ c.index.result.now =
    sym (get_or_default c.self.inside.marks.items c.args.place c.index.result.now false below) ∙ sym c.index.ensures in
    let changed : is_marked c.self.inside.marks.items c.args.place ≡ c.args.mark → ⊥ = λ same. other-mark c.index.result.now c.args.mark c.if-index-mark.false (sym at ∙ same) in
    let blocks = counts_set 32 c.self.inside.marks.items c.self.inside.blocks.items c.args.place (c.args.place / 32) c.args.mark c.self.invariant.0 below (omega arith) (omega arith) block changed in
    let groups = counts_set 1024 c.self.inside.marks.items c.self.inside.groups.items c.args.place (c.args.place / 1024) c.args.mark c.self.invariant.1 below (omega arith)
    (omega arith) group changed in (
      subst (λ n. AreCounts 32 (slice_set c.self.inside.marks.items c.args.place c.args.mark) (slice_set c.self.inside.blocks.items (c.args.place / 32) n))
          (ap (λ n. recounted n c.args.mark) (sym in_block) ∙ sym c.recounted.ensures) blocks,
      subst (λ n. AreCounts 1024 (slice_set c.self.inside.marks.items c.args.place c.args.mark) (slice_set c.self.inside.groups.items (c.args.place / 1024) n))
          (ap (λ n. recounted n c.args.mark) (sym in_group) ∙ sym c.recounted-2.ensures) groups,
      rw (length-set c.self.inside.marks.items c.args.place c.args.mark) c.self.invariant.2,
    )
