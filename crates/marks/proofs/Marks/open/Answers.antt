use Rattle.std.proofs.Common.{◌≡◌, ◌+◌, ◌/◌, arith, replicate, false}
use Rattle.std.proofs.lemmas.List.{length-replicate}
use Rattle.marks.proofs.Marked.{opening-counts}
use Rattle.marks.proofs.Marks.open.Goals as goal

pub invariant_of-result : goal.invariant_of-result
invariant_of-result c =
    let marks : c.in_ok-vec.field-0.items ≡ replicate c.args.places false = c.in_ok-vec.ensures.items_if_clones_equal (λ y h. h) in
    let blocks : c.in_ok-vec-2.field-0.items ≡ replicate (c.args.places / 32 + 1) 0 = c.in_ok-vec-2.ensures.items_if_clones_equal (λ y h. h) in
    let groups : c.in_ok-vec-3.field-0.items ≡ replicate (c.args.places / 1024 + 1) 0 = c.in_ok-vec-3.ensures.items_if_clones_equal (λ y h. h) in (
      rw (marks, blocks) (opening-counts 32 c.args.places (c.args.places / 32 + 1) (omega arith)),
      rw (marks, groups) (opening-counts 1024 c.args.places (c.args.places / 1024 + 1) (omega arith)),
      rw (marks, length-replicate c.args.places false) c.requires,
    )
