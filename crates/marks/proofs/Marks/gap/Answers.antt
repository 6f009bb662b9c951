use Rattle.std.proofs.Common.{◌≡◌, ◌+◌, ◌<◌, ◌*◌, ◌/◌, ◌∙◌, List, Bool, sym, subst, arith, length, rules, slice_index_or, false}
use Rattle.std.proofs.lemmas.List.{get_or_default}
use Rattle.marks.specs.Marking.{NoneMarked, is_marked}
use Rattle.marks.proofs.Marked.{none-block}
use Rattle.marks.proofs.Marks.gap.Goals as goal

pub returns-then-index-eq0-clause-none : goal.returns-then-index-eq0-clause-none
returns-then-index-eq0-clause-none c =
    let below : c.args.place < length c.self.inside.marks.items = search rules in
    let at : 1024 * (c.args.place / 1024) ≡ c.args.place = omega (arith, c.if-place-eq0.true) in
    let inside : c.args.place / 1024 < length c.self.inside.groups.items = omega (arith, below, c.self.invariant.1.all) in
    let none : slice_index_or c.self.inside.groups.items (c.args.place / 1024) 0 ≡ 0 =
    sym (get_or_default c.self.inside.groups.items (c.args.place / 1024) c.index.result.now 0 inside) ∙ sym c.index.ensures ∙ c.if-index-eq0.true in
    subst (λ (marks : List Bool). NoneMarked marks c.args.place (c.args.place + 1024)) c.self.view_is
    (none-block 1024 c.self.inside.marks.items c.self.inside.groups.items c.args.place (c.args.place / 1024) c.self.invariant.1 at inside none)

pub returns-then-index-eq0-2-clause-none : goal.returns-then-index-eq0-2-clause-none
returns-then-index-eq0-2-clause-none c =
    let below : c.args.place < length c.self.inside.marks.items = search rules in
    let at : 32 * (c.args.place / 32) ≡ c.args.place = omega (arith, c.if-place-eq0-2.true) in
    let inside : c.args.place / 32 < length c.self.inside.blocks.items = omega (arith, below, c.self.invariant.0.all) in
    let none : slice_index_or c.self.inside.blocks.items (c.args.place / 32) 0 ≡ 0 =
    sym (get_or_default c.self.inside.blocks.items (c.args.place / 32) c.index-then-place-eq0-2.result.now 0 inside) ∙ sym c.index-then-place-eq0-2.ensures ∙ c.if-index-eq0-2.true in
    subst (λ (marks : List Bool). NoneMarked marks c.args.place (c.args.place + 32)) c.self.view_is
    (none-block 32 c.self.inside.marks.items c.self.inside.blocks.items c.args.place (c.args.place / 32) c.self.invariant.0 at inside none)

pub returns-else-index-clause-none : goal.returns-else-index-clause-none
returns-else-index-clause-none c = λ place low high.
    let below : c.args.place < length c.self.inside.marks.items = search rules in
    let here : c.args.place ≡ place = omega (arith, low, high) in
    let none : is_marked c.self.inside.marks.items c.args.place ≡ false =
    sym (get_or_default c.self.inside.marks.items c.args.place c.index-2.result.now false below) ∙ sym c.index-2.ensures ∙ c.if-index.false in
    subst (λ (marks : List Bool). is_marked marks place ≡ false) c.self.view_is (subst (λ k. is_marked c.self.inside.marks.items k ≡ false) here none)
