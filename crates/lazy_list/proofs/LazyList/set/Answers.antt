use Rattle.std.proofs.Common.{◌<◌, ◌≤◌, length, set, ap, ◌∙◌, arith}
use Rattle.lazy_list.proofs.Written.{set-before, set-behind, whole_length}
use Rattle.lazy_list.proofs.LazyList.set.Goals as goal

pub returns-then-place-len : goal.returns-then-place-len
returns-then-place-len g c =
    set-before c.self.inside.written.items c.self.inside.len c.args.place c.self.inside.blank c.args.value (omega (arith, c.if-place-len.true, c.len.ensures))
    ∙ ap (λ xs. set xs c.args.place c.args.value) c.self.view_is

pub returns-else-place-len : goal.returns-else-place-len
returns-else-place-len g c =
    let above : length c.self.inside.written.items ≤ c.args.place = omega (arith, c.if-place-len.false, c.len.ensures) in
    let whole = whole_length c.self.inside.written.items c.self.inside.len c.self.inside.blank c.self.invariant.0 in
    let below : c.args.place < c.self.inside.len = omega (arith, c.requires, ap length c.self.view_is, whole) in
    set-behind c.self.inside.written.items c.put_behind.new.list.items c.self.inside.len c.args.place c.self.inside.blank c.args.value above below c.put_behind.ensures.items
    ∙ ap (λ xs. set xs c.args.place c.args.value) c.self.view_is
