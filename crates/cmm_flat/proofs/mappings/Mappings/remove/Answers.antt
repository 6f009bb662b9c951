use Rattle.std.proofs.Common.{sym, ap, ◌∙◌, ◌-◌, is_some, ◌≡◌, true, ◌≤◌, arith}
use Rattle.std.specs.FinMap as finite
use Rattle.cmm_flat.specs.Mapping.{key_cmp}
use Rattle.cmm_flat.specs.Laws.KeyLaws.{one_less, some_live}
use Rattle.cmm_flat.proofs.Keys.{one_taken, key_found}
use Rattle.cmm_flat.proofs.mappings.Mappings.remove.Goals as goal

pub overflow_sub-self : goal.overflow_sub-self
overflow_sub-self c =
    let es = c.self.inside.live.entries in
    let live : finite.contains_key (finite.from_entries {R = key_cmp} es) c.args.key ≡ true =
    key_found es c.args.key ∙ ap is_some (sym c.remove.ensures.value) ∙ sym c.is_some.ensures ∙ c.if-is_some.true in
    let some : 1 ≤ finite.len (finite.from_entries {R = key_cmp} es) = some_live _ c.args.key live in
    omega (arith, some, c.self.invariant)

pub invariant_of-self : goal.invariant_of-self
invariant_of-self c =
    let es = c.self.inside.live.entries in
    let live : finite.contains_key (finite.from_entries {R = key_cmp} es) c.args.key ≡ true =
    key_found es c.args.key ∙ ap is_some (sym c.remove.ensures.value) ∙ sym c.is_some.ensures ∙ c.if-is_some.true in
    ap (λ n. n - 1) c.self.invariant ∙ sym (one_less (finite.from_entries {R = key_cmp} es) c.args.key live)
    ∙ sym (ap finite.len (one_taken es c.remove.new.self.entries c.args.key c.remove.ensures.updates.0))

pub returns-then-is_some : goal.returns-then-is_some
returns-then-is_some c =
    one_taken c.self.inside.live.entries c.remove.new.self.entries c.args.key c.remove.ensures.updates.0
    ∙ ap (λ m. finite.remove m c.args.key) c.self.view_is

pub returns-else-is_some : goal.returns-else-is_some
returns-else-is_some c =
    one_taken c.self.inside.live.entries c.remove.new.self.entries c.args.key c.remove.ensures.updates.0
    ∙ ap (λ m. finite.remove m c.args.key) c.self.view_is
