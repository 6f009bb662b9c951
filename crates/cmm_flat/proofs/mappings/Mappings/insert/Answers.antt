use Rattle.std.proofs.Common.{sym, ap, ◌∙◌, ◌+◌}
use Rattle.std.specs.FinMap as finite
use Rattle.cmm_flat.specs.Mapping.{key_cmp}
use Rattle.cmm_flat.specs.Laws.KeyLaws.{one_more}
use Rattle.cmm_flat.proofs.Keys.{one_given}
use Rattle.cmm_flat.proofs.mappings.Mappings.insert.Goals as goal

pub returns-clause-ok : goal.returns-clause-ok
returns-clause-ok c =
    one_given c.self.inside.live.entries c.insert.new.self.entries c.args.key c.args.mapping c.in_ok-insert.ensures.updates.0
    ∙ ap (λ m. finite.insert m c.args.key c.args.mapping) c.self.view_is

pub invariant_of-self-2 : goal.invariant_of-self-2
invariant_of-self-2 c =
    let new = ap (λ m. finite.contains_key m c.args.key) c.self.view_is ∙ c.requires.new in
    ap (λ n. n + 1) c.self.invariant ∙ sym (one_more (finite.from_entries {R = key_cmp} c.self.inside.live.entries) c.args.key c.args.mapping new)
    ∙ sym (ap finite.len (one_given c.self.inside.live.entries c.insert.new.self.entries c.args.key c.args.mapping c.in_ok-insert.ensures.updates.0))
