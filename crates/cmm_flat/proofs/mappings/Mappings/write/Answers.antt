use Rattle.std.proofs.Common.{sym, ap, ◌∙◌, subst, refl, IsSome, None}
use Rattle.std.specs.FinMap as finite
use Rattle.cmm_flat.specs.declared.mapping.Mapping.{Mapping}
use Rattle.cmm_flat.specs.Mapping.{key_cmp, written}
use Rattle.cmm_flat.specs.Laws.KeyLaws.{as_many}
use Rattle.cmm_flat.proofs.Keys.{one_given, here, same_value, no_value}
use Rattle.cmm_flat.proofs.mappings.Mappings.write.Goals as goal

pub returns-in_default : goal.returns-in_default
returns-in_default c x e =
    no_value (finite.get c.args.self.now c.args.key) x (here c.args.self.now c.self.inside.live.entries c.args.key None c.self.view_is (c.in_default.ensures.value)) e

pub write-requires : goal.write-requires
write-requires c = c.requires _ (here c.args.self.now c.self.inside.live.entries c.args.key _ c.self.view_is c.in-Some.ensures.value)

pub invariant_of-self-2 : goal.invariant_of-self-2
invariant_of-self-2 c =
    let es = c.self.inside.live.entries in
    let some : IsSome (finite.get (finite.from_entries {R = key_cmp} es) c.args.key) =
    subst IsSome (sym (here (finite.from_entries {R = key_cmp} es) es c.args.key _ refl c.in-Some.ensures.value)) refl in
    c.self.invariant
    ∙ sym (as_many (finite.from_entries {R = key_cmp} es) c.args.key c.write.new.self some)
    ∙ sym (ap finite.len (one_given es (c.get_mut.follows.lender c.write.new.self).entries c.args.key c.write.new.self
    ((c.get_mut.follows.holds c.write.new.self).3 (subst IsSome c.in-Some.ensures.value refl)).0))

pub returns : goal.returns
returns c x e =
    let same = same_value _ c.in-Some.mapping.now x (here c.args.self.now c.self.inside.live.entries c.args.key _ c.self.view_is c.in-Some.ensures.value) e in
    one_given c.self.inside.live.entries (c.get_mut.follows.lender c.write.new.self).entries c.args.key c.write.new.self
    ((c.get_mut.follows.holds c.write.new.self).3 (subst IsSome c.in-Some.ensures.value refl)).0
    ∙ ap (λ m. finite.insert m c.args.key c.write.new.self) c.self.view_is
    ∙ ap (finite.insert c.args.self.now c.args.key) (c.write.ensures ∙ ap (λ (m : Mapping). written m c.args.off c.args.bytes.now) same)
