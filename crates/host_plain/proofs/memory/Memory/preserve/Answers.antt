use Rattle.std.proofs.Common.{◌∙◌, ap, arith, subst, sym, slice_set}
use Rattle.std.specs.Prelude.{refl}
use Rattle.cmm_types.specs.declared.page.Move.TheVariants.{Preserve}
use Rattle.cmm_io.specs.FailurePlan.{fails_next}
use Rattle.essa_state.specs.Moves.{preserved}
use Rattle.essa_state.specs.PageBody.{moved_body}
use Rattle.host_plain.specs.MemoryState.{MemoryState, IsMemory}
use Rattle.host_plain.specs.Eviction.{preserved_at}
use Rattle.host_plain.proofs.Keeping.{preserved_at-keeps}
use Rattle.host_plain.proofs.Seen.{sound-by, moved, preserved-word, after-good}
use Rattle.host_plain.proofs.memory.Memory.preserve.Goals as goal

pub returns-in-Ok-clause-memory : goal.returns-in-Ok-clause-memory
returns-in-Ok-clause-memory c =
    moved c.self.inside.words c.self.inside.bodies c.self.inside.hand c.args.place c.args.self.now c.self.view_is c.self.invariant c.requires.place c.set.new.self c.preserve.new.self preserved
    (moved_body Preserve)
    (c.set.ensures ∙ ap (slice_set c.self.inside.words c.args.place) (preserved-word _ c.get-word.result c.moved.result c.get-word.ensures c.moved.ensures)) c.in-Ok.ensures.body refl (omega arith)
    ∙ sym (after-good (fails_next c.args.pager.now) c.args.self.now (preserved_at c.args.self.now c.args.place) (sym c.in-Ok.ensures.failed))

pub invariant_of-self : goal.invariant_of-self
invariant_of-self c =
    let sound : IsMemory c.args.self.now = subst (λ (m : MemoryState). IsMemory m) c.self.view_is c.self.invariant in
    sound-by _ _ (returns-in-Ok-clause-memory c ∙ after-good (fails_next c.args.pager.now) c.args.self.now (preserved_at c.args.self.now c.args.place) (sym c.in-Ok.ensures.failed))
    (preserved_at-keeps c.args.self.now c.args.place sound c.requires.place c.requires.allowed).sound
