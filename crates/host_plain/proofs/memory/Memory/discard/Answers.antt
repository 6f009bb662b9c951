use Rattle.std.proofs.Common.{◌∙◌, ap, arith, subst, slice_set}
use Rattle.std.specs.Prelude.{refl}
use Rattle.cmm_types.specs.declared.page.Move.TheVariants.{Discard}
use Rattle.essa_state.specs.Moves.{discarded}
use Rattle.essa_state.specs.PageBody.{moved_body}
use Rattle.host_plain.specs.MemoryState.{MemoryState, IsMemory}
use Rattle.host_plain.proofs.Keeping.{discarded_at-keeps}
use Rattle.host_plain.proofs.Seen.{sound-by, moved, discarded-word}
use Rattle.host_plain.proofs.memory.Memory.discard.Goals as goal

pub returns : goal.returns
returns c =
    moved c.self.inside.words c.self.inside.bodies c.self.inside.hand c.args.place c.args.self.now c.self.view_is c.self.invariant c.requires.place c.set.new.self c.discard.new.self discarded
    (moved_body Discard)
    (c.set.ensures ∙ ap (slice_set c.self.inside.words c.args.place) (discarded-word _ c.get-word.result c.moved.result c.get-word.ensures c.moved.ensures)) c.discard.ensures refl (omega arith)

pub invariant_of-self : goal.invariant_of-self
invariant_of-self c =
    let sound : IsMemory c.args.self.now = subst (λ (m : MemoryState). IsMemory m) c.self.view_is c.self.invariant in
    sound-by _ _ (returns c) (discarded_at-keeps c.args.self.now c.args.place sound c.requires.place c.requires.allowed).sound
