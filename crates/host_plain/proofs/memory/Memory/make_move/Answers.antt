use Rattle.std.proofs.Common.{◌≡◌, ◌<◌, Ok, length, rules, subst}
use Rattle.cmm_types.specs.declared.page.Move.TheVariants.{Age}
use Rattle.essa_state.specs.declared.fields.Fields.{Fields}
use Rattle.essa_state.specs.Moves.{move_answer}
use Rattle.host_plain.specs.Bodies.{memory_of}
use Rattle.host_plain.proofs.Kept.{age_kept}
use Rattle.host_plain.proofs.memory.Memory.make_move.Goals as goal

pub invariant_of-self : goal.invariant_of-self
invariant_of-self c =
    let below : c.args.place < length c.self.inside.words = search rules in
    rw c.set.ensures (age_kept (memory_of c.self.inside.words c.self.inside.bodies c.self.inside.hand) c.args.place c.moved.result c.self.invariant below
    (subst (λ (w : Fields). move_answer w Age ≡ Ok c.moved.result) c.get-word.ensures c.moved.ensures))
