use Rattle.std.proofs.Common.{◌≡◌, ◌∙◌, ap, sym, subst, is_ok, true}
use Rattle.essa_state.specs.declared.fields.Fields.{Fields}
use Rattle.essa_state.specs.Moves.{move_answer}
use Rattle.host_plain.specs.MemoryState.{MemoryState, IsMemory, word_at}
use Rattle.host_plain.specs.Keeping.{HostKeeps}
use Rattle.host_plain.proofs.Keeping.{allowed_move-keeps}
use Rattle.host_plain.proofs.memory.Memory.apply.Goals as goal

pub returns-in-Ok-make_move-clause-keeps : goal.returns-in-Ok-make_move-clause-keeps
returns-in-Ok-make_move-clause-keeps c =
    let sound : IsMemory c.args.self.now = subst IsMemory c.self.view_is c.self.invariant in
    let found : c.get.result ≡ word_at c.args.self.now c.args.place =
    c.get.ensures ∙ ap (λ (m : MemoryState). word_at m c.args.place) c.self.view_is in
    let allowed : is_ok (move_answer (word_at c.args.self.now c.args.place) c.args.action) ≡ true =
    subst (λ (w : Fields). is_ok (move_answer w c.args.action) ≡ true) found (sym (ap is_ok c.in-Ok.ensures.answer)) in
    subst (λ (m : MemoryState). HostKeeps c.args.self.now m) (sym c.make_move.ensures.memory)
    (allowed_move-keeps c.args.action c.args.self.now c.args.place c.args.pager.now sound c.requires.place allowed)

pub returns-in-Err-make_move-clause-keeps : goal.returns-in-Err-make_move-clause-keeps
returns-in-Err-make_move-clause-keeps c =
    let sound : IsMemory c.args.self.now = subst IsMemory c.self.view_is c.self.invariant in
    let found : c.get.result ≡ word_at c.args.self.now c.args.place =
    c.get.ensures ∙ ap (λ (m : MemoryState). word_at m c.args.place) c.self.view_is in
    let allowed : is_ok (move_answer (word_at c.args.self.now c.args.place) c.args.action) ≡ true =
    subst (λ (w : Fields). is_ok (move_answer w c.args.action) ≡ true) found (sym (ap is_ok c.in-Ok.ensures.answer)) in
    subst (λ (m : MemoryState). HostKeeps c.args.self.now m) (sym c.make_move.ensures.memory)
    (allowed_move-keeps c.args.action c.args.self.now c.args.place c.args.pager.now sound c.requires.place allowed)
