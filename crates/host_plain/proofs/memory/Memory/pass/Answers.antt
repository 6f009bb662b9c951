use Rattle.std.proofs.Common.{◌≡◌, ◌∙◌, List, ap, subst}
use Rattle.essa_state.specs.declared.fields.Fields.{Fields}
use Rattle.host_plain.specs.MemoryState.{MemoryState, IsMemory}
use Rattle.host_plain.specs.Bodies.{memory_of}
use Rattle.host_plain.specs.Eviction.{aged_words, words_passed, passed_by}
use Rattle.host_plain.proofs.Keeping.{passed_by-keeps}
use Rattle.host_plain.proofs.Seen.{sound-by}
use Rattle.host_plain.proofs.memory.Memory.pass.Goals as goal

pub returns : goal.returns
unfolding passed_by
returns c =
    let aged : c.age.new.self ≡ aged_words c.self.inside.words c.self.inside.hand (words_passed c.self.inside.words c.self.inside.hand c.args.place) =
    c.age.ensures ∙ ap (aged_words c.self.inside.words c.self.inside.hand) c.words_passed-count.ensures.passed in
    ap (λ (ws : List Fields). memory_of ws c.self.inside.bodies c.args.hand) aged
    ∙ ap (λ (m : MemoryState). passed_by m (c.args.place, c.args.hand)) c.self.view_is

pub invariant_of-self : goal.invariant_of-self
invariant_of-self c =
    let sound : IsMemory c.args.self.now = subst (λ (m : MemoryState). IsMemory m) c.self.view_is c.self.invariant in
    sound-by _ _ (returns c) (passed_by-keeps c.args.self.now c.args.place c.args.hand sound c.requires.place c.requires.hand).sound
