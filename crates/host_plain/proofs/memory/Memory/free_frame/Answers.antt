use Rattle.std.proofs.Common.{◌≡◌, ◌<◌, length, rules, ap, sym, subst, ◌∙◌, true}
use Rattle.essa_state.specs.StateWord.{is_resident}
use Rattle.host_plain.specs.MemoryState.{MemoryState, word_at}
use Rattle.host_plain.proofs.Kept.{evicted-frees, evicted-other, evicted-count}
use Rattle.host_plain.proofs.memory.Memory.free_frame.Goals as goal

pub returns-in-Some-clause-frame : goal.returns-in-Some-clause-frame
returns-in-Some-clause-frame c = λ good.
    let resident : is_resident (word_at c.args.self.now c.in-Some.place).content ≡ true = search rules in
    subst (λ (m : MemoryState). 0 < m.free) (sym c.evict_at.ensures.memory)
    (evicted-frees c.args.self.now c.in-Some.place c.in-Some.hand c.args.pager.now resident (sym c.evict_at.ensures.done ∙ good))

pub returns-in-Some-clause-absent : goal.returns-in-Some-clause-absent
returns-in-Some-clause-absent c = λ place absent.
    let resident : is_resident (word_at c.args.self.now c.in-Some.place).content ≡ true = search rules in
    ap (λ (m : MemoryState). word_at m place) c.evict_at.ensures.memory
    ∙ evicted-other c.args.self.now c.in-Some.place c.in-Some.hand place c.args.pager.now resident absent

pub returns-in-Some-clause-count : goal.returns-in-Some-clause-count
returns-in-Some-clause-count c =
    ap (λ (m : MemoryState). length m.words) c.evict_at.ensures.memory
    ∙ evicted-count c.args.self.now c.in-Some.place c.in-Some.hand c.args.pager.now
