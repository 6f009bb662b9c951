use Rattle.std.proofs.Common.{◌≡◌, ◌<◌, length, sym, subst, ◌∙◌, true}
use Rattle.essa_state.specs.StateWord.{is_resident}
use Rattle.host_plain.specs.MemoryState.{MemoryState, word_at}
use Rattle.host_plain.specs.Eviction.{words_passed, passed_by}
use Rattle.host_plain.proofs.Kept.{length-aged_words, aged_words-resident}
use Rattle.host_plain.proofs.memory.Memory.evict_at.Goals as goal

pub reclaim_page-requires-clause-place : goal.reclaim_page-requires-clause-place
unfolding passed_by
reclaim_page-requires-clause-place c =
    subst (λ (m : MemoryState). c.args.place < length m.words) (sym c.pass.ensures)
    (rw (length-aged_words c.args.self.now.words c.args.self.now.hand (words_passed c.args.self.now.words c.args.self.now.hand c.args.place)) c.requires.place)

pub reclaim_page-requires-clause-resident : goal.reclaim_page-requires-clause-resident
unfolding passed_by
reclaim_page-requires-clause-resident c =
    subst (λ (m : MemoryState). is_resident (word_at m c.args.place).content ≡ true) (sym c.pass.ensures)
    (aged_words-resident c.args.self.now.words c.args.self.now.hand (words_passed c.args.self.now.words c.args.self.now.hand c.args.place) c.args.place ∙ c.requires.resident)
