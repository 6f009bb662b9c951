-- How the host gets a frame: a free one, or that of a victim after the ages and the reclaiming move.
use Rattle.std.specs.Prelude.{ℕ, zero, suc, ◌+◌, ◌-◌, List, length, Bool, true, false, not, Option, Some, None, nat_lt, if◌then◌else◌, slice_index_or, slice_set}
use Rattle.cmm_types.specs.declared.page.Move.{Move}
use Rattle.cmm_types.specs.declared.page.Move.TheVariants.{Discard, Preserve, Bring, Age}
use Rattle.cmm_io.specs.FailurePlan.{FailurePlan, fails_next, after_next}
use Rattle.essa_state.specs.declared.fields.Fields.{Fields}
use Rattle.essa_state.specs.Moves.{reclaiming, aged, brought, discarded, preserved}
use Rattle.essa_state.specs.PageBody.{moved_body}
use Rattle.host_clock.specs.Victim.{is_candidate, victim_of}
use Rattle.marks.specs.Marking.{wrapped}
use Rattle.host_plain.specs.MemoryState.{MemoryState, word_at, body_at, with_word, with_moved}
use Rattle.essa_state.specs.StateWord.{opening_word}

abbrev pub word_in : List Fields → ℕ → Fields
word_in words place = slice_index_or words place opening_word

abbrev pub aged_candidate : Fields → Fields
aged_candidate word = if is_candidate word then aged word else word

-- the words from the hand on, as many as are counted, after each candidate among them was aged
unfoldable pub aged_words : List Fields → ℕ → ℕ → List Fields
aged_words words hand zero = words
aged_words words hand (suc n) =
    let before = aged_words words hand n in
    slice_set before (wrapped (length words) (hand + n)) (aged_candidate (word_in before (wrapped (length words) (hand + n))))

-- how many places a place is from the hand, in cyclic order
abbrev pub steps_from : ℕ → ℕ → ℕ → ℕ
steps_from count hand place = if nat_lt place hand then place + count - hand else place - hand

-- how many words the hand passes on its way to the victim: those before it, and all of them where the victim was
-- referenced, since then each candidate was
abbrev pub words_passed : List Fields → ℕ → ℕ → ℕ
words_passed words hand place = if (word_in words place).referenced then length words else steps_from (length words) hand place

-- the ages before a victim's move, and the hand after it
unfoldable pub passed_by : MemoryState → ℕ × ℕ → MemoryState
passed_by m victim = record m { words = aged_words m.words m.hand (words_passed m.words m.hand victim.0); hand = victim.1 }

-- what a step of the host's that may call a pager gives: whether it was done, and the memory and the pager after it
pub record Paged : Type 0 where
  pub done : Bool
  pub memory : MemoryState
  pub pager : FailurePlan

abbrev pub discarded_at : MemoryState → ℕ → MemoryState
discarded_at m place = with_moved m place (discarded (word_at m place)) (moved_body Discard (body_at m place))

abbrev pub preserved_at : MemoryState → ℕ → MemoryState
preserved_at m place = with_moved m place (preserved (word_at m place)) (moved_body Preserve (body_at m place))

abbrev pub brought_at : MemoryState → ℕ → MemoryState
brought_at m place = with_moved m place (brought (word_at m place)) (moved_body Bring (body_at m place))

abbrev pub aged_at : MemoryState → ℕ → MemoryState
aged_at m place = with_word m place (aged (word_at m place))

-- a step that calls the pager once: a failed call leaves the memory
abbrev pub paged : MemoryState → MemoryState → FailurePlan → Paged
paged before after pager = record { done = not (fails_next pager); memory = if fails_next pager then before else after; pager = after_next pager }

-- the page at a place after a move that isn't refused; a bring has a free frame. Where the pager fails the page stays
abbrev pub moved_page : Move → MemoryState → ℕ → FailurePlan → Paged
moved_page Discard m place pager = record { done = true; memory = discarded_at m place; pager = pager }
moved_page Preserve m place pager = paged m (preserved_at m place) pager
moved_page Bring m place pager = paged m (brought_at m place) pager
moved_page Age m place pager = record { done = true; memory = aged_at m place; pager = pager }

-- the resident page at a place after the move by which its frame is got
unfoldable pub reclaimed_page : MemoryState → ℕ → FailurePlan → Paged
reclaimed_page m place pager = moved_page (reclaiming (word_at m place)) m place pager

-- the victim's page after its reclaiming move; ages and the new hand stay whatever becomes of it
abbrev pub evicted_at : MemoryState → Option (ℕ × ℕ) → FailurePlan → Paged
evicted_at m None pager = record { done = false; memory = m; pager = pager }
evicted_at m (Some victim) pager = reclaimed_page (passed_by m victim) victim.0 pager

unfoldable pub evicted : MemoryState → FailurePlan → Paged
evicted m pager = evicted_at m (victim_of m.words m.hand) pager

-- a frame is free afterwards, unless a put failed
unfoldable pub frame_freed : MemoryState → FailurePlan → Paged
frame_freed m pager = if nat_lt 0 m.free then record { done = true; memory = m; pager = pager } else evicted m pager
