-- Stretches of pages among which no frame is to be got.
use Rattle.std.specs.Prelude.{◌≡◌, ℕ, ◌<◌, ◌≤◌, List, false, slice_index_or}
use Rattle.essa_state.specs.declared.fields.Fields.{Fields}
use Rattle.host_clock.specs.Victim.{is_candidate}
use Rattle.essa_state.specs.StateWord.{opening_word}

-- none of the pages from a place on, and below another, is resident and free
abbrev pub NoCandidates : List Fields → ℕ → ℕ → Type 0
NoCandidates words from to = (place : ℕ) → from ≤ place → place < to → is_candidate (slice_index_or words place opening_word) ≡ false
