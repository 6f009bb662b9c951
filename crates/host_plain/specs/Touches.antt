-- What a touch by the plain host gives, and what it leaves.
use Rattle.std.specs.Prelude.{ℕ, Result, Ok, Err, true, if◌then◌else◌}
use Rattle.cmm_types.specs.declared.page.Move.TheVariants.{Bring}
use Rattle.cmm_io.specs.FailurePlan.{FailurePlan}
use Rattle.essa_state.specs.StateWord.{is_discarded, is_preserved, is_resident}
use Rattle.essa_state.specs.Moves.{brought}
use Rattle.cmm_storage.specs.declared.storage.Trap.{Trap}
use Rattle.cmm_storage.specs.declared.storage.Trap.TheVariants.{Discarded, Paging}
use Rattle.cmm_types.specs.Bytes.{zero_page}
use Rattle.host_plain.specs.MemoryState.{MemoryState, word_at, body_at, with_moved, with_use, body_with_bytes}
use Rattle.host_plain.specs.Eviction.{Paged, moved_page, frame_freed}

-- the answer, and the memory and the pager after it
pub record Touched : Type 0 where
  pub answer : Result Unit Trap
  pub memory : MemoryState
  pub pager : FailurePlan

-- a page that became resident is used; otherwise the pager failed
abbrev pub used_after : Paged → ℕ → Touched
used_after step place =
    if step.done then record { answer = Ok tt; memory = with_use step.memory place; pager = step.pager }
    else record { answer = Err Paging; memory = step.memory; pager = step.pager }

-- the page at a place with a frame of zeros
abbrev pub zeroed_at : MemoryState → ℕ → MemoryState
zeroed_at m place = with_moved m place (brought (word_at m place)) (body_with_bytes (body_at m place) zero_page)

-- a page that isn't resident gets the bytes of its block, and one without contents gets zeros
abbrev pub frame_filled : MemoryState → ℕ → FailurePlan → Paged
frame_filled m place pager =
    if is_preserved (word_at m place).content then moved_page Bring m place pager
    else record { done = true; memory = zeroed_at m place; pager = pager }

abbrev pub filled_after : Paged → ℕ → Paged
filled_after step place = if step.done then frame_filled step.memory place step.pager else step

-- a discarded page is refused, a resident one is used, and for another a frame is found first
unfoldable pub touched_page : MemoryState → ℕ → FailurePlan → Touched
touched_page m place pager =
    if is_discarded (word_at m place) then record { answer = Err Discarded; memory = m; pager = pager }
    else if is_resident (word_at m place).content then record { answer = Ok tt; memory = with_use m place; pager = pager }
    else used_after (filled_after (frame_freed m pager) place) place
