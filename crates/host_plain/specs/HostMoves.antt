-- The host's own moves: one that is asked for on a page, and the reclaiming of many.
use Rattle.std.specs.Prelude.{ℕ, zero, suc, ◌+◌, Bool, true, false, Option, Some, None, Result, Ok, Err, if◌then◌else◌}
use Rattle.cmm_types.specs.declared.page.Move.{Move}
use Rattle.cmm_types.specs.declared.page.Move.TheVariants.{Discard, Preserve, Bring, Age}
use Rattle.cmm_types.specs.declared.page.Refused.{Refused as Reason}
use Rattle.cmm_io.specs.FailurePlan.{FailurePlan}
use Rattle.essa_state.specs.declared.fields.Fields.{Fields}
use Rattle.essa_state.specs.Moves.{move_answer}
use Rattle.host_clock.specs.Victim.{victim_of}
use Rattle.host_plain.specs.declared.moves.ApplyError.{ApplyError}
use Rattle.host_plain.specs.declared.moves.ApplyError.TheVariants.{Refused, Paging}
use Rattle.host_plain.specs.MemoryState.{MemoryState, word_at}
use Rattle.host_plain.specs.Eviction.{Paged, moved_page, evicted_at, frame_freed}

-- the answer, and the memory and the pager after it
pub record Applied : Type 0 where
  pub answer : Result Unit ApplyError
  pub memory : MemoryState
  pub pager : FailurePlan

abbrev pub move_answered : Paged → Applied
move_answered step =
    if step.done then record { answer = Ok tt; memory = step.memory; pager = step.pager }
    else record { answer = Err Paging; memory = step.memory; pager = step.pager }

abbrev pub brought_after : Paged → ℕ → Paged
brought_after step place = if step.done then moved_page Bring step.memory place step.pager else step

-- a bring finds a frame first
abbrev pub allowed_move : Move → MemoryState → ℕ → FailurePlan → Paged
allowed_move Discard m place pager = moved_page Discard m place pager
allowed_move Preserve m place pager = moved_page Preserve m place pager
allowed_move Bring m place pager = brought_after (frame_freed m pager) place
allowed_move Age m place pager = moved_page Age m place pager

-- a refused move changes nothing
abbrev pub applied_as : Result Fields Reason → Move → MemoryState → ℕ → FailurePlan → Applied
applied_as (Ok moved) action m place pager = move_answered (allowed_move action m place pager)
applied_as (Err why) action m place pager = record { answer = Err (Refused why); memory = m; pager = pager }

-- a move that is asked for on the page at a place
unfoldable pub applied : MemoryState → ℕ → Move → FailurePlan → Applied
applied m place action pager = applied_as (move_answer (word_at m place) action) action m place pager

-- how many victims were moved, whether a put failed, and the memory and the pager after it
pub record Reclaimed : Type 0 where
  pub count : ℕ
  pub paging : Bool
  pub memory : MemoryState
  pub pager : FailurePlan

abbrev pub reclaim_counted : ℕ → Paged → Reclaimed
reclaim_counted count step =
    if step.done then record { count = count + 1; paging = false; memory = step.memory; pager = step.pager }
    else record { count = count; paging = true; memory = step.memory; pager = step.pager }

abbrev pub more_at : Reclaimed → Option (ℕ × ℕ) → Reclaimed
more_at r None = r
more_at r (Some victim) = reclaim_counted r.count (evicted_at r.memory (Some victim) r.pager)

-- one victim more, if there is one and no put failed
unfoldable pub one_more : Reclaimed → Reclaimed
one_more r = if r.paging then r else more_at r (victim_of r.memory.words r.memory.hand)

-- victims one after the other, as many as are counted, if there are and no put fails
unfoldable pub reclaimed : MemoryState → FailurePlan → ℕ → Reclaimed
reclaimed m pager zero = record { count = 0; paging = false; memory = m; pager = pager }
reclaimed m pager (suc n) = one_more (reclaimed m pager n)
