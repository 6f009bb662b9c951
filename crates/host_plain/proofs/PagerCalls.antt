-- What each call of a pager keeps, a touch keeps, which calls it at most twice.
use Rattle.std.specs.Prelude.{ℕ, Bool, true, false, Option, Some, None, Ok, Err, nat_lt, if◌then◌else◌}
use Rattle.cmm_types.specs.declared.page.Move.{Move}
use Rattle.cmm_types.specs.declared.page.Move.TheVariants.{Discard, Preserve, Bring, Age}
use Rattle.cmm_io.specs.FailurePlan.{FailurePlan, after_next}
use Rattle.essa_state.specs.StateWord.{is_resident, is_preserved, is_discarded}
use Rattle.cmm_storage.specs.declared.storage.Trap.TheVariants.{Discarded, Paging as NoPage}
use Rattle.host_clock.specs.Victim.{victim_of}
use Rattle.host_plain.specs.MemoryState.{MemoryState, word_at, with_use}
use Rattle.host_plain.specs.Eviction.{Paged, moved_page, reclaimed_page, evicted_at, evicted, frame_freed, passed_by}
use Rattle.host_plain.specs.Touches.{Touched, used_after, frame_filled, filled_after, touched_page}

module _ (Keeps : FailurePlan → Type 0) (next : (pager : FailurePlan) → Keeps pager → Keeps (after_next pager)) where
  either : (b : Bool) (first second : Paged) → Keeps first.pager → Keeps second.pager → Keeps (if b then first else second).pager
  either true first second one other = one
  either false first second one other = other

  moved_page-keeps : (action : Move) (m : MemoryState) (place : ℕ) (pager : FailurePlan) → Keeps pager → Keeps (moved_page action m place pager).pager
  moved_page-keeps Discard m place pager kept = kept
  moved_page-keeps Preserve m place pager kept = next pager kept
  moved_page-keeps Bring m place pager kept = next pager kept
  moved_page-keeps Age m place pager kept = kept

  evicted_at-keeps : (m : MemoryState) (v : Option (ℕ × ℕ)) (pager : FailurePlan) → Keeps pager → Keeps (evicted_at m v pager).pager
  unfolding reclaimed_page
  evicted_at-keeps m None pager kept = kept
  evicted_at-keeps m (Some v) pager kept = moved_page-keeps _ (passed_by m v) v.0 pager kept

  freed-keeps : (m : MemoryState) (pager : FailurePlan) → Keeps pager → Keeps (frame_freed m pager).pager
  unfolding frame_freed evicted
  freed-keeps m pager kept = either (nat_lt 0 m.free) _ _ kept (evicted_at-keeps m (victim_of m.words m.hand) pager kept)

  filled-keeps : (page : ℕ) (f : Paged) → Keeps f.pager → Keeps (frame_filled f.memory page f.pager).pager
  filled-keeps page f kept = either (is_preserved (word_at f.memory page).content) _ _ (next f.pager kept) kept

  used-keeps : (b : Bool) (page : ℕ) (step : Paged) → Keeps step.pager →
      Keeps (let t : Touched = if b then record { answer = Ok tt; memory = with_use step.memory page; pager = step.pager } else
      record { answer = Err NoPage; memory = step.memory; pager = step.pager } in t).pager
  used-keeps true page step kept = kept
  used-keeps false page step kept = kept

  -- a touch, whatever becomes of it
  pub touched_page-keeps : (m : MemoryState) (page : ℕ) (pager : FailurePlan) → Keeps pager → Keeps (touched_page m page pager).pager
  unfolding touched_page
  touched_page-keeps m page pager kept = at (is_discarded (word_at m page)) (is_resident (word_at m page).content)
    where
      freed_kept : Keeps (frame_freed m pager).pager
      freed_kept = freed-keeps m pager kept

      after : Keeps (filled_after (frame_freed m pager) page).pager
      after = either (frame_freed m pager).done (frame_filled (frame_freed m pager).memory page (frame_freed m pager).pager) (frame_freed m pager)
          (filled-keeps page (frame_freed m pager) freed_kept) freed_kept

      at : (d r : Bool) →
          Keeps (let t : Touched = if d then record { answer = Err Discarded; memory = m; pager = pager } else if r then record { answer = Ok tt; memory = with_use m page; pager = pager } else
          used_after (filled_after (frame_freed m pager) page) page in t).pager
      at true r = kept
      at false true = kept
      at false false = used-keeps (filled_after (frame_freed m pager) page).done page (filled_after (frame_freed m pager) page) after
