-- What every turn leaves: the guest's plan as it was, and no page discarded that may not be.
use Rattle.std.specs.Prelude.{◌≡◌, ℕ, true, false}
use Rattle.std.proofs.Common.{arith, sym, ap, inl, inr, ◌∙◌}
use Rattle.std.proofs.lemmas.Bool.{cases_eq}
use Rattle.cmm_types.specs.declared.command.Op.{Op}
use Rattle.cmm_types.specs.declared.turn.Turn.{Turn}
use Rattle.cmm_io.specs.DiskView.{DiskView}
use Rattle.essa_state.specs.PageValue.{PageValue, Contents, IsMadeUnused, is_lost, stable_contents}
use Rattle.essa_state.specs.Laws.PageValueLaws.{may_discard}
use Rattle.cmm_storage.specs.StorageView.{StorageView, Keeps}
use Rattle.guest_rules.specs.declared.parts.Parts.{Parts}
use Rattle.guest_rules.specs.GuestState.{GuestState, with_phase, entered, answered, next_command}
use Rattle.guest_rules.specs.Rows.{handled, freed, released}
use Rattle.guest_rules.specs.Cause.{NoWrongDiscard}
use Rattle.guest_rules.proofs.Cases.TurnCases.{TurnCase, was_idle, was_refused, was_mapped, was_mapped_own, waited, missed, missed_rehinted, was_begun, was_gone, was_read, was_written, touch_failed}
use Rattle.guest_rules.proofs.Cases.TurnCases.{was_resolved, was_loaded, was_stored, entry_failed, fill_failed, was_filled, GivenBack, AllMay, IsRehinted, was_pinned, was_sync, SyncCase, not_there}
use Rattle.guest_rules.proofs.Cases.TurnCases.{sync_waited, sync_missed, sync_gone, was_clean, was_locked, write_missed, was_written_back, write_failed, was_unmapped, was_torn, TearCase}
use Rattle.guest_rules.proofs.Cases.TurnCases.{had_no_entry, tear_missed, tear_gone, was_cleared_at, was_torn_own, TearOwnCase, had_no_page_of_its, tear_waited, tear_own_missed, was_torn_off}
use Rattle.guest_rules.proofs.Cases.TurnCases.{was_room, RoomCase, room_gone, was_cleared, was_locked_to_go, room_missed, room_waited, had_no_page, page_out_missed, was_paged_out, page_out_failed}
use Rattle.guest_rules.proofs.Cases.Passed.{HasPassed, goes_on, is_done, has_passed}
use Rattle.guest_rules.proofs.Cases.TornPast.{tears_on, has_ended}
use Rattle.guest_rules.proofs.Causes.TornSlots.{IsPast, is_past}
use Rattle.guest_rules.proofs.Rows.Values.{unused_there}

-- what the laws say that walk all cases for one thing each
pub record TurnSummary (g h : GuestState) (v w : StorageView) : Type 0 where
  pub plan : h.plan ≡ g.plan
  pub discards : NoWrongDiscard v w

-- ---- the plan behind a page of a sync, and of an unmap

plan_passed : (g : GuestState) (cpu file index : ℕ) (after : Parts) (h : GuestState) (t : Turn) → HasPassed g cpu file index after h t → h.plan ≡ g.plan
unfolding with_phase entered
plan_passed g cpu file index after h t (goes_on more eh et) = ap (λ q. q.plan) eh
plan_passed g cpu file index after h t (is_done last eh et) = ap (λ q. q.plan) eh

plan_torn_past : (g : GuestState) (cpu slot index : ℕ) (after : Parts) (h : GuestState) (t : Turn) → IsPast g cpu slot index after h t → h.plan ≡ g.plan
unfolding with_phase next_command
plan_torn_past g cpu slot index after h t (tears_on more eh et) = ap (λ q. q.plan) eh
plan_torn_past g cpu slot index after h t (has_ended last eh et) = ap (λ q. q.plan) eh

-- ---- no page is discarded wrongly

same_pages : (v w : StorageView) → w ≡ v → NoWrongDiscard v w
same_pages v w same page below lost = inl (ap (λ (q : StorageView). is_lost (q.values page).contents) (sym same) ∙ lost)

all_pages : (v w : StorageView) (d e : DiskView) → AllMay v d w e → NoWrongDiscard v w
all_pages v w d e may page below lost = may_discard (v.values page) (w.values page) (may.values page below) lost

-- all pages but one, which isn't lost
but_kept : (page : ℕ) (v w : StorageView) → Keeps v page w → is_lost (w.values page).contents ≡ false → NoWrongDiscard v w
but_kept page v w keeps there i below lost = elim (cases_eq i page) [
  | inl same ↦ let bad : true ≡ false = sym (rw same at lost) ∙ there in absurd cc
  | inr other ↦ may_discard (v.values i) (w.values i) (keeps.others i other) lost
]

but_one : (page : ℕ) (v w : StorageView) (d e : DiskView) → GivenBack page v d w e → is_lost (w.values page).contents ≡ false → NoWrongDiscard v w
but_one page v w d e back there = but_kept page v w back.keeps there

stable_kept : (contents : Contents) → is_lost (stable_contents contents) ≡ false
stable_kept contents = grind arith

unused_kept : (old new : PageValue) → IsMadeUnused old new → is_lost new.contents ≡ false
unused_kept old new unused = unused_there new.contents unused.stands

told_kept : (parts : Parts) (page : ℕ) (found : PageValue) (after : Parts) (left : PageValue) → IsRehinted parts page found after left → is_lost left.contents ≡ false
told_kept parts page found after left told = ap (λ q. is_lost q.contents) told.value ∙ told.there

-- ---- one walk for both

-- g and h the guest before and after, v and w its storage before and after, d and e its disk before and after, cpu the processor, t the turn
module _ (g : GuestState) (v w : StorageView) (d e : DiskView) (cpu : ℕ) (h : GuestState) (t : Turn) where
  sync_summary : (file index : ℕ) → SyncCase g cpu file index v d h t w e → TurnSummary g h v w
  unfolding with_phase entered
  sync_summary file index (not_there k none passes ew ee) = record { plan = plan_passed g cpu file index _ h t (has_passed g cpu file index g.parts h t passes); discards = same_pages v w ew }
  sync_summary file index (sync_waited page owner k found locked eh et ew ee) = record { plan = ap (λ q. q.plan) eh; discards = same_pages v w ew }
  sync_summary file index (sync_missed why k eh et may misses ee) = record { plan = ap (λ q. q.plan) eh; discards = all_pages v w d e may }
  sync_summary file index (sync_gone page found k has back may lost unused passes) =
      record { plan = plan_passed g cpu file index _ h t (has_passed g cpu file index (handled g.parts page) h t passes); discards = but_one page v w d e back (unused_kept _ _ unused) }
  sync_summary file index (was_clean page found k has back may told unchanged clean passes) =
      record { plan = plan_passed g cpu file index _ h t (has_passed g cpu file index g.parts h t passes); discards = but_one page v w d e back (told_kept _ _ _ _ _ told) }
  sync_summary file index (was_locked page found k has back may there dirty value eh et) =
      record { plan = ap (λ q. q.plan) eh; discards = but_one page v w d e back (ap (λ q. is_lost q.contents) value ∙ there) }
  sync_summary file index (write_missed page why k eh et may misses ee) = record { plan = ap (λ q. q.plan) eh; discards = all_pages v w d e may }
  sync_summary file index (was_written_back page bytes after k are written told passes) =
      record { plan = plan_passed g cpu file index _ h t (has_passed g cpu file index after h t passes); discards = but_kept page v w written.keeps (told_kept _ _ _ _ _ told) }
  sync_summary file index (write_failed page cause after k back told why eh et) = record { plan = ap (λ q. q.plan) eh; discards = but_one page v w d e back (told_kept _ _ _ _ _ told) }

  room_summary : (op : Op) → RoomCase g cpu op v d h t w e → TurnSummary g h v w
  unfolding with_phase entered
  room_summary op (room_gone tag page found k goes back may lost unused eh et) = record { plan = ap (λ q. q.plan) eh; discards = but_one page v w d e back (unused_kept _ _ unused) }
  room_summary op (was_cleared tag page found k goes back may there unchanged clean unused eh et) = record { plan = ap (λ q. q.plan) eh; discards = but_one page v w d e back (unused_kept _ _ unused) }
  room_summary op (was_locked_to_go tag page found k goes back may there dirty value eh et) =
      record { plan = ap (λ q. q.plan) eh; discards = but_one page v w d e back (ap (λ q. is_lost q.contents) value ∙ there) }
  room_summary op (room_missed why k eh et may misses ee) = record { plan = ap (λ q. q.plan) eh; discards = all_pages v w d e may }
  room_summary op (room_waited page owner k none first locked eh et ew ee) = record { plan = ap (λ q. q.plan) eh; discards = same_pages v w ew }
  room_summary op (had_no_page k none unlocked eh et ew ee) = record { plan = ap (λ q. q.plan) eh; discards = same_pages v w ew }
  room_summary op (page_out_missed tag page why k eh et may misses ee) = record { plan = ap (λ q. q.plan) eh; discards = all_pages v w d e may }
  room_summary op (was_paged_out tag page bytes after k are written told eh et) = record { plan = ap (λ q. q.plan) eh; discards = but_kept page v w written.keeps (told_kept _ _ _ _ _ told) }
  room_summary op (page_out_failed tag page cause after k back told why eh et) = record { plan = ap (λ q. q.plan) eh; discards = but_one page v w d e back (told_kept _ _ _ _ _ told) }

  tear_summary : (slot index : ℕ) → TearCase g cpu slot index v d h t w e → TurnSummary g h v w
  tear_summary slot index (had_no_entry k none passes ew ee) = record { plan = plan_torn_past g cpu slot index g.parts h t (is_past g cpu slot index g.parts h t passes); discards = same_pages v w ew }
  tear_summary slot index (tear_missed why k eh et may misses ee) = record { plan = ap (λ q. q.plan) eh; discards = all_pages v w d e may }
  tear_summary slot index (tear_gone tag pte found k entry has back may lost unused passes) = record {
    plan = plan_torn_past g cpu slot index (handled g.parts pte.page) h t (is_past g cpu slot index (handled g.parts pte.page) h t passes);
    discards = but_one pte.page v w d e back (unused_kept _ _ unused);
  }
  tear_summary slot index (was_cleared_at tag pte found after k entry shows back may told passes) =
      record { plan = plan_torn_past g cpu slot index after h t (is_past g cpu slot index after h t passes); discards = but_one pte.page v w d e back (told_kept _ _ _ _ _ told) }

  tear_own_summary : (slot index : ℕ) → TearOwnCase g cpu slot index v d h t w e → TurnSummary g h v w
  tear_own_summary slot index (had_no_page_of_its k none passes ew ee) =
      record { plan = plan_torn_past g cpu slot index (released g.parts slot index) h t (is_past g cpu slot index (released g.parts slot index) h t passes); discards = same_pages v w ew }
  tear_own_summary slot index (tear_waited page owner k found locked eh et ew ee) = record { plan = ap (λ q. q.plan) eh; discards = same_pages v w ew }
  tear_own_summary slot index (tear_own_missed why k eh et may misses ee) = record { plan = ap (λ q. q.plan) eh; discards = all_pages v w d e may }
  tear_own_summary slot index (was_torn_off page found k has back may unused passes) = record {
    plan = let after = released (freed g.parts page) slot index in plan_torn_past g cpu slot index after h t (is_past g cpu slot index after h t passes);
    discards = but_one page v w d e back (unused_kept _ _ unused);
  }

  pub turn_summary : TurnCase g cpu v d h t w e → TurnSummary g h v w
  unfolding with_phase entered answered
  turn_summary (was_idle none eh et ew ee) = record { plan = ap (λ q. q.plan) eh; discards = same_pages v w ew }
  turn_summary (was_refused op refusal has start refused eh et ew ee) = record { plan = ap (λ q. q.plan) eh; discards = same_pages v w ew }
  turn_summary (was_mapped number file first count writable slot starts free eh et ew ee) = record { plan = ap (λ q. q.plan) eh; discards = same_pages v w ew }
  turn_summary (was_mapped_own number count slot starts free eh et ew ee) = record { plan = ap (λ q. q.plan) eh; discards = same_pages v w ew }
  turn_summary (waited op page owner starts its locked eh et ew ee) = record { plan = ap (λ q. q.plan) eh; discards = same_pages v w ew }
  turn_summary (missed op why has eh et may misses ee) = record { plan = ap (λ q. q.plan) eh; discards = all_pages v w d e may }
  turn_summary (missed_rehinted why op tag page found after starts wants has eh et back may told misses ee) =
      record { plan = ap (λ q. q.plan) eh; discards = but_one page v w d e back (told_kept _ _ _ _ _ told) }
  turn_summary (was_begun op tag page rest found starts wants none free eh et back may value) =
      record { plan = ap (λ q. q.plan) eh; discards = but_one page v w d e back (ap (λ q. is_lost q.contents) value ∙ stable_kept found.contents) }
  turn_summary (was_gone op tag page found starts wants has eh et back may lost unused quiet) = record { plan = ap (λ q. q.plan) eh; discards = but_one page v w d e back (unused_kept _ _ unused) }
  turn_summary (was_read file off len page found all after starts has back may are told eh et) = record { plan = ap (λ q. q.plan) eh; discards = but_one page v w d e back (told_kept _ _ _ _ _ told) }
  turn_summary (was_written file off bytes page found all starts has back may are value eh et) =
      record { plan = ap (λ q. q.plan) eh; discards = but_one page v w d e back (ap (λ q. is_lost q.contents) value) }
  turn_summary (touch_failed op tag page found after needs starts wants has back may told eh et risen) =
      record { plan = ap (λ q. q.plan) eh; discards = but_one page v w d e back (told_kept _ _ _ _ _ told) }
  turn_summary (was_resolved op tag writes slot off page found after starts wants maps has can back may told eh et) =
      record { plan = ap (λ q. q.plan) eh; discards = but_one page v w d e back (told_kept _ _ _ _ _ told) }
  turn_summary (was_loaded number off len slot page writable all starts at_slot at are eh et may) = record { plan = ap (λ q. q.plan) eh; discards = all_pages v w d e may }
  turn_summary (was_stored number off bytes slot page found all starts at_slot at back may are value eh et) =
      record { plan = ap (λ q. q.plan) eh; discards = but_one page v w d e back (ap (λ q. is_lost q.contents) value) }
  turn_summary (was_pinned pins number index slot tag page found after starts wants at has back may told eh et) =
      record { plan = ap (λ q. q.plan) eh; discards = but_one page v w d e back (told_kept _ _ _ _ _ told) }
  turn_summary (entry_failed op writes slot off starts maps eh et may risen) = record { plan = ap (λ q. q.plan) eh; discards = all_pages v w d e may }
  turn_summary (fill_failed op page cause has phase eh et back unused why) = record { plan = ap (λ q. q.plan) eh; discards = but_one page v w d e back (unused_kept _ _ unused) }
  turn_summary (was_filled op page tag has phase tagged eh et back value) = record { plan = ap (λ q. q.plan) eh; discards = but_one page v w d e back (ap (λ q. is_lost q.contents) value) }
  turn_summary (was_sync file index k) = sync_summary file index k
  turn_summary (was_room op k) = room_summary op k
  turn_summary (was_unmapped number slot starts found eh et ew ee) = record { plan = ap (λ q. q.plan) eh; discards = same_pages v w ew }
  turn_summary (was_torn slot index its k) = tear_summary slot index k
  turn_summary (was_torn_own slot index its k) = tear_own_summary slot index k
