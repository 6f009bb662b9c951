-- A command may take as many turns after a turn that moved as before it: an unmap's mapping has as many pages.
use Rattle.std.specs.Prelude.{◌≡◌, ◌+◌, ◌*◌, ℕ, Some, refl}
use Rattle.std.proofs.Common.{sym, ap, subst, ◌∙◌}
use Rattle.cmm_types.specs.declared.page.Tag.{Tag}
use Rattle.cmm_types.specs.declared.plan.GuestPlan.{GuestPlan}
use Rattle.cmm_types.specs.declared.command.Op.{Op}
use Rattle.cmm_types.specs.declared.command.Op.TheVariants.{Read, Write, Sync, MapFile, MapAnon, Unmap, Load, Store, Pin, Unpin}
use Rattle.cmm_types.specs.declared.turn.Turn.TheVariants.{Moved}
use Rattle.cmm_flat.specs.Legal.{command_of}
use Rattle.cmm_io.specs.DiskView.{DiskView}
use Rattle.cmm_storage.specs.StorageView.{StorageView}
use Rattle.guest_rules.specs.declared.processor.Phase.TheVariants.{Teardown}
use Rattle.guest_rules.specs.GuestState.{GuestState, processor_at}
use Rattle.guest_rules.specs.Turns.{file_pages}
use Rattle.guest_rules.specs.Fit.{Fit}
use Rattle.guest_rules.specs.Alone.{pages_to_tear, turns_of}
use Rattle.guest_rules.proofs.Cases.TurnCases.{TurnCase, was_idle, was_refused, was_mapped, was_mapped_own, waited, missed, missed_rehinted, was_begun, was_gone, was_read, was_written}
use Rattle.guest_rules.proofs.Cases.TurnCases.{touch_failed, was_resolved, was_loaded, was_stored, entry_failed, fill_failed, was_filled, was_pinned, was_sync, SyncCase, not_there}
use Rattle.guest_rules.proofs.Cases.TurnCases.{sync_waited, sync_missed, sync_gone, was_clean, was_locked, write_missed, was_written_back, write_failed, was_room, RoomCase, room_gone}
use Rattle.guest_rules.proofs.Cases.TurnCases.{was_cleared, was_locked_to_go, room_missed, room_waited, had_no_page, page_out_missed, was_paged_out, page_out_failed, was_unmapped, was_torn}
use Rattle.guest_rules.proofs.Cases.TurnCases.{was_torn_own, Has, Starts, Wants}
use Rattle.guest_rules.proofs.Causes.CauseForms.{phase_after, fills_no_unmap, pages_out_no_unmap}
use Rattle.guest_rules.proofs.Causes.TakenOff.{tearing_has}
use Rattle.guest_rules.proofs.Bound.Ranks.{wants_not_unmap}
use Rattle.guest_rules.proofs.Bound.TearSteps.{HasBegun, has_begun, HasGoneOn, tear_goes_on, tear_own_goes_on, pages-gone_on}

-- the processor's command is an unmap of this number
abbrev Unmaps : GuestState → (cpu number : ℕ) → Type 0
Unmaps g cpu number = command_of g.plan cpu (processor_at g cpu).place ≡ Some (Unmap number)

-- g the guest, cpu the processor, number the number of a mapping
module _ (g : GuestState) (cpu number : ℕ) where
  one_command : (op : Op) → Unmaps g cpu number → command_of g.plan cpu (processor_at g cpu).place ≡ Some op → op ≡ Unmap number
  one_command op command command' = let both : Some op ≡ Some (Unmap number) = sym command' ∙ command in cc

  -- it needs no page, and isn't a sync
  not_wanting : (op : Op) (tag : Tag) → Unmaps g cpu number → Has g cpu op → Wants g cpu op tag → ⊥
  not_wanting op tag command has wants = wants_not_unmap g cpu op tag number wants (one_command op command has.command)

  not_syncing : (file : ℕ) → Unmaps g cpu number → Has g cpu (Sync file) → ⊥
  not_syncing file command has = let bad : Sync file ≡ Unmap number = one_command (Sync file) command has.command in cc bad

  -- so no turn of it is one of a sync's, nor is one to make room
  unmap_no_sync : (v w : StorageView) (d e : DiskView) (file index : ℕ) (h : GuestState) → Unmaps g cpu number → SyncCase g cpu file index v d h Moved w e → ⊥
  unmap_no_sync v w d e file index h command (not_there k none passes ew ee) = not_syncing file command k.has
  unmap_no_sync v w d e file index h command (sync_waited page owner k found locked eh et ew ee) = cc et
  unmap_no_sync v w d e file index h command (sync_missed why k eh et may misses ee) = cc et
  unmap_no_sync v w d e file index h command (sync_gone page found k has back may lost unused passes) = not_syncing file command k.has
  unmap_no_sync v w d e file index h command (was_clean page found k has back may told unchanged clean passes) = not_syncing file command k.has
  unmap_no_sync v w d e file index h command (was_locked page found k has back may there dirty value eh et) = not_syncing file command k.has
  unmap_no_sync v w d e file index h command (write_missed page why k eh et may misses ee) = cc et
  unmap_no_sync v w d e file index h command (was_written_back page bytes after k are written told passes) = not_syncing file command k.has
  unmap_no_sync v w d e file index h command (write_failed page cause after k back told why eh et) = cc et

  unmap_no_room : (v w : StorageView) (d e : DiskView) (op : Op) (h : GuestState) → Fit g v d → Unmaps g cpu number → RoomCase g cpu op v d h Moved w e → ⊥
  unmap_no_room v w d e op h f command (room_gone tag page found k goes back may lost unused eh et) = not_wanting op k.tag command k.starts.has k.wants
  unmap_no_room v w d e op h f command (was_cleared tag page found k goes back may there unchanged clean unused eh et) = not_wanting op k.tag command k.starts.has k.wants
  unmap_no_room v w d e op h f command (was_locked_to_go tag page found k goes back may there dirty value eh et) = not_wanting op k.tag command k.starts.has k.wants
  unmap_no_room v w d e op h f command (room_missed why k eh et may misses ee) = cc et
  unmap_no_room v w d e op h f command (room_waited page owner k none first locked eh et ew ee) = cc et
  unmap_no_room v w d e op h f command (had_no_page k none unlocked eh et ew ee) = cc et
  unmap_no_room v w d e op h f command (page_out_missed tag page why k eh et may misses ee) = cc et
  unmap_no_room v w d e op h f command (was_paged_out tag page bytes after k are written told eh et) =
      pages_out_no_unmap g v d cpu op page f k.has k.phase number (one_command op command k.has.command)
  unmap_no_room v w d e op h f command (page_out_failed tag page cause after k back told why eh et) = cc et

-- the pages that are to be taken off
abbrev ToTear : GuestState → (cpu number : ℕ) → ℕ
ToTear g cpu number = pages_to_tear g cpu number (processor_at g cpu).phase

-- the first turn of an unmap
pages-begun : (g : GuestState) (cpu number slot : ℕ) (h : GuestState) → Starts g cpu (Unmap number) → HasBegun g cpu number slot h → ToTear h cpu number ≡ ToTear g cpu number
pages-begun g cpu number slot h starts begun =
    ap (pages_to_tear h cpu number) begun.phase ∙ begun.pages ∙ ap (pages_to_tear g cpu number) (sym starts.start)

-- and each further one
pages-next : (g : GuestState) (cpu number slot index : ℕ) (h : GuestState) → HasGoneOn g cpu slot index h → ToTear h cpu number ≡ ToTear g cpu number
pages-next g cpu number slot index h k =
    ap (pages_to_tear h cpu number) (phase_after g cpu (Unmap k.tears.tearing.number) k.after (Teardown slot (index + 1)) h (tearing_has g cpu slot index k.tears) k.is)
    ∙ pages-gone_on g cpu slot index h k
    ∙ ap (pages_to_tear g cpu number) (sym k.tears.phase)

-- a mapping that is being unmapped has as many pages after a turn that moved
pages_kept : (g : GuestState) (v w : StorageView) (d e : DiskView) (cpu number : ℕ) (h : GuestState) → Fit g v d → Unmaps g cpu number → TurnCase g cpu v d h Moved w e
    → ToTear h cpu number ≡ ToTear g cpu number
pages_kept g v w d e cpu number h f command (was_idle none eh et ew ee) = absurd (cc et)
pages_kept g v w d e cpu number h f command (was_refused op refusal has start refused eh et ew ee) = absurd (cc et)
pages_kept g v w d e cpu number h f command (was_mapped other file first count writable slot starts free eh et ew ee) = absurd (cc et)
pages_kept g v w d e cpu number h f command (was_mapped_own other count slot starts free eh et ew ee) = absurd (cc et)
pages_kept g v w d e cpu number h f command (waited op page owner starts its locked eh et ew ee) = absurd (cc et)
pages_kept g v w d e cpu number h f command (missed op why has eh et may misses ee) = absurd (cc et)
pages_kept g v w d e cpu number h f command (missed_rehinted why op tag page found after starts wants has eh et back may told misses ee) = absurd (cc et)
pages_kept g v w d e cpu number h f command (was_begun op tag page rest found starts wants none free eh et back may value) =
    absurd (not_wanting g cpu number op tag command starts.has wants)
pages_kept g v w d e cpu number h f command (was_gone op tag page found starts wants has eh et back may lost unused quiet) =
    absurd (not_wanting g cpu number op tag command starts.has wants)
pages_kept g v w d e cpu number h f command (was_read file off len page found all after starts has back may are told eh et) = absurd (cc et)
pages_kept g v w d e cpu number h f command (was_written file off bytes page found all starts has back may are value eh et) = absurd (cc et)
pages_kept g v w d e cpu number h f command (touch_failed op tag page found after needs starts wants has back may told eh et risen) = absurd (cc et)
pages_kept g v w d e cpu number h f command (was_resolved op tag writes slot off page found after starts wants maps has can back may told eh et) =
    absurd (not_wanting g cpu number op tag command starts.has wants)
pages_kept g v w d e cpu number h f command (was_loaded other off len slot page writable all starts at_slot at are eh et may) = absurd (cc et)
pages_kept g v w d e cpu number h f command (was_stored other off bytes slot page found all starts at_slot at back may are value eh et) = absurd (cc et)
pages_kept g v w d e cpu number h f command (was_pinned pins other index slot tag page found after starts wants at has back may told eh et) = absurd (cc et)
pages_kept g v w d e cpu number h f command (entry_failed op writes slot off starts maps eh et may risen) = absurd (cc et)
pages_kept g v w d e cpu number h f command (fill_failed op page cause has phase eh et back unused why) = absurd (cc et)
pages_kept g v w d e cpu number h f command (was_filled op page tag has phase tagged eh et back value) =
    absurd (fills_no_unmap g v d cpu op page f has phase number (one_command g cpu number op command has.command))
pages_kept g v w d e cpu number h f command (was_sync file index k) = absurd (unmap_no_sync g cpu number v w d e file index h command k)
pages_kept g v w d e cpu number h f command (was_room op k) = absurd (unmap_no_room g cpu number v w d e op h f command k)
pages_kept g v w d e cpu number h f command (was_unmapped other slot starts found eh et ew ee) =
    let is : Unmap other ≡ Unmap number = one_command g cpu number (Unmap other) command starts.has.command in
    let same : other ≡ number = cc is in
    subst (λ n. ToTear h cpu n ≡ ToTear g cpu n) same (pages-begun g cpu other slot h starts (subst (HasBegun g cpu other slot) (sym eh) (has_begun g cpu other slot starts found)))
pages_kept g v w d e cpu number h f command (was_torn slot index its k) = pages-next g cpu number slot index h (tear_goes_on g v w d e cpu slot index h f k)
pages_kept g v w d e cpu number h f command (was_torn_own slot index its k) = pages-next g cpu number slot index h (tear_own_goes_on g v w d e cpu slot index h k)

pub turns_kept : (g : GuestState) (v w : StorageView) (d e : DiskView) (cpu : ℕ) (op : Op) (h : GuestState) → Fit g v d → command_of g.plan cpu (processor_at g cpu).place ≡ Some op
    → h.plan ≡ g.plan → TurnCase g cpu v d h Moved w e → turns_of h cpu op ≡ turns_of g cpu op
turns_kept g v w d e cpu (Sync file) h f command plan case = ap (λ (q : GuestPlan). 12 + 3 * file_pages q.files file) plan
turns_kept g v w d e cpu (Unmap number) h f command plan case = ap (λ n. 12 + 3 * n) (pages_kept g v w d e cpu number h f command case)
turns_kept g v w d e cpu (Read file off len) h f command plan case = refl
turns_kept g v w d e cpu (Write file off bytes) h f command plan case = refl
turns_kept g v w d e cpu (MapFile number file first count writable) h f command plan case = refl
turns_kept g v w d e cpu (MapAnon number count) h f command plan case = refl
turns_kept g v w d e cpu (Load number off len) h f command plan case = refl
turns_kept g v w d e cpu (Store number off bytes) h f command plan case = refl
turns_kept g v w d e cpu (Pin number index) h f command plan case = refl
turns_kept g v w d e cpu (Unpin number index) h f command plan case = refl
