-- Each turn of a sync that moved leaves fewer turns, over a storage that never misses.
use Rattle.std.specs.Prelude.{◌≡◌, ◌<◌, ◌≤◌, ◌+◌, ◌*◌, ℕ, suc, true, false, refl}
use Rattle.std.proofs.Common.{arith, inr, sym, ◌∙◌}
use Rattle.cmm_types.specs.declared.command.Op.TheVariants.{Sync}
use Rattle.cmm_types.specs.declared.turn.Turn.TheVariants.{Moved, Again}
use Rattle.cmm_types.specs.declared.turn.Why.{Why}
use Rattle.cmm_io.specs.DiskView.{DiskView}
use Rattle.cmm_storage.specs.StorageView.{StorageView}
use Rattle.guest_rules.specs.declared.parts.Parts.{Parts}
use Rattle.guest_rules.specs.declared.processor.Phase.TheVariants.{Sync as AtSync, SyncWrite}
use Rattle.guest_rules.specs.GuestState.{GuestState, with_parts, with_phase}
use Rattle.guest_rules.specs.Rows.{handled, with_change}
use Rattle.guest_rules.specs.Syncs.{locked}
use Rattle.guest_rules.specs.Turns.{file_pages}
use Rattle.guest_rules.specs.Fit.{Fit}
use Rattle.guest_rules.proofs.Cases.TurnCases.{SyncCase, not_there, sync_waited, sync_missed, sync_gone, was_clean, was_locked, write_missed, was_written_back, write_failed, Has, Syncs, Passes}
use Rattle.guest_rules.proofs.Cases.Passed.{HasPassed, goes_on, is_done, has_passed}
use Rattle.guest_rules.proofs.Causes.Processors.{at_phase}
use Rattle.guest_rules.proofs.Bound.Ranks.{Rank, has_command, at_look, at_write, rank_of, rank-looks, rank-writes}

next_left : (index pages left : ℕ) → index + 1 < pages → 2 * pages ≤ suc left + 2 * index + 1 → (2 * pages ≤ left + 2 * (index + 1)) × (1 ≤ left)
next_left index pages left more h = (omega (arith, more, h), omega (arith, more, h))

-- a sync that passes a page
passed_rank : (g : GuestState) (w : StorageView) (cpu file index left : ℕ) (after : Parts) (h : GuestState) → Has g cpu (Sync file) → 2 * file_pages g.plan.files file ≤ suc left + 2 * index + 1
    → HasPassed g cpu file index after h Moved → Rank h w cpu left
unfolding with_phase
passed_rank g w cpu file index left after h has few (goes_on more eh et) =
    let at = at_phase g cpu (Sync file) after (AtSync (index + 1)) has in
    let k = next_left index (file_pages g.plan.files file) left more few in
    rw eh (has_command (Sync file) at.command (at_look file (index + 1) refl (inr at.phase_is) k.0 k.1))
passed_rank g w cpu file index left after h has few (is_done last eh et) = absurd (cc et)

one_more : (index pages left : ℕ) → 2 * pages ≤ left + 2 * index → 2 * pages ≤ left + 2 * index + 1
one_more index pages left h = omega (arith, h)

look_rank : (g : GuestState) (v w : StorageView) (cpu file index left : ℕ) (after : Parts) (h : GuestState) → Syncs g cpu file index → Rank g v cpu (suc left)
    → Passes g cpu file index after h Moved → Rank h w cpu left
look_rank g v w cpu file index left after h k rank passes =
    let few = rank-looks g v cpu file index (suc left) k.looks (rank_of g v cpu (Sync file) (suc left) k.has.command rank) in
    passed_rank g w cpu file index left after h k.has (one_more index (file_pages g.plan.files file) (suc left) few) (has_passed g cpu file index after h Moved passes)

write_left : (index pages left : ℕ) → index < pages → 2 * pages ≤ suc left + 2 * index → (2 * pages ≤ left + 2 * index + 1) × (1 ≤ left)
write_left index pages left within h = (omega (arith, h), omega (arith, within, h))

-- one that locked a page
locked_rank : (g : GuestState) (v w : StorageView) (cpu file index page left : ℕ) (after : Parts) → Syncs g cpu file index → Rank g v cpu (suc left)
    → Rank (with_phase (with_parts g after) cpu (SyncWrite index page)) w cpu left
unfolding with_phase
locked_rank g v w cpu file index page left after k rank =
    let few = rank-looks g v cpu file index (suc left) k.looks (rank_of g v cpu (Sync file) (suc left) k.has.command rank) in
    let at = at_phase g cpu (Sync file) after (SyncWrite index page) k.has in
    let more = write_left index (file_pages g.plan.files file) left k.within few in
    has_command (Sync file) at.command (at_write file index page refl at.phase_is more.0 more.1)

pub sync_step : (g : GuestState) (v w : StorageView) (d e : DiskView) (cpu file index left : ℕ) (h : GuestState) → Fit g v d → SyncCase g cpu file index v d h Moved w e → Rank g v cpu (suc left)
    → Rank h w cpu left
sync_step g v w d e cpu file index left h f (not_there k none passes ew ee) rank = look_rank g v w cpu file index left g.parts h k rank passes
sync_step g v w d e cpu file index left h f (sync_waited page owner k found locked eh et ew ee) rank = absurd (cc et)
sync_step g v w d e cpu file index left h f (sync_missed why k eh et may misses ee) rank = absurd (cc et)
sync_step g v w d e cpu file index left h f (sync_gone page found k has back may lost unused passes) rank = look_rank g v w cpu file index left (handled g.parts page) h k rank passes
sync_step g v w d e cpu file index left h f (was_clean page found k has back may told unchanged clean passes) rank = look_rank g v w cpu file index left g.parts h k rank passes
sync_step g v w d e cpu file index left h f (was_locked page found k has back may there dirty value eh et) rank =
    rw eh (locked_rank g v w cpu file index page left (locked (with_change g.parts page found.changed) page cpu) k rank)
sync_step g v w d e cpu file index left h f (write_missed page why k eh et may misses ee) rank = absurd (cc et)
sync_step g v w d e cpu file index left h f (was_written_back page bytes after k are written told passes) rank =
    let few = rank-writes g v cpu file index page (suc left) k.phase (rank_of g v cpu (Sync file) (suc left) k.has.command rank) in
    passed_rank g w cpu file index left after h k.has few (has_passed g cpu file index after h Moved passes)
sync_step g v w d e cpu file index left h f (write_failed page cause after k back told why eh et) rank = absurd (cc et)

passes_not_again : (g : GuestState) (cpu file index : ℕ) (after : Parts) (h : GuestState) (why : Why) → HasPassed g cpu file index after h (Again why) → ⊥
passes_not_again g cpu file index after h why (goes_on more eh et) = cc et
passes_not_again g cpu file index after h why (is_done last eh et) = cc et

pub sync_never_again : (g : GuestState) (v w : StorageView) (d e : DiskView) (cpu file index : ℕ) (h : GuestState) (why : Why) → v.quiet ≡ true → SyncCase g cpu file index v d h (Again why) w e → ⊥
sync_never_again g v w d e cpu file index h why quiet (not_there k none passes ew ee) = passes_not_again g cpu file index g.parts h why (has_passed g cpu file index g.parts h (Again why) passes)
sync_never_again g v w d e cpu file index h why quiet (sync_waited page owner k found locked eh et ew ee) = cc et
sync_never_again g v w d e cpu file index h why quiet (sync_missed why' k eh et may misses ee) = let bad : true ≡ false = sym quiet ∙ misses.not_quiet in cc
sync_never_again g v w d e cpu file index h why quiet (sync_gone page found k has back may lost unused passes) =
    passes_not_again g cpu file index _ h why (has_passed g cpu file index (handled g.parts page) h (Again why) passes)
sync_never_again g v w d e cpu file index h why quiet (was_clean page found k has back may told unchanged clean passes) =
    passes_not_again g cpu file index g.parts h why (has_passed g cpu file index g.parts h (Again why) passes)
sync_never_again g v w d e cpu file index h why quiet (was_locked page found k has back may there dirty value eh et) = cc et
sync_never_again g v w d e cpu file index h why quiet (write_missed page why' k eh et may misses ee) = let bad : true ≡ false = sym quiet ∙ misses.not_quiet in cc
sync_never_again g v w d e cpu file index h why quiet (was_written_back page bytes after k are written told passes) =
    passes_not_again g cpu file index after h why (has_passed g cpu file index after h (Again why) passes)
sync_never_again g v w d e cpu file index h why quiet (write_failed page cause after k back told why' eh et) = cc et
