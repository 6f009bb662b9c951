-- Every turn of a sync keeps fit.
use Rattle.std.proofs.Common.{◌<◌, ℕ, length, refl, sym, ◌∙◌, subst, set-set, get_or-set_same}
use Rattle.cmm_types.specs.declared.command.Op.TheVariants.{Sync}
use Rattle.cmm_types.specs.declared.command.Reply.TheVariants.{Done, Fail}
use Rattle.cmm_types.specs.declared.page.Tag.TheVariants.{File}
use Rattle.cmm_types.specs.declared.turn.Turn.{Turn}
use Rattle.cmm_io.specs.DiskView.{DiskView}
use Rattle.cmm_flat.specs.Legal.{flat_of}
use Rattle.cmm_storage.specs.StorageView.{StorageView}
use Rattle.guest_rules.specs.declared.parts.Parts.{Parts}
use Rattle.guest_rules.specs.declared.processor.Phase.TheVariants.{Start}
use Rattle.guest_rules.specs.GuestState.{GuestState, first_processor, processor_at, with_parts, with_phase}
use Rattle.guest_rules.specs.Rows.{handled}
use Rattle.guest_rules.specs.Fit.{IsSyncing, Fit}
use Rattle.guest_rules.proofs.Cases.TurnCases.{SyncCase, not_there, sync_waited, sync_missed, sync_gone, was_clean, was_locked, write_missed, was_written_back, write_failed}
use Rattle.guest_rules.proofs.Kept.LocksKept.{locks_none}
use Rattle.guest_rules.proofs.Fit.FitMay.{FitAt-may}
use Rattle.guest_rules.proofs.Fit.Replies.{Fit-fails}
use Rattle.guest_rules.proofs.Fit.StepFreed.{Fit-gone}
use Rattle.guest_rules.proofs.Fit.StepTold.{Fit-rehinted}
use Rattle.guest_rules.proofs.Fit.StepLocked.{Fit-written_back, Fit-not_written}
use Rattle.guest_rules.proofs.Fit.StepSynced.{syncs-at, syncs-none, writes-at, writes-holds, Fit-sync_locked}
use Rattle.guest_rules.proofs.Cases.Passed.{HasPassed, goes_on, is_done, has_passed}
use Rattle.guest_rules.proofs.Fit.FitPassed.{entered-start, start-has, start-phase, syncing-at, Fit-passed}

-- other tables leave where a sync is
syncing-with : (g : GuestState) (cpu file index : ℕ) (after : Parts) → IsSyncing g cpu file index → IsSyncing (with_parts g after) cpu file index
syncing-with g cpu file index after k = record { cpu_below = k.cpu_below; command = k.command; file_below = k.file_below; within = k.within }

-- a sync passes its page as well from phase Start
passed-start : (g : GuestState) (cpu file index : ℕ) (after : Parts) (h : GuestState) (t : Turn) → cpu < length g.processors → HasPassed g cpu file index after h t
    → HasPassed (with_phase (with_parts g after) cpu Start) cpu file index after h t
unfolding with_phase
passed-start g cpu file index after h t below (goes_on more eh et) =
    goes_on more (eh ∙ sym (rw (get_or-set_same g.processors cpu (record { place = (processor_at g cpu).place; phase = Start }) first_processor below, set-set) refl)) et
passed-start g cpu file index after h t below (is_done last eh et) = is_done last (eh ∙ sym (entered-start (with_parts g after) cpu (Sync file) Done below)) et

-- the tables are those that it has already
passed-with : (g : GuestState) (cpu file index : ℕ) (after : Parts) (h : GuestState) (t : Turn) → HasPassed g cpu file index after h t → HasPassed (with_parts g after) cpu file index after h t
passed-with g cpu file index after h t (goes_on more eh et) = goes_on more eh et
passed-with g cpu file index after h t (is_done last eh et) = is_done last eh et

pub Fit-sync : (g : GuestState) (v : StorageView) (d : DiskView) (h : GuestState) (w : StorageView) (e : DiskView) (cpu file index : ℕ) (t : Turn) → Fit g v d
    → SyncCase g cpu file index v d h t w e → Fit h w e
unfolding with_phase
Fit-sync g v d h w e cpu file index t f (not_there s none passes ew ee) =
    rw (ew, ee) (Fit-passed g v d h cpu file index t f (syncs-at g cpu file index s) (syncs-none g cpu file index s) (has_passed g cpu file index g.parts h t passes))
Fit-sync g v d h w e cpu file index t f (sync_waited page owner s found locked eh et ew ee) = rw (eh, ew, ee) f
Fit-sync g v d h w e cpu file index t f (sync_missed why s eh et may risen ee) = rw eh (FitAt-may (flat_of g.plan g.journal) g v d w e f may)
Fit-sync g v d h w e cpu file index t f (sync_gone page found s has back may lost unused passes) =
    Fit-passed (with_parts g (handled g.parts page)) w e h cpu file index t (Fit-gone (flat_of g.plan g.journal) g v d w e (File file index) page found f has back may lost unused)
    (syncing-with g cpu file index (handled g.parts page) (syncs-at g cpu file index s)) (syncs-none g cpu file index s)
    (passed-with g cpu file index (handled g.parts page) h t (has_passed g cpu file index (handled g.parts page) h t passes))
Fit-sync g v d h w e cpu file index t f (was_clean page found s has back may told unchanged clean passes) =
    Fit-passed g w e h cpu file index t (Fit-rehinted (flat_of g.plan g.journal) g v d w e page (File file index) found g.parts f has back may told) (syncs-at g cpu file index s)
    (syncs-none g cpu file index s)
    (has_passed g cpu file index g.parts h t passes)
Fit-sync g v d h w e cpu file index t f (was_locked page found s has back may there dirty value eh et) =
    rw eh (Fit-sync_locked (flat_of g.plan g.journal) g v d w e cpu file index page found f s has back may there dirty value)
Fit-sync g v d h w e cpu file index t f (write_missed page why k eh et may risen ee) = rw eh (FitAt-may (flat_of g.plan g.journal) g v d w e f may)
Fit-sync g v d h w e cpu file index t f (was_written_back page bytes after k are wrote told passes) =
    let at = (writes-at g cpu file index page f.locks k).0 in
    Fit-passed (with_phase (with_parts g after) cpu Start) w e h cpu file index t
    (Fit-written_back (flat_of g.plan g.journal) g v d w e cpu page (File file index) bytes after f (writes-holds g cpu file index page f.locks k) are wrote told)
    (syncing-at g cpu file index index after Start at at.within) (locks_none (with_phase (with_parts g after) cpu Start) cpu Start (start-phase (with_parts g after) cpu k.has.below) tt)
    (passed-start g cpu file index after h t k.has.below (has_passed g cpu file index after h t passes))
Fit-sync g v d h w e cpu file index t f (write_failed page cause after k back told risen eh et) =
    let now = with_phase (with_parts g after) cpu Start in
    let has = start-has (with_parts g after) cpu (Sync file) (record { below = k.has.below; command = k.has.command }) in
    rw eh (subst (λ (q : GuestState). Fit q w e) (entered-start (with_parts g after) cpu (Sync file) (Fail cause) k.has.below)
    (Fit-fails now v d w e w e cpu (Sync file) cause
    (Fit-not_written (flat_of g.plan g.journal) g v d w e cpu page (File file index) after f (writes-holds g cpu file index page f.locks k) back told) has tt
    (start-phase (with_parts g after) cpu k.has.below) risen))
