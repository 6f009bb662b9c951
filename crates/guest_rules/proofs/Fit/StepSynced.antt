-- Fit after a turn of a sync on a page: the page is locked to be written back, or unlocked again.
use Rattle.std.proofs.Common.{◌≡◌, ◌⊎◌, ℕ, false, true, Some, refl, ap, sym, ◌∙◌, inl, inr, subst}
use Rattle.cmm_types.specs.declared.page.Usage.TheVariants.{S}
use Rattle.cmm_types.specs.declared.page.Tag.TheVariants.{File}
use Rattle.cmm_types.specs.declared.command.Op.TheVariants.{Sync}
use Rattle.cmm_flat.specs.State.{FlatState}
use Rattle.cmm_io.specs.DiskView.{DiskView}
use Rattle.essa_state.specs.PageValue.{PageValue, MayBecome, is_lost}
use Rattle.cmm_storage.specs.StorageView.{StorageView}
use Rattle.guest_pages.specs.PagesView.{info_at}
use Rattle.guest_rules.specs.declared.processor.Phase.TheVariants.{Start, Sync as AtSync, SyncWrite}
use Rattle.guest_rules.specs.GuestState.{GuestState, processor_at, with_parts, with_phase}
use Rattle.guest_rules.specs.Rows.{with_change}
use Rattle.guest_rules.specs.Syncs.{locked}
use Rattle.guest_rules.specs.Fit.{IsSyncing, HasLocked, LocksFit, FitAt}
use Rattle.guest_rules.proofs.Cases.TurnCases.{GivenBack, HasPage, ShowsPage, Syncs, WritesBack}
use Rattle.guest_rules.proofs.Kept.LocksKept.{locks_none}
use Rattle.guest_rules.proofs.Kept.TeardownsKept.{sync-tears_nothing}
use Rattle.guest_rules.proofs.Fit.FitPassed.{syncing-at}
use Rattle.guest_rules.proofs.Fit.StepLocked.{HoldsPage, Fit-locked}

-- g the guest, cpu the processor, file the file, index a page of it
module _ (g : GuestState) (cpu file index : ℕ) where
  -- where a processor's sync is
  pub syncs-at : Syncs g cpu file index → IsSyncing g cpu file index
  syncs-at s = record { cpu_below = s.has.below; command = s.has.command; file_below = s.file_below; within = s.within }

  -- a processor whose sync looks at a page has none locked
  pub syncs-none : Syncs g cpu file index → (i : ℕ) → HasLocked g cpu i → ⊥
  syncs-none s = of s.looks
    where
      of : (((processor_at g cpu).phase ≡ Start) × (index ≡ 0)) ⊎ ((processor_at g cpu).phase ≡ AtSync index) → (i : ℕ) → HasLocked g cpu i → ⊥
      of (inl (start, first)) = locks_none g cpu Start start tt
      of (inr looks) = locks_none g cpu (AtSync index) looks tt

  -- what the processor writes back is the page of its file that its sync is at
  pub writes-at : (page : ℕ) → LocksFit g → WritesBack g cpu file index page → IsSyncing g cpu file index × ShowsPage g (File file index) page
  writes-at page f k =
      let is = f.writing cpu index page k.phase in
      let both : Some (Sync is.file) ≡ Some (Sync file) = sym is.syncing.command ∙ k.has.command in
      let same : is.file ≡ file = cc in
      (subst (λ n. IsSyncing g cpu n index) same is.syncing, record { below = is.below; tagged = is.tagged ∙ ap (λ n. Some (File n index)) same; uptodate = is.uptodate })

  -- so it has that page locked
  pub writes-holds : (page : ℕ) → LocksFit g → WritesBack g cpu file index page → HoldsPage g cpu page (File file index)
  writes-holds page f k = record { cpu_below = k.has.below; mine = inr (inl (index, k.phase)); shows = (writes-at page f k).1 }

-- a dirty page is locked, to be written back
pub Fit-sync_locked : (state : FlatState) (g : GuestState) (v : StorageView) (d : DiskView) (w : StorageView) (e : DiskView) (cpu file index page : ℕ) (found : PageValue) → FitAt state g v d
    → Syncs g cpu file index → HasPage g (File file index) page
    → GivenBack page v d w e → MayBecome (v.values page) found → is_lost found.contents ≡ false → (info_at (with_change g.parts page found.changed).pages page).dirty ≡ true
    → w.values page ≡ record found { usage = S; changed = false }
    → FitAt state (with_phase (with_parts g (locked (with_change g.parts page found.changed) page cpu)) cpu (SyncWrite index page)) w e
Fit-sync_locked state g v d w e cpu file index page found f s has back may there dirty value =
    Fit-locked state g v d w e cpu page (SyncWrite index page) (File file index) found f s.has.below (syncs-none g cpu file index s)
    (sym (sync-tears_nothing g cpu file f.teardowns s.has.command)) has back may there dirty value (inr (inl (index, refl)))
    (λ now. record {
      file = file;
      syncing = syncing-at g cpu file index index (locked (with_change g.parts page found.changed) page cpu) (SyncWrite index page) (syncs-at g cpu file index s) s.within;
      below = now.below;
      owner = now.owner;
      tagged = now.tagged;
      uptodate = now.uptodate;
    })
