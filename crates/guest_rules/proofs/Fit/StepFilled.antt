-- Fit after a page was filled.
use Rattle.std.proofs.Common.{◌≡◌, ◌⊎◌, ◌<◌, ◌≤◌, ℕ, true, false, List, length, Some, refl, ap, sym, ◌∙◌, inl, inr, arith}
use Rattle.cmm_types.specs.declared.page.Usage.TheVariants.{V}
use Rattle.cmm_types.specs.declared.page.Tag.{Tag}
use Rattle.cmm_types.specs.declared.page.TheConstants.{PAGE}
use Rattle.cmm_io.specs.DiskView.{DiskView}
use Rattle.cmm_flat.specs.State.{FlatState}
use Rattle.essa_state.specs.PageValue.{PageValue, Bytes}
use Rattle.cmm_storage.specs.StorageView.{StorageView}
use Rattle.guest_pages.specs.declared.info.PageInfo.{PageInfo}
use Rattle.guest_pages.specs.PagesView.{info_at}
use Rattle.guest_rules.specs.declared.processor.Phase.TheVariants.{Start, Fill}
use Rattle.guest_rules.specs.GuestState.{GuestState, processor_at, with_parts, with_phase}
use Rattle.guest_rules.specs.Hint.{hint}
use Rattle.guest_rules.specs.Rows.{filled}
use Rattle.guest_rules.specs.Fit.{FitAt, backing, current_bytes, one_if_lost}
use Rattle.guest_rules.proofs.Cases.TurnCases.{GivenBack}
use Rattle.guest_rules.proofs.Kept.Changes.{InfoChange, PhaseChange, teardown_of, change-with_phase}
use Rattle.guest_rules.proofs.Kept.RowChanges.{filled_info, change-filled, filled-free}
use Rattle.guest_rules.proofs.Kept.PageFits.{PageFits}
use Rattle.guest_rules.proofs.Kept.Currents.{current_bytes-stale}
use Rattle.guest_rules.proofs.Kept.PagesKept.{PagesFit-kept}
use Rattle.guest_rules.proofs.Kept.LocksKept.{blocks-kept, LocksFit-released}
use Rattle.guest_rules.proofs.Kept.SlotsKept.{SlotsFit-kept}
use Rattle.guest_rules.proofs.Kept.EntriesKept.{EntriesFit-info}
use Rattle.guest_rules.proofs.Kept.Unshown.{stale-unshown}
use Rattle.guest_rules.proofs.Kept.PinsKept.{PinsFit-info}
use Rattle.guest_rules.proofs.Kept.TeardownsKept.{keeps_torn-same, untagged-same}
use Rattle.guest_rules.proofs.Kept.Backing.{length-backing}
use Rattle.guest_rules.proofs.Kept.Unpinned.{stale-unpinned}
use Rattle.guest_rules.proofs.Kept.CurrentsKept.{current-kept, FlatFit-same}
use Rattle.guest_rules.proofs.Fit.FitMay.{infos-pages}
use Rattle.guest_rules.proofs.Fit.FitChanged.{TableStep, step-same, FitAt-step}

-- a page that has the bytes of its tag
PageFits-filled : (g : GuestState) (d : DiskView) (info : PageInfo) (tag : Tag) (value : PageValue) → info.tag ≡ Some tag → info.pins ≡ 0
    → info.writers ≡ 0 → info.dirty ≡ false
    → value.usage ≡ V → value.changed ≡ false → value.contents ≡ Bytes (backing g.parts.cache d tag) → length (backing g.parts.cache d tag) ≡ PAGE → PageFits g.parts.cache d (filled_info info) value
unfolding hint
PageFits-filled g d info tag value tagged pins writers dirty usage changed contents all_of = record {
  is_value = rw contents tt;
  hinted = rw (usage, tagged, dirty, pins, writers) refl;
  volatile = λ u. changed;
  unused = λ u. changed;
  whole = λ t all e u are. let both : Bytes (backing g.parts.cache d tag) ≡ Bytes all = sym contents ∙ are in ap length (bytes_exact (sym both)) ∙ all_of;
  written = λ slot index e some. absurd (never_written some);
  not_blank = λ t e u. rw contents refl;
  same = λ t e u clean unchanged there. contents ∙ ap (λ (x : Tag). Bytes (backing g.parts.cache d x)) (sym (same t e));
}
  where
    bytes_exact : {a b : List ℕ} → Bytes a ≡ Bytes b → a ≡ b
    bytes_exact e = cc

    never_written : (value.changed ≡ true) ⊎ (1 ≤ info.writers) → ⊥
    never_written (inl is) = let bad : false ≡ true = sym changed ∙ is in cc
    never_written (inr some) = omega (arith, some, writers)

    same : (t : Tag) → info.tag ≡ Some t → t ≡ tag
    same t e = let both : Some t ≡ Some tag = sym e ∙ tagged in cc

bytes-kept : (value : PageValue) (bytes : List ℕ) → value.contents ≡ Bytes bytes → one_if_lost value ≡ 0
bytes-kept value bytes e = rw (e, one_if_lost) refl

-- a page is filled, and its processor is in phase Start
pub Fit-filled : (state : FlatState) (g : GuestState) (v : StorageView) (d : DiskView) (w : StorageView) (e : DiskView) (cpu page : ℕ) (tag : Tag) → FitAt state g v d → cpu < length g.processors
    → (processor_at g cpu).phase ≡ Fill page
    → (info_at g.parts.pages page).tag ≡ Some tag → GivenBack page v d w e
    → w.values page ≡ record { usage = V; changed = false; contents = Bytes (backing g.parts.cache d tag); count = (v.values page).count }
    → FitAt state (with_phase (with_parts g (filled g.parts page)) cpu Start) w e
unfolding with_phase
Fit-filled state g v d w e cpu page tag f below phase tagged back value =
    FitAt-step state state g v d h w e cpu page 0 Start (filled_info (info_at g.parts.pages page)) f step
    (PagesFit-kept g.parts h.parts page (filled_info (info_at g.parts.pages page)) tag f.pages tagged tagged (filled-free g.parts page) change refl)
    (SlotsFit-kept state state g.parts h.parts f.slots refl refl refl refl refl change.size refl)
    (EntriesFit-info g.parts h.parts page (filled_info (info_at g.parts.pages page)) f.entries change refl (λ t t_is u. (t_is, refl)) refl)
    (LocksFit-released g h cpu page (filled_info (info_at g.parts.pages page)) f.locks refl change phases refl (inl phase) (record { clean = λ u. clean; stale = λ t k none. refl })
    (blocks-kept g.parts.cache h.parts.cache refl))
    (FlatFit-same state g h v w d e f.flat refl refl refl refl (current-kept g.parts h.parts v w d e page
    (step-same state g v d h w e cpu page Start (filled_info (info_at g.parts.pages page)) f step) refl here))
    (record {
      handled = omega arith;
      counted = omega (arith, bytes-kept (w.values page) (backing g.parts.cache d tag) contents, ap (λ (x : PageValue). x.count) value);
    })
  where
    h : GuestState
    h = with_phase (with_parts g (filled g.parts page)) cpu Start

    contents : (w.values page).contents ≡ Bytes (backing g.parts.cache d tag)
    contents = ap (λ (x : PageValue). x.contents) value

    within : page < length g.parts.pages.infos
    within = (f.locks.filling cpu page phase).1.below

    stale : (info_at g.parts.pages page).uptodate ≡ false
    stale = (f.locks.filling cpu page phase).1.stale

    clean : (info_at g.parts.pages page).dirty ≡ false
    clean = f.locks.stale_clean page stale

    change : InfoChange g.parts.pages (filled g.parts page).pages page (filled_info (info_at g.parts.pages page))
    change = change-filled g.parts page within

    phases : PhaseChange g.processors h.processors cpu Start
    phases = change-with_phase g.processors cpu Start below (ap teardown_of (sym phase))

    here : (t : Tag) → (info_at g.parts.pages page).tag ≡ Some t
        → current_bytes (info_at h.parts.pages page).uptodate (w.values page).contents (backing g.parts.cache d t)
        ≡ current_bytes (info_at g.parts.pages page).uptodate (v.values page).contents (backing g.parts.cache d t)
    here t e =
        let same : tag ≡ t = (let both : Some tag ≡ Some t = sym tagged ∙ e in cc) in
        ap (λ (i : PageInfo). current_bytes i.uptodate (w.values page).contents (backing g.parts.cache d t)) change.here
        ∙ ap (λ c. current_bytes true c (backing g.parts.cache d t)) contents
        ∙ ap (backing g.parts.cache d) same
        ∙ sym (current_bytes-stale (info_at g.parts.pages page).uptodate (v.values page).contents (backing g.parts.cache d t) stale)

    step : TableStep g v d h w e cpu page Start (filled_info (info_at g.parts.pages page))
    step = record {
      back = back;
      below = rw (infos-pages g v d f.sizes) at within;
      plan = refl;
      journal = refl;
      files = refl;
      swap = refl;
      slots = refl;
      index = refl;
      info_change = change;
      phase_change = phases;
      torn = keeps_torn-same g.parts.maps g.parts.maps refl;
      untagged = untagged-same g.parts g.parts.cache refl;
      mappings = refl;
      used = λ t k. f.tags.pages page t k;
      pins = PinsFit-info g.parts h.parts page (filled_info (info_at g.parts.pages page)) f.pins change refl (record { slots = refl; pinned = refl }) refl refl (λ u. refl);
      fits = PageFits-filled g d (info_at g.parts.pages page) tag (w.values page) tagged (stale-unpinned g.parts page tag f.pins f.pages tagged stale)
          (stale-unshown g.parts page f.entries stale) clean
          (ap (λ (x : PageValue). x.usage) value) (ap (λ (x : PageValue). x.changed) value) contents (length-backing g v d tag f.sizes f.contents (f.pages.indexed page tag tagged).0);
    }
