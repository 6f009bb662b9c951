-- Fit after bytes of one page were changed, where those that the flat machine has of it were.
use Rattle.std.proofs.Common.{◌≡◌, ◌≢◌, ◌<◌, ℕ, Bool, true, false, List, map, length, Some, refl, ap, sym, ◌∙◌, inl, inr, arith}
use Rattle.cmm_types.specs.declared.page.Usage.{Usage}
use Rattle.cmm_types.specs.declared.page.Tag.{Tag}
use Rattle.cmm_io.specs.DiskView.{DiskView}
use Rattle.cmm_flat.specs.State.{FlatState, IsSound}
use Rattle.essa_state.specs.PageValue.{PageValue, Bytes}
use Rattle.cmm_storage.specs.StorageView.{StorageView}
use Rattle.guest_pages.specs.declared.info.PageInfo.{PageInfo}
use Rattle.guest_pages.specs.PagesView.{info_at}
use Rattle.guest_cache.specs.CacheView.{CacheView, page_of}
use Rattle.guest_maps.specs.MapsView.{MapsView}
use Rattle.guest_rules.specs.declared.parts.Parts.{Parts}
use Rattle.guest_rules.specs.GuestState.{GuestState, processor_at, with_parts}
use Rattle.guest_rules.specs.Rows.{with_change}
use Rattle.guest_rules.specs.Fit.{FitAt, FlatFit, IsFlatTag, flat_page, current, current_at, current_bytes, backing}
use Rattle.guest_rules.proofs.Cases.TurnCases.{GivenBack}
use Rattle.guest_rules.proofs.Rows.ValueLaws.{may-faults}
use Rattle.guest_rules.proofs.Kept.Changes.{InfoChange, cases_tag, change-nothing}
use Rattle.guest_rules.proofs.Kept.RowChanges.{OnlyPages, changed_info, change-changed, only-changed, maps-changed}
use Rattle.guest_rules.proofs.Kept.PageFits.{PageFits, tagged-below}
use Rattle.guest_rules.proofs.Kept.FlatTags.{IsFlatTag-same, flat_page-slots}
use Rattle.guest_rules.proofs.Kept.PagesKept.{PagesFit-kept}
use Rattle.guest_rules.proofs.Kept.LocksKept.{blocks-kept, LocksFit-kept}
use Rattle.guest_rules.proofs.Kept.SlotsKept.{SameShapes, SlotsFit-kept, SlotsFit-shaped}
use Rattle.guest_rules.proofs.Kept.EntriesKept.{EntriesFit-info}
use Rattle.guest_rules.proofs.Kept.PinsKept.{PinsFit-info}
use Rattle.guest_rules.proofs.Kept.TeardownsKept.{keeps_torn-same, untagged-same}
use Rattle.guest_rules.proofs.Kept.Currents.{SameCurrent, current-other}
use Rattle.guest_rules.proofs.Fit.FitMay.{infos-pages}
use Rattle.guest_rules.proofs.Fit.FitChanged.{TableStep, step-same, FitAt-step}
use Rattle.guest_rules.proofs.Fit.StepTold.{IsChanged, is_changed}
use Rattle.guest_rules.proofs.Fit.FoundBytes.{IsFound}

-- which bytes are changed: those in a page of a tag, which the page was found with
pub record ChangesBytes (state later : FlatState) (g : GuestState) (v : StorageView) (page : ℕ) (tag : Tag) (found : PageValue) (all new : List ℕ) : Type 0 where
  pub its : IsFound g v page tag found all
  pub flat : IsFlatTag g.parts tag
  pub lengths : map length later.files ≡ map length state.files
  pub sound : IsSound later
  pub shapes : SameShapes state later
  pub here : flat_page later g.parts.maps tag ≡ new
  pub elsewhere : (t : Tag) → IsFlatTag g.parts t → t ≢ tag → flat_page later g.parts.maps t ≡ flat_page state g.parts.maps t

-- the page has the bytes that the flat machine has, and every other tag its own
FlatFit-bytes : (state later : FlatState) (g : GuestState) (v : StorageView) (d : DiskView) (w : StorageView) (e : DiskView) (page : ℕ) (tag : Tag) (found : PageValue) (all new : List ℕ)
    (after : Parts) → FitAt state g v d
    → ChangesBytes state later g v page tag found all new → after.cache ≡ g.parts.cache → after.maps ≡ g.parts.maps → (info_at after.pages page).uptodate ≡ true
    → SameCurrent g.parts v d after w e page → (w.values page).contents ≡ Bytes new → FlatFit later (with_parts g after) w e
FlatFit-bytes state later g v d w e page tag found all new after f k cache maps uptodate same contents = record {
  lengths = k.lengths ∙ f.flat.lengths;
  sound = k.sound;
  pages = λ t is_now.
      let is = IsFlatTag-same after g.parts t (ap (λ (c : CacheView). c.files) (sym cache)) (ap (λ (c : CacheView). c.slots) (sym cache)) (ap (λ (m : MapsView). m.slots) (sym maps)) is_now in
      flat_page-slots later g.parts.maps after.maps t (ap (λ (m : MapsView). m.slots) maps) ∙ (elim (cases_tag t tag) [
        | inl z ↦ ap (flat_page later g.parts.maps) z ∙ k.here ∙ sym (ap (current after w e) z ∙ here)
        | inr n ↦
            k.elsewhere t is n ∙ f.flat.pages t is
            ∙ sym (current-other g.parts after v w d e page t same (same.flat_is t is)
            (λ q. n (let both : Some t ≡ Some tag = sym (f.pages.found page t (same.flat_is t is) q).1 ∙ k.its.tagged in cc))
            (ap (λ (c : CacheView). page_of c t) cache))
      ]);
}
  where
    here : current after w e tag ≡ new
    here =
        ap (λ o. current_at after w o (backing after.cache e tag)) (ap (λ (c : CacheView). page_of c tag) cache ∙ (f.pages.indexed page tag k.its.tagged).1)
        ∙ ap (λ u. current_bytes u (w.values page).contents (backing after.cache e tag)) uptodate
        ∙ ap (λ c. current_bytes true c (backing after.cache e tag)) contents

-- the guest fits the state after the change, whether the page is dirty from then on or its change bit tells
pub FitAt-bytes : (state later : FlatState) (g : GuestState) (v : StorageView) (d : DiskView) (w : StorageView) (e : DiskView) (page : ℕ) (tag : Tag) (found : PageValue) (all new_bytes : List ℕ)
    (usage : Usage) (changed dirties : Bool)
    → FitAt state g v d → ChangesBytes state later g v page tag found all new_bytes → GivenBack page v d w e
    → w.values page ≡ record found { usage = usage; changed = changed; contents = Bytes new_bytes }
    → PageFits g.parts.cache d (changed_info dirties (info_at g.parts.pages page)) (w.values page)
    → FitAt later (with_parts g (with_change g.parts page dirties)) w e
FitAt-bytes state later g v d w e page tag found all new_bytes usage changed dirties f k back value fits =
    FitAt-step state later g v d h w e 0 page 0 (processor_at g 0).phase new f step
    (PagesFit-kept g.parts after page new tag f.pages k.its.tagged (is.tag ∙ k.its.tagged) only.free change only.cache)
    (SlotsFit-kept later later g.parts after (SlotsFit-shaped state later g.parts f.slots k.shapes) refl (ap (λ m. m.slots) maps) (ap (λ m. length m.entries) maps) (ap (λ m. m.pinned) maps)
    (ap (λ m. m.pages) maps) change.size (ap (λ (c : CacheView). c.files) only.cache))
    (EntriesFit-info g.parts after page new f.entries change maps (λ t t_is u. (is.tag ∙ t_is, is.uptodate ∙ u)) is.writers)
    (LocksFit-kept g h page new f.locks refl refl change is.tag is.owner is.uptodate (λ u. let bad : true ≡ false = sym k.its.uptodate ∙ sym is.uptodate ∙ u in cc)
    (blocks-kept g.parts.cache h.parts.cache only.cache))
    (FlatFit-bytes state later g v d w e page tag found all new_bytes after f k only.cache maps (ap (λ (i : PageInfo). i.uptodate) change.here ∙ is.uptodate ∙ k.its.uptodate)
    (step-same state g v d h w e 0 page (processor_at g 0).phase new f step) (ap (λ (x : PageValue). x.contents) value))
    (record { handled = omega (arith, only.faults); counted = rw value (omega (arith, may-faults (v.values page) found k.its.may)) })
  where
    after : Parts
    after = with_change g.parts page dirties

    h : GuestState
    h = with_parts g after

    new : PageInfo
    new = changed_info dirties (info_at g.parts.pages page)

    is : IsChanged (info_at g.parts.pages page) dirties new
    is = is_changed (info_at g.parts.pages page) dirties

    only : OnlyPages g.parts after
    only = only-changed g.parts page dirties

    maps : after.maps ≡ g.parts.maps
    maps = maps-changed g.parts page dirties

    below : page < length g.parts.pages.infos
    below = tagged-below g.parts.pages page tag k.its.tagged

    change : InfoChange g.parts.pages after.pages page new
    change = change-changed g.parts page dirties below

    step : TableStep g v d h w e 0 page (processor_at g 0).phase new
    step = record {
      back = back;
      below = rw (infos-pages g v d f.sizes) at below;
      plan = refl;
      journal = refl;
      files = ap (λ (c : CacheView). c.files) only.cache;
      swap = ap (λ (c : CacheView). c.swap) only.cache;
      slots = ap (λ (c : CacheView). c.slots) only.cache;
      index = ap (λ (c : CacheView). length c.index) only.cache;
      info_change = change;
      phase_change = change-nothing g.processors 0 (processor_at g 0).phase refl;
      untagged = untagged-same g.parts after.cache only.cache;
      mappings = ap (λ m. m.slots) maps;
      used = λ t x. f.tags.pages page t (sym is.tag ∙ x);
      torn = keeps_torn-same g.parts.maps after.maps maps;
      pins = PinsFit-info g.parts after page new f.pins change only.cache (record { slots = ap (λ m. m.slots) maps; pinned = ap (λ m. m.pinned) maps }) is.tag is.pins
          (λ u. is.uptodate ∙ u);
      fits = fits;
    }
