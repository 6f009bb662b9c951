-- The current bytes of every tag stay: where tags stay, where a page gets a tag, and where a page is freed.
use Rattle.std.proofs.Common.{◌≡◌, ℕ, false, Option, Some, None, refl, ap, sym, subst, ◌∙◌, inl, inr}
use Rattle.std.proofs.lemmas.Bool.{cases_eq}
use Rattle.cmm_types.specs.declared.page.Tag.{Tag}
use Rattle.cmm_io.specs.DiskView.{DiskView}
use Rattle.cmm_flat.specs.State.{FlatState}
use Rattle.cmm_storage.specs.StorageView.{StorageView}
use Rattle.guest_pages.specs.PagesView.{info_at}
use Rattle.guest_cache.specs.CacheView.{CacheView, IsTag, page_of}
use Rattle.guest_rules.specs.declared.parts.Parts.{Parts}
use Rattle.guest_rules.specs.GuestState.{GuestState}
use Rattle.guest_rules.specs.Fit.{FlatFit, IsFlatTag, backing, current_bytes, current_at, current}
use Rattle.guest_rules.proofs.Kept.Changes.{IndexChange, cases_tag}
use Rattle.guest_rules.proofs.Kept.FlatTags.{IsFlatTag-same, flat_page-slots}
use Rattle.guest_rules.proofs.Kept.PageFits.{backing-same}
use Rattle.guest_rules.proofs.Kept.Currents.{SameCurrent, current-other}

-- every tag of which the flat machine has a page has the current bytes that it had
abbrev pub KeepsCurrent : Parts → StorageView → DiskView → Parts → StorageView → DiskView → Type 0
KeepsCurrent old v d new w e = (tag : Tag) → IsFlatTag old tag → current new w e tag ≡ current old v d tag

-- no page's tag changes
pub current-kept : (old new : Parts) (v w : StorageView) (d e : DiskView) (page : ℕ) → SameCurrent old v d new w e page → new.cache ≡ old.cache
    → ((tag : Tag) → (info_at old.pages page).tag ≡ Some tag
    → current_bytes (info_at new.pages page).uptodate (w.values page).contents (backing old.cache d tag)
    ≡ current_bytes (info_at old.pages page).uptodate (v.values page).contents (backing old.cache d tag))
    → KeepsCurrent old v d new w e
current-kept old new v w d e page k cache here tag is_flat = of (page_of old.cache tag) refl
  where
    is : IsTag old.cache tag
    is = k.flat_is tag is_flat

    same : page_of new.cache tag ≡ page_of old.cache tag
    same = ap (λ (c : CacheView). page_of c tag) cache

    mine : page_of old.cache tag ≡ Some page → current new w e tag ≡ current old v d tag
    mine z =
        ap (λ o. current_at new w o (backing new.cache e tag)) (same ∙ z)
        ∙ ap (current_at new w (Some page)) (backing-same old.cache new.cache d e tag k.files k.swap k.blocks)
        ∙ here tag (k.pages.found page tag is z).1
        ∙ ap (λ o. current_at old v o (backing old.cache d tag)) (sym z)

    of : (o : Option ℕ) → page_of old.cache tag ≡ o → current new w e tag ≡ current old v d tag
    of None z = current-other old new v w d e page tag k is (λ q. let bad : None ≡ Some page = sym z ∙ q in cc) same
    of (Some i) z = elim (cases_eq i page) [
      | inl y ↦ mine (z ∙ ap (λ x. Some x) y)
      | inr n ↦ current-other old new v w d e page tag k is (λ q. n (let both : Some i ≡ Some page = sym z ∙ q in cc)) same
    ]

-- a page without a tag gets one that no page has, and isn't up to date
pub current-begun : (old new : Parts) (v w : StorageView) (d e : DiskView) (page : ℕ) (tag : Tag) → SameCurrent old v d new w e page → IndexChange old.cache new.cache tag (Some page)
    → (info_at old.pages page).tag ≡ None → page_of old.cache tag ≡ None → (info_at new.pages page).uptodate ≡ false → KeepsCurrent old v d new w e
current-begun old new v w d e page tag k index bare none stale t is_flat = let is = k.flat_is t is_flat in elim (cases_tag t tag) [
  | inl z ↦
      ap (λ o. current_at new w o (backing new.cache e t)) (ap (page_of new.cache) z ∙ index.here)
      ∙ ap (λ u. current_bytes u (w.values page).contents (backing new.cache e t)) stale
      ∙ backing-same old.cache new.cache d e t k.files k.swap k.blocks
      ∙ ap (λ o. current_at old v o (backing old.cache d t)) (sym (ap (page_of old.cache) z ∙ none))
  | inr n ↦
      current-other old new v w d e page t k is (λ q. let bad : None ≡ Some t = sym bare ∙ (k.pages.found page t is q).1 in cc) (index.others t is n)
]

-- a page with a tag is freed, whose bytes don't count, if the flat machine has them at all
pub current-freed : (old new : Parts) (v w : StorageView) (d e : DiskView) (page : ℕ) (tag : Tag) → SameCurrent old v d new w e page → IndexChange old.cache new.cache tag None
    → (info_at old.pages page).tag ≡ Some tag
    → (IsFlatTag old tag → current_bytes (info_at old.pages page).uptodate (v.values page).contents (backing old.cache d tag) ≡ backing old.cache d tag)
    → KeepsCurrent old v d new w e
current-freed old new v w d e page tag k index tagged behind t is_flat = let is = k.flat_is t is_flat in elim (cases_tag t tag) [
  | inl z ↦
      ap (λ o. current_at new w o (backing new.cache e t)) (ap (page_of new.cache) z ∙ index.here)
      ∙ backing-same old.cache new.cache d e t k.files k.swap k.blocks
      ∙ ap (backing old.cache d) z
      ∙ sym (behind (subst (IsFlatTag old) z is_flat))
      ∙ ap (λ o. current_at old v o (backing old.cache d tag)) (sym (k.pages.indexed page tag tagged).1)
      ∙ ap (current old v d) (sym z)
  | inr n ↦
      current-other old new v w d e page t k is (λ q. n (let both : Some t ≡ Some tag = sym (k.pages.found page t is q).1 ∙ tagged in cc)) (index.others t is n)
]

pub FlatFit-same : (state : FlatState) (g h : GuestState) (v w : StorageView) (d e : DiskView) → FlatFit state g v d → h.plan ≡ g.plan → h.parts.cache.files ≡ g.parts.cache.files
    → h.parts.cache.slots ≡ g.parts.cache.slots → h.parts.maps.slots ≡ g.parts.maps.slots
    → KeepsCurrent g.parts v d h.parts w e → FlatFit state h w e
FlatFit-same state g h v w d e f plan files slots maps same = record {
  lengths = rw plan f.lengths;
  sound = f.sound;
  pages = λ tag is.
      let was = IsFlatTag-same h.parts g.parts tag (sym files) (sym slots) (sym maps) is in
      flat_page-slots state g.parts.maps h.parts.maps tag maps ∙ f.pages tag was ∙ sym (same tag was);
}
