-- The tags stay fit: where one page's info is another, where the mappings are others, and where swap slots are.
use Rattle.std.proofs.Common.{◌≡◌, ℕ, List, Option, Some, None, slice_index_or, ap, sym, ◌∙◌, inl, inr, subst}
use Rattle.std.proofs.lemmas.Bool.{cases_eq}
use Rattle.cmm_types.specs.declared.page.Tag.{Tag}
use Rattle.cmm_types.specs.declared.page.Tag.TheVariants.{File, Anon}
use Rattle.cmm_io.specs.DiskView.{DiskView}
use Rattle.cmm_storage.specs.StorageView.{StorageView}
use Rattle.guest_pages.specs.declared.info.PageInfo.{PageInfo}
use Rattle.guest_pages.specs.PagesView.{info_at}
use Rattle.guest_cache.specs.CacheView.{IsAnonymous, HasOneSwapSlot}
use Rattle.guest_maps.specs.declared.slot.Slot.{Slot}
use Rattle.guest_maps.specs.MapsView.{MapsView}
use Rattle.guest_rules.specs.declared.parts.Parts.{Parts}
use Rattle.guest_rules.specs.Fit.{IsOwnPage, IsUsedTag, TagsFit}
use Rattle.guest_rules.proofs.Kept.Changes.{InfoChange}
use Rattle.guest_rules.proofs.Kept.SwapLaws.{swap_tag}
use Rattle.guest_rules.proofs.Kept.PageFits.{EachPageFits}

-- what fit says of tags, but for what is on one page
pub record TagsStand (parts : Parts) : Type 0 where
  pub pages : (page : ℕ) (tag : Tag) → (info_at parts.pages page).tag ≡ Some tag → IsUsedTag parts.maps tag
  pub swapped : (number : ℕ) (tag : Tag) → swap_tag parts.cache number ≡ Some tag → IsAnonymous tag × IsUsedTag parts.maps tag
  pub distinct : HasOneSwapSlot parts.cache

pub tags_stand : (parts : Parts) (v : StorageView) → TagsFit parts v → TagsStand parts
tags_stand parts v f = record { pages = f.pages; swapped = f.swapped; distinct = f.distinct }

pub TagsFit-from : (parts : Parts) (v : StorageView) (d : DiskView) → TagsStand parts → EachPageFits parts v d → TagsFit parts v
TagsFit-from parts v d tags fits = record {
  pages = tags.pages;
  swapped = tags.swapped;
  distinct = tags.distinct;
  written = λ page slot index below t some. (fits.each page below).written slot index t some;
}

-- the slots are the same
pub used-same : (old new : MapsView) (tag : Tag) → new.slots ≡ old.slots → IsUsedTag old tag → IsUsedTag new tag
used-same old new (File file index) same is = tt
used-same old new (Anon slot index) same is = subst (λ (slots : List (Option Slot)). IsOwnPage (slice_index_or slots slot None) index) (sym same) is

-- one page's info is another, of a tag that is used
pub TagsStand-info : (old new : Parts) (page : ℕ) (info : PageInfo) → TagsStand old → InfoChange old.pages new.pages page info → new.cache.swap ≡ old.cache.swap → new.maps.slots ≡ old.maps.slots
    → ((tag : Tag) → info.tag ≡ Some tag → IsUsedTag old.maps tag) → TagsStand new
TagsStand-info old new page info f change swap slots used = record {
  pages = λ i tag e. used-same old.maps new.maps tag slots (elim (cases_eq i page) [
    | inl z ↦ used tag (ap (λ (x : PageInfo). x.tag) (sym change.here) ∙ ap (λ q. (info_at new.pages q).tag) (sym z) ∙ e)
    | inr n ↦ f.pages i tag (ap (λ (x : PageInfo). x.tag) (sym (change.others i n)) ∙ e)
  ]);
  swapped = λ number tag e. let was = f.swapped number tag (same number ∙ e) in (was.0, used-same old.maps new.maps tag slots was.1);
  distinct = λ number other tag e e'. f.distinct number other tag (same number ∙ e) (same other ∙ e');
}
  where
    same : (number : ℕ) → swap_tag old.cache number ≡ swap_tag new.cache number
    same number = ap (λ (tags : List (Option Tag)). slice_index_or tags number None) (sym swap)

-- the mappings are others, with the pages and the swap slots as they were
pub TagsStand-maps : (old : Parts) (maps : MapsView) → TagsStand old
    → ((page : ℕ) (tag : Tag) → (info_at old.pages page).tag ≡ Some tag → IsUsedTag old.maps tag → IsUsedTag maps tag)
    → ((number : ℕ) (tag : Tag) → swap_tag old.cache number ≡ Some tag → IsUsedTag old.maps tag → IsUsedTag maps tag) → TagsStand (record old { maps = maps })
TagsStand-maps old maps f pages swapped = record {
  pages = λ page tag e. pages page tag e (f.pages page tag e);
  swapped = λ number tag e. let was = f.swapped number tag e in (was.0, swapped number tag e was.1);
  distinct = f.distinct;
}
