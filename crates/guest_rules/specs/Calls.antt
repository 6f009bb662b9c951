-- What the calls on one page ask of the tables, the storage and the disk.
use Rattle.std.specs.Prelude.{◌≡◌, ◌≢◌, ◌<◌, ◌≤◌, ◌+◌, ◌*◌, ℕ, Bool, true, false, [], length, Contains, Some, None, IfSome, slice_index_or}
use Rattle.cmm_types.specs.declared.page.TheConstants.{PAGE}
use Rattle.cmm_types.specs.declared.page.Usage.TheVariants.{S}
use Rattle.cmm_types.specs.declared.bytes.TheConstants.{MAX_BYTES}
use Rattle.cmm_types.specs.declared.page.Tag.{Tag}
use Rattle.cmm_types.specs.declared.page.Tag.TheVariants.{Anon}
use Rattle.cmm_types.specs.declared.plan.TheConstants.{MAX_MAPPING_SLOTS}
use Rattle.cmm_types.specs.declared.command.TheConstants.{MAX_MAPPING_PAGES}
use Rattle.cmm_io.specs.DiskView.{DiskView}
use Rattle.essa_state.specs.StateWord.{is_unused}
use Rattle.cmm_storage.specs.StorageView.{StorageView, can_store}
use Rattle.guest_pages.specs.PagesView.{info_at}
use Rattle.guest_cache.specs.CacheView.{HasOneSwapSlot, IsTag}
use Rattle.guest_maps.specs.declared.slot.Pte.{Pte}
use Rattle.guest_maps.specs.MapsView.{IsPlace}
use Rattle.guest_rules.specs.declared.parts.Parts.{Parts}
use Rattle.guest_rules.specs.Rows.{backing_at}

-- the page is one of the guest's, which entries may show; it isn't free, and whatever tag it has is one
pub record IsInUse (parts : Parts) (page : ℕ) : Type 0 where
  pub below : page < length parts.pages.infos
  pub shown : page < parts.maps.pages
  pub not_free : Contains parts.pages.free page → ⊥
  pub tag : IfSome (info_at parts.pages page).tag (λ tag. IsTag parts.cache tag)

-- ---- a page that is held

-- one of the guest's pages is held
pub record IsHeld (parts : Parts) (v : StorageView) (page : ℕ) : Type 0 where
  pub below : page < length parts.pages.infos
  pub held : v.held ≡ Some page

-- a page in use is held
pub record HoldsInUse (parts : Parts) (v : StorageView) (page : ℕ) : Type 0 where
  pub in_use : IsInUse parts page
  pub held : v.held ≡ Some page

-- a held page takes bytes: it was touched, and is stable
pub record TakesBytes (v : StorageView) (page : ℕ) : Type 0 where
  pub touched : v.touched ≡ true
  pub stable : (v.values page).usage ≡ S

-- ---- a page that is to be taken

-- a page in use can be taken: the storage has it, and holds none
pub record CanTake (parts : Parts) (v : StorageView) (page : ℕ) : Type 0 where
  pub in_use : IsInUse parts page
  pub there : page < v.pages
  pub none_held : v.held ≡ None

-- it can be loaded from through an entry
pub record CanLoad (parts : Parts) (v : StorageView) (page : ℕ) : Type 0 where
  pub takes : CanTake parts v page
  pub used : is_unused (v.values page).usage ≡ false

-- it can be stored to through an entry
pub record CanStore (parts : Parts) (v : StorageView) (page : ℕ) : Type 0 where
  pub takes : CanTake parts v page
  pub writable : can_store (v.values page).usage ≡ true

-- room can be made: no page is free, so that each has a tag, and each can be taken; none is held
pub record CanMakeRoom (parts : Parts) (v : StorageView) : Type 0 where
  pub full : parts.pages.free ≡ []
  pub tagged : (page : ℕ) → page < length parts.pages.infos → (info_at parts.pages page).tag ≢ None
  pub takes : (page : ℕ) → page < length parts.pages.infos → CanTake parts v page
  pub none_held : v.held ≡ None

-- a command's bytes lie in one page, from an offset on
pub record IsInPage (off len : ℕ) : Type 0 where
  pub few : len ≤ MAX_BYTES
  pub within : off + len ≤ PAGE

-- ---- a place of a mapping

-- its entry can be set to show the page: one writer more can be counted
pub record CanMap (parts : Parts) (page slot index : ℕ) : Type 0 where
  pub place : IsPlace parts.maps slot index
  pub writers : (info_at parts.pages page).writers ≤ MAX_MAPPING_SLOTS * MAX_MAPPING_PAGES

-- its entry can be cleared, and the page that it shows has a writer to count off where it allows stores
pub record CanClear (parts : Parts) (v : StorageView) (slot index : ℕ) (pte : Pte) : Type 0 where
  pub place : IsPlace parts.maps slot index
  pub takes : CanTake parts v pte.page
  pub writers : pte.writable ≡ true → 1 ≤ (info_at parts.pages pte.page).writers

-- it can be pinned or unpinned, with the page: one pin more can be counted, or one less
pub record CanPin (parts : Parts) (page slot index : ℕ) (pins : Bool) : Type 0 where
  pub place : IsPlace parts.maps slot index
  pub most : (info_at parts.pages page).pins ≤ MAX_MAPPING_SLOTS * MAX_MAPPING_PAGES
  pub some : pins ≡ false → 1 ≤ (info_at parts.pages page).pins

-- ---- a page of a mapping of pages of its own

-- it can be taken off the mapping, with its swap slot: the page has the tag of its place, and isn't locked
pub record CanTear (parts : Parts) (v : StorageView) (slot index page : ℕ) : Type 0 where
  pub takes : CanTake parts v page
  pub is_tag : IsTag parts.cache (Anon slot index)
  pub tagged : (info_at parts.pages page).tag ≡ Some (Anon slot index)
  pub unlocked : (info_at parts.pages page).owner ≡ None
  pub once : HasOneSwapSlot parts.cache

-- ---- a page and its block

-- the page can be filled: the disk has the block that backs its tag, if one does
pub record CanFill (parts : Parts) (v : StorageView) (d : DiskView) (page : ℕ) : Type 0 where
  pub takes : CanTake parts v page
  pub block : IfSome (backing_at parts page) (λ block. block < d.count)

-- the page can be written back to the block that backs its tag
pub record CanWriteBack (parts : Parts) (v : StorageView) (d : DiskView) (page : ℕ) : Type 0 where
  pub below : page < length parts.pages.infos
  pub there : page < v.pages
  pub tag : IfSome (info_at parts.pages page).tag (λ tag. IsTag parts.cache tag)
  pub block : IfSome (backing_at parts page) (λ block. block < d.count)
  pub used : is_unused (v.values page).usage ≡ false
  pub none_held : v.held ≡ None
