-- Which page has a tag, which swap slot a tag is assigned to, and which block of the disk backs it.
use Rattle.std.specs.Prelude.{◌≡◌, ℕ, ◌+◌, ◌*◌, ◌<◌, ◌==◌, ◌&&◌, Bool, false, List, length, take, sum, get_or, Option, Some, None, is_none, slice_set, slice_index_or, replicate}
use Rattle.std.specs.List.{position}
use Rattle.cmm_types.specs.declared.command.TheConstants.{MAX_MAPPING_PAGES}
use Rattle.cmm_types.specs.declared.page.Tag.{Tag}
use Rattle.cmm_types.specs.declared.page.Tag.TheVariants.{File, Anon}

-- the pages of each file, the number of mapping slots, for each place of a tag the page that has it, and for each swap slot the tag
-- that it is assigned to
pub record CacheView : Type 0 where
  pub files : List ℕ
  pub slots : ℕ
  pub index : List (Option ℕ)
  pub swap : List (Option Tag)

-- the pages of the files before this one: the disk's blocks are the files' pages in order
abbrev pub pages_before : List ℕ → ℕ → ℕ
pages_before files file = sum (take file files)

-- a page of a file, or a page of the mapping in a slot
abbrev pub IsTag : CacheView → Tag → Type 0
IsTag cache (File file index) = (file < length cache.files) × (index < get_or cache.files file 0)
IsTag cache (Anon slot index) = (slot < cache.slots) × (index < MAX_MAPPING_PAGES)

-- a page of the mapping in a slot
abbrev pub IsAnonymous : Tag → Type 0
IsAnonymous (File file index) = ⊥
IsAnonymous (Anon slot index) = Unit {0}

-- each tag has a place of its own: the file pages in order, and behind them the mapping slots' pages
abbrev pub index_place : CacheView → Tag → ℕ
index_place cache (File file index) = pages_before cache.files file + index
index_place cache (Anon slot index) = sum cache.files + slot * MAX_MAPPING_PAGES + index

-- the page that has a tag
abbrev pub page_of : CacheView → Tag → Option ℕ
page_of cache tag = slice_index_or cache.index (index_place cache tag) None

-- no page has a tag, and no swap slot is assigned
abbrev pub opening_cache : List ℕ → (swap slots : ℕ) → CacheView
opening_cache files swap slots = record { files = files; slots = slots; index = replicate (sum files + slots * MAX_MAPPING_PAGES) None; swap = replicate swap None }

unfoldable pub with_page : CacheView → Tag → ℕ → CacheView
with_page cache tag page = record cache { index = slice_set cache.index (index_place cache tag) (Some page) }

unfoldable pub without_page : CacheView → Tag → CacheView
without_page cache tag = record cache { index = slice_set cache.index (index_place cache tag) None }

-- a swap slot is assigned to this page of the mapping in a slot
abbrev pub holds_page : (slot index : ℕ) → Option Tag → Bool
holds_page slot index None = false
holds_page slot index (Some (File file at)) = false
holds_page slot index (Some (Anon other at)) = slot == other && index == at

-- the swap slot of an anonymous page; a file's page has none
abbrev pub swap_slot : CacheView → Tag → Option ℕ
swap_slot cache (File file index) = None
swap_slot cache (Anon slot index) = position (holds_page slot index) cache.swap

-- no tag has two swap slots
abbrev pub HasOneSwapSlot : CacheView → Type 0
HasOneSwapSlot cache =
    (number other : ℕ) (tag : Tag) → slice_index_or cache.swap number None ≡ Some tag → slice_index_or cache.swap other None ≡ Some tag → number ≡ other

-- the least swap slot that isn't assigned
abbrev pub free_swap : CacheView → Option ℕ
free_swap cache = position is_none cache.swap

-- the swap slot, if there is one, is assigned to the tag
abbrev pub assigned : CacheView → Tag → Option ℕ → CacheView
assigned cache tag None = cache
assigned cache tag (Some number) = record cache { swap = slice_set cache.swap number (Some tag) }

-- the swap slot, if there is one, isn't assigned any more
abbrev pub unassigned : CacheView → Option ℕ → CacheView
unassigned cache None = cache
unassigned cache (Some number) = record cache { swap = slice_set cache.swap number None }

-- the disk's blocks behind the files' are the swap slots
abbrev pub swap_block : (files : List ℕ) → Option ℕ → Option ℕ
swap_block files None = None
swap_block files (Some number) = Some (sum files + number)

-- the block that a tag's page is read from: a file's page has one, and an anonymous page has that of its swap slot
abbrev pub backing_of : CacheView → Tag → Option ℕ
backing_of cache (File file index) = Some (pages_before cache.files file + index)
backing_of cache (Anon slot index) = swap_block cache.files (swap_slot cache (Anon slot index))
