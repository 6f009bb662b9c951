-- What a guest knows of its pages: of each its info, and the stack of free pages.
use Rattle.std.specs.Prelude.{ℕ, List, [], ◌∷◌, Bool, false, Option, None, Contains, replicate, slice_set, slice_index_or, drop}
use Rattle.std.specs.List.{range_with_len}
use Rattle.cmm_types.specs.declared.page.Tag.{Tag}
use Rattle.guest_pages.specs.declared.info.PageInfo.{PageInfo}

-- the info of each page; the free pages, the next one first
pub record PagesView : Type 0 where
  pub infos : List PageInfo
  pub free : List ℕ

abbrev pub free_info : PageInfo
free_info = record { tag = None; uptodate = false; dirty = false; owner = None; pins = 0; writers = 0 }

abbrev pub info_at : PagesView → ℕ → PageInfo
info_at pages page = slice_index_or pages.infos page free_info

-- no page twice
abbrev pub AreDistinct : List ℕ → Type 0
AreDistinct [] = Unit {0}
AreDistinct (page ∷ pages) = (Contains pages page → ⊥) × AreDistinct pages

-- every page is free, and page 0 is the next
abbrev pub opening_pages : ℕ → PagesView
opening_pages count = record { infos = replicate count free_info; free = range_with_len 0 count }

unfoldable pub with_info : PagesView → ℕ → PageInfo → PagesView
with_info pages page info = record pages { infos = slice_set pages.infos page info }

unfoldable pub with_tag : PagesView → ℕ → Option Tag → PagesView
with_tag pages page tag = with_info pages page (record (info_at pages page) { tag = tag })

unfoldable pub with_uptodate : PagesView → ℕ → Bool → PagesView
with_uptodate pages page uptodate = with_info pages page (record (info_at pages page) { uptodate = uptodate })

unfoldable pub with_dirty : PagesView → ℕ → Bool → PagesView
with_dirty pages page dirty = with_info pages page (record (info_at pages page) { dirty = dirty })

unfoldable pub with_owner : PagesView → ℕ → Option ℕ → PagesView
with_owner pages page owner = with_info pages page (record (info_at pages page) { owner = owner })

unfoldable pub with_pins : PagesView → ℕ → ℕ → PagesView
with_pins pages page pins = with_info pages page (record (info_at pages page) { pins = pins })

unfoldable pub with_writers : PagesView → ℕ → ℕ → PagesView
with_writers pages page writers = with_info pages page (record (info_at pages page) { writers = writers })

-- the next free page is taken off the stack
unfoldable pub popped : PagesView → PagesView
popped pages = record pages { free = drop 1 pages.free }

-- the page is the next free one
unfoldable pub pushed : PagesView → ℕ → PagesView
pushed pages page = record pages { free = page ∷ pages.free }
