-- The private table of swap slots: for each page of a mapping slot the swap slot that is assigned to it. No public clause cites it.
use Rattle.std.specs.Prelude.{◌≡◌, ℕ, ◌+◌, ◌*◌, ◌<◌, List, length, get_or, Option, None, true, slice_index_or}
use Rattle.std.specs.List.{position}
use Rattle.cmm_types.specs.declared.command.TheConstants.{MAX_MAPPING_PAGES}
use Rattle.cmm_types.specs.declared.page.Tag.{Tag}
use Rattle.guest_cache.specs.CacheView.{holds_page}

-- the table has what the tags of the swap slots say, and no tag has two swap slots
pub record IsSwapIndex (slots : ℕ) (swap : List (Option Tag)) (table : List (Option ℕ)) : Type 0 where
  pub whole : length table ≡ slots * MAX_MAPPING_PAGES
  pub at : (slot index : ℕ) → slot < slots → index < MAX_MAPPING_PAGES → slice_index_or table (slot * MAX_MAPPING_PAGES + index) None ≡ position (holds_page slot index) swap
  pub once : (slot index number other : ℕ) → holds_page slot index (get_or swap number None) ≡ true → holds_page slot index (get_or swap other None) ≡ true → number ≡ other
