-- A page of a mapping of pages of its own that was freed, and whose swap slot is free: neither a page nor a swap slot has its tag.
use Rattle.std.proofs.Common.{◌≡◌, ℕ, zero, suc, List, [], ◌∷◌, get_or, set, Option, Some, None, refl, ◌∙◌}
use Rattle.cmm_types.specs.declared.page.Tag.{Tag}
use Rattle.cmm_types.specs.declared.page.Tag.TheVariants.{Anon}
use Rattle.guest_cache.specs.CacheView.{CacheView, index_place, page_of, without_page, swap_slot, unassigned, HasOneSwapSlot}
use Rattle.guest_rules.specs.Fit.{IsUntagged}
use Rattle.guest_rules.proofs.Kept.SwapLaws.{SwapChange, page_of-swapped, swap_slot-is, swap_slot-released}

-- its swap slot is free
pub untagged-unassigned : (cache : CacheView) (slot index : ℕ) → HasOneSwapSlot cache → page_of cache (Anon slot index) ≡ None
    → IsUntagged (unassigned cache (swap_slot cache (Anon slot index))) slot index
untagged-unassigned cache slot index distinct none = of (swap_slot cache (Anon slot index)) refl
  where
    of : (o : Option ℕ) → swap_slot cache (Anon slot index) ≡ o → IsUntagged (unassigned cache o) slot index
    of None e = (none, e)
    of (Some number) e =
        let its = swap_slot-is cache slot index number e in
        let change : SwapChange cache (unassigned cache (Some number)) number None = record { below = its.0; files = refl; slots = refl; index = refl; swap = refl } in (
          page_of-swapped cache (unassigned cache (Some number)) (Anon slot index) refl refl ∙ none,
          swap_slot-released cache (unassigned cache (Some number)) slot index number change distinct its.1,
        )

-- the page is free
none_there : (places : List (Option ℕ)) (place : ℕ) → get_or (set places place None) place None ≡ None
none_there [] place = refl
none_there (page ∷ places) zero = refl
none_there (page ∷ places) (suc place) = none_there places place

pub page_of-without : (cache : CacheView) (slot index : ℕ) → page_of (without_page cache (Anon slot index)) (Anon slot index) ≡ None
unfolding without_page
page_of-without cache slot index = none_there cache.index (index_place cache (Anon slot index))

pub distinct-without : (cache : CacheView) (tag : Tag) → HasOneSwapSlot cache → HasOneSwapSlot (without_page cache tag)
unfolding without_page
distinct-without cache tag distinct = distinct

-- both
pub untagged-torn_off : (cache : CacheView) (slot index : ℕ) → HasOneSwapSlot cache
    → IsUntagged (unassigned (without_page cache (Anon slot index)) (swap_slot (without_page cache (Anon slot index)) (Anon slot index))) slot index
untagged-torn_off cache slot index distinct =
    untagged-unassigned (without_page cache (Anon slot index)) slot index (distinct-without cache (Anon slot index) distinct) (page_of-without cache slot index)
