-- The hint rule: what a guest tells the host of a page, from what it knows of the page.
use Rattle.std.specs.Prelude.{Bool, not, ◌&&◌, is_none, if◌then◌else◌, nat_eq}
use Rattle.cmm_types.specs.declared.page.Usage.{Usage}
use Rattle.cmm_types.specs.declared.page.Usage.TheVariants.{S, U, P, V}
use Rattle.guest_pages.specs.declared.info.PageInfo.{PageInfo}

-- the contents are those of the tag's block, and nobody relies on the page: up to date, not dirty, not locked, not pinned
abbrev pub can_be_fetched_again : PageInfo → Bool
can_be_fetched_again info = info.uptodate && (not info.dirty && (is_none info.owner && nat_eq info.pins 0))

-- a free page is unused. A page that can be fetched again is volatile; where some entry allows stores to it, only while it is unchanged.
-- Every other page is stable
unfoldable pub hint : PageInfo → Usage
hint info =
    if is_none info.tag
    then U
    else (if can_be_fetched_again info then (if nat_eq info.writers 0 then V else P) else S)
