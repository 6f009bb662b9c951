-- What the rows of a turn do to one page's info and tag.
use Rattle.std.specs.Prelude.{List, Option, get_or, false, ◌≡◌, ◌<◌, ℕ, length, true, Some, None}
use Rattle.std.proofs.Common.{set, inl, inr, length-set, get_or-set_same, ap, ◌∙◌}
use Rattle.std.proofs.lemmas.Bool.{cases_lt}
use Rattle.std.proofs.lemmas.List.{get_or_past}
use Rattle.cmm_types.specs.declared.page.Tag.{Tag}
use Rattle.cmm_types.specs.declared.page.Tag.TheVariants.{File, Anon}
use Rattle.guest_pages.specs.declared.info.PageInfo.{PageInfo}
use Rattle.guest_pages.specs.PagesView.{info_at, with_info, with_uptodate, with_owner, popped}
use Rattle.guest_pages.specs.Laws.PagesLaws.{info_at-with_info_same, length-with_info}
use Rattle.guest_cache.specs.CacheView.{CacheView, index_place, page_of, without_page}
use Rattle.guest_rules.specs.declared.parts.Parts.{Parts}
use Rattle.guest_rules.specs.Rows.{filled, freed, handled, without_tag}
use Rattle.guest_rules.specs.Turns.{begun}

-- the info of a page that was filled
pub info-filled : (parts : Parts) (page : ℕ) → page < length parts.pages.infos
    → info_at (filled parts page).pages page ≡ record (info_at parts.pages page) { uptodate = true; owner = None }
unfolding with_uptodate with_owner
info-filled parts page h =
    let fresh = record (info_at parts.pages page) { uptodate = true } in
    let one = info_at-with_info_same parts.pages page fresh h in
    let size = length-with_info parts.pages page fresh in
    let two = info_at-with_info_same (with_info parts.pages page fresh) page (record (info_at (with_info parts.pages page fresh) page) { owner = None }) (rw size h) in
    two ∙ ap (λ (i : PageInfo). record i { owner = None }) one

-- what is taken out of a list of options isn't there
pub get_or-set_none : (xs : List (Option ℕ)) (i : ℕ) → get_or (set xs i None) i None ≡ None
get_or-set_none xs i = elim (cases_lt i (length xs)) [
  | inl below ↦ get_or-set_same xs i None None below
  | inr past ↦ get_or_past (set xs i None) i None (rw length-set past)
]

-- a tag that was taken out of the index has no page
pub page_of-without_page : (cache : CacheView) (tag : Tag) → page_of (without_page cache tag) tag ≡ None
unfolding without_page
page_of-without_page cache (File file index) = get_or-set_none cache.index (index_place cache (File file index))
page_of-without_page cache (Anon slot index) = get_or-set_none cache.index (index_place cache (Anon slot index))

-- the tag of a page that was discarded has no page any more
pub page_of-handled : (parts : Parts) (page : ℕ) (tag : Tag) → (info_at parts.pages page).tag ≡ Some tag → page_of (handled parts page).cache tag ≡ None
unfolding handled freed
page_of-handled parts page tag tagged = ap (λ q. page_of (without_tag parts.cache q) tag) tagged ∙ page_of-without_page parts.cache tag

-- the tag of a page that is to be filled
pub tag-begun : (parts : Parts) (page : ℕ) (tag : Tag) (cpu : ℕ) → page < length parts.pages.infos → (info_at (begun parts page tag cpu).pages page).tag ≡ Some tag
unfolding begun popped
tag-begun parts page tag cpu below = ap (λ q. q.tag) (info_at-with_info_same parts.pages page
    (record { tag = Some tag; uptodate = false; dirty = false; owner = Some cpu; pins = 0; writers = 0 }) below)
