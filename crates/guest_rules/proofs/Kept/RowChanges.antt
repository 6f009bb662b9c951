-- What each change of the tables leaves: a page begun, handled after a discard, freed after a failure, filled, found changed, shown by an entry or not any more, pinned or unpinned.
use Rattle.std.proofs.Common.{◌≡◌, ◌<◌, ◌-◌, ℕ, Bool, true, false, ◌∷◌, drop, length, Some, None, refl, ap, ◌∙◌}
use Rattle.cmm_types.specs.declared.page.Tag.{Tag}
use Rattle.cmm_types.specs.Sums.{one_if}
use Rattle.guest_pages.specs.declared.info.PageInfo.{PageInfo}
use Rattle.guest_pages.specs.PagesView.{PagesView, info_at, free_info, with_info, with_owner, with_uptodate, with_dirty, with_pins, with_writers, popped, pushed}
use Rattle.guest_cache.specs.CacheView.{without_page}
use Rattle.guest_rules.specs.declared.parts.Parts.{Parts}
use Rattle.guest_maps.specs.declared.slot.Pte.{Pte}
use Rattle.guest_maps.specs.MapsView.{with_entry, without_entries_of, with_pinned}
use Rattle.guest_rules.specs.Rows.{freed, handled, filled, with_change, shown_info, mapped, unmapped, pinned, pins_after}
use Rattle.guest_rules.specs.Turns.{begun}
use Rattle.guest_rules.proofs.Kept.Changes.{InfoChange, change-with_info, InfoChange-trans}

-- a page that was begun is locked, and not up to date
abbrev pub begun_info : Tag → ℕ → PageInfo
begun_info tag cpu = record { tag = Some tag; uptodate = false; dirty = false; owner = Some cpu; pins = 0; writers = 0 }

-- a filled page is up to date, and not locked
abbrev pub filled_info : PageInfo → PageInfo
filled_info info = record info { uptodate = true; owner = None }

pub change-popped : (a b : PagesView) (page : ℕ) (info : PageInfo) → InfoChange a b page info → InfoChange a (popped b) page info
unfolding popped
change-popped a b page info c = record { size = c.size; here = c.here; others = c.others }

pub change-pushed : (a b : PagesView) (page next : ℕ) (info : PageInfo) → InfoChange a b page info → InfoChange a (pushed b next) page info
unfolding pushed
change-pushed a b page next info c = record { size = c.size; here = c.here; others = c.others }

pub change-begun : (parts : Parts) (page : ℕ) (tag : Tag) (cpu : ℕ) → page < length parts.pages.infos → InfoChange parts.pages (begun parts page tag cpu).pages page (begun_info tag cpu)
unfolding begun
change-begun parts page tag cpu below = change-popped parts.pages _ page _ (change-with_info parts.pages page (begun_info tag cpu) below)

pub begun-free : (parts : Parts) (page : ℕ) (tag : Tag) (cpu : ℕ) → (begun parts page tag cpu).pages.free ≡ drop 1 parts.pages.free
unfolding begun popped with_info
begun-free parts page tag cpu = refl

pub change-freed : (parts : Parts) (page : ℕ) → page < length parts.pages.infos → InfoChange parts.pages (freed parts page).pages page free_info
unfolding freed
change-freed parts page below = change-pushed parts.pages _ page page _ (change-with_info parts.pages page free_info below)

pub freed-free : (parts : Parts) (page : ℕ) → (freed parts page).pages.free ≡ page ∷ parts.pages.free
unfolding freed pushed with_info
freed-free parts page = refl

pub freed-cache : (parts : Parts) (page : ℕ) (tag : Tag) → (info_at parts.pages page).tag ≡ Some tag → (freed parts page).cache ≡ without_page parts.cache tag
unfolding freed
freed-cache parts page tag e = rw e refl

pub freed-faults : (parts : Parts) (page : ℕ) → (freed parts page).faults ≡ parts.faults
unfolding freed
freed-faults parts page = refl

pub change-filled : (parts : Parts) (page : ℕ) → page < length parts.pages.infos → InfoChange parts.pages (filled parts page).pages page (filled_info (info_at parts.pages page))
unfolding with_owner with_uptodate
change-filled parts page below =
    let first = record (info_at parts.pages page) { uptodate = true } in
    let one = change-with_info parts.pages page first below in
    let middle = with_uptodate parts.pages page true in
    let two = change-with_info middle page (record (info_at middle page) { owner = None }) (rw one.size below) in
    let both = InfoChange-trans parts.pages middle (with_owner middle page None) page first _ one two in
    record { size = both.size; here = both.here ∙ ap (λ (i : PageInfo). let out : PageInfo = record i { owner = None } in out) one.here; others = both.others }

pub filled-free : (parts : Parts) (page : ℕ) → (filled parts page).pages.free ≡ parts.pages.free
unfolding with_owner with_uptodate with_info
filled-free parts page = refl

pub freed-maps : (parts : Parts) (page : ℕ) → (freed parts page).maps ≡ without_entries_of parts.maps page
unfolding freed
freed-maps parts page = refl

pub handled-pages : (parts : Parts) (page : ℕ) → (handled parts page).pages ≡ (freed parts page).pages
unfolding handled
handled-pages parts page = refl

pub handled-cache : (parts : Parts) (page : ℕ) → (handled parts page).cache ≡ (freed parts page).cache
unfolding handled
handled-cache parts page = refl

pub handled-maps : (parts : Parts) (page : ℕ) → (handled parts page).maps ≡ (freed parts page).maps
unfolding handled
handled-maps parts page = refl

-- a page whose change bit was set is dirty
abbrev pub changed_info : Bool → PageInfo → PageInfo
changed_info true info = record info { dirty = true }
changed_info false info = info

pub change-changed : (parts : Parts) (page : ℕ) (changed : Bool) → page < length parts.pages.infos
    → InfoChange parts.pages (with_change parts page changed).pages page (changed_info changed (info_at parts.pages page))
unfolding with_dirty
change-changed parts page true below = change-with_info parts.pages page (record (info_at parts.pages page) { dirty = true }) below
change-changed parts page false below = record { size = refl; here = refl; others = λ i other. refl }

-- what else the tables have is as it was
pub record OnlyPages (old new : Parts) : Type 0 where
  pub free : new.pages.free ≡ old.pages.free
  pub cache : new.cache ≡ old.cache
  pub faults : new.faults ≡ old.faults

pub only-changed : (parts : Parts) (page : ℕ) (changed : Bool) → OnlyPages parts (with_change parts page changed)
unfolding with_dirty with_info
only-changed parts page true = record { free = refl; cache = refl; faults = refl }
only-changed parts page false = record { free = refl; cache = refl; faults = refl }

pub maps-changed : (parts : Parts) (page : ℕ) (changed : Bool) → (with_change parts page changed).maps ≡ parts.maps
maps-changed parts page true = refl
maps-changed parts page false = refl

pub change-mapped : (parts : Parts) (page slot index : ℕ) (writes : Bool) → page < length parts.pages.infos
    → InfoChange parts.pages (mapped parts page slot index writes).pages page (shown_info (info_at parts.pages page) writes)
unfolding mapped
change-mapped parts page slot index writes below = change-with_info parts.pages page (shown_info (info_at parts.pages page) writes) below

pub only-mapped : (parts : Parts) (page slot index : ℕ) (writes : Bool) → OnlyPages parts (mapped parts page slot index writes)
unfolding mapped with_info
only-mapped parts page slot index writes = record { free = refl; cache = refl; faults = refl }

pub maps-mapped : (parts : Parts) (page slot index : ℕ) (writes : Bool)
    → (mapped parts page slot index writes).maps ≡ with_entry parts.maps slot index (Some (record { page = page; writable = writes }))
unfolding mapped
maps-mapped parts page slot index writes = refl

-- one entry less shows the page
abbrev pub unshown_info : Bool → PageInfo → PageInfo
unshown_info writable info = record info { writers = info.writers - one_if writable }

pub change-unmapped : (parts : Parts) (slot index : ℕ) (pte : Pte) → pte.page < length parts.pages.infos
    → InfoChange parts.pages (unmapped parts slot index pte).pages pte.page (unshown_info pte.writable (info_at parts.pages pte.page))
unfolding unmapped with_writers
change-unmapped parts slot index pte below = change-with_info parts.pages pte.page (unshown_info pte.writable (info_at parts.pages pte.page)) below

pub only-unmapped : (parts : Parts) (slot index : ℕ) (pte : Pte) → OnlyPages parts (unmapped parts slot index pte)
unfolding unmapped with_writers with_info
only-unmapped parts slot index pte = record { free = refl; cache = refl; faults = refl }

pub maps-unmapped : (parts : Parts) (slot index : ℕ) (pte : Pte) → (unmapped parts slot index pte).maps ≡ with_entry parts.maps slot index None
unfolding unmapped
maps-unmapped parts slot index pte = refl

-- one place more that maps the page's tag is pinned, or one less
abbrev pub pinned_info : (pins : Bool) → PageInfo → PageInfo
pinned_info pins info = record info { pins = pins_after pins info.pins }

pub change-pinned : (parts : Parts) (page slot index : ℕ) (pins : Bool) → page < length parts.pages.infos
    → InfoChange parts.pages (pinned parts page slot index pins).pages page (pinned_info pins (info_at parts.pages page))
unfolding pinned with_pins
change-pinned parts page slot index pins below = change-with_info parts.pages page (pinned_info pins (info_at parts.pages page)) below

pub only-pinned : (parts : Parts) (page slot index : ℕ) (pins : Bool) → OnlyPages parts (pinned parts page slot index pins)
unfolding pinned with_pins with_info
only-pinned parts page slot index pins = record { free = refl; cache = refl; faults = refl }

pub maps-pinned : (parts : Parts) (page slot index : ℕ) (pins : Bool) → (pinned parts page slot index pins).maps ≡ with_pinned parts.maps slot index pins
unfolding pinned
maps-pinned parts page slot index pins = refl
