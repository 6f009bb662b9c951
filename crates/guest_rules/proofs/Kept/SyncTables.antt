-- What the rows of a sync do to one page's info: a page locked, unlocked, or written back.
use Rattle.std.specs.Prelude.{◌≡◌, ◌<◌, ℕ, length, false, Some, None, refl}
use Rattle.std.proofs.Common.{ap, ◌∙◌}
use Rattle.guest_pages.specs.declared.info.PageInfo.{PageInfo}
use Rattle.guest_pages.specs.PagesView.{info_at, with_info, with_owner, with_dirty}
use Rattle.guest_rules.specs.declared.parts.Parts.{Parts}
use Rattle.guest_rules.specs.Syncs.{locked, unlocked, cleaned}
use Rattle.guest_rules.proofs.Kept.Changes.{InfoChange, change-with_info, InfoChange-trans}
use Rattle.guest_rules.proofs.Kept.RowChanges.{OnlyPages}

abbrev pub locked_info : ℕ → PageInfo → PageInfo
locked_info cpu info = record info { owner = Some cpu }

abbrev pub unlocked_info : PageInfo → PageInfo
unlocked_info info = record info { owner = None }

abbrev pub cleaned_info : PageInfo → PageInfo
cleaned_info info = record info { dirty = false; owner = None }

pub change-locked : (parts : Parts) (page cpu : ℕ) → page < length parts.pages.infos → InfoChange parts.pages (locked parts page cpu).pages page (locked_info cpu (info_at parts.pages page))
unfolding locked with_owner
change-locked parts page cpu below = change-with_info parts.pages page (locked_info cpu (info_at parts.pages page)) below

pub change-unlocked : (parts : Parts) (page : ℕ) → page < length parts.pages.infos → InfoChange parts.pages (unlocked parts page).pages page (unlocked_info (info_at parts.pages page))
unfolding unlocked with_owner
change-unlocked parts page below = change-with_info parts.pages page (unlocked_info (info_at parts.pages page)) below

pub change-cleaned : (parts : Parts) (page : ℕ) → page < length parts.pages.infos → InfoChange parts.pages (cleaned parts page).pages page (cleaned_info (info_at parts.pages page))
unfolding cleaned with_owner with_dirty
change-cleaned parts page below =
    let first = record (info_at parts.pages page) { dirty = false } in
    let one = change-with_info parts.pages page first below in
    let middle = with_dirty parts.pages page false in
    let two = change-with_info middle page (record (info_at middle page) { owner = None }) (rw one.size below) in
    let both = InfoChange-trans parts.pages middle (with_owner middle page None) page first _ one two in
    record { size = both.size; here = both.here ∙ ap (λ (i : PageInfo). let out : PageInfo = record i { owner = None } in out) one.here; others = both.others }

pub only-locked : (parts : Parts) (page cpu : ℕ) → OnlyPages parts (locked parts page cpu)
unfolding locked with_owner with_info
only-locked parts page cpu = record { free = refl; cache = refl; faults = refl }

pub only-unlocked : (parts : Parts) (page : ℕ) → OnlyPages parts (unlocked parts page)
unfolding unlocked with_owner with_info
only-unlocked parts page = record { free = refl; cache = refl; faults = refl }

pub only-cleaned : (parts : Parts) (page : ℕ) → OnlyPages parts (cleaned parts page)
unfolding cleaned with_owner with_dirty with_info
only-cleaned parts page = record { free = refl; cache = refl; faults = refl }

pub maps-locked : (parts : Parts) (page cpu : ℕ) → (locked parts page cpu).maps ≡ parts.maps
unfolding locked
maps-locked parts page cpu = refl

pub maps-unlocked : (parts : Parts) (page : ℕ) → (unlocked parts page).maps ≡ parts.maps
unfolding unlocked
maps-unlocked parts page = refl

pub maps-cleaned : (parts : Parts) (page : ℕ) → (cleaned parts page).maps ≡ parts.maps
unfolding cleaned
maps-cleaned parts page = refl
