-- How a guest without a free page makes room, as a program of calls: the first page that can go from the guest's hand on is freed, or locked
-- to be written back first.
use Rattle.std.specs.Prelude.{ℕ, ◌+◌, ◌-◌, length, find, count_by, Bool, true, false, not, ◌&&◌, Option, Some, None, is_none, nat_eq, nat_lt, if◌then◌else◌, Result, Ok, Err}
use Rattle.std.specs.List.{range_with_len}
use Rattle.std.specs.Option.{option_or}
use Rattle.cmm_types.specs.declared.page.Tag.{Tag}
use Rattle.cmm_types.specs.declared.page.Tag.TheVariants.{File, Anon}
use Rattle.cmm_types.specs.declared.turn.Why.TheVariants.{Busy as WasBusy}
use Rattle.essa_state.specs.declared.orders.Order.TheVariants.{SetUnused}
use Rattle.cmm_storage.specs.declared.storage.Busy.{Busy}
use Rattle.cmm_storage.specs.Program.{Program, done, take_page, order_page, take_change, put_page, bind}
use Rattle.guest_pages.specs.declared.info.PageInfo.{PageInfo}
use Rattle.guest_pages.specs.PagesView.{info_at}
use Rattle.guest_cache.specs.CacheView.{CacheView, swap_slot, free_swap, assigned, backing_of}
use Rattle.guest_rules.specs.declared.parts.Parts.{Parts}
use Rattle.guest_rules.specs.declared.outcome.Gone.{Gone}
use Rattle.guest_rules.specs.declared.outcome.Room.{Room}
use Rattle.guest_rules.specs.declared.outcome.Room.TheVariants.{Freed, Locked, Waits, NoPage, Again}
use Rattle.guest_rules.specs.Rows.{freed, with_change, make_stable}
use Rattle.guest_rules.specs.Syncs.{locked}

-- ---- which page goes

-- no block of the disk is behind the page's tag, nor is there a swap slot for it
abbrev pub lacks_block : CacheView → Option Tag → Bool
lacks_block cache None = false
lacks_block cache (Some tag) = is_none (backing_of cache tag) && is_none (free_swap cache)

-- a dirty page whose bytes can be written nowhere
abbrev pub is_unslotted : Parts → PageInfo → Bool
is_unslotted parts info = info.dirty && lacks_block parts.cache info.tag

abbrev pub is_pinned : PageInfo → Bool
is_pinned info = not (nat_eq info.pins 0)

abbrev pub is_locked : PageInfo → Bool
is_locked info = not (is_none info.owner)

-- a page that isn't free, locked or pinned, and whose bytes can be written where they have to be
abbrev pub can_go : Parts → PageInfo → Bool
can_go parts info = not (is_none info.tag) && (not (is_locked info) && (not (is_pinned info) && not (is_unslotted parts info)))

-- the first page that is so: from the hand on, or else of all
abbrev pub first_from : Parts → (PageInfo → Bool) → Option ℕ
first_from parts test =
    option_or
    (find (λ page. test (info_at parts.pages page)) (range_with_len parts.hand (length parts.pages.infos - parts.hand)))
    (find (λ page. test (info_at parts.pages page)) (range_with_len 0 (length parts.pages.infos)))

abbrev pub first_to_go : Parts → Option ℕ
first_to_go parts = first_from parts (can_go parts)

abbrev pub first_locked : Parts → Option ℕ
first_locked parts = first_from parts is_locked

-- how many pages are pinned
abbrev pub pinned_count : Parts → ℕ
pinned_count parts = count_by is_pinned parts.pages.infos

-- ---- what becomes of it

-- an anonymous page without a swap slot gets the least free one
abbrev pub with_swap_slot : CacheView → Option Tag → CacheView
with_swap_slot cache None = cache
with_swap_slot cache (Some (File file index)) = cache
with_swap_slot cache (Some (Anon slot index)) = of (swap_slot cache (Anon slot index))
  where
    of : Option ℕ → CacheView
    of (Some number) = cache
    of None = assigned cache (Anon slot index) (free_swap cache)

-- the page has a block to be written to, and is locked by the processor
unfoldable pub locked_to_go : Parts → (page cpu : ℕ) → Parts
locked_to_go parts page cpu = record (locked parts page cpu) { cache = with_swap_slot parts.cache (info_at parts.pages page).tag }

-- the hand stands behind the page
unfoldable pub behind : Parts → (page : ℕ) → Parts
behind parts page = record parts { hand = if nat_lt (page + 1) (length parts.pages.infos) then page + 1 else 0 }

-- a page whose change bit has moved into what is known of it
abbrev pub go_known : (page cpu : ℕ) → Parts → (dirty : Bool) → Program (Parts × Room)
go_known page cpu parts true = put_page page (done (locked_to_go parts page cpu, Locked page))
go_known page cpu parts false = order_page page SetUnused (λ was_done. put_page page (done (behind (freed parts page) page, Freed)))

abbrev pub go_changed : (page cpu : ℕ) → Parts → (changed : Bool) → Program (Parts × Room)
go_changed page cpu parts changed = go_known page cpu (with_change parts page changed) (info_at (with_change parts page changed).pages page).dirty

-- where the page had been discarded its handler has freed it, and the hand stays
abbrev pub go_stable : (page cpu : ℕ) → Parts → Result Unit Gone → Program (Parts × Room)
go_stable page cpu parts (Ok u) = take_change page (go_changed page cpu parts)
go_stable page cpu parts (Err gone) = put_page page (done (parts, Freed))

abbrev pub go_taken : Parts → (page cpu : ℕ) → Result Unit Busy → Program (Parts × Room)
go_taken parts page cpu (Ok u) = bind (make_stable parts page) (λ went. go_stable page cpu went.0 went.1)
go_taken parts page cpu (Err busy) = done (parts, Again (WasBusy page busy.word))

-- the answer where every page is locked, pinned or has no block. A page that is locked has an owner, so the last case doesn't come
abbrev pub none_goes : Parts → Option ℕ → Room
none_goes parts None = NoPage (pinned_count parts) (length parts.pages.infos - pinned_count parts)
none_goes parts (Some page) = of (info_at parts.pages page).owner
  where
    of : Option ℕ → Room
    of (Some owner) = Waits page owner
    of None = Freed

abbrev pub room_from : Parts → (cpu : ℕ) → Option ℕ → Program (Parts × Room)
room_from parts cpu None = done (parts, none_goes parts (first_locked parts))
room_from parts cpu (Some page) = take_page page (go_taken parts page cpu)

-- room is made for a page of a processor's command: one page is freed, or is to be written back first
unfoldable pub make_room : Parts → (cpu : ℕ) → Program (Parts × Room)
make_room parts cpu = room_from parts cpu (first_to_go parts)
