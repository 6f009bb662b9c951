-- What a turn does to one page, as programs of calls. Each begins and ends with no page held, but the parts that say otherwise.
use Rattle.std.specs.Prelude.{ℕ, ◌+◌, ◌-◌, ◌&&◌, ◌||◌, List, Bool, true, false, Option, Some, None, Result, Ok, Err}
use Rattle.cmm_types.specs.declared.page.Tag.{Tag}
use Rattle.cmm_types.specs.declared.page.Tag.TheVariants.{File as FileTag, Anon as AnonTag}
use Rattle.cmm_types.specs.declared.page.Usage.{Usage}
use Rattle.cmm_types.specs.declared.page.Usage.TheVariants.{S, U, P, V}
use Rattle.cmm_types.specs.declared.command.Cause.{Cause}
use Rattle.cmm_types.specs.declared.command.Cause.TheVariants.{Disk, Paging as PagingCause}
use Rattle.cmm_types.specs.declared.turn.Why.TheVariants.{Busy as WasBusy, NoFrame as HadNoFrame}
use Rattle.cmm_types.specs.Sums.{one_if}
use Rattle.cmm_io.specs.Faults.{raised}
use Rattle.cmm_io.specs.declared.failed.Failed.{Failed}
use Rattle.essa_state.specs.declared.orders.Order.TheVariants.{SetUnused, SetVolatile, SetPotential, SetStableResident, SetStableIf}
use Rattle.cmm_storage.specs.declared.storage.Busy.{Busy}
use Rattle.cmm_storage.specs.declared.storage.Trap.{Trap}
use Rattle.cmm_storage.specs.declared.storage.Trap.TheVariants.{Discarded, Paging, NoFrame}
use Rattle.cmm_types.specs.Bytes.{zero_page}
use Rattle.cmm_storage.specs.Program.{Program, done, take_page, touch_page, order_page, take_change, fetch_page, store_page, put_page, read_block, bind}
use Rattle.guest_pages.specs.PagesView.{free_info, info_at, with_info, with_uptodate, with_dirty, with_owner, with_pins, with_writers, pushed}
use Rattle.guest_pages.specs.declared.info.PageInfo.{PageInfo}
use Rattle.guest_cache.specs.CacheView.{CacheView, without_page, backing_of, swap_slot, unassigned}
use Rattle.guest_maps.specs.declared.slot.Pte.{Pte}
use Rattle.guest_maps.specs.MapsView.{with_entry, without_entries_of, with_pinned}
use Rattle.guest_rules.specs.declared.parts.Parts.{Parts}
use Rattle.guest_rules.specs.declared.outcome.Gone.{Gone}
use Rattle.guest_rules.specs.declared.outcome.Filled.{Filled}
use Rattle.guest_rules.specs.declared.outcome.Filled.TheVariants.{Done, Again, Fail}
use Rattle.guest_rules.specs.declared.outcome.Missed.{Missed}
use Rattle.guest_rules.specs.declared.outcome.Missed.TheVariants.{Gone as WasGone, Again as MissedAgain, Fail as MissedFail}
use Rattle.guest_rules.specs.declared.outcome.Placed.{Placed}
use Rattle.guest_rules.specs.declared.outcome.Placed.TheVariants.{Done as PlaceDone, Gone as PlaceGone, Again as PlaceAgain}
use Rattle.guest_rules.specs.Hint.{hint}

-- the index without the page's tag, if it has one
abbrev pub without_tag : CacheView → Option Tag → CacheView
without_tag cache None = cache
without_tag cache (Some tag) = without_page cache tag

-- the page has no tag any more, no entry shows it, and it is the next free one
unfoldable pub freed : Parts → ℕ → Parts
freed parts page =
    record parts {
      pages = pushed (with_info parts.pages page free_info) page;
      cache = without_tag parts.cache (info_at parts.pages page).tag;
      maps = without_entries_of parts.maps page;
    }

-- the same after a discard, which is counted
unfoldable pub handled : Parts → ℕ → Parts
handled parts page = record (freed parts page) { faults = raised parts.faults }

-- the handler of a held discarded page
unfoldable pub handler : Parts → ℕ → Program Parts
handler parts page = order_page page SetUnused (λ was_done. done (handled parts page))

abbrev pub dirtied : Parts → ℕ → Parts
dirtied parts page = record parts { pages = with_dirty parts.pages page true }

-- a page whose change bit was set is dirty
abbrev pub with_change : Parts → ℕ → (changed : Bool) → Parts
with_change parts page true = dirtied parts page
with_change parts page false = parts

-- the host is told the hint of a held stable page
abbrev pub tell : Usage → Parts → ℕ → Program Parts
tell S parts page = done parts
tell U parts page = done parts
tell P parts page = order_page page SetPotential (λ was_done. done parts)
tell V parts page = order_page page SetVolatile (λ was_done. done parts)

abbrev pub rehint_changed : Parts → ℕ → Bool → Program Parts
rehint_changed parts page changed = tell (hint (info_at (with_change parts page changed).pages page)) (with_change parts page changed) page

-- the change bit of a held stable page with a tag moves into what is known of the page, and the host is told its hint
unfoldable pub rehint : Parts → ℕ → Program Parts
rehint parts page = take_change page (rehint_changed parts page)

abbrev pub make_stable_done : Parts → ℕ → Bool → Program (Parts × Result Unit Gone)
make_stable_done parts page true = done (parts, Ok tt)
make_stable_done parts page false = bind (handler parts page) (λ after. done (after, Err (record {})))

-- a held page is made stable, or freed where it was discarded
unfoldable pub make_stable : Parts → ℕ → Program (Parts × Result Unit Gone)
make_stable parts page = order_page page SetStableIf (make_stable_done parts page)

-- a page that was made stable isn't discarded
abbrev pub missed_by : Trap → Missed
missed_by Discarded = MissedFail PagingCause
missed_by Paging = MissedFail PagingCause
missed_by (NoFrame looks) = MissedAgain (HadNoFrame looks)

abbrev pub read_touched : ℕ → ℕ → ℕ → Parts → Result Unit Trap → Program (Parts × Result (List ℕ) Missed)
read_touched page off len parts (Ok u) = fetch_page page off len (λ bytes. bind (rehint parts page) (λ after. put_page page (done (after, Ok bytes))))
read_touched page off len parts (Err trap) = bind (rehint parts page) (λ after. put_page page (done (after, Err (missed_by trap))))

abbrev pub read_stable : ℕ → ℕ → ℕ → Parts → Result Unit Gone → Program (Parts × Result (List ℕ) Missed)
read_stable page off len parts (Ok u) = touch_page page (read_touched page off len parts)
read_stable page off len parts (Err gone) = put_page page (done (parts, Err WasGone))

abbrev pub read_taken : Parts → ℕ → ℕ → ℕ → Result Unit Busy → Program (Parts × Result (List ℕ) Missed)
read_taken parts page off len (Ok u) = bind (make_stable parts page) (λ went. read_stable page off len went.0 went.1)
read_taken parts page off len (Err busy) = done (parts, Err (MissedAgain (WasBusy page busy.word)))

-- bytes of a page with a tag that isn't locked
unfoldable pub read_page : Parts → ℕ → ℕ → ℕ → Program (Parts × Result (List ℕ) Missed)
read_page parts page off len = take_page page (read_taken parts page off len)

abbrev pub write_touched : ℕ → ℕ → List ℕ → Parts → Result Unit Trap → Program (Parts × Result Unit Missed)
write_touched page off bytes parts (Ok u) = store_page page off bytes (bind (rehint (dirtied parts page) page) (λ after. put_page page (done (after, Ok tt))))
write_touched page off bytes parts (Err trap) = bind (rehint parts page) (λ after. put_page page (done (after, Err (missed_by trap))))

abbrev pub write_stable : ℕ → ℕ → List ℕ → Parts → Result Unit Gone → Program (Parts × Result Unit Missed)
write_stable page off bytes parts (Ok u) = touch_page page (write_touched page off bytes parts)
write_stable page off bytes parts (Err gone) = put_page page (done (parts, Err WasGone))

abbrev pub write_taken : Parts → ℕ → ℕ → List ℕ → Result Unit Busy → Program (Parts × Result Unit Missed)
write_taken parts page off bytes (Ok u) = bind (make_stable parts page) (λ went. write_stable page off bytes went.0 went.1)
write_taken parts page off bytes (Err busy) = done (parts, Err (MissedAgain (WasBusy page busy.word)))

-- bytes are written to a page with a tag that isn't locked, which is dirty from then on
unfoldable pub write_page : Parts → ℕ → ℕ → List ℕ → Program (Parts × Result Unit Missed)
write_page parts page off bytes = take_page page (write_taken parts page off bytes)

-- a page of a mapping of its own, which no file backs
abbrev pub is_anonymous : Option Tag → Bool
is_anonymous None = false
is_anonymous (Some (FileTag file index)) = false
is_anonymous (Some (AnonTag slot index)) = true

-- what is known of a page that one more entry shows: an anonymous page is dirty from the first entry on through which it can be stored to
abbrev pub shown_info : PageInfo → (writable : Bool) → PageInfo
shown_info info writable = record info { writers = info.writers + one_if writable; dirty = info.dirty || (writable && is_anonymous info.tag) }

-- the entry at a place shows the page. It is set where there was none, or none that could be stored through
unfoldable pub mapped : Parts → (page slot index : ℕ) → (writable : Bool) → Parts
mapped parts page slot index writable =
    record parts {
      pages = with_info parts.pages page (shown_info (info_at parts.pages page) writable);
      maps = with_entry parts.maps slot index (Some (record { page = page; writable = writable }));
    }

abbrev pub resolve_stable : (page slot index : ℕ) → (writable : Bool) → Parts → Result Unit Gone → Program (Parts × Placed)
resolve_stable page slot index writable parts (Ok u) = bind (rehint (mapped parts page slot index writable) page) (λ after. put_page page (done (after, PlaceDone)))
resolve_stable page slot index writable parts (Err gone) = put_page page (done (parts, PlaceGone))

abbrev pub resolve_taken : Parts → (page slot index : ℕ) → (writable : Bool) → Result Unit Busy → Program (Parts × Placed)
resolve_taken parts page slot index writable (Ok u) = bind (make_stable parts page) (λ went. resolve_stable page slot index writable went.0 went.1)
resolve_taken parts page slot index writable (Err busy) = done (parts, PlaceAgain (WasBusy page busy.word))

-- the entry at a place is set to show a page with the place's tag that isn't locked
unfoldable pub resolve : Parts → (page slot index : ℕ) → (writable : Bool) → Program (Parts × Placed)
resolve parts page slot index writable = take_page page (resolve_taken parts page slot index writable)

-- the place has no entry any more
unfoldable pub unmapped : Parts → (slot index : ℕ) → Pte → Parts
unmapped parts slot index pte =
    record parts {
      pages = with_writers parts.pages pte.page ((info_at parts.pages pte.page).writers - one_if pte.writable);
      maps = with_entry parts.maps slot index None;
    }

abbrev pub clear_stable : (slot index : ℕ) → Pte → Parts → Result Unit Gone → Program (Parts × Placed)
clear_stable slot index pte parts (Ok u) = bind (rehint (unmapped parts slot index pte) pte.page) (λ after. put_page pte.page (done (after, PlaceDone)))
clear_stable slot index pte parts (Err gone) = put_page pte.page (done (parts, PlaceGone))

abbrev pub clear_taken : Parts → (slot index : ℕ) → Pte → Result Unit Busy → Program (Parts × Placed)
clear_taken parts slot index pte (Ok u) = bind (make_stable parts pte.page) (λ went. clear_stable slot index pte went.0 went.1)
clear_taken parts slot index pte (Err busy) = done (parts, PlaceAgain (WasBusy pte.page busy.word))

-- the entry at a place is cleared. Its page may be locked, to be written back: it stays stable then
unfoldable pub clear_entry : Parts → (slot index : ℕ) → Pte → Program (Parts × Placed)
clear_entry parts slot index pte = take_page pte.page (clear_taken parts slot index pte)

-- the swap slot of a page of a mapping, if it has one, is free
unfoldable pub released : Parts → (slot index : ℕ) → Parts
released parts slot index = record parts { cache = unassigned parts.cache (swap_slot parts.cache (AnonTag slot index)) }

abbrev pub tear_taken : Parts → (slot index page : ℕ) → Result Unit Busy → Program (Parts × Placed)
tear_taken parts slot index page (Ok u) = order_page page SetUnused (λ was_done. put_page page (done (released (freed parts page) slot index, PlaceDone)))
tear_taken parts slot index page (Err busy) = done (parts, PlaceAgain (WasBusy page busy.word))

-- the page of a mapping of its own is freed, and so is its swap slot
unfoldable pub tear_page : Parts → (slot index page : ℕ) → Program (Parts × Placed)
tear_page parts slot index page = take_page page (tear_taken parts slot index page)

-- one pin more, or one less
abbrev pub pins_after : (pins : Bool) → ℕ → ℕ
pins_after true count = count + 1
pins_after false count = count - 1

-- the place is pinned and the page has one pin more, or the place isn't pinned any more and the page has one less
unfoldable pub pinned : Parts → (page slot index : ℕ) → (pins : Bool) → Parts
pinned parts page slot index pins =
    record parts {
      pages = with_pins parts.pages page (pins_after pins (info_at parts.pages page).pins);
      maps = with_pinned parts.maps slot index pins;
    }

abbrev pub pin_stable : (page slot index : ℕ) → (pins : Bool) → Parts → Result Unit Gone → Program (Parts × Placed)
pin_stable page slot index pins parts (Ok u) = bind (rehint (pinned parts page slot index pins) page) (λ after. put_page page (done (after, PlaceDone)))
pin_stable page slot index pins parts (Err gone) = put_page page (done (parts, PlaceGone))

abbrev pub pin_taken : Parts → (page slot index : ℕ) → (pins : Bool) → Result Unit Busy → Program (Parts × Placed)
pin_taken parts page slot index pins (Ok u) = bind (make_stable parts page) (λ went. pin_stable page slot index pins went.0 went.1)
pin_taken parts page slot index pins (Err busy) = done (parts, PlaceAgain (WasBusy page busy.word))

-- a place is pinned or unpinned, whose tag is on a page that isn't locked. Nothing of the page is touched or read
unfoldable pub pin_page : Parts → (page slot index : ℕ) → (pins : Bool) → Program (Parts × Placed)
pin_page parts page slot index pins = take_page page (pin_taken parts page slot index pins)

-- a touch through an entry that failed: a discarded page goes through its handler
abbrev pub touch_missed : {A : Type 0} → ℕ → Parts → Trap → Program (Parts × Result A Missed)
touch_missed page parts Discarded = bind (handler parts page) (λ after. put_page page (done (after, Err WasGone)))
touch_missed page parts Paging = put_page page (done (parts, Err (MissedFail PagingCause)))
touch_missed page parts (NoFrame looks) = put_page page (done (parts, Err (MissedAgain (HadNoFrame looks))))

abbrev pub load_touched : ℕ → ℕ → ℕ → Parts → Result Unit Trap → Program (Parts × Result (List ℕ) Missed)
load_touched page off len parts (Ok u) = fetch_page page off len (λ bytes. put_page page (done (parts, Ok bytes)))
load_touched page off len parts (Err trap) = touch_missed page parts trap

abbrev pub load_taken : Parts → ℕ → ℕ → ℕ → Result Unit Busy → Program (Parts × Result (List ℕ) Missed)
load_taken parts page off len (Ok u) = touch_page page (load_touched page off len parts)
load_taken parts page off len (Err busy) = done (parts, Err (MissedAgain (WasBusy page busy.word)))

-- bytes of a page through an entry that shows it
unfoldable pub load_page : Parts → ℕ → ℕ → ℕ → Program (Parts × Result (List ℕ) Missed)
load_page parts page off len = take_page page (load_taken parts page off len)

abbrev pub store_touched : ℕ → ℕ → List ℕ → Parts → Result Unit Trap → Program (Parts × Result Unit Missed)
store_touched page off bytes parts (Ok u) = store_page page off bytes (put_page page (done (parts, Ok tt)))
store_touched page off bytes parts (Err trap) = touch_missed page parts trap

abbrev pub store_taken : Parts → ℕ → ℕ → List ℕ → Result Unit Busy → Program (Parts × Result Unit Missed)
store_taken parts page off bytes (Ok u) = touch_page page (store_touched page off bytes parts)
store_taken parts page off bytes (Err busy) = done (parts, Err (MissedAgain (WasBusy page busy.word)))

-- bytes are stored to a page through a writable entry that shows it: its change bit tells
unfoldable pub store_through : Parts → ℕ → ℕ → List ℕ → Program (Parts × Result Unit Missed)
store_through parts page off bytes = take_page page (store_taken parts page off bytes)

-- the page has its bytes, and isn't locked
abbrev pub filled : Parts → ℕ → Parts
filled parts page = record parts { pages = with_owner (with_uptodate parts.pages page true) page None }

-- the block that the page's tag is read from
abbrev pub backing_at : Parts → ℕ → Option ℕ
backing_at parts page = of (info_at parts.pages page).tag
  where
    of : Option Tag → Option ℕ
    of None = None
    of (Some tag) = backing_of parts.cache tag

-- the page that couldn't be filled is free again
abbrev pub give_up : Parts → ℕ → Cause → Program (Parts × Filled)
give_up parts page cause = order_page page SetUnused (λ was_done. put_page page (done (freed parts page, Fail cause)))

-- all bytes are stored, which sets the change bit: it is dropped
abbrev pub fill_with : Parts → ℕ → List ℕ → Program (Parts × Filled)
fill_with parts page bytes =
    store_page page 0 bytes (take_change page (λ changed. bind (rehint (filled parts page) page) (λ after. put_page page (done (after, Done)))))

abbrev pub fill_read : Parts → ℕ → Result (List ℕ) Failed → Program (Parts × Filled)
fill_read parts page (Ok bytes) = fill_with parts page bytes
fill_read parts page (Err failed) = give_up parts page Disk

-- what no block backs is zeros
abbrev pub fill_from : Parts → ℕ → Option ℕ → Program (Parts × Filled)
fill_from parts page (Some block) = read_block block (fill_read parts page)
fill_from parts page None = fill_with parts page zero_page

abbrev pub fill_touched : Parts → ℕ → Result Unit Trap → Program (Parts × Filled)
fill_touched parts page (Ok u) = fill_from parts page (backing_at parts page)
fill_touched parts page (Err Discarded) = give_up parts page PagingCause
fill_touched parts page (Err Paging) = give_up parts page PagingCause
fill_touched parts page (Err (NoFrame looks)) = put_page page (done (parts, Again (HadNoFrame looks)))

abbrev pub fill_taken : Parts → ℕ → Result Unit Busy → Program (Parts × Filled)
fill_taken parts page (Ok u) = order_page page SetStableResident (λ was_done. touch_page page (fill_touched parts page))
fill_taken parts page (Err busy) = done (parts, Again (WasBusy page busy.word))

-- a locked page gets the bytes of its tag
unfoldable pub fill : Parts → ℕ → Program (Parts × Filled)
fill parts page = take_page page (fill_taken parts page)
