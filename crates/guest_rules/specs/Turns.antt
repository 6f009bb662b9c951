-- The turns of a processor, as programs of calls: the table of turns.
use Rattle.std.specs.Prelude.{ℕ, ◌+◌, ◌*◌, ◌/◌, ◌%◌, List, [], ◌∷◌, Bool, true, false, not, ◌&&◌, nat_lt, nat_le, if◌then◌else◌, length, Option, Some, None, Result, Ok, Err, slice_get}
use Rattle.cmm_types.specs.declared.page.TheConstants.{PAGE}
use Rattle.cmm_types.specs.declared.page.Tag.{Tag}
use Rattle.cmm_types.specs.declared.page.Tag.TheVariants.{File as FileTag, Anon as AnonTag}
use Rattle.cmm_types.specs.declared.plan.TheConstants.{MAX_LIVE_MAPPINGS}
use Rattle.cmm_types.specs.declared.plan.FilePlan.{FilePlan}
use Rattle.cmm_types.specs.declared.command.Op.{Op}
use Rattle.cmm_types.specs.declared.command.Op.TheVariants.{Read, Write, Sync, MapFile, MapAnon, Unmap, Load, Store, Pin, Unpin}
use Rattle.cmm_types.specs.declared.command.Reply.TheVariants.{Done as ReplyDone, Bytes, Refused, Fail}
use Rattle.cmm_types.specs.declared.command.Cause.TheVariants.{NoPage as NoPageCause}
use Rattle.cmm_types.specs.declared.command.FlatRefusal.{FlatRefusal}
use Rattle.cmm_types.specs.declared.command.FlatRefusal.TheVariants.{NoMapping, AlreadyMapped, OutOfRange, ReadOnly, Pinned, NotPinned, TooManyMaps}
use Rattle.cmm_types.specs.declared.turn.Turn.{Turn}
use Rattle.cmm_types.specs.declared.turn.Turn.TheVariants.{Moved, Finished, Waits, Again, Idle}
use Rattle.cmm_types.specs.declared.turn.Why.TheVariants.{Busy as WasBusy}
use Rattle.cmm_flat.specs.Legal.{command_of, process_of}
use Rattle.essa_state.specs.declared.orders.Order.TheVariants.{SetStable}
use Rattle.cmm_storage.specs.declared.storage.Busy.{Busy}
use Rattle.cmm_storage.specs.Program.{Program, done, take_page, order_page, put_page, bind}
use Rattle.guest_pages.specs.PagesView.{info_at, with_info, popped}
use Rattle.guest_cache.specs.CacheView.{page_of, with_page}
use Rattle.guest_maps.specs.declared.slot.Pte.{Pte}
use Rattle.guest_maps.specs.declared.slot.Shown.{Shown}
use Rattle.guest_maps.specs.declared.slot.Shown.TheVariants.{File as OfFile, Anon as OfItsOwn}
use Rattle.guest_maps.specs.declared.slot.Slot.{Slot}
use Rattle.guest_maps.specs.MapsView.{MapsView, slot_at, find_slot, free_slot, live_slots, entry_at, pinned_at, any_pinned, tag_at, is_writable, with_slot_mapped, torn_slot, freed_slot}
use Rattle.guest_rules.specs.declared.parts.Parts.{Parts}
use Rattle.guest_rules.specs.declared.processor.Phase.{Phase}
use Rattle.guest_rules.specs.declared.processor.Phase.TheVariants.{Start, Fill, Room as AtRoom, Sync as AtSync, SyncWrite, Teardown}
use Rattle.guest_rules.specs.declared.outcome.Filled.{Filled}
use Rattle.guest_rules.specs.declared.outcome.Filled.TheVariants.{Done as FilledDone, Again as FilledAgain, Fail as FilledFail}
use Rattle.guest_rules.specs.declared.outcome.Missed.{Missed}
use Rattle.guest_rules.specs.declared.outcome.Missed.TheVariants.{Gone as MissedGone, Again as MissedAgain, Fail as MissedFail}
use Rattle.guest_rules.specs.GuestState.{GuestState, processor_at, with_parts, with_phase, entered, answered, next_command}
use Rattle.guest_rules.specs.declared.outcome.Placed.{Placed}
use Rattle.guest_rules.specs.declared.outcome.Placed.TheVariants.{Done as PlaceDone, Gone as PlaceGone, Again as PlaceAgain}
use Rattle.guest_rules.specs.Rows.{read_page, write_page, load_page, store_through, resolve, fill, pin_page, clear_entry, tear_page, released}
use Rattle.guest_rules.specs.declared.outcome.Synced.{Synced}
use Rattle.guest_rules.specs.declared.outcome.Synced.TheVariants.{Clean, Locked, Gone as SyncGone, Waits as IsLocked, Again as SyncAgain}
use Rattle.guest_rules.specs.Syncs.{sync_page, write_back}
use Rattle.guest_rules.specs.declared.outcome.Room.{Room}
use Rattle.guest_rules.specs.declared.outcome.Room.TheVariants.{Freed, Locked as RoomLocked, Waits as RoomWaits, NoPage, Again as RoomAgain}
use Rattle.guest_rules.specs.MakeRoom.{make_room}

-- the pages of a file; none where there is no such file
abbrev pub file_pages : List FilePlan → ℕ → ℕ
file_pages files file = of (slice_get files file)
  where
    of : Option FilePlan → ℕ
    of None = 0
    of (Some plan) = plan.pages

-- there is such a file, and it has len bytes from off on
abbrev pub file_has_bytes : List FilePlan → ℕ → ℕ → ℕ → Bool
file_has_bytes files file off len = nat_lt file (length files) && nat_le (off + len) (PAGE * file_pages files file)

-- the pages of the mapping in a slot
abbrev pub mapping_pages : Option Slot → ℕ
mapping_pages None = 0
mapping_pages (Some slot) = slot.count

abbrev pub slot_writable : Option Slot → Bool
slot_writable None = false
slot_writable (Some slot) = is_writable slot.shown

-- why bytes of a mapping can't be reached
abbrev pub refusal_at : MapsView → (writes : Bool) → (off len : ℕ) → Option ℕ → Option FlatRefusal
refusal_at maps writes off len None = Some NoMapping
refusal_at maps writes off len (Some slot) =
    if nat_le (off + len) (PAGE * mapping_pages (slot_at maps slot))
    then (if writes && not (slot_writable (slot_at maps slot)) then Some ReadOnly else None)
    else Some OutOfRange

-- why a new mapping is refused, of pages that are there or aren't
abbrev pub refusal_of_new : GuestState → (are_there : Bool) → Option ℕ → Option FlatRefusal
refusal_of_new g are_there (Some slot) = Some AlreadyMapped
refusal_of_new g are_there None = if are_there then (if nat_le MAX_LIVE_MAPPINGS (live_slots g.parts.maps) then Some TooManyMaps else None) else Some OutOfRange

-- a place is pinned once, and unpinned only where it is pinned
abbrev pub refusal_of_pin : (pins is_pinned : Bool) → Option FlatRefusal
refusal_of_pin true true = Some Pinned
refusal_of_pin true false = None
refusal_of_pin false true = None
refusal_of_pin false false = Some NotPinned

-- why a page of a mapping can't be pinned or unpinned
abbrev pub refusal_of_pin_at : MapsView → (pins : Bool) → (index : ℕ) → Option ℕ → Option FlatRefusal
refusal_of_pin_at maps pins index None = Some NoMapping
refusal_of_pin_at maps pins index (Some slot) =
    if nat_lt index (mapping_pages (slot_at maps slot)) then refusal_of_pin pins (pinned_at maps slot index) else Some OutOfRange

-- a mapping ends only where none of its pages is pinned
abbrev pub refusal_of_unmap : MapsView → Option ℕ → Option FlatRefusal
refusal_of_unmap maps None = Some NoMapping
refusal_of_unmap maps (Some slot) = if any_pinned maps slot then Some Pinned else None

-- why a command of a process is refused, as the tables say
abbrev pub refusal_in : GuestState → (process : ℕ) → Op → Option FlatRefusal
refusal_in g process (Read file off len) = if file_has_bytes g.plan.files file off len then None else Some OutOfRange
refusal_in g process (Write file off bytes) = if file_has_bytes g.plan.files file off (length bytes) then None else Some OutOfRange
refusal_in g process (MapFile number file first count writable) =
    refusal_of_new g (file_has_bytes g.plan.files file (PAGE * first) (PAGE * count)) (find_slot g.parts.maps process number)
refusal_in g process (Load number off len) = refusal_at g.parts.maps false off len (find_slot g.parts.maps process number)
refusal_in g process (Store number off bytes) = refusal_at g.parts.maps true off (length bytes) (find_slot g.parts.maps process number)
refusal_in g process (Pin number index) = refusal_of_pin_at g.parts.maps true index (find_slot g.parts.maps process number)
refusal_in g process (Unpin number index) = refusal_of_pin_at g.parts.maps false index (find_slot g.parts.maps process number)
refusal_in g process (Sync file) = if nat_lt file (length g.plan.files) then None else Some OutOfRange
refusal_in g process (MapAnon number count) = refusal_of_new g true (find_slot g.parts.maps process number)
refusal_in g process (Unmap number) = refusal_of_unmap g.parts.maps (find_slot g.parts.maps process number)

-- a free page gets a tag, and is locked by the processor that is to fill it
unfoldable pub begun : Parts → ℕ → Tag → ℕ → Parts
begun parts page tag cpu =
    record parts {
      pages = popped (with_info parts.pages page (record { tag = Some tag; uptodate = false; dirty = false; owner = Some cpu; pins = 0; writers = 0 }));
      cache = with_page parts.cache tag page;
    }

abbrev pub begin_taken : GuestState → ℕ → Tag → ℕ → Result Unit Busy → Program (GuestState × Turn)
begin_taken g cpu tag page (Ok u) =
    order_page page SetStable (λ was_done. put_page page (done (with_phase (with_parts g (begun g.parts page tag cpu)) cpu (Fill page), Moved)))
begin_taken g cpu tag page (Err busy) = done (g, Again (WasBusy page busy.word))

-- a free page is to be filled for the command
unfoldable pub begin_turn : GuestState → ℕ → Tag → ℕ → Program (GuestState × Turn)
begin_turn g cpu tag page = take_page page (begin_taken g cpu tag page)

-- a command whose page wasn't reached
abbrev pub missed_next : GuestState → ℕ → Op → Parts → Missed → Program (GuestState × Turn)
missed_next g cpu op parts MissedGone = done (with_parts g parts, Moved)
missed_next g cpu op parts (MissedAgain why) = done (with_parts g parts, Again why)
missed_next g cpu op parts (MissedFail cause) = done (entered (with_parts g parts) cpu op (Fail cause), Finished)

abbrev pub read_next : GuestState → ℕ → Op → Parts → Result (List ℕ) Missed → Program (GuestState × Turn)
read_next g cpu op parts (Ok bytes) = done (entered (with_parts g parts) cpu op (Bytes bytes), Finished)
read_next g cpu op parts (Err missed) = missed_next g cpu op parts missed

-- a command that is answered `Done` once its page was reached
abbrev pub done_next : GuestState → ℕ → Op → Parts → Result Unit Missed → Program (GuestState × Turn)
done_next g cpu op parts (Ok u) = done (entered (with_parts g parts) cpu op ReplyDone, Finished)
done_next g cpu op parts (Err missed) = missed_next g cpu op parts missed

abbrev pub resolve_next : GuestState → Parts → Placed → Program (GuestState × Turn)
resolve_next g parts PlaceDone = done (with_parts g parts, Moved)
resolve_next g parts PlaceGone = done (with_parts g parts, Moved)
resolve_next g parts (PlaceAgain why) = done (with_parts g parts, Again why)

abbrev pub resolve_in : GuestState → (page number off : ℕ) → (writable : Bool) → ℕ → Option ℕ → Program (GuestState × Turn)
resolve_in g page number off writable process None = done (g, Idle)
resolve_in g page number off writable process (Some slot) = bind (resolve g.parts page slot (off / PAGE) writable) (λ went. resolve_next g went.0 went.1)

-- the entry of the command's page is to be set
abbrev pub resolve_turn : GuestState → ℕ → (page number off : ℕ) → (writable : Bool) → Program (GuestState × Turn)
resolve_turn g cpu page number off writable =
    resolve_in g page number off writable (process_of g.plan cpu) (find_slot g.parts.maps (process_of g.plan cpu) number)

-- a pin or an unpin is answered `Done` once its page was held and stable: it never fails
abbrev pub pin_next : GuestState → ℕ → Op → Parts → Placed → Program (GuestState × Turn)
pin_next g cpu op parts PlaceDone = done (entered (with_parts g parts) cpu op ReplyDone, Finished)
pin_next g cpu op parts PlaceGone = done (with_parts g parts, Moved)
pin_next g cpu op parts (PlaceAgain why) = done (with_parts g parts, Again why)

abbrev pub pin_in : GuestState → ℕ → Op → (page index : ℕ) → (pins : Bool) → Option ℕ → Program (GuestState × Turn)
pin_in g cpu op page index pins None = done (g, Idle)
pin_in g cpu op page index pins (Some slot) = bind (pin_page g.parts page slot index pins) (λ went. pin_next g cpu op went.0 went.1)

-- the command's page is to be pinned or unpinned
abbrev pub pin_turn : GuestState → ℕ → Op → (page number index : ℕ) → (pins : Bool) → Program (GuestState × Turn)
pin_turn g cpu op page number index pins = pin_in g cpu op page index pins (find_slot g.parts.maps (process_of g.plan cpu) number)

-- the command finds its page up to date. The others need no page
unfoldable pub use_turn : GuestState → ℕ → Op → ℕ → Program (GuestState × Turn)
use_turn g cpu (Read file off len) page = bind (read_page g.parts page (off % PAGE) len) (λ went. read_next g cpu (Read file off len) went.0 went.1)
use_turn g cpu (Write file off bytes) page = bind (write_page g.parts page (off % PAGE) bytes) (λ went. done_next g cpu (Write file off bytes) went.0 went.1)
use_turn g cpu (Load number off len) page = resolve_turn g cpu page number off false
use_turn g cpu (Store number off bytes) page = resolve_turn g cpu page number off true
use_turn g cpu (Pin number index) page = pin_turn g cpu (Pin number index) page number index true
use_turn g cpu (Unpin number index) page = pin_turn g cpu (Unpin number index) page number index false
use_turn g cpu (Sync file) page = done (g, Idle)
use_turn g cpu (MapFile number file first count writable) page = done (g, Idle)
use_turn g cpu (MapAnon number count) page = done (g, Idle)
use_turn g cpu (Unmap number) page = done (g, Idle)

-- a load or a store finds its entry. The others go through none
unfoldable pub hit_turn : GuestState → ℕ → Op → ℕ → Program (GuestState × Turn)
hit_turn g cpu (Load number off len) page = bind (load_page g.parts page (off % PAGE) len) (λ went. read_next g cpu (Load number off len) went.0 went.1)
hit_turn g cpu (Store number off bytes) page = bind (store_through g.parts page (off % PAGE) bytes) (λ went. done_next g cpu (Store number off bytes) went.0 went.1)
hit_turn g cpu (Read file off len) page = done (g, Idle)
hit_turn g cpu (Write file off bytes) page = done (g, Idle)
hit_turn g cpu (Sync file) page = done (g, Idle)
hit_turn g cpu (MapFile number file first count writable) page = done (g, Idle)
hit_turn g cpu (MapAnon number count) page = done (g, Idle)
hit_turn g cpu (Unmap number) page = done (g, Idle)
hit_turn g cpu (Pin number index) page = done (g, Idle)
hit_turn g cpu (Unpin number index) page = done (g, Idle)

abbrev pub room_next : GuestState → ℕ → Op → Parts → Room → Program (GuestState × Turn)
room_next g cpu op parts Freed = done (with_parts g parts, Moved)
room_next g cpu op parts (RoomLocked page) = done (with_phase (with_parts g parts) cpu (AtRoom page), Moved)
room_next g cpu op parts (RoomWaits page owner) = done (with_parts g parts, Waits page owner)
room_next g cpu op parts (NoPage pinned unslotted) = done (entered (with_parts g parts) cpu op (Fail (NoPageCause pinned unslotted)), Finished)
room_next g cpu op parts (RoomAgain why) = done (with_parts g parts, Again why)

-- no page is free
unfoldable pub room_turn : GuestState → ℕ → Op → Program (GuestState × Turn)
room_turn g cpu op = bind (make_room g.parts cpu) (λ went. room_next g cpu op went.0 went.1)

-- no page has the tag
abbrev pub start_free : GuestState → ℕ → Op → Tag → List ℕ → Program (GuestState × Turn)
start_free g cpu op tag [] = room_turn g cpu op
start_free g cpu op tag (page ∷ rest) = begin_turn g cpu tag page

abbrev pub start_locked : GuestState → ℕ → Op → ℕ → Option ℕ → Program (GuestState × Turn)
start_locked g cpu op page (Some owner) = done (g, Waits page owner)
start_locked g cpu op page None = use_turn g cpu op page

abbrev pub start_found : GuestState → ℕ → Op → Tag → Option ℕ → Program (GuestState × Turn)
start_found g cpu op tag None = start_free g cpu op tag g.parts.pages.free
start_found g cpu op tag (Some page) = start_locked g cpu op page (info_at g.parts.pages page).owner

abbrev pub start_tagged : GuestState → ℕ → Op → Tag → Program (GuestState × Turn)
start_tagged g cpu op tag = start_found g cpu op tag (page_of g.parts.cache tag)

-- the place's tag; a command that isn't refused has one
abbrev pub start_at : GuestState → ℕ → Op → Option Tag → Program (GuestState × Turn)
start_at g cpu op None = done (g, Idle)
start_at g cpu op (Some tag) = start_tagged g cpu op tag

-- a load or a store at page `index` of a mapping: through the entry there, where it serves
abbrev pub start_entry : GuestState → ℕ → Op → (writes : Bool) → (slot index : ℕ) → Option Pte → Program (GuestState × Turn)
start_entry g cpu op writes slot index None = start_at g cpu op (tag_at g.parts.maps slot index)
start_entry g cpu op writes slot index (Some pte) =
    if writes && not pte.writable then start_at g cpu op (tag_at g.parts.maps slot index) else hit_turn g cpu op pte.page

abbrev pub start_mapped : GuestState → ℕ → Op → (writes : Bool) → (off : ℕ) → Option ℕ → Program (GuestState × Turn)
start_mapped g cpu op writes off None = done (g, Idle)
start_mapped g cpu op writes off (Some slot) = start_entry g cpu op writes slot (off / PAGE) (entry_at g.parts.maps slot (off / PAGE))

-- a page of a mapping is to be pinned or unpinned, whatever its entry
abbrev pub start_placed : GuestState → ℕ → Op → (index : ℕ) → Option ℕ → Program (GuestState × Turn)
start_placed g cpu op index None = done (g, Idle)
start_placed g cpu op index (Some slot) = start_at g cpu op (tag_at g.parts.maps slot index)

-- the lowest free slot has the new mapping
abbrev pub map_turn : GuestState → ℕ → Op → (number : ℕ) → Shown → (count : ℕ) → Option ℕ → Program (GuestState × Turn)
map_turn g cpu op number shown count None = done (g, Idle)
map_turn g cpu op number shown count (Some slot) =
    done (entered (with_parts g (record g.parts { maps = with_slot_mapped g.parts.maps slot (process_of g.plan cpu) number shown count })) cpu op ReplyDone, Finished)

-- the mapping ends: the unmap is answered here, and the slot's pages are taken off one after another
abbrev pub unmap_turn : GuestState → ℕ → Op → Option ℕ → Program (GuestState × Turn)
unmap_turn g cpu op None = done (g, Idle)
unmap_turn g cpu op (Some slot) = done (answered (with_parts g (record g.parts { maps = torn_slot g.parts.maps slot })) cpu op ReplyDone (Teardown slot 0), Moved)

-- an unmap goes on behind page `index` of its slot's mapping, which has so many pages; behind the last the slot is free
abbrev pub torn_past : GuestState → (cpu slot index count : ℕ) → GuestState × Turn
torn_past g cpu slot index count =
    if nat_lt (index + 1) count
    then (with_phase g cpu (Teardown slot (index + 1)), Moved)
    else (next_command (with_parts g (record g.parts { maps = freed_slot g.parts.maps slot })) cpu, Finished)

abbrev pub torn_next : GuestState → (cpu slot index count : ℕ) → Parts → Placed → Program (GuestState × Turn)
torn_next g cpu slot index count parts PlaceDone = done (torn_past (with_parts g parts) cpu slot index count)
torn_next g cpu slot index count parts PlaceGone = done (torn_past (with_parts g parts) cpu slot index count)
torn_next g cpu slot index count parts (PlaceAgain why) = done (with_parts g parts, Again why)

abbrev pub teardown_entry : GuestState → (cpu slot index count : ℕ) → Option Pte → Program (GuestState × Turn)
teardown_entry g cpu slot index count None = done (torn_past g cpu slot index count)
teardown_entry g cpu slot index count (Some pte) = bind (clear_entry g.parts slot index pte) (λ went. torn_next g cpu slot index count went.0 went.1)

abbrev pub teardown_owned : GuestState → (cpu slot index count page : ℕ) → Option ℕ → Program (GuestState × Turn)
teardown_owned g cpu slot index count page (Some owner) = done (g, Waits page owner)
teardown_owned g cpu slot index count page None = bind (tear_page g.parts slot index page) (λ went. torn_next g cpu slot index count went.0 went.1)

abbrev pub teardown_page : GuestState → (cpu slot index count : ℕ) → Option ℕ → Program (GuestState × Turn)
teardown_page g cpu slot index count None = done (torn_past (with_parts g (released g.parts slot index)) cpu slot index count)
teardown_page g cpu slot index count (Some page) = teardown_owned g cpu slot index count page (info_at g.parts.pages page).owner

-- of a file's mapping the entry goes; of a mapping of pages of its own the page goes, with its swap slot
abbrev pub teardown_shown : GuestState → (cpu slot index count : ℕ) → Shown → Program (GuestState × Turn)
teardown_shown g cpu slot index count (OfFile file first writable) = teardown_entry g cpu slot index count (entry_at g.parts.maps slot index)
teardown_shown g cpu slot index count OfItsOwn = teardown_page g cpu slot index count (page_of g.parts.cache (AnonTag slot index))

abbrev pub teardown_in : GuestState → (cpu slot index : ℕ) → Option Slot → Program (GuestState × Turn)
teardown_in g cpu slot index None = done (g, Idle)
teardown_in g cpu slot index (Some mapping) = teardown_shown g cpu slot index mapping.count mapping.shown

-- page `index` of the mapping that is torn down in a slot is taken off
unfoldable pub teardown_turn : GuestState → (cpu slot index : ℕ) → Program (GuestState × Turn)
teardown_turn g cpu slot index = teardown_in g cpu slot index (slot_at g.parts.maps slot)

-- a sync goes on behind page `index` of its file, which has so many pages, or is done
abbrev pub passed : GuestState → ℕ → Op → (pages index : ℕ) → GuestState × Turn
passed g cpu op pages index = if nat_lt (index + 1) pages then (with_phase g cpu (AtSync (index + 1)), Moved) else (entered g cpu op ReplyDone, Finished)

abbrev pub sync_next : GuestState → ℕ → Op → (pages index page : ℕ) → Parts → Synced → Program (GuestState × Turn)
sync_next g cpu op pages index page parts Clean = done (passed (with_parts g parts) cpu op pages index)
sync_next g cpu op pages index page parts SyncGone = done (passed (with_parts g parts) cpu op pages index)
sync_next g cpu op pages index page parts Locked = done (with_phase (with_parts g parts) cpu (SyncWrite index page), Moved)
sync_next g cpu op pages index page parts (IsLocked owner) = done (with_parts g parts, Waits page owner)
sync_next g cpu op pages index page parts (SyncAgain why) = done (with_parts g parts, Again why)

-- where no page has the tag, its block has the bytes
abbrev pub sync_found : GuestState → ℕ → Op → (pages index : ℕ) → Option ℕ → Program (GuestState × Turn)
sync_found g cpu op pages index None = done (passed g cpu op pages index)
sync_found g cpu op pages index (Some page) = bind (sync_page g.parts page cpu) (λ went. sync_next g cpu op pages index page went.0 went.1)

-- a sync looks at page `index` of its file. No other command is ever in this phase
unfoldable pub sync_turn : GuestState → ℕ → Op → (index : ℕ) → Program (GuestState × Turn)
sync_turn g cpu (Sync file) index = sync_found g cpu (Sync file) (file_pages g.plan.files file) index (page_of g.parts.cache (FileTag file index))
sync_turn g cpu (Read file off len) index = done (g, Idle)
sync_turn g cpu (Write file off bytes) index = done (g, Idle)
sync_turn g cpu (MapFile number file first count writable) index = done (g, Idle)
sync_turn g cpu (MapAnon number count) index = done (g, Idle)
sync_turn g cpu (Unmap number) index = done (g, Idle)
sync_turn g cpu (Load number off len) index = done (g, Idle)
sync_turn g cpu (Store number off bytes) index = done (g, Idle)
sync_turn g cpu (Pin number at) index = done (g, Idle)
sync_turn g cpu (Unpin number at) index = done (g, Idle)

abbrev pub written_next : GuestState → ℕ → Op → (pages index : ℕ) → Parts → Filled → Program (GuestState × Turn)
written_next g cpu op pages index parts FilledDone = done (passed (with_parts g parts) cpu op pages index)
written_next g cpu op pages index parts (FilledAgain why) = done (with_parts g parts, Again why)
written_next g cpu op pages index parts (FilledFail cause) = done (entered (with_parts g parts) cpu op (Fail cause), Finished)

-- a sync writes page `index` of its file back. No other command is ever in this phase
unfoldable pub write_back_turn : GuestState → ℕ → Op → (index page : ℕ) → Program (GuestState × Turn)
write_back_turn g cpu (Sync file) index page = bind (write_back g.parts page) (λ went. written_next g cpu (Sync file) (file_pages g.plan.files file) index went.0 went.1)
write_back_turn g cpu (Read file off len) index page = done (g, Idle)
write_back_turn g cpu (Write file off bytes) index page = done (g, Idle)
write_back_turn g cpu (MapFile number file first count writable) index page = done (g, Idle)
write_back_turn g cpu (MapAnon number count) index page = done (g, Idle)
write_back_turn g cpu (Unmap number) index page = done (g, Idle)
write_back_turn g cpu (Load number off len) index page = done (g, Idle)
write_back_turn g cpu (Store number off bytes) index page = done (g, Idle)
write_back_turn g cpu (Pin number at) index page = done (g, Idle)
write_back_turn g cpu (Unpin number at) index page = done (g, Idle)

-- a command that isn't refused
abbrev pub start_accepted : GuestState → ℕ → Op → Program (GuestState × Turn)
start_accepted g cpu (Read file off len) = start_tagged g cpu (Read file off len) (FileTag file (off / PAGE))
start_accepted g cpu (Write file off bytes) = start_tagged g cpu (Write file off bytes) (FileTag file (off / PAGE))
start_accepted g cpu (MapFile number file first count writable) =
    map_turn g cpu (MapFile number file first count writable) number (OfFile file first writable) count (free_slot g.parts.maps)
start_accepted g cpu (Load number off len) = start_mapped g cpu (Load number off len) false off (find_slot g.parts.maps (process_of g.plan cpu) number)
start_accepted g cpu (Store number off bytes) = start_mapped g cpu (Store number off bytes) true off (find_slot g.parts.maps (process_of g.plan cpu) number)
start_accepted g cpu (Pin number index) = start_placed g cpu (Pin number index) index (find_slot g.parts.maps (process_of g.plan cpu) number)
start_accepted g cpu (Unpin number index) = start_placed g cpu (Unpin number index) index (find_slot g.parts.maps (process_of g.plan cpu) number)
start_accepted g cpu (Sync file) = sync_turn g cpu (Sync file) 0
start_accepted g cpu (MapAnon number count) = map_turn g cpu (MapAnon number count) number OfItsOwn count (free_slot g.parts.maps)
start_accepted g cpu (Unmap number) = unmap_turn g cpu (Unmap number) (find_slot g.parts.maps (process_of g.plan cpu) number)

abbrev pub start_refused : GuestState → ℕ → Op → Option FlatRefusal → Program (GuestState × Turn)
start_refused g cpu op (Some refusal) = done (entered g cpu op (Refused refusal), Finished)
start_refused g cpu op None = start_accepted g cpu op

-- the turn of a processor in phase Start
unfoldable pub start_turn : GuestState → ℕ → Op → Program (GuestState × Turn)
start_turn g cpu op = start_refused g cpu op (refusal_in g (process_of g.plan cpu) op)

abbrev pub fill_next : GuestState → ℕ → Op → Parts → Filled → Program (GuestState × Turn)
fill_next g cpu op parts FilledDone = done (with_phase (with_parts g parts) cpu Start, Moved)
fill_next g cpu op parts (FilledAgain why) = done (with_parts g parts, Again why)
fill_next g cpu op parts (FilledFail cause) = done (entered (with_parts g parts) cpu op (Fail cause), Finished)

-- the turn of a processor that fills a page
unfoldable pub fill_turn : GuestState → ℕ → Op → ℕ → Program (GuestState × Turn)
fill_turn g cpu op page = bind (fill g.parts page) (λ went. fill_next g cpu op went.0 went.1)

-- the turn of a processor that writes a page back to make room. The processor looks at its command again where this is done
unfoldable pub page_out_turn : GuestState → ℕ → Op → ℕ → Program (GuestState × Turn)
page_out_turn g cpu op page = bind (write_back g.parts page) (λ went. fill_next g cpu op went.0 went.1)

abbrev pub turn_in : GuestState → ℕ → Op → Phase → Program (GuestState × Turn)
turn_in g cpu op Start = start_turn g cpu op
turn_in g cpu op (Fill page) = fill_turn g cpu op page
turn_in g cpu op (AtRoom page) = page_out_turn g cpu op page
turn_in g cpu op (AtSync index) = sync_turn g cpu op index
turn_in g cpu op (SyncWrite index page) = write_back_turn g cpu op index page
turn_in g cpu op (Teardown slot index) = teardown_turn g cpu slot index

abbrev pub turn_on : GuestState → ℕ → Option Op → Program (GuestState × Turn)
turn_on g cpu None = done (g, Idle)
turn_on g cpu (Some op) = turn_in g cpu op (processor_at g cpu).phase

-- one turn of a processor
unfoldable pub turn : GuestState → ℕ → Program (GuestState × Turn)
turn g cpu = turn_on g cpu (command_of g.plan cpu (processor_at g cpu).place)
