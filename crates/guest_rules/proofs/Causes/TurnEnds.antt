-- A turn that has to be taken again names the call that missed.
use Rattle.std.specs.Prelude.{◌≡◌, ℕ, ◌/◌, ◌%◌, ◌+◌, List, [], ◌∷◌, Bool, true, false, not, ◌&&◌, nat_lt, if◌then◌else◌, Option, Some, None, Result, Ok, Err, refl}
use Rattle.cmm_types.specs.declared.page.TheConstants.{PAGE}
use Rattle.cmm_types.specs.declared.page.Tag.{Tag}
use Rattle.cmm_types.specs.declared.page.Tag.TheVariants.{File, Anon}
use Rattle.cmm_types.specs.declared.command.Op.{Op}
use Rattle.cmm_types.specs.declared.command.Op.TheVariants.{Read, Write, Sync, MapFile, MapAnon, Unmap, Load, Store, Pin, Unpin}
use Rattle.cmm_types.specs.declared.command.Reply.TheVariants.{Done}
use Rattle.cmm_types.specs.declared.command.FlatRefusal.{FlatRefusal}
use Rattle.cmm_types.specs.declared.turn.Turn.{Turn}
use Rattle.cmm_types.specs.declared.turn.Turn.TheVariants.{Moved, Finished, Waits, Again, Idle}
use Rattle.cmm_types.specs.declared.turn.Why.{Why}
use Rattle.cmm_io.specs.DiskCall.{DiskCall}
use Rattle.cmm_flat.specs.Legal.{command_of, process_of}
use Rattle.cmm_storage.specs.StorageCall.{StorageCall}
use Rattle.cmm_storage.specs.Program.{Program, Does, bind}
use Rattle.guest_pages.specs.PagesView.{info_at}
use Rattle.guest_cache.specs.CacheView.{page_of}
use Rattle.guest_maps.specs.declared.slot.Pte.{Pte}
use Rattle.guest_maps.specs.declared.slot.Shown.{Shown}
use Rattle.guest_maps.specs.declared.slot.Shown.TheVariants.{File as OfFile, Anon as OfItsOwn}
use Rattle.guest_maps.specs.declared.slot.Slot.{Slot}
use Rattle.guest_maps.specs.MapsView.{slot_at, find_slot, free_slot, entry_at, tag_at, freed_slot}
use Rattle.guest_rules.specs.declared.parts.Parts.{Parts}
use Rattle.guest_rules.specs.declared.processor.Phase.{Phase}
use Rattle.guest_rules.specs.declared.processor.Phase.TheVariants.{Start, Fill, Room as AtRoom, Sync as AtSync, SyncWrite, Teardown}
use Rattle.guest_rules.specs.declared.outcome.Filled.{Filled}
use Rattle.guest_rules.specs.declared.outcome.Filled.TheVariants.{Done as FilledDone, Again as FilledAgain, Fail as FilledFail}
use Rattle.guest_rules.specs.declared.outcome.Missed.{Missed}
use Rattle.guest_rules.specs.declared.outcome.Missed.TheVariants.{Gone as MissedGone, Again as MissedAgain, Fail as MissedFail}
use Rattle.guest_rules.specs.declared.outcome.Placed.{Placed}
use Rattle.guest_rules.specs.declared.outcome.Placed.TheVariants.{Done as PlaceDone, Gone as PlaceGone, Again as PlaceAgain}
use Rattle.guest_rules.specs.declared.outcome.Synced.{Synced}
use Rattle.guest_rules.specs.declared.outcome.Synced.TheVariants.{Clean, Locked, Gone as SyncGone, Waits as IsLocked, Again as SyncAgain}
use Rattle.guest_rules.specs.declared.outcome.Room.{Room}
use Rattle.guest_rules.specs.declared.outcome.Room.TheVariants.{Freed, Locked as RoomLocked, Waits as RoomWaits, NoPage, Again as RoomAgain}
use Rattle.guest_rules.specs.GuestState.{GuestState, processor_at, with_parts, with_phase, entered, next_command}
use Rattle.guest_rules.specs.Rows.{read_page, write_page, load_page, store_through, resolve, fill, pin_page, clear_entry, tear_page, released}
use Rattle.guest_rules.specs.Syncs.{sync_page, write_back}
use Rattle.guest_rules.specs.MakeRoom.{make_room}
use Rattle.guest_rules.specs.Turns.{file_pages, passed, refusal_in, begin_turn, missed_next, read_next, done_next, resolve_next, resolve_in, pin_next, pin_in, use_turn, hit_turn}
use Rattle.guest_rules.specs.Turns.{room_next, room_turn, start_free, start_locked, start_found, start_tagged, start_at, start_entry, start_mapped, start_placed, map_turn}
use Rattle.guest_rules.specs.Turns.{unmap_turn, torn_past, torn_next, teardown_entry, teardown_owned, teardown_page, teardown_shown, teardown_in, teardown_turn, sync_next}
use Rattle.guest_rules.specs.Turns.{sync_found, sync_turn, written_next, write_back_turn, start_accepted, start_refused, start_turn, fill_next, fill_turn, page_out_turn, turn_in, turn_on, turn}
use Rattle.guest_rules.specs.Again.{WhyAgain}
use Rattle.guest_rules.proofs.Causes.Ends.{Ends, ends_bind, ends_map, missed_in}
use Rattle.guest_rules.proofs.Causes.RowEnds.{MissNames, PlacedNames, FilledNames, SyncedNames, read_ends, write_ends, load_ends}
use Rattle.guest_rules.proofs.Causes.RowEnds.{store_ends, resolve_ends, pin_ends, clear_ends, tear_ends, fill_ends, sync_ends, write_back_ends}
use Rattle.guest_rules.proofs.Causes.RoomEnds.{RoomNames, make_room_ends}

-- an answer `Again` is that of the call that missed last
abbrev pub Names : Option Why → Turn → Type 0
Names last Moved = Unit {0}
Names last Finished = Unit {0}
Names last (Waits page owner) = Unit {0}
Names last (Again why) = last ≡ Some why
Names last Idle = Unit {0}

abbrev TurnNames : Option Why → GuestState × Turn → Type 0
TurnNames last a = Names last a.1

-- a turn that is a row and what follows it
row_ends : {R : Type 0} (row : Program (Parts × R)) (next : Parts → R → Program (GuestState × Turn)) (RowNames : Option Why → Parts × R → Type 0) → Ends row None RowNames
    → ((last : Option Why) (parts : Parts) (r : R) → RowNames last (parts, r) → Ends (next parts r) last TurnNames) → Ends (bind row (λ went. next went.0 went.1)) None TurnNames
row_ends row next RowNames h follows =
    ends_bind row (λ went. next went.0 went.1) None TurnNames
    (ends_map row None RowNames (λ last went. Ends (next went.0 went.1) last TurnNames) (λ last went names. follows last went.0 went.1 names) h)

-- ---- what follows a row

missed_ends : (g : GuestState) (cpu : ℕ) (op : Op) (last : Option Why) (parts : Parts) (missed : Missed) → MissNames {R = Unit {0}} last (parts, Err missed)
    → Ends (missed_next g cpu op parts missed) last TurnNames
missed_ends g cpu op last parts MissedGone names = tt
missed_ends g cpu op last parts (MissedAgain why) names = names
missed_ends g cpu op last parts (MissedFail cause) names = tt

-- the same of every answer
other_answer : (R : Type 0) (last : Option Why) (parts : Parts) (missed : Missed) → MissNames {R = R} last (parts, Err missed) → MissNames {R = Unit {0}} last (parts, Err missed)
other_answer R last parts MissedGone names = tt
other_answer R last parts (MissedAgain why) names = names
other_answer R last parts (MissedFail cause) names = tt

read_follows : (g : GuestState) (cpu : ℕ) (op : Op) (last : Option Why) (parts : Parts) (r : Result (List ℕ) Missed) → MissNames {R = List ℕ} last (parts, r)
    → Ends (read_next g cpu op parts r) last TurnNames
read_follows g cpu op last parts (Ok bytes) names = tt
read_follows g cpu op last parts (Err missed) names = missed_ends g cpu op last parts missed (other_answer (List ℕ) last parts missed names)

done_follows : (g : GuestState) (cpu : ℕ) (op : Op) (last : Option Why) (parts : Parts) (r : Result Unit Missed) → MissNames {R = Unit {0}} last (parts, r)
    → Ends (done_next g cpu op parts r) last TurnNames
done_follows g cpu op last parts (Ok u) names = tt
done_follows g cpu op last parts (Err missed) names = missed_ends g cpu op last parts missed names

resolve_follows : (g : GuestState) (last : Option Why) (parts : Parts) (r : Placed) → PlacedNames last (parts, r) → Ends (resolve_next g parts r) last TurnNames
resolve_follows g last parts PlaceDone names = tt
resolve_follows g last parts PlaceGone names = tt
resolve_follows g last parts (PlaceAgain why) names = names

-- g the guest, cpu the processor, op its command, last the call that missed last, parts the guest's tables
module _ (g : GuestState) (cpu : ℕ) (op : Op) (last : Option Why) (parts : Parts) where
  pin_follows : (r : Placed) → PlacedNames last (parts, r) → Ends (pin_next g cpu op parts r) last TurnNames
  pin_follows PlaceDone names = tt
  pin_follows PlaceGone names = tt
  pin_follows (PlaceAgain why) names = names

  fill_follows : (r : Filled) → FilledNames last (parts, r) → Ends (fill_next g cpu op parts r) last TurnNames
  fill_follows FilledDone names = tt
  fill_follows (FilledAgain why) names = names
  fill_follows (FilledFail cause) names = tt

  room_follows : (r : Room) → RoomNames last (parts, r) → Ends (room_next g cpu op parts r) last TurnNames
  room_follows Freed names = tt
  room_follows (RoomLocked page) names = tt
  room_follows (RoomWaits page owner) names = tt
  room_follows (NoPage pinned unslotted) names = tt
  room_follows (RoomAgain why) names = names

passed_names : (g : GuestState) (cpu : ℕ) (op : Op) (pages index : ℕ) (last : Option Why) → TurnNames last (passed g cpu op pages index)
passed_names g cpu op pages index last = of (nat_lt (index + 1) pages)
  where
    of : (more : Bool) → TurnNames last (if more then (with_phase g cpu (AtSync (index + 1)), Moved) else (entered g cpu op Done, Finished))
    of true = tt
    of false = tt

written_follows : (g : GuestState) (cpu : ℕ) (op : Op) (pages index : ℕ) (last : Option Why) (parts : Parts) (r : Filled) → FilledNames last (parts, r)
    → Ends (written_next g cpu op pages index parts r) last TurnNames
written_follows g cpu op pages index last parts FilledDone names = passed_names (with_parts g parts) cpu op pages index last
written_follows g cpu op pages index last parts (FilledAgain why) names = names
written_follows g cpu op pages index last parts (FilledFail cause) names = tt

sync_follows : (g : GuestState) (cpu : ℕ) (op : Op) (pages index page : ℕ) (last : Option Why) (parts : Parts) (r : Synced) → SyncedNames last (parts, r)
    → Ends (sync_next g cpu op pages index page parts r) last TurnNames
sync_follows g cpu op pages index page last parts Clean names = passed_names (with_parts g parts) cpu op pages index last
sync_follows g cpu op pages index page last parts SyncGone names = passed_names (with_parts g parts) cpu op pages index last
sync_follows g cpu op pages index page last parts Locked names = tt
sync_follows g cpu op pages index page last parts (IsLocked owner) names = tt
sync_follows g cpu op pages index page last parts (SyncAgain why) names = names

torn_names : (g : GuestState) (cpu slot index count : ℕ) (last : Option Why) → TurnNames last (torn_past g cpu slot index count)
torn_names g cpu slot index count last = of (nat_lt (index + 1) count)
  where
    of : (more : Bool)
        → TurnNames last (if more then (with_phase g cpu (Teardown slot (index + 1)), Moved) else (next_command (with_parts g (record g.parts { maps = freed_slot g.parts.maps slot })) cpu, Finished))
    of true = tt
    of false = tt

torn_follows : (g : GuestState) (cpu slot index count : ℕ) (last : Option Why) (parts : Parts) (r : Placed) → PlacedNames last (parts, r)
    → Ends (torn_next g cpu slot index count parts r) last TurnNames
torn_follows g cpu slot index count last parts PlaceDone names = torn_names (with_parts g parts) cpu slot index count last
torn_follows g cpu slot index count last parts PlaceGone names = torn_names (with_parts g parts) cpu slot index count last
torn_follows g cpu slot index count last parts (PlaceAgain why) names = names

-- ---- the turns

resolve_found : (g : GuestState) (page number off : ℕ) (writable : Bool) (process : ℕ) (found : Option ℕ) → Ends (resolve_in g page number off writable process found) None TurnNames
resolve_found g page number off writable process None = tt
resolve_found g page number off writable process (Some slot) =
    row_ends (resolve g.parts page slot (off / PAGE) writable) (resolve_next g) PlacedNames (resolve_ends g.parts page slot (off / PAGE) writable) (resolve_follows g)

pin_found : (g : GuestState) (cpu : ℕ) (op : Op) (page index : ℕ) (pins : Bool) (found : Option ℕ) → Ends (pin_in g cpu op page index pins found) None TurnNames
pin_found g cpu op page index pins None = tt
pin_found g cpu op page index pins (Some slot) =
    row_ends (pin_page g.parts page slot index pins) (pin_next g cpu op) PlacedNames (pin_ends g.parts page slot index pins) (pin_follows g cpu op)

use_ends : (g : GuestState) (cpu : ℕ) (op : Op) (page : ℕ) → Ends (use_turn g cpu op page) None TurnNames
unfolding use_turn
use_ends g cpu (Read file off len) page =
    row_ends (read_page g.parts page (off % PAGE) len) (read_next g cpu (Read file off len)) (MissNames {R = List ℕ}) (read_ends g.parts page (off % PAGE) len) (read_follows g cpu (Read file off len))
use_ends g cpu (Write file off bytes) page =
    row_ends (write_page g.parts page (off % PAGE) bytes) (done_next g cpu (Write file off bytes)) (MissNames {R = Unit {0}}) (write_ends g.parts page (off % PAGE) bytes)
    (done_follows g cpu (Write file off bytes))
use_ends g cpu (Sync file) page = tt
use_ends g cpu (MapFile number file first count writable) page = tt
use_ends g cpu (MapAnon number count) page = tt
use_ends g cpu (Unmap number) page = tt
use_ends g cpu (Load number off len) page = resolve_found g page number off false (process_of g.plan cpu) (find_slot g.parts.maps (process_of g.plan cpu) number)
use_ends g cpu (Store number off bytes) page = resolve_found g page number off true (process_of g.plan cpu) (find_slot g.parts.maps (process_of g.plan cpu) number)
use_ends g cpu (Pin number index) page = pin_found g cpu (Pin number index) page index true (find_slot g.parts.maps (process_of g.plan cpu) number)
use_ends g cpu (Unpin number index) page = pin_found g cpu (Unpin number index) page index false (find_slot g.parts.maps (process_of g.plan cpu) number)

hit_ends : (g : GuestState) (cpu : ℕ) (op : Op) (page : ℕ) → Ends (hit_turn g cpu op page) None TurnNames
unfolding hit_turn
hit_ends g cpu (Load number off len) page =
    row_ends (load_page g.parts page (off % PAGE) len) (read_next g cpu (Load number off len)) (MissNames {R = List ℕ}) (load_ends g.parts page (off % PAGE) len)
    (read_follows g cpu (Load number off len))
hit_ends g cpu (Store number off bytes) page =
    row_ends (store_through g.parts page (off % PAGE) bytes) (done_next g cpu (Store number off bytes)) (MissNames {R = Unit {0}}) (store_ends g.parts page (off % PAGE) bytes)
    (done_follows g cpu (Store number off bytes))
hit_ends g cpu (Read file off len) page = tt
hit_ends g cpu (Write file off bytes) page = tt
hit_ends g cpu (Sync file) page = tt
hit_ends g cpu (MapFile number file first count writable) page = tt
hit_ends g cpu (MapAnon number count) page = tt
hit_ends g cpu (Unmap number) page = tt
hit_ends g cpu (Pin number index) page = tt
hit_ends g cpu (Unpin number index) page = tt

begin_ends : (g : GuestState) (cpu : ℕ) (tag : Tag) (page : ℕ) → Ends (begin_turn g cpu tag page) None TurnNames
unfolding begin_turn
begin_ends g cpu tag page (Err busy) = refl
begin_ends g cpu tag page (Ok u) = λ was_done. tt

-- g the guest, cpu the processor, op its command
module _ (g : GuestState) (cpu : ℕ) (op : Op) where
  room_ends : Ends (room_turn g cpu op) None TurnNames
  unfolding room_turn
  room_ends = row_ends (make_room g.parts cpu) (room_next g cpu op) RoomNames (make_room_ends g.parts cpu) (room_follows g cpu op)

  free_ends : (tag : Tag) (free : List ℕ) → Ends (start_free g cpu op tag free) None TurnNames
  free_ends tag [] = room_ends
  free_ends tag (page ∷ rest) = begin_ends g cpu tag page

  locked_ends : (page : ℕ) (owner : Option ℕ) → Ends (start_locked g cpu op page owner) None TurnNames
  locked_ends page (Some owner) = tt
  locked_ends page None = use_ends g cpu op page

  found_ends : (tag : Tag) (found : Option ℕ) → Ends (start_found g cpu op tag found) None TurnNames
  found_ends tag None = free_ends tag g.parts.pages.free
  found_ends tag (Some page) = locked_ends page (info_at g.parts.pages page).owner

  tagged_ends : (tag : Tag) → Ends (start_tagged g cpu op tag) None TurnNames
  tagged_ends tag = found_ends tag (page_of g.parts.cache tag)

  at_ends : (tag : Option Tag) → Ends (start_at g cpu op tag) None TurnNames
  at_ends None = tt
  at_ends (Some tag) = tagged_ends tag

  entry_ends : (writes : Bool) (slot index : ℕ) (entry : Option Pte) → Ends (start_entry g cpu op writes slot index entry) None TurnNames
  entry_ends writes slot index None = at_ends (tag_at g.parts.maps slot index)
  entry_ends writes slot index (Some pte) = of (writes && not pte.writable)
    where
      of : (sets : Bool) → Ends (if sets then start_at g cpu op (tag_at g.parts.maps slot index) else hit_turn g cpu op pte.page) None TurnNames
      of true = at_ends (tag_at g.parts.maps slot index)
      of false = hit_ends g cpu op pte.page

  mapped_ends : (writes : Bool) (off : ℕ) (found : Option ℕ) → Ends (start_mapped g cpu op writes off found) None TurnNames
  mapped_ends writes off None = tt
  mapped_ends writes off (Some slot) = entry_ends writes slot (off / PAGE) (entry_at g.parts.maps slot (off / PAGE))

  placed_ends : (index : ℕ) (found : Option ℕ) → Ends (start_placed g cpu op index found) None TurnNames
  placed_ends index None = tt
  placed_ends index (Some slot) = at_ends (tag_at g.parts.maps slot index)

  map_ends : (number : ℕ) (shown : Shown) (count : ℕ) (free : Option ℕ) → Ends (map_turn g cpu op number shown count free) None TurnNames
  map_ends number shown count None = tt
  map_ends number shown count (Some slot) = tt

  unmap_ends : (found : Option ℕ) → Ends (unmap_turn g cpu op found) None TurnNames
  unmap_ends None = tt
  unmap_ends (Some slot) = tt

-- g the guest, cpu the processor, slot the slot of a mapping, index a page of it
module _ (g : GuestState) (cpu slot index : ℕ) where
  teardown_entry_ends : (count : ℕ) (entry : Option Pte) → Ends (teardown_entry g cpu slot index count entry) None TurnNames
  teardown_entry_ends count None = torn_names g cpu slot index count None
  teardown_entry_ends count (Some pte) =
      row_ends (clear_entry g.parts slot index pte) (torn_next g cpu slot index count) PlacedNames (clear_ends g.parts slot index pte) (torn_follows g cpu slot index count)

  teardown_owned_ends : (count page : ℕ) (owner : Option ℕ) → Ends (teardown_owned g cpu slot index count page owner) None TurnNames
  teardown_owned_ends count page (Some owner) = tt
  teardown_owned_ends count page None =
      row_ends (tear_page g.parts slot index page) (torn_next g cpu slot index count) PlacedNames (tear_ends g.parts slot index page) (torn_follows g cpu slot index count)

  teardown_page_ends : (count : ℕ) (page : Option ℕ) → Ends (teardown_page g cpu slot index count page) None TurnNames
  teardown_page_ends count None = torn_names (with_parts g (released g.parts slot index)) cpu slot index count None
  teardown_page_ends count (Some page) = teardown_owned_ends count page (info_at g.parts.pages page).owner

  teardown_shown_ends : (count : ℕ) (shown : Shown) → Ends (teardown_shown g cpu slot index count shown) None TurnNames
  teardown_shown_ends count (OfFile file first writable) = teardown_entry_ends count (entry_at g.parts.maps slot index)
  teardown_shown_ends count OfItsOwn = teardown_page_ends count (page_of g.parts.cache (Anon slot index))

  teardown_in_ends : (mapping : Option Slot) → Ends (teardown_in g cpu slot index mapping) None TurnNames
  teardown_in_ends None = tt
  teardown_in_ends (Some mapping) = teardown_shown_ends mapping.count mapping.shown

  teardown_ends : Ends (teardown_turn g cpu slot index) None TurnNames
  unfolding teardown_turn
  teardown_ends = teardown_in_ends (slot_at g.parts.maps slot)

look_ends : (g : GuestState) (cpu file index : ℕ) (found : Option ℕ) → Ends (sync_found g cpu (Sync file) (file_pages g.plan.files file) index found) None TurnNames
look_ends g cpu file index None = passed_names g cpu (Sync file) (file_pages g.plan.files file) index None
look_ends g cpu file index (Some page) =
    row_ends (sync_page g.parts page cpu) (sync_next g cpu (Sync file) (file_pages g.plan.files file) index page) SyncedNames (sync_ends g.parts page cpu)
    (sync_follows g cpu (Sync file) (file_pages g.plan.files file) index page)

sync_turn_ends : (g : GuestState) (cpu : ℕ) (op : Op) (index : ℕ) → Ends (sync_turn g cpu op index) None TurnNames
unfolding sync_turn
sync_turn_ends g cpu (Sync file) index = look_ends g cpu file index (page_of g.parts.cache (File file index))
sync_turn_ends g cpu (Read file off len) index = tt
sync_turn_ends g cpu (Write file off bytes) index = tt
sync_turn_ends g cpu (MapFile number file first count writable) index = tt
sync_turn_ends g cpu (MapAnon number count) index = tt
sync_turn_ends g cpu (Unmap number) index = tt
sync_turn_ends g cpu (Load number off len) index = tt
sync_turn_ends g cpu (Store number off bytes) index = tt
sync_turn_ends g cpu (Pin number at) index = tt
sync_turn_ends g cpu (Unpin number at) index = tt

back_turn_ends : (g : GuestState) (cpu : ℕ) (op : Op) (index page : ℕ) → Ends (write_back_turn g cpu op index page) None TurnNames
unfolding write_back_turn
back_turn_ends g cpu (Sync file) index page =
    row_ends (write_back g.parts page) (written_next g cpu (Sync file) (file_pages g.plan.files file) index) FilledNames (write_back_ends g.parts page)
    (written_follows g cpu (Sync file) (file_pages g.plan.files file) index)
back_turn_ends g cpu (Read file off len) index page = tt
back_turn_ends g cpu (Write file off bytes) index page = tt
back_turn_ends g cpu (MapFile number file first count writable) index page = tt
back_turn_ends g cpu (MapAnon number count) index page = tt
back_turn_ends g cpu (Unmap number) index page = tt
back_turn_ends g cpu (Load number off len) index page = tt
back_turn_ends g cpu (Store number off bytes) index page = tt
back_turn_ends g cpu (Pin number at) index page = tt
back_turn_ends g cpu (Unpin number at) index page = tt

accepted_ends : (g : GuestState) (cpu : ℕ) (op : Op) → Ends (start_accepted g cpu op) None TurnNames
accepted_ends g cpu (Read file off len) = tagged_ends g cpu (Read file off len) (File file (off / PAGE))
accepted_ends g cpu (Write file off bytes) = tagged_ends g cpu (Write file off bytes) (File file (off / PAGE))
accepted_ends g cpu (Sync file) = sync_turn_ends g cpu (Sync file) 0
accepted_ends g cpu (MapFile number file first count writable) =
    map_ends g cpu (MapFile number file first count writable) number (OfFile file first writable) count (free_slot g.parts.maps)
accepted_ends g cpu (MapAnon number count) = map_ends g cpu (MapAnon number count) number OfItsOwn count (free_slot g.parts.maps)
accepted_ends g cpu (Unmap number) = unmap_ends g cpu (Unmap number) (find_slot g.parts.maps (process_of g.plan cpu) number)
accepted_ends g cpu (Load number off len) = mapped_ends g cpu (Load number off len) false off (find_slot g.parts.maps (process_of g.plan cpu) number)
accepted_ends g cpu (Store number off bytes) = mapped_ends g cpu (Store number off bytes) true off (find_slot g.parts.maps (process_of g.plan cpu) number)
accepted_ends g cpu (Pin number index) = placed_ends g cpu (Pin number index) index (find_slot g.parts.maps (process_of g.plan cpu) number)
accepted_ends g cpu (Unpin number index) = placed_ends g cpu (Unpin number index) index (find_slot g.parts.maps (process_of g.plan cpu) number)

refused_ends : (g : GuestState) (cpu : ℕ) (op : Op) (refusal : Option FlatRefusal) → Ends (start_refused g cpu op refusal) None TurnNames
refused_ends g cpu op (Some refusal) = tt
refused_ends g cpu op None = accepted_ends g cpu op

phase_ends : (g : GuestState) (cpu : ℕ) (op : Op) (phase : Phase) → Ends (turn_in g cpu op phase) None TurnNames
unfolding start_turn fill_turn page_out_turn
phase_ends g cpu op Start = refused_ends g cpu op (refusal_in g (process_of g.plan cpu) op)
phase_ends g cpu op (Fill page) = row_ends (fill g.parts page) (fill_next g cpu op) FilledNames (fill_ends g.parts page) (fill_follows g cpu op)
phase_ends g cpu op (AtRoom page) = row_ends (write_back g.parts page) (fill_next g cpu op) FilledNames (write_back_ends g.parts page) (fill_follows g cpu op)
phase_ends g cpu op (AtSync index) = sync_turn_ends g cpu op index
phase_ends g cpu op (SyncWrite index page) = back_turn_ends g cpu op index page
phase_ends g cpu op (Teardown slot index) = teardown_ends g cpu slot index

command_ends : (g : GuestState) (cpu : ℕ) (op : Option Op) → Ends (turn_on g cpu op) None TurnNames
command_ends g cpu None = tt
command_ends g cpu (Some op) = phase_ends g cpu op (processor_at g cpu).phase

turn_ends : (g : GuestState) (cpu : ℕ) → Ends (turn g cpu) None TurnNames
unfolding turn
turn_ends g cpu = command_ends g cpu (command_of g.plan cpu (processor_at g cpu).place)

module _ {S D : Type 0} (ss : S → StorageCall → S → Type 0) (ds : D → DiskCall → D → Type 0) where
  -- a turn that has to be taken again names a call of its run
  pub why_again : (g : GuestState) (cpu : ℕ) (h : GuestState) (t : Turn) (s s' : S) (d d' : D) → Does {A = GuestState × Turn} ss ds (turn g cpu) s d (h, t) s' d' → WhyAgain ss s t s'
  why_again g cpu h Moved s s' d d' run = tt
  why_again g cpu h Finished s s' d d' run = tt
  why_again g cpu h (Waits page owner) s s' d d' run = tt
  why_again g cpu h (Again why) s s' d d' run = missed_in ss ds (turn g cpu) TurnNames why s d (h, Again why) s' d' (λ last names. names) (turn_ends g cpu) run
  why_again g cpu h Idle s s' d d' run = tt
