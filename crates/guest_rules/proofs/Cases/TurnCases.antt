-- What a turn did, seen from its views: one case for each way through the table of turns.
use Rattle.std.specs.Prelude.{◌≡◌, ◌⊎◌, ◌<◌, ℕ, Bool, Option, ◌-◌, ◌/◌, ◌%◌, List, [], ◌∷◌, length, take, drop, true, false, Some, None}
use Rattle.cmm_types.specs.declared.page.TheConstants.{PAGE}
use Rattle.cmm_types.specs.declared.page.Usage.TheVariants.{S, V}
use Rattle.cmm_types.specs.declared.page.Tag.{Tag}
use Rattle.cmm_types.specs.declared.page.Tag.TheVariants.{File, Anon}
use Rattle.cmm_types.specs.declared.command.Op.{Op}
use Rattle.cmm_types.specs.declared.command.Op.TheVariants.{Read, Write, Sync, MapFile, MapAnon, Unmap, Load, Store, Pin, Unpin}
use Rattle.cmm_types.specs.declared.command.Reply.TheVariants.{Done, Bytes as BytesReply, Refused, Fail}
use Rattle.cmm_types.specs.declared.command.Cause.{Cause}
use Rattle.cmm_types.specs.declared.command.Cause.TheVariants.{Paging, NoPage}
use Rattle.cmm_types.specs.declared.command.FlatRefusal.{FlatRefusal}
use Rattle.cmm_types.specs.declared.turn.Turn.{Turn}
use Rattle.cmm_types.specs.declared.turn.Turn.TheVariants.{Moved, Finished, Waits, Again, Idle}
use Rattle.cmm_types.specs.declared.turn.Why.{Why}
use Rattle.cmm_flat.specs.Legal.{command_of, process_of, CanNeedPage}
use Rattle.cmm_io.specs.Faults.{HasRisen}
use Rattle.cmm_io.specs.DiskView.{DiskView, with_block}
use Rattle.essa_state.specs.PageValue.{PageValue, Bytes, IsMadeUnused, MayBecome, made_stable, is_lost}
use Rattle.cmm_storage.specs.StorageView.{StorageView, Keeps, Misses}
use Rattle.cmm_types.specs.Bytes.{with_bytes}
use Rattle.guest_pages.specs.PagesView.{info_at}
use Rattle.guest_cache.specs.CacheView.{CacheView, page_of, backing_of}
use Rattle.guest_rules.specs.declared.processor.Phase.TheVariants.{Start, Fill, Room as AtRoom, Sync as AtSync, SyncWrite, Teardown}
use Rattle.guest_maps.specs.declared.slot.Pte.{Pte}
use Rattle.guest_maps.specs.declared.slot.Slot.{Slot}
use Rattle.guest_maps.specs.declared.slot.Shown.TheVariants.{File as OfFile, Anon as OfItsOwn}
use Rattle.guest_maps.specs.MapsView.{find_slot, slot_at, free_slot, entry_at, with_slot_mapped, torn_slot}
use Rattle.guest_rules.specs.declared.parts.Parts.{Parts}
use Rattle.guest_rules.specs.Hint.{hint}
use Rattle.guest_rules.specs.Rows.{handled, freed, filled, dirtied, with_change, mapped, unmapped, released, pinned}
use Rattle.guest_rules.specs.GuestState.{GuestState, processor_at, with_parts, with_phase, entered, answered}
use Rattle.guest_rules.specs.Turns.{refusal_in, begun, file_pages, mapping_pages, passed, torn_past}
use Rattle.guest_rules.specs.Fit.{IsTearing, backing}
pub use Rattle.guest_rules.specs.Meanwhile.{AllMay}
pub use Rattle.guest_rules.specs.Wanted.{found_tag, wanted_tag}
use Rattle.guest_rules.specs.Syncs.{locked, unlocked, cleaned}
use Rattle.guest_rules.specs.MakeRoom.{first_to_go, first_locked, pinned_count, locked_to_go, behind}
use Rattle.guest_rules.specs.Answers.{FailCause}

-- one page was held and given back; the disk has the blocks that it had
pub record GivenBack (page : ℕ) (v : StorageView) (d : DiskView) (w : StorageView) (e : DiskView) : Type 0 where
  pub keeps : Keeps v page w
  pub held : w.held ≡ None
  pub count : e.count ≡ d.count
  pub blocks : e.blocks ≡ d.blocks

-- the processor has this command
pub record Has (g : GuestState) (cpu : ℕ) (op : Op) : Type 0 where
  pub below : cpu < length g.processors
  pub command : command_of g.plan cpu (processor_at g cpu).place ≡ Some op

-- a processor in phase Start whose command isn't refused
pub record Starts (g : GuestState) (cpu : ℕ) (op : Op) : Type 0 where
  pub has : Has g cpu op
  pub start : (processor_at g cpu).phase ≡ Start
  pub accepted : refusal_in g (process_of g.plan cpu) op ≡ None

abbrev pub Wants : GuestState → ℕ → Op → Tag → Type 0
Wants g cpu op tag = wanted_tag g.parts (process_of g.plan cpu) op ≡ Some tag

-- the command loads or stores through this slot at this offset
abbrev pub Maps : GuestState → ℕ → Op → (writes : Bool) → (slot off : ℕ) → Type 0
Maps g cpu (Load number at len) writes slot off = (writes ≡ false) × (find_slot g.parts.maps (process_of g.plan cpu) number ≡ Some slot) × (off ≡ at)
Maps g cpu (Store number at bytes) writes slot off = (writes ≡ true) × (find_slot g.parts.maps (process_of g.plan cpu) number ≡ Some slot) × (off ≡ at)
Maps g cpu (Read file at len) writes slot off = ⊥
Maps g cpu (Write file at bytes) writes slot off = ⊥
Maps g cpu (Sync file) writes slot off = ⊥
Maps g cpu (MapFile number file first count writable) writes slot off = ⊥
Maps g cpu (MapAnon number count) writes slot off = ⊥
Maps g cpu (Unmap number) writes slot off = ⊥
Maps g cpu (Pin number index) writes slot off = ⊥
Maps g cpu (Unpin number index) writes slot off = ⊥

-- the command that pins a page of a mapping, or unpins it
abbrev pub pin_op : (pins : Bool) → (number index : ℕ) → Op
pin_op true number index = Pin number index
pin_op false number index = Unpin number index

-- the tag's page is unlocked
pub record HasPage (g : GuestState) (tag : Tag) (page : ℕ) : Type 0 where
  pub below : page < length g.parts.pages.infos
  pub tagged : (info_at g.parts.pages page).tag ≡ Some tag
  pub unlocked : (info_at g.parts.pages page).owner ≡ None

-- the tag's page is up to date, as that of an entry is. It may be locked, to be written back
pub record ShowsPage (g : GuestState) (tag : Tag) (page : ℕ) : Type 0 where
  pub below : page < length g.parts.pages.infos
  pub tagged : (info_at g.parts.pages page).tag ≡ Some tag
  pub uptodate : (info_at g.parts.pages page).uptodate ≡ true

-- the page has the tag that the command needs a page of
pub record HasItsTag (g : GuestState) (cpu : ℕ) (op : Op) (page : ℕ) : Type 0 where
  pub tag : Tag
  pub wants : Wants g cpu op tag
  pub found : page_of g.parts.cache tag ≡ Some page

-- the page was found there, made stable, and its hint was told again: its change bit has moved into what is known of it
pub record IsRehinted (parts : Parts) (page : ℕ) (found : PageValue) (after : Parts) (left : PageValue) : Type 0 where
  pub there : is_lost found.contents ≡ false
  pub tables : after ≡ with_change parts page found.changed
  pub value : left ≡ record found { usage = hint (info_at after.pages page); changed = false }

-- an entry is set where there is none, or for a store where there is one that doesn't allow it
abbrev pub CanBeSet : Option Pte → (writes : Bool) → Type 0
CanBeSet None writes = Unit {0}
CanBeSet (Some pte) writes = (writes ≡ true) × (pte.writable ≡ false)

-- a processor whose sync looks at a page of its file; a sync begins with page 0
pub record Syncs (g : GuestState) (cpu file index : ℕ) : Type 0 where
  pub has : Has g cpu (Sync file)
  pub looks : (((processor_at g cpu).phase ≡ Start) × (index ≡ 0)) ⊎ ((processor_at g cpu).phase ≡ AtSync index)
  pub file_below : file < length g.plan.files
  pub within : index < file_pages g.plan.files file

-- a processor whose sync writes a page of its file back
pub record WritesBack (g : GuestState) (cpu file index page : ℕ) : Type 0 where
  pub has : Has g cpu (Sync file)
  pub phase : (processor_at g cpu).phase ≡ SyncWrite index page

-- the sync passes page `index` of its file, with these tables
abbrev pub Passes : GuestState → (cpu file index : ℕ) → Parts → GuestState → Turn → Type 0
Passes g cpu file index after h t = (h, t) ≡ passed (with_parts g after) cpu (Sync file) (file_pages g.plan.files file) index

-- a page was written to its block, which alone of the disk changed
pub record WrittenBack (page : ℕ) (tag : Tag) (cache : CacheView) (bytes : List ℕ) (v : StorageView) (d : DiskView) (w : StorageView) (e : DiskView) : Type 0 where
  pub block : ℕ
  pub backs : backing_of cache tag ≡ Some block
  pub keeps : Keeps v page w
  pub held : w.held ≡ None
  pub count : e.count ≡ d.count
  pub blocks : e.blocks ≡ with_block d.blocks block bytes

-- what a turn of a sync did at page `index` of its file
pub data SyncCase (g : GuestState) (cpu file index : ℕ) (v : StorageView) (d : DiskView) (h : GuestState) (t : Turn) (w : StorageView) (e : DiskView) : Type 0 where
  -- no page has the tag
  not_there : Syncs g cpu file index → page_of g.parts.cache (File file index) ≡ None → Passes g cpu file index g.parts h t → w ≡ v → e ≡ d → SyncCase g cpu file index v d h t w e
  -- the page is locked
  sync_waited : (page owner : ℕ) → Syncs g cpu file index → page_of g.parts.cache (File file index) ≡ Some page → (info_at g.parts.pages page).owner ≡ Some owner
      → h ≡ g → t ≡ Waits page owner → w ≡ v → e ≡ d → SyncCase g cpu file index v d h t w e
  -- the page was busy
  sync_missed : (why : Why) → Syncs g cpu file index → h ≡ g → t ≡ Again why → AllMay v d w e → Misses v w → e ≡ d → SyncCase g cpu file index v d h t w e
  -- the page had been discarded
  sync_gone : (page : ℕ) (found : PageValue) → Syncs g cpu file index → HasPage g (File file index) page → GivenBack page v d w e → MayBecome (v.values page) found → is_lost found.contents ≡ true
      → IsMadeUnused found (w.values page) → Passes g cpu file index (handled g.parts page) h t → SyncCase g cpu file index v d h t w e
  -- the page is clean
  was_clean : (page : ℕ) (found : PageValue) → Syncs g cpu file index → HasPage g (File file index) page → GivenBack page v d w e → MayBecome (v.values page) found
      → IsRehinted g.parts page found g.parts (w.values page) → found.changed ≡ false → (info_at g.parts.pages page).dirty ≡ false → Passes g cpu file index g.parts h t
      → SyncCase g cpu file index v d h t w e
  -- the page is dirty, and was locked
  was_locked : (page : ℕ) (found : PageValue) → Syncs g cpu file index → HasPage g (File file index) page → GivenBack page v d w e → MayBecome (v.values page) found → is_lost found.contents ≡ false
      → (info_at (with_change g.parts page found.changed).pages page).dirty ≡ true → w.values page ≡ record found { usage = S; changed = false }
      → h ≡ with_phase (with_parts g (locked (with_change g.parts page found.changed) page cpu)) cpu (SyncWrite index page) → t ≡ Moved → SyncCase g cpu file index v d h t w e
  -- the locked page was busy, or there was no frame
  write_missed : (page : ℕ) (why : Why) → WritesBack g cpu file index page → h ≡ g → t ≡ Again why → AllMay v d w e → Misses v w → e ≡ d → SyncCase g cpu file index v d h t w e
  -- the page was written back. What was stored to it since it was locked makes it dirty again
  was_written_back : (page : ℕ) (bytes : List ℕ) (after : Parts) → WritesBack g cpu file index page → (v.values page).contents ≡ Bytes bytes
      → WrittenBack page (File file index) g.parts.cache bytes v d w e
      → IsRehinted (cleaned g.parts page) page (v.values page) after (w.values page) → Passes g cpu file index after h t → SyncCase g cpu file index v d h t w e
  -- the page couldn't be written back
  write_failed : (page : ℕ) (cause : Cause) (after : Parts) → WritesBack g cpu file index page → GivenBack page v d w e → IsRehinted (unlocked g.parts page) page (v.values page) after (w.values page)
      → FailCause cause v d w e → h ≡ entered (with_parts g after) cpu (Sync file) (Fail cause) → t ≡ Finished → SyncCase g cpu file index v d h t w e

-- a processor looks at an accepted command that needs a page with a tag that no page has, and no page is free
pub record SeeksRoom (g : GuestState) (cpu : ℕ) (op : Op) : Type 0 where
  pub starts : Starts g cpu op
  pub tag : Tag
  pub wants : Wants g cpu op tag
  pub none : page_of g.parts.cache tag ≡ None
  pub full : g.parts.pages.free ≡ []

-- the first page that can go has this tag; nobody has it locked
pub record Goes (g : GuestState) (tag : Tag) (page : ℕ) : Type 0 where
  pub first : first_to_go g.parts ≡ Some page
  pub has : HasPage g tag page

-- a processor writes a page back to make room
pub record PagesOut (g : GuestState) (cpu : ℕ) (op : Op) (tag : Tag) (page : ℕ) : Type 0 where
  pub has : Has g cpu op
  pub phase : (processor_at g cpu).phase ≡ AtRoom page
  pub tagged : (info_at g.parts.pages page).tag ≡ Some tag

-- what a turn did that was to make room
pub data RoomCase (g : GuestState) (cpu : ℕ) (op : Op) (v : StorageView) (d : DiskView) (h : GuestState) (t : Turn) (w : StorageView) (e : DiskView) : Type 0 where
  -- the page that can go had been discarded
  room_gone : (tag : Tag) (page : ℕ) (found : PageValue) → SeeksRoom g cpu op → Goes g tag page → GivenBack page v d w e → MayBecome (v.values page) found → is_lost found.contents ≡ true
      → IsMadeUnused found (w.values page) → h ≡ with_parts g (handled g.parts page) → t ≡ Moved → RoomCase g cpu op v d h t w e
  -- it is clean, and was freed
  was_cleared : (tag : Tag) (page : ℕ) (found : PageValue) → SeeksRoom g cpu op → Goes g tag page → GivenBack page v d w e → MayBecome (v.values page) found → is_lost found.contents ≡ false
      → found.changed ≡ false → (info_at g.parts.pages page).dirty ≡ false → IsMadeUnused found (w.values page) → h ≡ with_parts g (behind (freed g.parts page) page) → t ≡ Moved
      → RoomCase g cpu op v d h t w e
  -- it is dirty, and was locked
  was_locked_to_go : (tag : Tag) (page : ℕ) (found : PageValue) → SeeksRoom g cpu op → Goes g tag page → GivenBack page v d w e → MayBecome (v.values page) found
      → is_lost found.contents ≡ false → (info_at (with_change g.parts page found.changed).pages page).dirty ≡ true → w.values page ≡ record found { usage = S; changed = false }
      → h ≡ with_phase (with_parts g (locked_to_go (with_change g.parts page found.changed) page cpu)) cpu (AtRoom page) → t ≡ Moved → RoomCase g cpu op v d h t w e
  -- it was busy
  room_missed : (why : Why) → SeeksRoom g cpu op → h ≡ g → t ≡ Again why → AllMay v d w e → Misses v w → e ≡ d → RoomCase g cpu op v d h t w e
  -- none can go, and one is locked
  room_waited : (page owner : ℕ) → SeeksRoom g cpu op → first_to_go g.parts ≡ None → first_locked g.parts ≡ Some page → (info_at g.parts.pages page).owner ≡ Some owner
      → h ≡ g → t ≡ Waits page owner → w ≡ v → e ≡ d → RoomCase g cpu op v d h t w e
  -- none can go, and none is locked
  had_no_page : SeeksRoom g cpu op → first_to_go g.parts ≡ None → first_locked g.parts ≡ None
      → h ≡ entered g cpu op (Fail (NoPage (pinned_count g.parts) (length g.parts.pages.infos - pinned_count g.parts))) → t ≡ Finished → w ≡ v → e ≡ d → RoomCase g cpu op v d h t w e
  -- the page that is to be written back was busy, or there was no frame
  page_out_missed : (tag : Tag) (page : ℕ) (why : Why) → PagesOut g cpu op tag page → h ≡ g → t ≡ Again why → AllMay v d w e → Misses v w → e ≡ d → RoomCase g cpu op v d h t w e
  -- it was written back. What was stored to it since it was locked makes it dirty again
  was_paged_out : (tag : Tag) (page : ℕ) (bytes : List ℕ) (after : Parts) → PagesOut g cpu op tag page → (v.values page).contents ≡ Bytes bytes
      → WrittenBack page tag g.parts.cache bytes v d w e
      → IsRehinted (cleaned g.parts page) page (v.values page) after (w.values page) → h ≡ with_phase (with_parts g after) cpu Start → t ≡ Moved → RoomCase g cpu op v d h t w e
  -- it couldn't be written back
  page_out_failed : (tag : Tag) (page : ℕ) (cause : Cause) (after : Parts) → PagesOut g cpu op tag page → GivenBack page v d w e
      → IsRehinted (unlocked g.parts page) page (v.values page) after (w.values page) → FailCause cause v d w e
      → h ≡ entered (with_parts g after) cpu op (Fail cause) → t ≡ Finished → RoomCase g cpu op v d h t w e

-- an unmap is behind page `index` of its slot, with these tables
abbrev pub TearsPast : GuestState → (cpu slot index : ℕ) → Parts → GuestState → Turn → Type 0
TearsPast g cpu slot index after h t = (h, t) ≡ torn_past (with_parts g after) cpu slot index (mapping_pages (slot_at g.parts.maps slot))

-- a processor whose unmap takes page `index` off the mapping that was in a slot
pub record Tears (g : GuestState) (cpu slot index : ℕ) : Type 0 where
  pub phase : (processor_at g cpu).phase ≡ Teardown slot index
  pub tearing : IsTearing g cpu slot index

-- the mapping that is torn down in a slot shows pages of a file
pub record TearsFile (g : GuestState) (slot : ℕ) : Type 0 where
  pub mapping : Slot
  pub at : slot_at g.parts.maps slot ≡ Some mapping
  pub file : ℕ
  pub first : ℕ
  pub writable : Bool
  pub shown : mapping.shown ≡ OfFile file first writable

-- or pages of its own
pub record TearsOwn (g : GuestState) (slot : ℕ) : Type 0 where
  pub mapping : Slot
  pub at : slot_at g.parts.maps slot ≡ Some mapping
  pub shown : mapping.shown ≡ OfItsOwn

-- what a turn did that takes page `index` off the mapping that was in a slot
pub data TearCase (g : GuestState) (cpu slot index : ℕ) (v : StorageView) (d : DiskView) (h : GuestState) (t : Turn) (w : StorageView) (e : DiskView) : Type 0 where
  -- the place has no entry
  had_no_entry : Tears g cpu slot index → entry_at g.parts.maps slot index ≡ None → TearsPast g cpu slot index g.parts h t → w ≡ v → e ≡ d → TearCase g cpu slot index v d h t w e
  -- the page was busy
  tear_missed : (why : Why) → Tears g cpu slot index → h ≡ g → t ≡ Again why → AllMay v d w e → Misses v w → e ≡ d → TearCase g cpu slot index v d h t w e
  -- the page had been discarded
  tear_gone : (tag : Tag) (pte : Pte) (found : PageValue) → Tears g cpu slot index → entry_at g.parts.maps slot index ≡ Some pte → HasPage g tag pte.page → GivenBack pte.page v d w e
      → MayBecome (v.values pte.page) found → is_lost found.contents ≡ true → IsMadeUnused found (w.values pte.page) → TearsPast g cpu slot index (handled g.parts pte.page) h t
      → TearCase g cpu slot index v d h t w e
  -- the entry was cleared. Its page may be locked, to be written back
  was_cleared_at : (tag : Tag) (pte : Pte) (found : PageValue) (after : Parts) → Tears g cpu slot index → entry_at g.parts.maps slot index ≡ Some pte → ShowsPage g tag pte.page
      → GivenBack pte.page v d w e → MayBecome (v.values pte.page) found → IsRehinted (unmapped g.parts slot index pte) pte.page found after (w.values pte.page)
      → TearsPast g cpu slot index after h t → TearCase g cpu slot index v d h t w e

-- what a turn did that takes page `index` off a mapping of pages of its own, which is torn down in a slot
pub data TearOwnCase (g : GuestState) (cpu slot index : ℕ) (v : StorageView) (d : DiskView) (h : GuestState) (t : Turn) (w : StorageView) (e : DiskView) : Type 0 where
  -- no page has the tag
  had_no_page_of_its : Tears g cpu slot index → page_of g.parts.cache (Anon slot index) ≡ None → TearsPast g cpu slot index (released g.parts slot index) h t → w ≡ v → e ≡ d
      → TearOwnCase g cpu slot index v d h t w e
  -- the page is locked
  tear_waited : (page owner : ℕ) → Tears g cpu slot index → page_of g.parts.cache (Anon slot index) ≡ Some page → (info_at g.parts.pages page).owner ≡ Some owner
      → h ≡ g → t ≡ Waits page owner → w ≡ v → e ≡ d → TearOwnCase g cpu slot index v d h t w e
  -- it was busy
  tear_own_missed : (why : Why) → Tears g cpu slot index → h ≡ g → t ≡ Again why → AllMay v d w e → Misses v w → e ≡ d → TearOwnCase g cpu slot index v d h t w e
  -- it was freed, with its swap slot
  was_torn_off : (page : ℕ) (found : PageValue) → Tears g cpu slot index → HasPage g (Anon slot index) page → GivenBack page v d w e → MayBecome (v.values page) found
      → IsMadeUnused found (w.values page) → TearsPast g cpu slot index (released (freed g.parts page) slot index) h t → TearOwnCase g cpu slot index v d h t w e

pub data TurnCase (g : GuestState) (cpu : ℕ) (v : StorageView) (d : DiskView) (h : GuestState) (t : Turn) (w : StorageView) (e : DiskView) : Type 0 where
  -- no command is left
  was_idle : command_of g.plan cpu (processor_at g cpu).place ≡ None → h ≡ g → t ≡ Idle → w ≡ v → e ≡ d → TurnCase g cpu v d h t w e
  -- the command was refused
  was_refused : (op : Op) (refusal : FlatRefusal) → Has g cpu op → (processor_at g cpu).phase ≡ Start → refusal_in g (process_of g.plan cpu) op ≡ Some refusal
      → h ≡ entered g cpu op (Refused refusal) → t ≡ Finished → w ≡ v → e ≡ d → TurnCase g cpu v d h t w e
  -- a file was mapped
  was_mapped : (number file first count : ℕ) (writable : Bool) (slot : ℕ) → Starts g cpu (MapFile number file first count writable) → free_slot g.parts.maps ≡ Some slot
      → h ≡ entered (with_parts g (record g.parts { maps = with_slot_mapped g.parts.maps slot (process_of g.plan cpu) number (OfFile file first writable) count })) cpu
      (MapFile number file first count writable) Done
      → t ≡ Finished → w ≡ v → e ≡ d → TurnCase g cpu v d h t w e
  -- pages of its own were mapped
  was_mapped_own : (number count slot : ℕ) → Starts g cpu (MapAnon number count) → free_slot g.parts.maps ≡ Some slot
      → h ≡ entered (with_parts g (record g.parts { maps = with_slot_mapped g.parts.maps slot (process_of g.plan cpu) number OfItsOwn count })) cpu (MapAnon number count) Done
      → t ≡ Finished → w ≡ v → e ≡ d → TurnCase g cpu v d h t w e
  -- the page is locked
  waited : (op : Op) (page owner : ℕ) → Starts g cpu op → HasItsTag g cpu op page → (info_at g.parts.pages page).owner ≡ Some owner
      → h ≡ g → t ≡ Waits page owner → w ≡ v → e ≡ d → TurnCase g cpu v d h t w e
  -- the page was busy, or there was no frame, which a quiet storage never finds
  missed : (op : Op) (why : Why) → Has g cpu op → h ≡ g → t ≡ Again why → AllMay v d w e → Misses v w → e ≡ d → TurnCase g cpu v d h t w e
  -- the same where the page had been made stable
  missed_rehinted : (why : Why) (op : Op) (tag : Tag) (page : ℕ) (found : PageValue) (after : Parts) → Starts g cpu op → Wants g cpu op tag → HasPage g tag page
      → h ≡ with_parts g after → t ≡ Again why → GivenBack page v d w e → MayBecome (v.values page) found → IsRehinted g.parts page found after (w.values page)
      → Misses v w → e ≡ d → TurnCase g cpu v d h t w e
  -- a free page got the tag
  was_begun : (op : Op) (tag : Tag) (page : ℕ) (rest : List ℕ) (found : PageValue) → Starts g cpu op → Wants g cpu op tag → page_of g.parts.cache tag ≡ None
      → g.parts.pages.free ≡ page ∷ rest → h ≡ with_phase (with_parts g (begun g.parts page tag cpu)) cpu (Fill page) → t ≡ Moved
      → GivenBack page v d w e → MayBecome (v.values page) found → w.values page ≡ made_stable found → TurnCase g cpu v d h t w e
  -- the page had been discarded, over a quiet storage before this turn
  was_gone : (op : Op) (tag : Tag) (page : ℕ) (found : PageValue) → Starts g cpu op → Wants g cpu op tag → HasPage g tag page
      → h ≡ with_parts g (handled g.parts page) → t ≡ Moved → GivenBack page v d w e → MayBecome (v.values page) found → is_lost found.contents ≡ true
      → IsMadeUnused found (w.values page) → (v.quiet ≡ true → found ≡ v.values page) → TurnCase g cpu v d h t w e
  -- the bytes were read
  was_read : (file off len page : ℕ) (found : PageValue) (all : List ℕ) (after : Parts) → Starts g cpu (Read file off len) → HasPage g (File file (off / PAGE)) page
      → GivenBack page v d w e → MayBecome (v.values page) found → found.contents ≡ Bytes all → IsRehinted g.parts page found after (w.values page)
      → h ≡ entered (with_parts g after) cpu (Read file off len) (BytesReply (take len (drop (off % PAGE) all))) → t ≡ Finished → TurnCase g cpu v d h t w e
  -- the bytes were written: the change bit has moved into what is known of the page
  was_written : (file off : ℕ) (bytes : List ℕ) (page : ℕ) (found : PageValue) (all : List ℕ) → Starts g cpu (Write file off bytes) → HasPage g (File file (off / PAGE)) page
      → GivenBack page v d w e → MayBecome (v.values page) found → found.contents ≡ Bytes all
      → w.values page ≡ record found { usage = S; changed = false; contents = Bytes (with_bytes all (off % PAGE) bytes) }
      → h ≡ entered (with_parts g (dirtied g.parts page)) cpu (Write file off bytes) Done → t ≡ Finished → TurnCase g cpu v d h t w e
  -- the pager failed as the bytes were to be read or written
  touch_failed : (op : Op) (tag : Tag) (page : ℕ) (found : PageValue) (after : Parts) → CanNeedPage op → Starts g cpu op → Wants g cpu op tag → HasPage g tag page
      → GivenBack page v d w e → MayBecome (v.values page) found → IsRehinted g.parts page found after (w.values page)
      → h ≡ entered (with_parts g after) cpu op (Fail Paging) → t ≡ Finished → HasRisen v.faults w.faults → TurnCase g cpu v d h t w e
  -- the entry of a load or store was set
  was_resolved : (op : Op) (tag : Tag) (writes : Bool) (slot off page : ℕ) (found : PageValue) (after : Parts) → Starts g cpu op → Wants g cpu op tag → Maps g cpu op writes slot off
      → HasPage g tag page
      → CanBeSet (entry_at g.parts.maps slot (off / PAGE)) writes → GivenBack page v d w e → MayBecome (v.values page) found
      → IsRehinted (mapped g.parts page slot (off / PAGE) writes) page found after (w.values page) → h ≡ with_parts g after → t ≡ Moved → TurnCase g cpu v d h t w e
  -- bytes were loaded through an entry
  was_loaded : (number off len slot page : ℕ) (writable : Bool) (all : List ℕ) → Starts g cpu (Load number off len) → find_slot g.parts.maps (process_of g.plan cpu) number ≡ Some slot
      → entry_at g.parts.maps slot (off / PAGE) ≡ Some (record { page = page; writable = writable }) → (w.values page).contents ≡ Bytes all
      → h ≡ entered g cpu (Load number off len) (BytesReply (take len (drop (off % PAGE) all))) → t ≡ Finished → AllMay v d w e → TurnCase g cpu v d h t w e
  -- bytes were stored through an entry
  was_stored : (number off : ℕ) (bytes : List ℕ) (slot page : ℕ) (found : PageValue) (all : List ℕ) → Starts g cpu (Store number off bytes)
      → find_slot g.parts.maps (process_of g.plan cpu) number ≡ Some slot → entry_at g.parts.maps slot (off / PAGE) ≡ Some (record { page = page; writable = true })
      → GivenBack page v d w e → MayBecome (v.values page) found → found.contents ≡ Bytes all
      → w.values page ≡ record found { changed = true; contents = Bytes (with_bytes all (off % PAGE) bytes) }
      → h ≡ entered g cpu (Store number off bytes) Done → t ≡ Finished → TurnCase g cpu v d h t w e
  -- a page was pinned, or unpinned
  was_pinned : (pins : Bool) (number index slot : ℕ) (tag : Tag) (page : ℕ) (found : PageValue) (after : Parts) → Starts g cpu (pin_op pins number index) → Wants g cpu (pin_op pins number index) tag
      → find_slot g.parts.maps (process_of g.plan cpu) number ≡ Some slot → HasPage g tag page → GivenBack page v d w e → MayBecome (v.values page) found
      → IsRehinted (pinned g.parts page slot index pins) page found after (w.values page)
      → h ≡ entered (with_parts g after) cpu (pin_op pins number index) Done → t ≡ Finished → TurnCase g cpu v d h t w e
  -- the pager failed as bytes were to be loaded or stored
  entry_failed : (op : Op) (writes : Bool) (slot off : ℕ) → Starts g cpu op → Maps g cpu op writes slot off → h ≡ entered g cpu op (Fail Paging) → t ≡ Finished
      → AllMay v d w e → HasRisen v.faults w.faults → TurnCase g cpu v d h t w e
  -- the page couldn't be filled
  fill_failed : (op : Op) (page : ℕ) (cause : Cause) → Has g cpu op → (processor_at g cpu).phase ≡ Fill page
      → h ≡ entered (with_parts g (freed g.parts page)) cpu op (Fail cause) → t ≡ Finished → GivenBack page v d w e
      → IsMadeUnused (v.values page) (w.values page) → FailCause cause v d w e → TurnCase g cpu v d h t w e
  -- the page was filled
  was_filled : (op : Op) (page : ℕ) (tag : Tag) → Has g cpu op → (processor_at g cpu).phase ≡ Fill page → (info_at g.parts.pages page).tag ≡ Some tag
      → h ≡ with_phase (with_parts g (filled g.parts page)) cpu Start → t ≡ Moved → GivenBack page v d w e
      → w.values page ≡ record { usage = V; changed = false; contents = Bytes (backing g.parts.cache d tag); count = (v.values page).count }
      → TurnCase g cpu v d h t w e
  -- a sync's turn
  was_sync : (file index : ℕ) → SyncCase g cpu file index v d h t w e → TurnCase g cpu v d h t w e
  -- a turn that was to make room
  was_room : (op : Op) → RoomCase g cpu op v d h t w e → TurnCase g cpu v d h t w e
  -- a mapping ended
  was_unmapped : (number slot : ℕ) → Starts g cpu (Unmap number) → find_slot g.parts.maps (process_of g.plan cpu) number ≡ Some slot
      → h ≡ answered (with_parts g (record g.parts { maps = torn_slot g.parts.maps slot })) cpu (Unmap number) Done (Teardown slot 0) → t ≡ Moved → w ≡ v → e ≡ d
      → TurnCase g cpu v d h t w e
  -- a page was taken off a mapping of a file
  was_torn : (slot index : ℕ) → TearsFile g slot → TearCase g cpu slot index v d h t w e → TurnCase g cpu v d h t w e
  -- a page was taken off a mapping of pages of its own
  was_torn_own : (slot index : ℕ) → TearsOwn g slot → TearOwnCase g cpu slot index v d h t w e → TurnCase g cpu v d h t w e
