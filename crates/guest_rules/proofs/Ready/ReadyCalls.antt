-- What fit gives the calls of the code of a turn: what each of them needs of its numbers.
use Rattle.std.specs.Prelude.{◌≡◌, ◌<◌, ◌≤◌, ℕ, Bool, true, false, ◌+◌, ◌*◌, ◌/◌, zero, suc, List, [], ◌∷◌, length, sum, sum_by, get_or, Contains, Option, None, Some, IfSome, IsSome, refl}
use Rattle.std.proofs.Common.{arith, ap, sym, ◌∙◌}
use Rattle.std.proofs.lemmas.List.Sums.{sum-map, sum_by-cons, count_by-le-length}
use Rattle.cmm_types.specs.declared.page.TheConstants.{PAGE}
use Rattle.cmm_types.specs.declared.page.Usage.TheVariants.{S}
use Rattle.cmm_types.specs.declared.page.Tag.{Tag}
use Rattle.cmm_types.specs.declared.page.Tag.TheVariants.{File}
use Rattle.cmm_types.specs.declared.plan.TheConstants.{MAX_COMMANDS, MAX_FILE_PAGES, MAX_MAPPING_SLOTS, MAX_PROCESSES}
use Rattle.cmm_types.specs.declared.plan.CpuPlan.{CpuPlan}
use Rattle.cmm_types.specs.declared.plan.GuestPlan.{GuestPlan}
use Rattle.cmm_types.specs.declared.command.TheConstants.{MAX_MAPPING_NUMBERS, MAX_MAPPING_PAGES}
use Rattle.cmm_types.specs.declared.command.Op.{Op}
use Rattle.cmm_types.specs.declared.command.Op.TheVariants.{Read, MapFile, MapAnon, Unmap, Load, Store, Pin, Unpin, Sync}
use Rattle.cmm_types.specs.InRange.{ArePages, IsPiece, file_pages_of}
use Rattle.cmm_io.specs.DiskView.{DiskView}
use Rattle.essa_state.specs.StateWord.{is_unused}
use Rattle.cmm_flat.specs.Legal.{command_of, process_of, flat_of}
use Rattle.cmm_storage.specs.StorageView.{StorageView}
use Rattle.guest_pages.specs.PagesView.{info_at}
use Rattle.guest_cache.specs.CacheView.{IsTag, page_of, backing_of}
use Rattle.guest_cache.specs.Laws.CacheLaws.{backing_of-below}
use Rattle.guest_maps.specs.declared.slot.Pte.{Pte}
use Rattle.guest_maps.specs.MapsView.{IsPlace, slot_at, is_live_slot, free_slot, find_slot, entry_at, stores_to}
use Rattle.guest_maps.specs.Laws.MapsLaws.{IsPlace-from}
use Rattle.guest_rules.specs.declared.processor.Phase.TheVariants.{Fill, Room as AtRoom, SyncWrite}
use Rattle.guest_rules.specs.declared.processor.Processor.{Processor}
use Rattle.guest_rules.specs.GuestState.{GuestState, processor_at, first_processor}
use Rattle.guest_rules.specs.Rows.{backing_at}
use Rattle.guest_rules.specs.Calls.{CanTake, CanFill, CanClear, CanMakeRoom, CanWriteBack}
use Rattle.guest_rules.specs.Fit.{SizesFit, Fit, command_count, all_commands, answered_early, entries_of, IsSyncing, IsTearing}
use Rattle.guest_rules.proofs.Cases.TurnCases.{Has, Starts, HasItsTag, pin_op}
use Rattle.cmm_flat.specs.Laws.CommandLaws.{command_in_range}
use Rattle.guest_rules.proofs.Cases.Commands.{command-below, command_count-le, process_of-below}
use Rattle.guest_rules.proofs.Kept.PageFits.{tagged-below}
use Rattle.guest_rules.proofs.Kept.EntryLaws.{place-tagged, some_writer}
use Rattle.guest_rules.proofs.Kept.PinLaws.{pins_within-some, pins_within-most}
use Rattle.guest_rules.proofs.Kept.SlotsKept.{slot-below}
use Rattle.guest_rules.proofs.Cases.WantedTags.{tag_in-Some, is_wanted, sync-file, planned-tag}
use Rattle.guest_rules.proofs.Cases.MapsFound.{found_slot}
use Rattle.guest_rules.proofs.Cases.Placed.{pin-place}
use Rattle.guest_rules.proofs.Cases.CaseTear.{torn_page}
use Rattle.guest_rules.proofs.Cases.Stuck.{full-tagged}
use Rattle.guest_rules.proofs.Ready.Ready.{below_view, can_be_written, can_be_paged_out}
use Rattle.guest_rules.specs.Turns.{file_pages, file_has_bytes}
use Rattle.guest_rules.proofs.Cases.FileSizes.{file_pages-some, file_pages-most}
use Rattle.guest_rules.proofs.Cases.Reached.{Reaches, entry_page, has_free_slot}

-- ---- pages

-- a page with a tag isn't free
pub tagged-not_free : (g : GuestState) (v : StorageView) (d : DiskView) (page : ℕ) (tag : Tag) → Fit g v d → (info_at g.parts.pages page).tag ≡ Some tag → Contains g.parts.pages.free page → ⊥
tagged-not_free g v d page tag f tagged there = let bad : None ≡ Some tag = sym (f.pages.free page there).1 ∙ tagged in cc

-- whatever tag a page has is one
pub tag-is_tag : (g : GuestState) (v : StorageView) (d : DiskView) (page : ℕ) → Fit g v d → IfSome (info_at g.parts.pages page).tag (λ tag. IsTag g.parts.cache tag)
tag-is_tag g v d page f = of (info_at g.parts.pages page).tag refl
  where
    of : (o : Option Tag) → (info_at g.parts.pages page).tag ≡ o → IfSome o (λ tag. IsTag g.parts.cache tag)
    of None e = tt
    of (Some tag) e = (f.pages.indexed page tag e).0

-- g the guest, v its storage, d its disk
module _ (g : GuestState) (v : StorageView) (d : DiskView) where
  -- entries may show each page of the guest
  page-shown : (page : ℕ) → Fit g v d → page < length g.parts.pages.infos → page < g.parts.maps.pages
  page-shown page f below = rw f.slots.pages below

  -- a page that has a tag can be taken
  pub tagged-takes : (page : ℕ) (tag : Tag) → Fit g v d → (info_at g.parts.pages page).tag ≡ Some tag → CanTake g.parts v page
  tagged-takes page tag f tagged =
      let below = tagged-below g.parts.pages page tag tagged in
      record {
        in_use = record { below = below; shown = page-shown page f below; not_free = tagged-not_free g v d page tag f tagged; tag = tag-is_tag g v d page f };
        there = below_view (flat_of g.plan g.journal) g v d page f below;
        none_held = f.hints.none_held;
      }

  -- so can a page that the index has
  pub found-takes : (page : ℕ) (tag : Tag) → Fit g v d → IsTag g.parts.cache tag → page_of g.parts.cache tag ≡ Some page → CanTake g.parts v page
  found-takes page tag f is found = tagged-takes page tag f (f.pages.found page tag is found).1

  -- a page that a processor fills
  filling-takes : (cpu page : ℕ) → Fit g v d → (processor_at g cpu).phase ≡ Fill page → CanTake g.parts v page
  filling-takes cpu page f phase = let k = (f.locks.filling cpu page phase).1 in tagged-takes page k.tag f k.tagged

  -- a page that a processor writes back
  writing-takes : (cpu index page : ℕ) → Fit g v d → (processor_at g cpu).phase ≡ SyncWrite index page → CanTake g.parts v page
  writing-takes cpu index page f phase = let k = f.locks.writing cpu index page phase in tagged-takes page (File k.file index) f k.tagged

  -- it is stable
  writing-stable : (cpu index page : ℕ) → Fit g v d → (processor_at g cpu).phase ≡ SyncWrite index page → (v.values page).usage ≡ S
  writing-stable cpu index page f phase = (can_be_written (flat_of g.plan g.journal) g v d cpu index page f (f.locks.writing cpu index page phase)).usage

  -- the page of the entry that a load or store finds
  pub entry-takes : (cpu : ℕ) (op : Op) (writes : Bool) (slot off : ℕ) (pte : Pte) → Fit g v d → Reaches g cpu op writes slot off → entry_at g.parts.maps slot (off / PAGE) ≡ Some pte
      → CanTake g.parts v pte.page
  entry-takes cpu op writes slot off pte f k entry =
      let has = entry_page (flat_of g.plan g.journal) g v d cpu op writes slot off pte f k entry in
      tagged-takes pte.page k.tag f has.tagged

  -- ---- blocks

  -- the files' pages and the swap slots have their blocks on the disk
  pub blocks-most : SizesFit g v d → sum g.parts.cache.files + length g.parts.cache.swap ≤ d.count
  blocks-most f =
      let all : sum g.parts.cache.files ≡ file_pages_of g.plan.files = ap sum f.files ∙ sum-map (λ file. file.pages) g.plan.files in
      omega (arith, all, f.swap, f.blocks)

  -- the block that a page's tag is read from is one of the disk's
  pub backing-below : (page : ℕ) → Fit g v d → IfSome (backing_at g.parts page) (λ block. block < d.count)
  backing-below page f = of (info_at g.parts.pages page).tag refl
    where
      below : (tag : Tag) → IsTag g.parts.cache tag → (o : Option ℕ) → backing_of g.parts.cache tag ≡ o → IfSome o (λ block. block < d.count)
      below tag is None e = tt
      below tag is (Some block) e = omega (arith, backing_of-below g.parts.cache tag block is e, blocks-most f.sizes)

      of : (o : Option Tag) → (info_at g.parts.pages page).tag ≡ o → IfSome (backing_at g.parts page) (λ block. block < d.count)
      of None e = rw (e, backing_at) tt
      of (Some tag) e = rw (e, backing_at) (below tag (f.pages.indexed page tag e).0 (backing_of g.parts.cache tag) refl)

  -- a page that a processor fills can be
  pub filling-can : (cpu page : ℕ) → Fit g v d → (processor_at g cpu).phase ≡ Fill page → CanFill g.parts v d page
  filling-can cpu page f phase = record { takes = filling-takes cpu page f phase; block = backing-below page f }

  -- a stable page can be written back to the block of its tag
  stable-can : (page : ℕ) → Fit g v d → CanTake g.parts v page → (v.values page).usage ≡ S → CanWriteBack g.parts v d page
  stable-can page f takes stable = record {
    below = takes.in_use.below;
    there = takes.there;
    tag = takes.in_use.tag;
    block = backing-below page f;
    used = ap is_unused stable;
    none_held = f.hints.none_held;
  }

  -- so one that a processor writes back can be, for a sync or to make room
  pub writing-can : (cpu index page : ℕ) → Fit g v d → (processor_at g cpu).phase ≡ SyncWrite index page → CanWriteBack g.parts v d page
  writing-can cpu index page f phase = stable-can page f (writing-takes cpu index page f phase) (writing-stable cpu index page f phase)

  pub page_out-can : (cpu page : ℕ) → Fit g v d → (processor_at g cpu).phase ≡ AtRoom page → CanWriteBack g.parts v d page
  page_out-can cpu page f phase =
      let k = f.locks.paging_out cpu page phase in
      stable-can page f (tagged-takes page k.tag f k.tagged) (can_be_paged_out (flat_of g.plan g.journal) g v d cpu page f k).usage

  -- ---- commands

  -- a command's process is one of the guest's
  pub process-below : (cpu : ℕ) → Fit g v d → process_of g.plan cpu < MAX_PROCESSES
  process-below cpu f = process_of-below g.plan cpu f.sizes.range

  -- a read, a load or a store is of at most so many bytes, all in one page
  pub read-piece : (cpu file off len : ℕ) → Fit g v d → Has g cpu (Read file off len) → IsPiece off len
  read-piece cpu file off len f has = (command_in_range g.plan cpu (processor_at g cpu).place (Read file off len) f.sizes.range has.command).1

  pub load-piece : (cpu number off len : ℕ) → Fit g v d → Has g cpu (Load number off len) → (number < MAX_MAPPING_NUMBERS) × IsPiece off len
  load-piece cpu number off len f has = command_in_range g.plan cpu (processor_at g cpu).place (Load number off len) f.sizes.range has.command

  pub store-piece : (cpu number off : ℕ) (bytes : List ℕ) → Fit g v d → Has g cpu (Store number off bytes) → (number < MAX_MAPPING_NUMBERS) × IsPiece off (length bytes)
  store-piece cpu number off bytes f has = command_in_range g.plan cpu (processor_at g cpu).place (Store number off bytes) f.sizes.range has.command

  -- a new mapping is of pages that a mapping may have
  pub map-pages : (cpu number file first count : ℕ) (writable : Bool) → Fit g v d → Has g cpu (MapFile number file first count writable) → (number < MAX_MAPPING_NUMBERS) × ArePages first count
  map-pages cpu number file first count writable f has =
      let range = command_in_range g.plan cpu (processor_at g cpu).place (MapFile number file first count writable) f.sizes.range has.command in
      (range.0, range.2)

  -- where it isn't refused, a slot is free
  pub map-free : (cpu number file first count : ℕ) (writable : Bool) → Fit g v d → Starts g cpu (MapFile number file first count writable) → IsSome (free_slot g.parts.maps)
  map-free cpu number file first count writable f starts = of (free_slot g.parts.maps) refl
    where
      of : (o : Option ℕ) → free_slot g.parts.maps ≡ o → IsSome o
      of None e =
          absurd (has_free_slot (flat_of g.plan g.journal) g v d (file_has_bytes g.plan.files file (PAGE * first) (PAGE * count))
          (find_slot g.parts.maps (process_of g.plan cpu) number) f starts.accepted e)
      of (Some slot) e = refl

  -- also for pages of its own
  pub map_own-free : (cpu number count : ℕ) → Fit g v d → Starts g cpu (MapAnon number count) → IsSome (free_slot g.parts.maps)
  map_own-free cpu number count f starts = of (free_slot g.parts.maps) refl
    where
      of : (o : Option ℕ) → free_slot g.parts.maps ≡ o → IsSome o
      of None e = absurd (has_free_slot (flat_of g.plan g.journal) g v d true (find_slot g.parts.maps (process_of g.plan cpu) number) f starts.accepted e)
      of (Some slot) e = refl

  -- a sync that isn't refused begins with page 0 of its file
  pub sync-starts : (cpu file : ℕ) → Fit g v d → Starts g cpu (Sync file) → IsSyncing g cpu file 0
  sync-starts cpu file f starts =
      let below = sync-file g (process_of g.plan cpu) file starts.accepted in
      record { cpu_below = starts.has.below; command = starts.has.command; file_below = below; within = file_pages-some g.plan.files file f.sizes.range.files.each below }

  -- each page of its file has a tag
  pub syncing-tag : (cpu file index : ℕ) → Fit g v d → IsSyncing g cpu file index → IsTag g.parts.cache (File file index)
  syncing-tag cpu file index f k = planned-tag g v d file index f.sizes k.file_below k.within

  -- and there are at most so many
  pub file-few : (file : ℕ) → Fit g v d → file_pages g.plan.files file ≤ MAX_FILE_PAGES
  file-few file f = file_pages-most g.plan.files file f.sizes.range.files.each

-- ---- entries

-- the place of a load or store that is accepted is one
pub reached-place : (g : GuestState) (cpu : ℕ) (op : Op) (writes : Bool) (slot off : ℕ) → Reaches g cpu op writes slot off → IsPlace g.parts.maps slot (off / PAGE)
reached-place g cpu op writes slot off k = place-tagged g.parts.maps slot (off / PAGE) k.tag k.shown

-- g the guest, v its storage, d its disk
module _ (g : GuestState) (v : StorageView) (d : DiskView) where
  -- a page has at most as many writers as there are entries
  pub writers-most : (page : ℕ) → Fit g v d → (info_at g.parts.pages page).writers ≤ MAX_MAPPING_SLOTS * MAX_MAPPING_PAGES
  writers-most page f = omega (arith, f.entries.writers page, count_by-le-length (stores_to page) g.parts.maps.entries, f.slots.entries)

  -- the page of an entry that allows stores has a writer
  writer-some : (slot index : ℕ) (pte : Pte) → Fit g v d → entry_at g.parts.maps slot index ≡ Some pte → pte.writable ≡ true → 1 ≤ (info_at g.parts.pages pte.page).writers
  writer-some slot index pte f entry writable =
      let entry' : entry_at g.parts.maps slot index ≡ Some (record { page = pte.page; writable = true }) =
      entry ∙ ap (λ w. let out : Option Pte = Some (record pte { writable = w }) in out) writable in
      omega (arith, f.entries.writers pte.page, some_writer g.parts.maps slot index pte.page entry')

  -- ---- unmaps

  pub unmap-number : (cpu number : ℕ) → Fit g v d → Has g cpu (Unmap number) → number < MAX_MAPPING_NUMBERS
  unmap-number cpu number f has = command_in_range g.plan cpu (processor_at g cpu).place (Unmap number) f.sizes.range has.command

-- the mapping that an unmap finds is live
pub unmap-live : (g : GuestState) (cpu number slot : ℕ) → find_slot g.parts.maps (process_of g.plan cpu) number ≡ Some slot → is_live_slot (slot_at g.parts.maps slot) ≡ true
unmap-live g cpu number slot found = let its = found_slot g.parts.maps (process_of g.plan cpu) number slot found in rw its.at its.live

-- the page that an unmap is at is a place, and one that a mapping may have
pub tearing-place : (g : GuestState) (cpu slot index : ℕ) → (k : IsTearing g cpu slot index) → IsPlace g.parts.maps slot index
tearing-place g cpu slot index k = IsPlace-from g.parts.maps slot index k.mapping k.at k.within

-- g the guest, v its storage, d its disk
module _ (g : GuestState) (v : StorageView) (d : DiskView) where
  pub tearing-below : (cpu slot index : ℕ) → Fit g v d → IsTearing g cpu slot index → index < MAX_MAPPING_PAGES
  tearing-below cpu slot index f k = omega (arith, k.within, (f.slots.shown slot k.mapping k.at).0)

  -- its entry can be cleared
  pub tearing-clears : (cpu slot index : ℕ) (pte : Pte) → Fit g v d → IsTearing g cpu slot index → entry_at g.parts.maps slot index ≡ Some pte → CanClear g.parts v slot index pte
  tearing-clears cpu slot index pte f k entry =
      let its = torn_page (flat_of g.plan g.journal) g v d cpu slot index pte f k entry in
      record {
        place = tearing-place g cpu slot index k;
        takes = tagged-takes g v d pte.page its.0.tag f its.1.tagged;
        writers = writer-some g v d slot index pte f entry;
      }

  -- ---- pins

  -- the numbers of a pin or an unpin
  pub pin-piece : (cpu : ℕ) (pins : Bool) (number index : ℕ) → Fit g v d → Has g cpu (pin_op pins number index) → (number < MAX_MAPPING_NUMBERS) × (index < MAX_MAPPING_PAGES)
  pin-piece cpu true number index f has = command_in_range g.plan cpu (processor_at g cpu).place (Pin number index) f.sizes.range has.command
  pin-piece cpu false number index f has = command_in_range g.plan cpu (processor_at g cpu).place (Unpin number index) f.sizes.range has.command

  -- a page has at most as many pins as there are places
  pub pins-most : (page : ℕ) → Fit g v d → (info_at g.parts.pages page).pins ≤ MAX_MAPPING_SLOTS * MAX_MAPPING_PAGES
  pins-most page f = of (info_at g.parts.pages page).tag refl
    where
      of : (o : Option Tag) → (info_at g.parts.pages page).tag ≡ o → (info_at g.parts.pages page).pins ≤ MAX_MAPPING_SLOTS * MAX_MAPPING_PAGES
      of None e = rw (f.pages.bare page e) (omega arith)
      of (Some tag) e = omega (arith, f.pins.counted page tag e, pins_within-most g.parts.maps tag (length g.parts.maps.slots) MAX_MAPPING_PAGES, f.slots.slots)

  -- and the page of an unpin has one
  pub unpin-some : (cpu number index page : ℕ) → Fit g v d → Starts g cpu (Unpin number index) → HasItsTag g cpu (Unpin number index) page → 1 ≤ (info_at g.parts.pages page).pins
  unpin-some cpu number index page f starts has =
      let tag = has.tag in
      let its = tag_in-Some g.parts (find_slot g.parts.maps (process_of g.plan cpu) number) index tag has.wants in
      let k = pin-place g cpu false number index its.0 starts its.1 in
      let is = (is_wanted (flat_of g.plan g.journal) g v d cpu (Unpin number index) tag f.sizes f.slots starts has.wants).is_tag in
      let few : index < MAX_MAPPING_PAGES = omega (arith, k.below, (f.slots.shown its.0 k.mapping k.at).0) in
      let some = pins_within-some g.parts.maps tag (length g.parts.maps.slots) MAX_MAPPING_PAGES its.0 index (slot-below g.parts.maps its.0 k.mapping k.at) few k.was its.2 in
      omega (arith, f.pins.counted page tag (f.pages.found page tag is has.found).1, some)

  -- ---- places and the journal

  -- a processor has at most so many commands
  pub place-below : (cpu : ℕ) (op : Op) → Fit g v d → command_of g.plan cpu (processor_at g cpu).place ≡ Some op → (processor_at g cpu).place < MAX_COMMANDS
  place-below cpu op f command = omega (arith, command-below g.plan cpu (processor_at g cpu).place op command, command_count-le g.plan cpu f.sizes.range)

-- the plan with other processors
abbrev with_cpus : GuestPlan → List CpuPlan → GuestPlan
with_cpus plan cpus = record plan { cpus = cpus }

entries-le : (plan : GuestPlan) (processors : List Processor) (cpus : List CpuPlan) → length processors ≡ length cpus
    → ((q : ℕ) → q < length processors → entries_of (get_or processors q first_processor) ≤ command_count (with_cpus plan cpus) q)
    → sum_by entries_of processors ≤ sum_by (λ cpu. length cpu.commands) cpus
entries-le plan [] [] size each = omega arith
entries-le plan [] (c ∷ cpus) size each = absurd (omega arith)
entries-le plan (p ∷ processors) [] size each = absurd (omega arith)
entries-le plan (p ∷ processors) (c ∷ cpus) size each =
    let first : entries_of p ≤ length c.commands = each 0 (omega arith) in
    let rest = entries-le plan processors cpus (omega arith) (λ q below. each (suc q) (omega arith)) in
    omega (arith, first, rest, sum_by-cons entries_of p processors, sum_by-cons (λ (x : CpuPlan). length x.commands) c cpus)

entries-lt : (plan : GuestPlan) (cpu : ℕ) (processors : List Processor) (cpus : List CpuPlan) → length processors ≡ length cpus
    → ((q : ℕ) → q < length processors → entries_of (get_or processors q first_processor) ≤ command_count (with_cpus plan cpus) q) → cpu < length processors
    → entries_of (get_or processors cpu first_processor) < command_count (with_cpus plan cpus) cpu
    → sum_by entries_of processors < sum_by (λ cpu. length cpu.commands) cpus
entries-lt plan cpu [] [] size each below here = absurd (omega arith)
entries-lt plan cpu [] (c ∷ cpus) size each below here = absurd (omega arith)
entries-lt plan cpu (p ∷ processors) [] size each below here = absurd (omega arith)
entries-lt plan zero (p ∷ processors) (c ∷ cpus) size each below here =
    let first : entries_of p < length c.commands = here in
    let rest = entries-le plan processors cpus (omega arith) (λ q lt. each (suc q) (omega arith)) in
    omega (arith, first, rest, sum_by-cons entries_of p processors, sum_by-cons (λ (x : CpuPlan). length x.commands) c cpus)
entries-lt plan (suc cpu) (p ∷ processors) (c ∷ cpus) size each below here =
    let first : entries_of p ≤ length c.commands = each 0 (omega arith) in
    let rest = entries-lt plan cpu processors cpus (omega arith) (λ q lt. each (suc q) (omega arith)) (omega arith) here in
    omega (arith, first, rest, sum_by-cons entries_of p processors, sum_by-cons (λ (x : CpuPlan). length x.commands) c cpus)

-- the journal has at most an entry for each command
pub journal-most : (g : GuestState) (v : StorageView) (d : DiskView) → Fit g v d → length g.journal ≤ all_commands g.plan
journal-most g v d f = omega (arith, entries-le g.plan g.processors g.plan.cpus f.sizes.processors f.journal.within, f.journal.counted)

one_left : (place early commands : ℕ) → early ≡ 0 → place < commands → place + early < commands
one_left place early commands none below = omega (arith, none, below)

-- while a command is left that isn't answered yet there is room for its entry
pub journal-room : (g : GuestState) (v : StorageView) (d : DiskView) (cpu : ℕ) (op : Op) → Fit g v d → cpu < length g.processors → command_of g.plan cpu (processor_at g cpu).place ≡ Some op
    → answered_early (processor_at g cpu).phase ≡ 0 → length g.journal < all_commands g.plan
journal-room g v d cpu op f below command early =
    let left = one_left (processor_at g cpu).place (answered_early (processor_at g cpu).phase) (command_count g.plan cpu) early (command-below g.plan cpu (processor_at g cpu).place op command) in
    omega (arith, entries-lt g.plan cpu g.processors g.plan.cpus f.sizes.processors f.journal.within below left, f.journal.counted)

-- ---- room

-- where no page is free, room can be made
pub full-can : (g : GuestState) (v : StorageView) (d : DiskView) → Fit g v d → g.parts.pages.free ≡ [] → CanMakeRoom g.parts v
full-can g v d f full = record {
  full = full;
  tagged = full-tagged g.parts f.pages full;
  takes = λ page below. record {
    in_use = record {
      below = below;
      shown = page-shown g v d page f below;
      not_free = λ there. full-tagged g.parts f.pages full page below (f.pages.free page there).1;
      tag = tag-is_tag g v d page f;
    };
    there = below_view (flat_of g.plan g.journal) g v d page f below;
    none_held = f.hints.none_held;
  };
  none_held = f.hints.none_held;
}
