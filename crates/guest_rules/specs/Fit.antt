-- What stands between any two turns of a guest, its pages' values and its disk.
use Rattle.std.specs.Prelude.{◌≡◌, ◌<◌, ◌≤◌, ◌==◌, ◌&&◌, ℕ, zero, suc, ◌+◌, ◌*◌, List, [], length, map, sum, sum_by}
use Rattle.std.specs.Prelude.{Bool, true, false, Option, Some, None, Contains, slice_get, slice_index_or, ◌⊎◌, IsSome}
use Rattle.std.specs.FinMap as finite
use Rattle.std.specs.List.{range_with_len}
use Rattle.cmm_types.specs.declared.page.TheConstants.{PAGE}
use Rattle.cmm_types.specs.declared.page.Usage.TheVariants.{U, V}
use Rattle.cmm_types.specs.declared.page.Tag.{Tag}
use Rattle.cmm_types.specs.declared.page.Tag.TheVariants.{File, Anon as AnonTag}
use Rattle.cmm_types.specs.declared.plan.TheConstants.{MAX_MAPPING_SLOTS}
use Rattle.cmm_types.specs.declared.command.TheConstants.{MAX_MAPPING_PAGES}
use Rattle.cmm_types.specs.declared.command.Op.{Op}
use Rattle.cmm_types.specs.declared.command.Op.TheVariants.{Sync, Unmap}
use Rattle.cmm_types.specs.declared.plan.CpuPlan.{CpuPlan}
use Rattle.cmm_types.specs.declared.plan.GuestPlan.{GuestPlan}
use Rattle.cmm_types.specs.InRange.{GuestInRange, blocks_of}
use Rattle.cmm_flat.specs.declared.mapping.Mapping.{Mapping}
use Rattle.cmm_flat.specs.declared.mapping.Shown.{Shown as FlatShown}
use Rattle.cmm_flat.specs.declared.mapping.Shown.TheVariants.{OfFile as FlatFile, Anonymous}
use Rattle.cmm_types.specs.Bytes.{bytes_at, zero_page}
use Rattle.cmm_types.specs.Sums.{sum_below, one_if}
use Rattle.cmm_flat.specs.State.{FlatState, IsSound, mapping_at, file_at}
use Rattle.cmm_flat.specs.Legal.{CanNeedPage, Legal, flat_of, walk_of, start_of, progress_of, command_of, process_of}
pub use Rattle.cmm_flat.specs.Legal.{all_commands}
use Rattle.cmm_io.specs.DiskView.{DiskView, AreBlocks}
use Rattle.essa_state.specs.PageValue.{PageValue, Contents, Bytes, Blank, Lost, IsValue, is_lost, is_blank}
use Rattle.cmm_storage.specs.StorageView.{StorageView}
use Rattle.guest_pages.specs.PagesView.{info_at, free_info, AreDistinct}
use Rattle.guest_cache.specs.CacheView.{CacheView, HasOneSwapSlot, IsTag, IsAnonymous, page_of, swap_slot, backing_of}
use Rattle.guest_maps.specs.declared.slot.Pte.{Pte}
use Rattle.guest_maps.specs.declared.slot.Slot.{Slot}
use Rattle.guest_maps.specs.declared.slot.Shown.{Shown}
use Rattle.guest_maps.specs.declared.slot.Shown.TheVariants.{File as OfFile, Anon}
use Rattle.guest_maps.specs.MapsView.{MapsView, slot_at, find_slot, live_slots, entry_at, pinned_at, tag_at, writers_showing, IsPlace}
use Rattle.guest_rules.specs.declared.parts.Parts.{Parts}
use Rattle.guest_rules.specs.declared.processor.Phase.{Phase}
use Rattle.guest_rules.specs.declared.processor.Processor.{Processor}
use Rattle.guest_rules.specs.declared.processor.Phase.TheVariants.{Start, Fill, Room as AtRoom, Sync as AtSync, SyncWrite, Teardown}
use Rattle.guest_rules.specs.Hint.{hint}
use Rattle.guest_rules.specs.GuestState.{GuestState, processor_at}
use Rattle.guest_rules.specs.Turns.{slot_writable, file_pages}

-- the tables, the storage and the disk are of the plan's sizes
pub record SizesFit (g : GuestState) (v : StorageView) (d : DiskView) : Type 0 where
  pub range : GuestInRange g.plan
  pub infos : length g.parts.pages.infos ≡ g.plan.pages
  pub pages : v.pages ≡ g.plan.pages
  pub processors : length g.processors ≡ length g.plan.cpus
  pub files : g.parts.cache.files ≡ map (λ file. file.pages) g.plan.files
  pub swap : length g.parts.cache.swap ≡ g.plan.swap
  pub slots : g.parts.cache.slots ≡ MAX_MAPPING_SLOTS
  pub index : length g.parts.cache.index ≡ sum g.parts.cache.files + g.parts.cache.slots * MAX_MAPPING_PAGES
  pub blocks : d.count ≡ blocks_of g.plan

-- pages: the free stack has the pages without a tag, each once; a page without a tag is nothing else either; the index has
-- exactly the tags of the tagged pages, so no two pages have one tag
pub record PagesFit (parts : Parts) : Type 0 where
  pub once : AreDistinct parts.pages.free
  pub free : (page : ℕ) → Contains parts.pages.free page → (page < length parts.pages.infos) × ((info_at parts.pages page).tag ≡ None)
  pub stacked : (page : ℕ) → page < length parts.pages.infos → (info_at parts.pages page).tag ≡ None → Contains parts.pages.free page
  pub bare : (page : ℕ) → (info_at parts.pages page).tag ≡ None → info_at parts.pages page ≡ free_info
  pub indexed : (page : ℕ) (tag : Tag) → (info_at parts.pages page).tag ≡ Some tag → IsTag parts.cache tag × (page_of parts.cache tag ≡ Some page)
  pub found : (page : ℕ) (tag : Tag) → IsTag parts.cache tag → page_of parts.cache tag ≡ Some page → (page < length parts.pages.infos) × ((info_at parts.pages page).tag ≡ Some tag)

-- which of so many pages of the mapping in a slot are pinned
abbrev pub pins_of : MapsView → (slot count : ℕ) → List Bool
pins_of maps slot count = map (pinned_at maps slot) (range_with_len 0 count)

-- what the flat machine has of the mapping in a slot, but for bytes of its own
abbrev pub flat_shown : Shown → FlatShown
flat_shown (OfFile file first writable) = FlatFile file first writable
flat_shown Anon = Anonymous []

abbrev pub flat_slot : MapsView → ℕ → Slot → Mapping
flat_slot maps slot mapping = record { shown = flat_shown mapping.shown; pins = pins_of maps slot mapping.count }

-- a mapping of the flat machine without bytes of its own
abbrev pub without_bytes : FlatShown → FlatShown
without_bytes (FlatFile file first writable) = FlatFile file first writable
without_bytes (Anonymous bytes) = Anonymous []

abbrev pub shape_of : Option Mapping → Option Mapping
shape_of None = None
shape_of (Some mapping) = Some (record mapping { shown = without_bytes mapping.shown })

abbrev pub flat_mapping : MapsView → ℕ → Option Slot → Option Mapping
flat_mapping maps slot None = None
flat_mapping maps slot (Some mapping) = Some (flat_slot maps slot mapping)

abbrev pub flat_found : MapsView → Option ℕ → Option Mapping
flat_found maps None = None
flat_found maps (Some slot) = flat_mapping maps slot (slot_at maps slot)

-- what a mapping of so many pages shows is there: pages of a file, or pages of its own
abbrev pub HasShownPages : CacheView → Shown → (count : ℕ) → Type 0
HasShownPages cache (OfFile file first writable) count = (file < length cache.files) × (first + count ≤ slice_index_or cache.files file 0)
HasShownPages cache Anon count = Unit {0}

-- mapping slots: a slot is free, live or being torn down; the live ones are the live mappings of the flat state, each by its process and number
pub record SlotsFit (state : FlatState) (parts : Parts) : Type 0 where
  pub slots : length parts.maps.slots ≡ MAX_MAPPING_SLOTS
  pub entries : length parts.maps.entries ≡ MAX_MAPPING_SLOTS * MAX_MAPPING_PAGES
  pub pinned : length parts.maps.pinned ≡ MAX_MAPPING_SLOTS * MAX_MAPPING_PAGES
  pub pages : parts.maps.pages ≡ length parts.pages.infos
  pub apart : (slot other : ℕ) (mapping another : Slot) → slot_at parts.maps slot ≡ Some mapping → slot_at parts.maps other ≡ Some another → mapping.live ≡ true
      → another.live ≡ true → mapping.process ≡ another.process → mapping.map ≡ another.map → slot ≡ other
  pub flat : (process number : ℕ) → shape_of (mapping_at state process number) ≡ flat_found parts.maps (find_slot parts.maps process number)
  pub counted : finite.len state.mappings ≡ live_slots parts.maps
  pub some : (slot : ℕ) (mapping : Slot) → slot_at parts.maps slot ≡ Some mapping → 1 ≤ mapping.count
  pub shown : (slot : ℕ) (mapping : Slot) → slot_at parts.maps slot ≡ Some mapping → (mapping.count ≤ MAX_MAPPING_PAGES) × HasShownPages parts.cache mapping.shown mapping.count
  -- what is pinned is a page of a mapping, so a new mapping begins with none pinned
  pub placed : (slot index : ℕ) → index < MAX_MAPPING_PAGES → pinned_at parts.maps slot index ≡ true → IsPlace parts.maps slot index

-- the page with the tag of the entry's place is up to date, and the entry allows stores only where the mapping does
pub record IsEntry (parts : Parts) (slot index : ℕ) (pte : Pte) : Type 0 where
  pub place : IsPlace parts.maps slot index
  pub tag : Tag
  pub mapped : tag_at parts.maps slot index ≡ Some tag
  pub tagged : (info_at parts.pages pte.page).tag ≡ Some tag
  pub uptodate : (info_at parts.pages pte.page).uptodate ≡ true
  pub writable : pte.writable ≡ true → slot_writable (slot_at parts.maps slot) ≡ true

-- entries: each shows the page whose tag its place maps; the writers of a page are the writable entries that show it
pub record EntriesFit (parts : Parts) : Type 0 where
  pub entry : (slot index : ℕ) (pte : Pte) → index < MAX_MAPPING_PAGES → entry_at parts.maps slot index ≡ Some pte → IsEntry parts slot index pte
  pub writers : (page : ℕ) → (info_at parts.pages page).writers ≡ writers_showing parts.maps page

abbrev pub same_tag : Tag → Tag → Bool
same_tag (File file index) (File other at) = file == other && index == at
same_tag (File file index) (AnonTag other at) = false
same_tag (AnonTag slot index) (File other at) = false
same_tag (AnonTag slot index) (AnonTag other at) = slot == other && index == at

abbrev pub is_tag_of : Option Tag → Tag → Bool
is_tag_of None tag = false
is_tag_of (Some its) tag = same_tag its tag

-- one where the place is pinned and maps the tag
abbrev pub pin_on : MapsView → Tag → (slot index : ℕ) → ℕ
pin_on maps tag slot index = one_if (pinned_at maps slot index && is_tag_of (tag_at maps slot index) tag)

-- how many of the first pages of the first slots are so
unfoldable pub pins_within : MapsView → Tag → (slots pages : ℕ) → ℕ
pins_within maps tag slots pages = sum_below (λ slot. sum_below (pin_on maps tag slot) pages) slots

-- how many pinned places map a tag
abbrev pub pins_on : MapsView → Tag → ℕ
pins_on maps tag = pins_within maps tag (length maps.slots) MAX_MAPPING_PAGES

-- a page has the tag, and is up to date
pub record IsKept (parts : Parts) (tag : Tag) : Type 0 where
  pub page : ℕ
  pub there : page_of parts.cache tag ≡ Some page
  pub uptodate : (info_at parts.pages page).uptodate ≡ true

-- pins: a page has as many as there are pinned places that map its tag, and the tag of each pinned place is on a page that is up to
-- date
pub record PinsFit (parts : Parts) : Type 0 where
  pub counted : (page : ℕ) (tag : Tag) → (info_at parts.pages page).tag ≡ Some tag → (info_at parts.pages page).pins ≡ pins_on parts.maps tag
  pub kept : (slot index : ℕ) (tag : Tag) → index < MAX_MAPPING_PAGES → pinned_at parts.maps slot index ≡ true → tag_at parts.maps slot index ≡ Some tag → IsKept parts tag

-- a page of a mapping of pages of its own, in a slot that isn't free
abbrev pub IsOwnPage : Option Slot → (index : ℕ) → Type 0
IsOwnPage None index = ⊥
IsOwnPage (Some mapping) index = (mapping.shown ≡ Anon) × (index < mapping.count)

-- a tag of a file's page, or of such a page
abbrev pub IsUsedTag : MapsView → Tag → Type 0
IsUsedTag maps (File file index) = Unit {0}
IsUsedTag maps (AnonTag slot index) = IsOwnPage (slot_at maps slot) index

-- tags: each page's and each swap slot's is one that is used, and that of a swap slot is anonymous; no tag has two swap slots; an anonymous
-- page that is changed, or that an entry allows stores to, is dirty or has a swap slot
pub record TagsFit (parts : Parts) (v : StorageView) : Type 0 where
  pub pages : (page : ℕ) (tag : Tag) → (info_at parts.pages page).tag ≡ Some tag → IsUsedTag parts.maps tag
  pub swapped : (number : ℕ) (tag : Tag) → slice_index_or parts.cache.swap number None ≡ Some tag → IsAnonymous tag × IsUsedTag parts.maps tag
  pub distinct : HasOneSwapSlot parts.cache
  pub written : (page slot index : ℕ) → page < v.pages → (info_at parts.pages page).tag ≡ Some (AnonTag slot index)
      → ((v.values page).changed ≡ true) ⊎ (1 ≤ (info_at parts.pages page).writers)
      → ((info_at parts.pages page).dirty ≡ true) ⊎ IsSome (swap_slot parts.cache (AnonTag slot index))

-- a processor that fills a page has a command that needs one
pub record IsFilling (g : GuestState) (cpu page : ℕ) : Type 0 where
  pub op : Op
  pub command : command_of g.plan cpu (processor_at g cpu).place ≡ Some op
  pub needs : CanNeedPage op
  pub below : page < length g.parts.pages.infos
  pub owner : (info_at g.parts.pages page).owner ≡ Some cpu
  pub stale : (info_at g.parts.pages page).uptodate ≡ false
  pub tag : Tag
  pub tagged : (info_at g.parts.pages page).tag ≡ Some tag

-- a processor that writes a page back to make room has a command that needs one. The page's tag has a block
pub record IsPagingOut (g : GuestState) (cpu page : ℕ) : Type 0 where
  pub cpu_below : cpu < length g.processors
  pub op : Op
  pub command : command_of g.plan cpu (processor_at g cpu).place ≡ Some op
  pub needs : CanNeedPage op
  pub below : page < length g.parts.pages.infos
  pub owner : (info_at g.parts.pages page).owner ≡ Some cpu
  pub uptodate : (info_at g.parts.pages page).uptodate ≡ true
  pub tag : Tag
  pub tagged : (info_at g.parts.pages page).tag ≡ Some tag
  pub block : ℕ
  pub backs : backing_of g.parts.cache tag ≡ Some block

-- a processor whose sync is at a page of its file
pub record IsSyncing (g : GuestState) (cpu file index : ℕ) : Type 0 where
  pub cpu_below : cpu < length g.processors
  pub command : command_of g.plan cpu (processor_at g cpu).place ≡ Some (Sync file)
  pub file_below : file < length g.plan.files
  pub within : index < file_pages g.plan.files file

-- a processor whose sync writes the file's page back from a page that it has locked
pub record IsWriting (g : GuestState) (cpu index page : ℕ) : Type 0 where
  pub file : ℕ
  pub syncing : IsSyncing g cpu file index
  pub below : page < length g.parts.pages.infos
  pub owner : (info_at g.parts.pages page).owner ≡ Some cpu
  pub tagged : (info_at g.parts.pages page).tag ≡ Some (File file index)
  pub uptodate : (info_at g.parts.pages page).uptodate ≡ true

-- the processor fills the page, or writes it back, for a sync or to make room
abbrev pub HasLocked : GuestState → (cpu page : ℕ) → Type 0
HasLocked g cpu page =
    ((processor_at g cpu).phase ≡ Fill page) ⊎ (((index : ℕ) × ((processor_at g cpu).phase ≡ SyncWrite index page)) ⊎ ((processor_at g cpu).phase ≡ AtRoom page))

-- locks: a page is locked by a processor exactly where that processor fills it or writes it back; a tagged page isn't up to date exactly
-- where it is filled
pub record LocksFit (g : GuestState) : Type 0 where
  pub stale_clean : (page : ℕ) → (info_at g.parts.pages page).uptodate ≡ false → (info_at g.parts.pages page).dirty ≡ false
  pub filling : (cpu page : ℕ) → (processor_at g cpu).phase ≡ Fill page → (cpu < length g.processors) × IsFilling g cpu page
  pub paging_out : (cpu page : ℕ) → (processor_at g cpu).phase ≡ AtRoom page → IsPagingOut g cpu page
  pub syncing : (cpu index : ℕ) → (processor_at g cpu).phase ≡ AtSync index → (file : ℕ) × IsSyncing g cpu file index
  pub writing : (cpu index page : ℕ) → (processor_at g cpu).phase ≡ SyncWrite index page → IsWriting g cpu index page
  pub locked : (cpu page : ℕ) → (info_at g.parts.pages page).owner ≡ Some cpu → HasLocked g cpu page
  pub stale : (page : ℕ) (tag : Tag) → (info_at g.parts.pages page).tag ≡ Some tag → (info_at g.parts.pages page).owner ≡ None → (info_at g.parts.pages page).uptodate ≡ true

-- neither a page nor a swap slot has the tag of a page of a slot's own
abbrev pub IsUntagged : CacheView → (slot index : ℕ) → Type 0
IsUntagged cache slot index = (page_of cache (AnonTag slot index) ≡ None) × (swap_slot cache (AnonTag slot index) ≡ None)

-- a processor whose unmap, which has been answered, is at a page of the mapping that was in a slot. The pages before it have no
-- entry, and an anonymous one of them neither a page nor a swap slot
pub record IsTearing (g : GuestState) (cpu slot index : ℕ) : Type 0 where
  pub cpu_below : cpu < length g.processors
  pub number : ℕ
  pub command : command_of g.plan cpu (processor_at g cpu).place ≡ Some (Unmap number)
  pub mapping : Slot
  pub at : slot_at g.parts.maps slot ≡ Some mapping
  pub torn : mapping.live ≡ false
  pub its : (mapping.process ≡ process_of g.plan cpu) × (mapping.map ≡ number)
  pub within : index < mapping.count
  pub past : (before : ℕ) → before < index → entry_at g.parts.maps slot before ≡ None
  pub untagged : (before : ℕ) → before < index → IsUntagged g.parts.cache slot before

-- teardowns: a slot is being torn down exactly where one processor's unmap is at a page of it, and nothing of it is pinned
pub record TeardownsFit (g : GuestState) : Type 0 where
  pub tearing : (cpu slot index : ℕ) → (processor_at g cpu).phase ≡ Teardown slot index → IsTearing g cpu slot index
  pub torn : (slot : ℕ) (mapping : Slot) → slot_at g.parts.maps slot ≡ Some mapping → mapping.live ≡ false → (cpu : ℕ) × (index : ℕ) × ((processor_at g cpu).phase ≡ Teardown slot index)
  pub alone : (cpu other slot index at : ℕ) → (processor_at g cpu).phase ≡ Teardown slot index → (processor_at g other).phase ≡ Teardown slot at → cpu ≡ other
  pub unpinned : (slot index : ℕ) (mapping : Slot) → slot_at g.parts.maps slot ≡ Some mapping → mapping.live ≡ false → index < MAX_MAPPING_PAGES → pinned_at g.parts.maps slot index ≡ false

-- hints: every page's usage is its hint, and neither a volatile page nor an unused one is changed
pub record HintsFit (parts : Parts) (v : StorageView) : Type 0 where
  pub none_held : v.held ≡ None
  pub values : (page : ℕ) → page < v.pages → IsValue (v.values page)
  pub hints : (page : ℕ) → page < v.pages → (v.values page).usage ≡ hint (info_at parts.pages page)
  pub volatile : (page : ℕ) → page < v.pages → (v.values page).usage ≡ V → (v.values page).changed ≡ false
  pub unused : (page : ℕ) → page < v.pages → (v.values page).usage ≡ U → (v.values page).changed ≡ false

-- a block's bytes, where the disk tells them
abbrev pub block_bytes : Option (List (List ℕ)) → ℕ → List ℕ
block_bytes None block = []
block_bytes (Some blocks) block = slice_index_or blocks block []

abbrev pub backed : Option (List (List ℕ)) → Option ℕ → List ℕ
backed blocks None = zero_page
backed blocks (Some block) = block_bytes blocks block

-- what backs a tag: the bytes of its block, or zeros
abbrev pub backing : CacheView → DiskView → Tag → List ℕ
backing cache d tag = backed d.blocks (backing_of cache tag)

-- contents: a tagged page that is up to date isn't blank, its bytes are a whole page, and where it is neither dirty, changed nor lost it
-- has what backs its tag
pub record ContentsFit (parts : Parts) (v : StorageView) (d : DiskView) : Type 0 where
  pub tells : v.tells ≡ true
  pub told : (blocks : List (List ℕ)) × (d.blocks ≡ Some blocks)
  pub blocks : AreBlocks d.count d.blocks
  pub not_blank : (page : ℕ) (tag : Tag) → page < v.pages → (info_at parts.pages page).tag ≡ Some tag → (info_at parts.pages page).uptodate ≡ true
      → is_blank (v.values page).contents ≡ false
  pub whole : (page : ℕ) (tag : Tag) (bytes : List ℕ) → page < v.pages → (info_at parts.pages page).tag ≡ Some tag → (info_at parts.pages page).uptodate ≡ true
      → (v.values page).contents ≡ Bytes bytes → length bytes ≡ PAGE
  pub same : (page : ℕ) (tag : Tag) → page < v.pages → (info_at parts.pages page).tag ≡ Some tag → (info_at parts.pages page).uptodate ≡ true
      → (info_at parts.pages page).dirty ≡ false → (v.values page).changed ≡ false → is_lost (v.values page).contents ≡ false
      → (v.values page).contents ≡ Bytes (backing parts.cache d tag)

-- the bytes of a page with these contents, where it is up to date, or what backs it
abbrev pub current_bytes : (uptodate : Bool) → Contents → List ℕ → List ℕ
current_bytes false contents behind = behind
current_bytes true (Bytes bytes) behind = bytes
current_bytes true Blank behind = zero_page
current_bytes true Lost behind = behind

abbrev pub current_at : Parts → StorageView → Option ℕ → List ℕ → List ℕ
current_at parts v None behind = behind
current_at parts v (Some page) behind = current_bytes (info_at parts.pages page).uptodate (v.values page).contents behind

-- the current bytes of a tag: its page's, where that is up to date and isn't lost, or else what backs the tag
abbrev pub current : Parts → StorageView → DiskView → Tag → List ℕ
current parts v d tag = current_at parts v (page_of parts.cache tag) (backing parts.cache d tag)

-- a page of a live mapping of pages of its own
abbrev pub IsLiveOwnPage : Option Slot → (index : ℕ) → Type 0
IsLiveOwnPage None index = ⊥
IsLiveOwnPage (Some mapping) index = (mapping.live ≡ true) × (mapping.shown ≡ Anon) × (index < mapping.count)

-- a tag of a file's page, or of such a page: what the flat machine has bytes of
abbrev pub IsFlatTag : Parts → Tag → Type 0
IsFlatTag parts (File file index) = IsTag parts.cache (File file index)
IsFlatTag parts (AnonTag slot index) = IsLiveOwnPage (slot_at parts.maps slot) index

-- the bytes of its own that the flat machine has of a mapping
abbrev pub own_bytes : Option Mapping → List ℕ
own_bytes None = []
own_bytes (Some mapping) = of mapping.shown
  where
    of : FlatShown → List ℕ
    of (FlatFile file first writable) = []
    of (Anonymous bytes) = bytes

abbrev pub flat_of_slot : FlatState → Option Slot → Option Mapping
flat_of_slot flat None = None
flat_of_slot flat (Some mapping) = mapping_at flat mapping.process mapping.map

-- what the flat machine has of a tag's page
abbrev pub flat_page : FlatState → MapsView → Tag → List ℕ
flat_page flat maps (File file index) = bytes_at (file_at flat.files file) (PAGE * index) PAGE
flat_page flat maps (AnonTag slot index) = bytes_at (own_bytes (flat_of_slot flat (slot_at maps slot))) (PAGE * index) PAGE

-- flat state: each page of a file, and of a live mapping of pages of its own, is the current bytes of its tag
pub record FlatFit (flat : FlatState) (g : GuestState) (v : StorageView) (d : DiskView) : Type 0 where
  pub lengths : map length flat.files ≡ map (λ file. PAGE * file.pages) g.plan.files
  pub sound : IsSound flat
  pub pages : (tag : Tag) → IsFlatTag g.parts tag → flat_page flat g.parts.maps tag ≡ current g.parts v d tag

-- how many commands a processor has
abbrev pub command_count : GuestPlan → ℕ → ℕ
command_count plan cpu = of (slice_get plan.cpus cpu)
  where
    of : Option CpuPlan → ℕ
    of None = 0
    of (Some its) = length its.commands

-- an unmap stands in the journal from its first turn on
abbrev pub answered_early : Phase → ℕ
answered_early Start = 0
answered_early (Fill page) = 0
answered_early (AtRoom page) = 0
answered_early (AtSync index) = 0
answered_early (SyncWrite index page) = 0
answered_early (Teardown slot index) = 1

-- how many entries of a processor stand in the journal: those of the commands before its place, and that of an unmap that it is at
abbrev pub entries_of : Processor → ℕ
entries_of processor = processor.place + answered_early processor.phase

-- how many pages of its own a mapping has
abbrev pub own_pages : Option Slot → ℕ
own_pages None = 0
own_pages (Some mapping) = of mapping.shown mapping.count
  where
    of : Shown → ℕ → ℕ
    of (OfFile file first writable) count = 0
    of Anon count = count

-- journal: it is legal, and each processor has the entries of the commands before its place, and that of an unmap that it is at
pub record JournalFit (g : GuestState) : Type 0 where
  pub legal : Legal g.plan g.journal
  pub places : (cpu : ℕ) → cpu < length g.processors → (progress_of (walk_of g.plan (start_of g.plan) g.journal) cpu).next ≡ entries_of (processor_at g cpu)
  pub within : (cpu : ℕ) → cpu < length g.processors → entries_of (processor_at g cpu) ≤ command_count g.plan cpu
  pub counted : length g.journal ≡ sum_by entries_of g.processors
  pub ended : (cpu slot index : ℕ) → (processor_at g cpu).phase ≡ Teardown slot index
      → (progress_of (walk_of g.plan (start_of g.plan) g.journal) cpu).ended ≡ own_pages (slot_at g.parts.maps slot)

abbrev pub one_if_lost : PageValue → ℕ
one_if_lost value = of value.contents
  where
    of : Contents → ℕ
    of (Bytes bytes) = 0
    of Blank = 0
    of Lost = 1

-- faults: the handled pages and the lost ones are together at most the discards counted
abbrev pub FaultsFit : Parts → StorageView → Type 0
FaultsFit parts v = parts.faults + sum_below (λ page. one_if_lost (v.values page)) v.pages ≤ sum_below (λ page. (v.values page).count) v.pages

pub record FitAt (state : FlatState) (g : GuestState) (v : StorageView) (d : DiskView) : Type 0 where
  pub sizes : SizesFit g v d
  pub pages : PagesFit g.parts
  pub slots : SlotsFit state g.parts
  pub entries : EntriesFit g.parts
  pub pins : PinsFit g.parts
  pub tags : TagsFit g.parts v
  pub locks : LocksFit g
  pub teardowns : TeardownsFit g
  pub hints : HintsFit g.parts v
  pub contents : ContentsFit g.parts v d
  pub flat : FlatFit state g v d
  pub journal : JournalFit g
  pub faults : FaultsFit g.parts v

-- the same for the flat state that the journal leads to
abbrev pub Fit : GuestState → StorageView → DiskView → Type 0
Fit g v d = FitAt (flat_of g.plan g.journal) g v d
