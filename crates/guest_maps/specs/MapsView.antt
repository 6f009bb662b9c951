-- The mapping slots of a guest, the entry of each of their places, and which places are pinned.
use Rattle.std.specs.Prelude.{◌≡◌, ℕ, ◌+◌, ◌*◌, ◌<◌, ◌≤◌, Bool, true, false, not, cond, ◌&&◌, ◌==◌, nat_lt, List, length, map}
use Rattle.std.specs.Prelude.{Option, Some, None, ⊤, is_none, replicate, slice_set, slice_range, slice_index_or, position, count_by}
use Rattle.std.specs.List.{list_any}
use Rattle.cmm_types.specs.declared.command.TheConstants.{MAX_MAPPING_NUMBERS, MAX_MAPPING_PAGES}
use Rattle.cmm_types.specs.declared.plan.TheConstants.{MAX_MAPPING_SLOTS, MAX_PROCESSES}
use Rattle.cmm_types.specs.InRange.{ArePages}
use Rattle.cmm_types.specs.declared.page.Tag.{Tag}
use Rattle.cmm_types.specs.declared.page.Tag.TheVariants.{File as FileTag, Anon as AnonTag}
use Rattle.guest_maps.specs.declared.slot.Pte.{Pte}
use Rattle.guest_maps.specs.declared.slot.Shown.{Shown}
use Rattle.guest_maps.specs.declared.slot.Shown.TheVariants.{File, Anon}
use Rattle.guest_maps.specs.declared.slot.Slot.{Slot}
use Rattle.guest_maps.specs.declared.slot.Spot.{Spot}

-- the guest's pages, which the entries show; each slot, of which a free one is none; the entry of each place; whether it is pinned
pub record MapsView : Type 0 where
  pub pages : ℕ
  pub slots : List (Option Slot)
  pub entries : List (Option Pte)
  pub pinned : List Bool

-- ---- slots

abbrev pub slot_at : MapsView → ℕ → Option Slot
slot_at maps slot = slice_index_or maps.slots slot None

abbrev pub is_live_slot : Option Slot → Bool
is_live_slot None = false
is_live_slot (Some slot) = slot.live

-- the process's live mapping of that number
abbrev pub is_mapping : ℕ → ℕ → Option Slot → Bool
is_mapping process number None = false
is_mapping process number (Some slot) = slot.live && (slot.process == process && slot.map == number)

-- the slot's mapping is being torn down
abbrev pub is_torn : Option Slot → Bool
is_torn None = false
is_torn (Some slot) = not slot.live

-- the live slot of a process's mapping of that number
abbrev pub find_slot : MapsView → ℕ → ℕ → Option ℕ
find_slot maps process number = position (is_mapping process number) maps.slots

-- the least free slot
abbrev pub free_slot : MapsView → Option ℕ
free_slot maps = position is_none maps.slots

abbrev pub live_slots : MapsView → ℕ
live_slots maps = count_by is_live_slot maps.slots

abbrev pub torn_slots : MapsView → ℕ
torn_slots maps = count_by is_torn maps.slots

abbrev pub torn : Option Slot → Option Slot
torn None = None
torn (Some slot) = Some (record slot { live = false })

abbrev pub first_of : Shown → ℕ
first_of (File file first writable) = first
first_of Anon = 0

-- process, number and pages of a mapping are those of a command in range
abbrev pub IsMapping : ℕ → ℕ → Shown → ℕ → Type 0
IsMapping process number shown count = (process < MAX_PROCESSES) × (number < MAX_MAPPING_NUMBERS) × ArePages (first_of shown) count

abbrev pub IsInRange : Option Slot → Type 0
IsInRange None = ⊤
IsInRange (Some slot) = IsMapping slot.process slot.map slot.shown slot.count

abbrev pub AreInRange : List (Option Slot) → Type 0
AreInRange slots = (slot : ℕ) → IsInRange (slice_index_or slots slot None)

-- what holds of the slots of every guest
pub record AreSlots (slots : List (Option Slot)) : Type 0 where
  pub few : length slots ≤ MAX_MAPPING_SLOTS
  pub in_range : AreInRange slots
  -- no two live mappings of a process have one number
  pub apart : (slot other process number : ℕ) → is_mapping process number (slice_index_or slots slot None) ≡ true → is_mapping process number (slice_index_or slots other None) ≡ true → slot ≡ other

-- what holds of the mapping tables of every guest: each slot has a place for each page that a mapping may have
pub record IsMaps (maps : MapsView) : Type 0 where
  pub slots : AreSlots maps.slots
  pub entries : length maps.entries ≡ length maps.slots * MAX_MAPPING_PAGES
  pub pinned : length maps.pinned ≡ length maps.slots * MAX_MAPPING_PAGES

-- ---- places

-- where a page of the mapping in a slot has its entry
abbrev pub place_at : ℕ → ℕ → ℕ
place_at slot index = slot * MAX_MAPPING_PAGES + index

abbrev pub entry_at : MapsView → ℕ → ℕ → Option Pte
entry_at maps slot index = slice_index_or maps.entries (place_at slot index) None

abbrev pub pinned_at : MapsView → ℕ → ℕ → Bool
pinned_at maps slot index = slice_index_or maps.pinned (place_at slot index) false

abbrev pub any_pinned : MapsView → ℕ → Bool
any_pinned maps slot = list_any (λ pinned. pinned) (slice_range maps.pinned (place_at slot 0) (place_at slot MAX_MAPPING_PAGES))

-- there is such a page in the mapping
abbrev pub slot_has_page : Option Slot → ℕ → Bool
slot_has_page None index = false
slot_has_page (Some slot) index = nat_lt index slot.count

-- the slot isn't free, and its mapping has that page
abbrev pub IsPlace : MapsView → ℕ → ℕ → Type 0
IsPlace maps slot index = slot_has_page (slot_at maps slot) index ≡ true

-- what page `index` of the mapping in a slot shows
abbrev pub tag_of : Shown → ℕ → ℕ → Tag
tag_of (File file first writable) slot index = FileTag file (first + index)
tag_of Anon slot index = AnonTag slot index

abbrev pub is_writable : Shown → Bool
is_writable (File file first writable) = writable
is_writable Anon = true

abbrev pub spot_of : Option Slot → ℕ → ℕ → Option Pte → Option Spot
spot_of None slot index pte = None
spot_of (Some mapping) slot index pte =
    cond (nat_lt index mapping.count) (Some (record { tag = tag_of mapping.shown slot index; writable = is_writable mapping.shown; live = mapping.live; pte = pte })) None

-- a place of a mapping, or none where the slot is free or its mapping has no such page
abbrev pub spot_at : MapsView → ℕ → ℕ → Option Spot
spot_at maps slot index = spot_of (slot_at maps slot) slot index (entry_at maps slot index)

abbrev pub tag_in : Option Slot → ℕ → ℕ → Option Tag
tag_in None slot index = None
tag_in (Some mapping) slot index = cond (nat_lt index mapping.count) (Some (tag_of mapping.shown slot index)) None

-- what is shown at a place, or none where there is no such place
abbrev pub tag_at : MapsView → ℕ → ℕ → Option Tag
tag_at maps slot index = tag_in (slot_at maps slot) slot index

abbrev pub entry_in : MapsView → Option ℕ → ℕ → Option Pte
entry_in maps None index = None
entry_in maps (Some slot) index = entry_at maps slot index

-- the entry at a page of the process's live mapping of that number
abbrev pub translated : MapsView → ℕ → ℕ → ℕ → Option Pte
translated maps process number index = entry_in maps (find_slot maps process number) index

-- ---- the entries that show a page

abbrev pub shows : ℕ → Option Pte → Bool
shows page None = false
shows page (Some pte) = pte.page == page

abbrev pub stores_to : ℕ → Option Pte → Bool
stores_to page None = false
stores_to page (Some pte) = pte.writable && pte.page == page

-- how many entries show a page
abbrev pub entries_showing : MapsView → ℕ → ℕ
entries_showing maps page = count_by (shows page) maps.entries

-- how many of them are writable
abbrev pub writers_showing : MapsView → ℕ → ℕ
writers_showing maps page = count_by (stores_to page) maps.entries

-- no entry where it showed the page
abbrev pub unless_shows : ℕ → Option Pte → Option Pte
unless_shows page pte = cond (shows page pte) None pte

-- ---- what the setters leave

unfoldable pub with_slot : MapsView → ℕ → Option Slot → MapsView
with_slot maps slot mapping = record maps { slots = slice_set maps.slots slot mapping }

abbrev pub new_mapping : ℕ → ℕ → Shown → ℕ → Slot
new_mapping process number shown count = record { process = process; map = number; live = true; shown = shown; count = count }

-- a new live mapping in a slot
unfoldable pub with_slot_mapped : MapsView → ℕ → ℕ → ℕ → Shown → ℕ → MapsView
with_slot_mapped maps slot process number shown count = with_slot maps slot (Some (new_mapping process number shown count))

-- the slot's mapping is being torn down
unfoldable pub torn_slot : MapsView → ℕ → MapsView
torn_slot maps slot = with_slot maps slot (torn (slot_at maps slot))

unfoldable pub freed_slot : MapsView → ℕ → MapsView
freed_slot maps slot = with_slot maps slot None

unfoldable pub with_entry : MapsView → ℕ → ℕ → Option Pte → MapsView
with_entry maps slot index pte = record maps { entries = slice_set maps.entries (place_at slot index) pte }

-- every entry that shows the page is gone
unfoldable pub without_entries_of : MapsView → ℕ → MapsView
without_entries_of maps page = record maps { entries = map (unless_shows page) maps.entries }

unfoldable pub with_pinned : MapsView → ℕ → ℕ → Bool → MapsView
with_pinned maps slot index pinned = record maps { pinned = slice_set maps.pinned (place_at slot index) pinned }

-- every slot is free, there is no entry, and nothing is pinned
unfoldable pub opening_maps : ℕ → ℕ → MapsView
opening_maps pages slots = record { pages = pages; slots = replicate slots None; entries = replicate (slots * MAX_MAPPING_PAGES) None; pinned = replicate (slots * MAX_MAPPING_PAGES) false }
