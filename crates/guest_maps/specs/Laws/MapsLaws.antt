-- Laws of what the readers answer after the setters that a turn calls, for the layer above.
use Rattle.std.proofs.Common.{◌≡◌, ◌≢◌, ℕ, ◌+◌, ◌*◌, ◌<◌, Bool, true, false, nat_lt, length, set, get_or, replicate, Option, Some, None, is_none, IsSome, refl, sym, ap, ◌∙◌, arith, ⊎_elim}
use Rattle.std.proofs.lemmas.List.{length-set, length-replicate, get_or-set_same, get_or-set_other, get_or_past, get_or-replicate}
use Rattle.std.proofs.lemmas.Option.{cond_some}
use Rattle.std.proofs.lemmas.List.Quantifiers.{position-Some}
use Rattle.std.proofs.lemmas.Bool.{cases_lt, lt-ltb, cond-true, both_ways, false_from_ne_true}
use Rattle.cmm_types.specs.declared.command.TheConstants.{MAX_MAPPING_PAGES}
use Rattle.guest_maps.specs.declared.slot.Pte.{Pte}
use Rattle.guest_maps.specs.declared.slot.Shown.{Shown}
use Rattle.guest_maps.specs.declared.slot.Slot.{Slot}
use Rattle.guest_maps.specs.declared.slot.Spot.{Spot}
use Rattle.guest_maps.specs.MapsView.{MapsView, slot_at, is_live_slot, is_torn, is_mapping, find_slot, free_slot, live_slots, torn_slots, torn, place_at, entry_at}
use Rattle.guest_maps.specs.MapsView.{pinned_at, slot_has_page, IsPlace, spot_of, spot_at, tag_in, tag_at, stores_to, entries_showing, writers_showing, unless_shows}
use Rattle.guest_maps.specs.MapsView.{new_mapping, tag_of, with_slot, with_slot_mapped, torn_slot, freed_slot, with_entry, without_entries_of, with_pinned, opening_maps}
use Rattle.guest_maps.specs.FirstPlace.{position_none, none_passes, none_within}
use Rattle.guest_maps.specs.Laws.SlotLaws.{position-set_other, live_within, other_mapping, torn-is_torn, slots_counted, none_counted, none_at, all_counted}
use Rattle.guest_maps.specs.EntryCounts.{count_by-none, get_or-unless_shows, showing-gone, writers-gone, writers-stay}

-- ---- lists of one element over and over

same_at : {X : Type 0} (n k : ℕ) (x : X) → get_or (replicate n x) k x ≡ x
same_at n k x = ⊎_elim (λ below. get_or-replicate n k x x below) (λ past. get_or_past (replicate n x) k x (omega (arith, length-replicate n x))) (cases_lt k n)

-- ---- places

pub entry_place_exact : (slot other index j : ℕ) → index < MAX_MAPPING_PAGES → j < MAX_MAPPING_PAGES → place_at slot index ≡ place_at other j → (slot ≡ other) × (index ≡ j)
entry_place_exact slot other index j within below same = (omega arith, omega arith)

pub entry_places_differ : (slot other index j : ℕ) → index < MAX_MAPPING_PAGES → j < MAX_MAPPING_PAGES → (other ≡ slot → j ≡ index → ⊥) → place_at other j ≢ place_at slot index
entry_places_differ slot other index j within below apart same = let exact = entry_place_exact other slot j index below within same in apart exact.0 exact.1

-- a place of a slot that isn't free
pub IsPlace-from : (maps : MapsView) (slot index : ℕ) (mapping : Slot) → slot_at maps slot ≡ Some mapping → index < mapping.count → IsPlace maps slot index
IsPlace-from maps slot index mapping at below = ap (λ o. slot_has_page o index) at ∙ lt-ltb index mapping.count below

-- ---- an entry is set or cleared

pub slots-with_entry : (maps : MapsView) (slot index : ℕ) (pte : Option Pte) → (with_entry maps slot index pte).slots ≡ maps.slots
unfolding with_entry
slots-with_entry maps slot index pte = refl

pub pinned-with_entry : (maps : MapsView) (slot index : ℕ) (pte : Option Pte) → (with_entry maps slot index pte).pinned ≡ maps.pinned
unfolding with_entry
pinned-with_entry maps slot index pte = refl

pub pages-with_entry : (maps : MapsView) (slot index : ℕ) (pte : Option Pte) → (with_entry maps slot index pte).pages ≡ maps.pages
unfolding with_entry
pages-with_entry maps slot index pte = refl

pub entry_at-with_entry_other : (maps : MapsView) (slot index other j : ℕ) (pte : Option Pte) → place_at other j ≢ place_at slot index
    → entry_at (with_entry maps slot index pte) other j ≡ entry_at maps other j
unfolding with_entry
entry_at-with_entry_other maps slot index other j pte apart = get_or-set_other maps.entries (place_at slot index) (place_at other j) pte None apart

-- ---- the entries of a page are gone

pub slots-without_entries_of : (maps : MapsView) (page : ℕ) → (without_entries_of maps page).slots ≡ maps.slots
unfolding without_entries_of
slots-without_entries_of maps page = refl

pub pinned-without_entries_of : (maps : MapsView) (page : ℕ) → (without_entries_of maps page).pinned ≡ maps.pinned
unfolding without_entries_of
pinned-without_entries_of maps page = refl

pub pages-without_entries_of : (maps : MapsView) (page : ℕ) → (without_entries_of maps page).pages ≡ maps.pages
unfolding without_entries_of
pages-without_entries_of maps page = refl

-- an entry that showed the page is gone, and every other stays
pub entry_at-without_entries_of : (maps : MapsView) (page slot index : ℕ) → entry_at (without_entries_of maps page) slot index ≡ unless_shows page (entry_at maps slot index)
unfolding without_entries_of
entry_at-without_entries_of maps page slot index = get_or-unless_shows page maps.entries (place_at slot index)

pub entries_showing-without_same : (maps : MapsView) (page : ℕ) → entries_showing (without_entries_of maps page) page ≡ 0
unfolding without_entries_of
entries_showing-without_same maps page = showing-gone page maps.entries

pub writers_showing-without_same : (maps : MapsView) (page : ℕ) → writers_showing (without_entries_of maps page) page ≡ 0
unfolding without_entries_of
writers_showing-without_same maps page = writers-gone page maps.entries

pub writers_showing-without_other : (maps : MapsView) (page other : ℕ) → other ≢ page → writers_showing (without_entries_of maps page) other ≡ writers_showing maps other
unfolding without_entries_of
writers_showing-without_other maps page other apart = writers-stay page other maps.entries apart

-- ---- a place is pinned or not

pub slots-with_pinned : (maps : MapsView) (slot index : ℕ) (pinned : Bool) → (with_pinned maps slot index pinned).slots ≡ maps.slots
unfolding with_pinned
slots-with_pinned maps slot index pinned = refl

pub pages-with_pinned : (maps : MapsView) (slot index : ℕ) (pinned : Bool) → (with_pinned maps slot index pinned).pages ≡ maps.pages
unfolding with_pinned
pages-with_pinned maps slot index pinned = refl

pub pinned_at-with_pinned_other : (maps : MapsView) (slot index other j : ℕ) (pinned : Bool) → place_at other j ≢ place_at slot index
    → pinned_at (with_pinned maps slot index pinned) other j ≡ pinned_at maps other j
unfolding with_pinned
pinned_at-with_pinned_other maps slot index other j pinned apart = get_or-set_other maps.pinned (place_at slot index) (place_at other j) pinned false apart

-- ---- slots

-- the slot that is found has the mapping
pub find_slot-is : (maps : MapsView) (process number slot : ℕ) → find_slot maps process number ≡ Some slot → is_mapping process number (slot_at maps slot) ≡ true
find_slot-is maps process number slot found = (position-Some (is_mapping process number) maps.slots slot None found).1

-- where none is found, no slot has the mapping
pub find_slot-none : (maps : MapsView) (process number : ℕ) → find_slot maps process number ≡ None → (slot : ℕ) → is_mapping process number (slot_at maps slot) ≡ false
find_slot-none maps process number none slot = none_passes (is_mapping process number) maps.slots None none refl slot

pub free_slot-is : (maps : MapsView) (slot : ℕ) → free_slot maps ≡ Some slot → (slot < length maps.slots) × (slot_at maps slot ≡ None)
free_slot-is maps slot free = let first = position-Some is_none maps.slots slot None free in (first.0, none_from_test (slot_at maps slot) first.1)
  where
    none_from_test : (o : Option Slot) → is_none o ≡ true → o ≡ None
    none_from_test None none = refl
    none_from_test (Some mapping) none = absurd (both_ways _ refl none)

pub free_slot-within : (maps : MapsView) (slot : ℕ) → free_slot maps ≡ Some slot → slot < length maps.slots
free_slot-within maps slot free = (free_slot-is maps slot free).0

-- where fewer slots are live or being torn down than there are, one is free
pub free_slot-some : (maps : MapsView) → live_slots maps + torn_slots maps < length maps.slots → IsSome (free_slot maps)
free_slot-some maps fewer = by_position (free_slot maps) refl
  where
    by_position : (o : Option ℕ) → free_slot maps ≡ o → IsSome o
    by_position None is = absurd (omega (arith, fewer, all_counted maps.slots, none_counted is_none maps.slots (none_within is_none maps.slots None is)))
    by_position (Some slot) is = refl

-- ---- a mapping is added

pub slots-with_mapping : (maps : MapsView) (slot process number : ℕ) (shown : Shown) (count : ℕ)
    → (with_slot_mapped maps slot process number shown count).slots ≡ set maps.slots slot (Some (new_mapping process number shown count))
unfolding with_slot_mapped with_slot
slots-with_mapping maps slot process number shown count = refl

pub entries-with_mapping : (maps : MapsView) (slot process number : ℕ) (shown : Shown) (count : ℕ) → (with_slot_mapped maps slot process number shown count).entries ≡ maps.entries
unfolding with_slot_mapped with_slot
entries-with_mapping maps slot process number shown count = refl

pub pinned-with_mapping : (maps : MapsView) (slot process number : ℕ) (shown : Shown) (count : ℕ) → (with_slot_mapped maps slot process number shown count).pinned ≡ maps.pinned
unfolding with_slot_mapped with_slot
pinned-with_mapping maps slot process number shown count = refl

pub pages-with_mapping : (maps : MapsView) (slot process number : ℕ) (shown : Shown) (count : ℕ) → (with_slot_mapped maps slot process number shown count).pages ≡ maps.pages
unfolding with_slot_mapped with_slot
pages-with_mapping maps slot process number shown count = refl

pub slot_at-with_mapping_same : (maps : MapsView) (slot process number : ℕ) (shown : Shown) (count : ℕ) → slot < length maps.slots
    → slot_at (with_slot_mapped maps slot process number shown count) slot ≡ Some (new_mapping process number shown count)
unfolding with_slot_mapped with_slot
slot_at-with_mapping_same maps slot process number shown count within = get_or-set_same maps.slots slot (Some (new_mapping process number shown count)) None within

pub slot_at-with_mapping_other : (maps : MapsView) (slot other process number : ℕ) (shown : Shown) (count : ℕ) → other ≢ slot
    → slot_at (with_slot_mapped maps slot process number shown count) other ≡ slot_at maps other
unfolding with_slot_mapped with_slot
slot_at-with_mapping_other maps slot other process number shown count apart = get_or-set_other maps.slots slot other (Some (new_mapping process number shown count)) None apart

pub find_slot-with_mapping_other : (maps : MapsView) (slot process number other j : ℕ) (shown : Shown) (count : ℕ) → slot_at maps slot ≡ None → (process ≡ other → number ≡ j → ⊥)
    → find_slot (with_slot_mapped maps slot process number shown count) other j ≡ find_slot maps other j
unfolding with_slot_mapped with_slot
find_slot-with_mapping_other maps slot process number other j shown count free apart =
    position-set_other maps.slots slot other j (Some (new_mapping process number shown count)) (ap (is_mapping other j) free) (other_mapping other j (new_mapping process number shown count) apart)

pub live_slots-with_mapping : (maps : MapsView) (slot process number : ℕ) (shown : Shown) (count : ℕ) → slot < length maps.slots → slot_at maps slot ≡ None
    → live_slots (with_slot_mapped maps slot process number shown count) ≡ live_slots maps + 1
unfolding with_slot_mapped with_slot
live_slots-with_mapping maps slot process number shown count within free =
    omega (arith, slots_counted is_live_slot maps.slots slot (Some (new_mapping process number shown count)) false true within (ap is_live_slot free) refl)

-- ---- a mapping is being torn down

pub slots-torn_slot : (maps : MapsView) (slot : ℕ) → (torn_slot maps slot).slots ≡ set maps.slots slot (torn (slot_at maps slot))
unfolding torn_slot with_slot
slots-torn_slot maps slot = refl

pub entries-torn_slot : (maps : MapsView) (slot : ℕ) → (torn_slot maps slot).entries ≡ maps.entries
unfolding torn_slot with_slot
entries-torn_slot maps slot = refl

pub slot_at-torn_slot_same : (maps : MapsView) (slot : ℕ) → slot < length maps.slots → slot_at (torn_slot maps slot) slot ≡ torn (slot_at maps slot)
unfolding torn_slot with_slot
slot_at-torn_slot_same maps slot within = get_or-set_same maps.slots slot (torn (slot_at maps slot)) None within

-- ---- a slot is made free

pub slots-freed_slot : (maps : MapsView) (slot : ℕ) → (freed_slot maps slot).slots ≡ set maps.slots slot None
unfolding freed_slot with_slot
slots-freed_slot maps slot = refl

-- ---- what a place is

-- a spot is a place, with what it shows and its entry
pub spot_at-some : (maps : MapsView) (slot index : ℕ) (spot : Spot) → spot_at maps slot index ≡ Some spot
    → IsPlace maps slot index × (tag_at maps slot index ≡ Some spot.tag) × (spot.pte ≡ entry_at maps slot index) × (is_live_slot (slot_at maps slot) ≡ spot.live)
spot_at-some maps slot index spot = by_slot (slot_at maps slot)
  where
    by_slot : (o : Option Slot) → spot_of o slot index (entry_at maps slot index) ≡ Some spot
        → (slot_has_page o index ≡ true) × (tag_in o slot index ≡ Some spot.tag) × (spot.pte ≡ entry_at maps slot index) × (is_live_slot o ≡ spot.live)
    by_slot None is = absurd (cc)
    by_slot (Some mapping) is =
        let parts = cond_some (nat_lt index mapping.count) _ spot is in
        let tagged = cond-true (nat_lt index mapping.count) (Some (tag_of mapping.shown slot index)) None parts.0 ∙ ap (λ (s : Spot). Some s.tag) parts.1 in
        (parts.0, tagged, sym (ap (λ (s : Spot). s.pte) parts.1), ap (λ (s : Spot). s.live) parts.1)

pub spot_at-none : (maps : MapsView) (slot index : ℕ) → spot_at maps slot index ≡ None → slot_has_page (slot_at maps slot) index ≡ false
spot_at-none maps slot index = by_slot (slot_at maps slot)
  where
    by_slot : (o : Option Slot) → spot_of o slot index (entry_at maps slot index) ≡ None → slot_has_page o index ≡ false
    by_slot None is = refl
    by_slot (Some mapping) is = false_from_ne_true _ (λ has. cc (sym (cond-true (nat_lt index mapping.count) _ None has) ∙ is))

-- ---- the opening

pub pages-opening : (pages slots : ℕ) → (opening_maps pages slots).pages ≡ pages
unfolding opening_maps
pages-opening pages slots = refl

pub length-opening : (pages slots : ℕ) → length (opening_maps pages slots).slots ≡ slots
unfolding opening_maps
length-opening pages slots = length-replicate {A = Option Slot} slots None

pub slot_at-opening : (pages slots slot : ℕ) → slot_at (opening_maps pages slots) slot ≡ None
unfolding opening_maps
slot_at-opening pages slots slot = none_at slots slot

pub find_slot-opening : (pages slots process number : ℕ) → find_slot (opening_maps pages slots) process number ≡ None
unfolding opening_maps
find_slot-opening pages slots process number = position_none (is_mapping process number) (replicate slots None) None (λ slot below. ap (is_mapping process number) (none_at slots slot))

pub live_slots-opening : (pages slots : ℕ) → live_slots (opening_maps pages slots) ≡ 0
unfolding opening_maps
live_slots-opening pages slots = none_counted is_live_slot (replicate slots None) (λ slot below. ap is_live_slot (none_at slots slot))

pub torn_slots-opening : (pages slots : ℕ) → torn_slots (opening_maps pages slots) ≡ 0
unfolding opening_maps
torn_slots-opening pages slots = none_counted is_torn (replicate slots None) (λ slot below. ap is_torn (none_at slots slot))

pub entry_at-opening : (pages slots slot index : ℕ) → entry_at (opening_maps pages slots) slot index ≡ None
unfolding opening_maps
entry_at-opening pages slots slot index = same_at (slots * MAX_MAPPING_PAGES) (place_at slot index) None

pub pinned_at-opening : (pages slots slot index : ℕ) → pinned_at (opening_maps pages slots) slot index ≡ false
unfolding opening_maps
pinned_at-opening pages slots slot index = same_at (slots * MAX_MAPPING_PAGES) (place_at slot index) false

pub writers_showing-opening : (pages slots page : ℕ) → writers_showing (opening_maps pages slots) page ≡ 0
unfolding opening_maps
writers_showing-opening pages slots page = count_by-none (stores_to page) (slots * MAX_MAPPING_PAGES) refl

pub free_slot-opening : (pages slots : ℕ) → 0 < slots → IsSome (free_slot (opening_maps pages slots))
free_slot-opening pages slots some = free_slot-some (opening_maps pages slots) (omega (arith, some, live_slots-opening pages slots, torn_slots-opening pages slots, length-opening pages slots))

-- the pages of a mapping that was just added are places
pub IsPlace-with_mapping : (maps : MapsView) (slot process number : ℕ) (shown : Shown) (count index : ℕ) → free_slot maps ≡ Some slot → index < count
    → IsPlace (with_slot_mapped maps slot process number shown count) slot index
IsPlace-with_mapping maps slot process number shown count index free below =
    let at = slot_at-with_mapping_same maps slot process number shown count (free_slot-is maps slot free).0 in
    IsPlace-from (with_slot_mapped maps slot process number shown count) slot index (new_mapping process number shown count) at below

pub IsPlace-with_entry : (maps : MapsView) (slot index other j : ℕ) (pte : Option Pte) → IsPlace maps other j → IsPlace (with_entry maps slot index pte) other j
IsPlace-with_entry maps slot index other j pte is = ap (λ slots. slot_has_page (get_or slots other None) j) (slots-with_entry maps slot index pte) ∙ is

pub IsPlace-without_entries_of : (maps : MapsView) (page slot index : ℕ) → IsPlace maps slot index → IsPlace (without_entries_of maps page) slot index
IsPlace-without_entries_of maps page slot index is = ap (λ slots. slot_has_page (get_or slots slot None) index) (slots-without_entries_of maps page) ∙ is

pub IsPlace-with_pinned : (maps : MapsView) (slot index other j : ℕ) (pinned : Bool) → IsPlace maps other j → IsPlace (with_pinned maps slot index pinned) other j
IsPlace-with_pinned maps slot index other j pinned is = ap (λ slots. slot_has_page (get_or slots other None) j) (slots-with_pinned maps slot index pinned) ∙ is

-- ---- what stays where a slot changes

pub is_live-with_mapping : (maps : MapsView) (slot process number : ℕ) (shown : Shown) (count : ℕ) → free_slot maps ≡ Some slot
    → is_live_slot (slot_at (with_slot_mapped maps slot process number shown count) slot) ≡ true
is_live-with_mapping maps slot process number shown count free = ap is_live_slot (slot_at-with_mapping_same maps slot process number shown count (free_slot-is maps slot free).0)

pub is_torn-torn_slot : (maps : MapsView) (slot : ℕ) → is_live_slot (slot_at maps slot) ≡ true → is_torn (slot_at (torn_slot maps slot) slot) ≡ true
is_torn-torn_slot maps slot is = ap is_torn (slot_at-torn_slot_same maps slot (live_within maps.slots slot is)) ∙ torn-is_torn (slot_at maps slot) is

pub length-with_mapping : (maps : MapsView) (slot process number : ℕ) (shown : Shown) (count : ℕ) → length (with_slot_mapped maps slot process number shown count).slots ≡ length maps.slots
length-with_mapping maps slot process number shown count =
    ap length (slots-with_mapping maps slot process number shown count) ∙ length-set maps.slots slot (Some (new_mapping process number shown count))

pub length-torn_slot : (maps : MapsView) (slot : ℕ) → length (torn_slot maps slot).slots ≡ length maps.slots
length-torn_slot maps slot = ap length (slots-torn_slot maps slot) ∙ length-set maps.slots slot (torn (slot_at maps slot))

pub length-freed_slot : (maps : MapsView) (slot : ℕ) → length (freed_slot maps slot).slots ≡ length maps.slots
length-freed_slot maps slot = ap length (slots-freed_slot maps slot) ∙ length-set maps.slots slot None

pub entry_at-with_mapping : (maps : MapsView) (slot process number : ℕ) (shown : Shown) (count other index : ℕ)
    → entry_at (with_slot_mapped maps slot process number shown count) other index ≡ entry_at maps other index
entry_at-with_mapping maps slot process number shown count other index = ap (λ entries. get_or entries (place_at other index) None) (entries-with_mapping maps slot process number shown count)

pub entry_at-torn_slot : (maps : MapsView) (slot other index : ℕ) → entry_at (torn_slot maps slot) other index ≡ entry_at maps other index
entry_at-torn_slot maps slot other index = ap (λ entries. get_or entries (place_at other index) None) (entries-torn_slot maps slot)

-- ---- laws by their set, for a caller's conditions

-- that a place is one, and how many pages there are, through the setters
-- and that a slot is live, torn down or without an entry
pub ruleset places_kept = (
  free_slot-opening,
  free_slot-within,
  is_live-with_mapping,
  is_torn-torn_slot,
  length-opening,
  length-with_mapping,
  length-torn_slot,
  length-freed_slot,
  entry_at-opening,
  entry_at-with_mapping,
  entry_at-torn_slot,
  IsPlace-with_mapping,
  IsPlace-with_entry,
  IsPlace-without_entries_of,
  IsPlace-with_pinned,
  pages-opening,
  pages-with_mapping,
  pages-with_entry,
  pages-without_entries_of,
  pages-with_pinned,
)
