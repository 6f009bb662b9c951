-- A guest's pinned pages are at most the flat machine's pinned mapping pages, since each of them has the tag of a pinned place, and no two pages
-- have one tag.
use Rattle.std.specs.FinMap.{FinMap, entries, get, remove, get-remove}
use Rattle.std.specs.Ordering.{is_eq}
use Rattle.std.specs.declared.cmp.Ordering.TheVariants.{Less, Equal, Greater}
use Rattle.std.proofs.Common.{◌≡◌, ◌≢◌, ◌<◌, ◌≤◌, ◌&&◌, ℕ, zero, suc, Bool, true, false, length, get_or, cond, count_by, Option, Some, None, refl, ap, sym, ◌∙◌, inl, inr, arith}
use Rattle.std.proofs.lemmas.Bool.{cases_eq}
use Rattle.std.proofs.lemmas.Bool.Decides.{nat_tests}
use Rattle.cmm_types.specs.declared.command.TheConstants.{MAX_MAPPING_PAGES}
use Rattle.cmm_types.specs.declared.page.Tag.{Tag}
use Rattle.cmm_flat.specs.declared.mapping.MappingKey.{MappingKey}
use Rattle.cmm_flat.specs.declared.mapping.Mapping.{Mapping}
use Rattle.cmm_flat.specs.Mapping.{key_cmp}
use Rattle.cmm_flat.specs.State.{FlatState, mapping_at, key_of}
use Rattle.cmm_flat.specs.Laws.KeyLaws.{exact_keys, keys_total}
use Rattle.cmm_flat.specs.Laws.SumLaws.{sum_over-remove}
use Rattle.cmm_flat.specs.Legal.{sum_over, pinned_pages, over_live}
use Rattle.guest_pages.specs.PagesView.{info_at, free_info}
use Rattle.guest_cache.specs.CacheView.{page_of}
use Rattle.guest_maps.specs.declared.slot.Slot.{Slot}
use Rattle.guest_maps.specs.MapsView.{MapsView, slot_at, pinned_at, tag_at, slot_has_page}
use Rattle.guest_rules.specs.declared.parts.Parts.{Parts}
use Rattle.guest_rules.specs.GuestState.{GuestState}
use Rattle.guest_rules.specs.MakeRoom.{is_pinned, pinned_count}
use Rattle.cmm_types.specs.Sums.{sum_below, one_if}
use Rattle.cmm_types.specs.Laws.SumLaws.{sum_below-none}
use Rattle.guest_rules.specs.Fit.{PagesFit, SlotsFit, PinsFit, TeardownsFit, flat_slot, pins_of, is_tag_of, pin_on, pins_within}
use Rattle.guest_rules.proofs.Kept.PinLaws.{length-pins_of, pins_of-at, sum_below-same, is_tag_of-is}
use Rattle.guest_rules.proofs.Kept.Shapes.{shape_some, shape_pins}
use Rattle.guest_rules.proofs.Kept.FlatTags.{shape_at}
use Rattle.guest_rules.proofs.Kept.Sums.{sum_below-mono, sum_below-swap, sum_below-single, sum_below-fewer, count_below, one_if-some, at_most, at_most-then}

-- ---- pinned pages are at most as many as pinned places

-- the pinned places of the mapping in a slot
abbrev pinned_row : MapsView → ℕ → ℕ
pinned_row maps slot = sum_below (λ index. one_if (pinned_at maps slot index)) MAX_MAPPING_PAGES

-- one where a place is pinned and maps the tag, if there is one
abbrev pin_for : MapsView → Option Tag → (slot index : ℕ) → ℕ
pin_for maps None slot index = 0
pin_for maps (Some tag) slot index = pin_on maps tag slot index

-- a pinned page has a pinned place
page_pinned : (parts : Parts) (page : ℕ) (tag : Option Tag) → PagesFit parts → PinsFit parts → (info_at parts.pages page).tag ≡ tag
    → one_if (is_pinned (info_at parts.pages page)) ≤ sum_below (λ slot. sum_below (pin_for parts.maps tag slot) MAX_MAPPING_PAGES) (length parts.maps.slots)
unfolding pins_within
page_pinned parts page None pages pins e = rw (pages.bare page e) (omega arith)
page_pinned parts page (Some tag) pages pins e =
    let all : (info_at parts.pages page).pins ≡ sum_below (λ slot. sum_below (pin_on parts.maps tag slot) MAX_MAPPING_PAGES) (length parts.maps.slots) = pins.counted page tag e in
    omega (arith, one_if-some (info_at parts.pages page).pins, all)

pin_for-least : (maps : MapsView) (tag : Option Tag) (slot index : ℕ) → pin_for maps tag slot index ≤ one_if (pinned_at maps slot index)
pin_for-least maps None slot index = omega arith
pin_for-least maps (Some tag) slot index = of (pinned_at maps slot index) (is_tag_of (tag_at maps slot index) tag)
  where
    of : (a b : Bool) → one_if (a && b) ≤ one_if a
    of true true = omega arith
    of true false = omega arith
    of false b = omega arith

-- a page that counts at a place has the tag that the place maps
pin_for-tag : (maps : MapsView) (tag : Option Tag) (slot index : ℕ) → pin_for maps tag slot index ≢ 0 → (its : Tag) × (tag ≡ Some its) × (tag_at maps slot index ≡ Some its)
pin_for-tag maps None slot index some = absurd (some refl)
pin_for-tag maps (Some tag) slot index some = (tag, refl, is_tag_of-is (tag_at maps slot index) tag (of (pinned_at maps slot index) (is_tag_of (tag_at maps slot index) tag) some))
  where
    of : (a b : Bool) → one_if (a && b) ≢ 0 → b ≡ true
    of true true h = refl
    of true false h = absurd (h refl)
    of false b h = absurd (h refl)

-- at most one page counts at a place
one_page : (parts : Parts) (slot index count : ℕ) → PagesFit parts → sum_below (λ page. pin_for parts.maps (info_at parts.pages page).tag slot index) count ≤ one_if (pinned_at parts.maps slot index)
one_page parts slot index count pages =
    sum_below-single (λ page. pin_for parts.maps (info_at parts.pages page).tag slot index) (one_if (pinned_at parts.maps slot index)) count
    (λ page h. pin_for-least parts.maps (info_at parts.pages page).tag slot index)
    (λ p q hp hq a b.
    let x = pin_for-tag parts.maps (info_at parts.pages p).tag slot index a in
    let y = pin_for-tag parts.maps (info_at parts.pages q).tag slot index b in
    let both : Some x.0 ≡ Some y.0 = sym x.2 ∙ y.2 in
    let same : x.0 ≡ y.0 = cc in
    let first = (pages.indexed p x.0 x.1).1 in
    let second = (pages.indexed q y.0 y.1).1 in
    let both_pages : Some p ≡ Some q = sym first ∙ ap (page_of parts.cache) same ∙ second in
    cc)

pub pinned_places : (parts : Parts) → PagesFit parts → PinsFit parts → pinned_count parts ≤ sum_below (pinned_row parts.maps) (length parts.maps.slots)
pinned_places parts pages pins =
    let each = sum_below-mono (λ page. one_if (is_pinned (info_at parts.pages page)))
    (λ page. sum_below (λ slot. sum_below (pin_for parts.maps (info_at parts.pages page).tag slot) MAX_MAPPING_PAGES) slots) count
    (λ page h. page_pinned parts page (info_at parts.pages page).tag pages pins refl) in
    let by_slot = sum_below-swap (λ page slot. sum_below (pin_for parts.maps (info_at parts.pages page).tag slot) MAX_MAPPING_PAGES) count slots in
    let rows = sum_below-mono (λ slot. sum_below (λ page. sum_below (pin_for parts.maps (info_at parts.pages page).tag slot) MAX_MAPPING_PAGES) count) (pinned_row parts.maps) slots
    (λ slot h. row slot) in
    at_most-then (at_most (count_below is_pinned free_info parts.pages.infos)) (at_most-then each (at_most-then (at_most by_slot) rows))
  where
    count : ℕ
    count = length parts.pages.infos

    slots : ℕ
    slots = length parts.maps.slots

    row : (slot : ℕ) → sum_below (λ page. sum_below (pin_for parts.maps (info_at parts.pages page).tag slot) MAX_MAPPING_PAGES) count ≤ pinned_row parts.maps slot
    row slot =
        let by_index = sum_below-swap (λ page index. pin_for parts.maps (info_at parts.pages page).tag slot index) count MAX_MAPPING_PAGES in
        let most = sum_below-mono (λ index. sum_below (λ page. pin_for parts.maps (info_at parts.pages page).tag slot index) count)
        (λ index. one_if (pinned_at parts.maps slot index)) MAX_MAPPING_PAGES
        (λ index h. one_page parts slot index count pages) in
        at_most-then (at_most by_index) most

-- ---- and these are the flat machine's

get_still : (m : FinMap key_cmp Mapping) (k q : MappingKey) → q ≢ k → get (remove m k) q ≡ get m q
get_still m k q n =
    get-remove keys_total m k q ∙ elim (key_cmp q k) as (λ r. key_cmp q k ≡ r → cond (is_eq r) None (get m q) ≡ get m q) [
      | Less ↦ λ _. refl
      | Equal ↦ λ p. absurd (n (exact_keys q k p))
      | Greater ↦ λ _. refl
    ] refl

-- numbers that are at most those of mappings at different places are together at most the sum over all mappings
pub sum_within : (R : ℕ → ℕ) (key : ℕ → MappingKey) (number : Mapping → ℕ) (count : ℕ) (m : FinMap key_cmp Mapping)
    → ((i : ℕ) → i < count → R i ≢ 0 → (x : Mapping) × (get m (key i) ≡ Some x) × (R i ≤ number x))
    → ((i j : ℕ) → i < count → j < count → R i ≢ 0 → R j ≢ 0 → key i ≡ key j → i ≡ j) → sum_below R count ≤ sum_over (λ live. number live.1) (entries m)
sum_within R key number zero m each apart = omega arith
sum_within R key number (suc count) m each apart = elim (cases_eq (R count) 0) [
  | inl z ↦ omega (arith, z, sum_within R key number count m (λ i h. each i (omega arith)) (λ i j hi hj. apart i j (omega arith) (omega arith)))
  | inr some ↦
      let last = each count (omega arith) some in
      let rest = sum_within R key number count (remove m (key count))
      (λ i h r. let its = each i (omega arith) r in
      (its.0, get_still m (key count) (key i) (λ e. let same : i ≡ count = apart i count (omega arith) (omega arith) r some e in absurd (omega (arith, h, same))) ∙ its.1, its.2))
      (λ i j hi hj. apart i j (omega arith) (omega arith)) in
      omega (arith, last.2, rest, sum_over-remove (λ live. number live.1) m (key count) last.0 last.1)
]

-- the place of the mapping in a slot
abbrev pub slot_key : Option Slot → MappingKey
slot_key None = key_of 0 0
slot_key (Some mapping) = key_of mapping.process mapping.map

-- nothing is pinned in a free slot
free_row : (state : FlatState) (parts : Parts) (slot : ℕ) → SlotsFit state parts → slot_at parts.maps slot ≡ None → pinned_row parts.maps slot ≡ 0
free_row state parts slot f free = sum_below-none (λ index. one_if (pinned_at parts.maps slot index)) MAX_MAPPING_PAGES (λ index below. of index below (pinned_at parts.maps slot index) refl)
  where
    of : (index : ℕ) → index < MAX_MAPPING_PAGES → (b : Bool) → pinned_at parts.maps slot index ≡ b → one_if b ≡ 0
    of index below false e = refl
    of index below true e = let bad : false ≡ true = ap (λ o. slot_has_page o index) (sym free) ∙ f.placed slot index below e in absurd cc

-- nor of a mapping that is being torn down
torn_row : (g : GuestState) (slot : ℕ) (mapping : Slot) → TeardownsFit g → slot_at g.parts.maps slot ≡ Some mapping → mapping.live ≡ false → pinned_row g.parts.maps slot ≡ 0
torn_row g slot mapping f at not_live = sum_below-none (λ index. one_if (pinned_at g.parts.maps slot index)) MAX_MAPPING_PAGES
    (λ index below. ap one_if (f.unpinned slot index mapping at not_live below))

-- so a mapping of which a page is pinned is live
pinned_live : (g : GuestState) (slot : ℕ) (mapping : Slot) → TeardownsFit g → slot_at g.parts.maps slot ≡ Some mapping → pinned_row g.parts.maps slot ≢ 0 → mapping.live ≡ true
pinned_live g slot mapping f at some = of mapping.live refl
  where
    of : (b : Bool) → mapping.live ≡ b → mapping.live ≡ true
    of true e = e
    of false e = absurd (some (torn_row g slot mapping f at e))

-- in another slot as much as in the flat machine's mapping
live_row : (state : FlatState) (parts : Parts) (slot : ℕ) (mapping : Slot) → SlotsFit state parts → slot_at parts.maps slot ≡ Some mapping
    → pinned_row parts.maps slot ≡ pinned_pages (flat_slot parts.maps slot mapping)
live_row state parts slot mapping f at =
    sum_below-fewer (λ index. one_if (pinned_at parts.maps slot index)) mapping.count MAX_MAPPING_PAGES (f.shown slot mapping at).0
    (λ index past below. of index past below (pinned_at parts.maps slot index) refl)
    ∙ sum_below-same (λ index. one_if (pinned_at parts.maps slot index)) (λ index. one_if (get_or (pins_of parts.maps slot mapping.count) index false)) mapping.count
    (λ index below. ap one_if (sym (pins_of-at parts.maps slot mapping.count index false below)))
    ∙ ap (sum_below (λ index. one_if (get_or (pins_of parts.maps slot mapping.count) index false))) (sym (length-pins_of parts.maps slot mapping.count))
    ∙ sym (count_below (λ pin. pin) false (pins_of parts.maps slot mapping.count))
  where
    of : (index : ℕ) → mapping.count ≤ index → index < MAX_MAPPING_PAGES → (b : Bool) → pinned_at parts.maps slot index ≡ b → one_if b ≡ 0
    of index past below false e = refl
    of index past below true e =
        let there : slot_has_page (Some mapping) index ≡ true = ap (λ o. slot_has_page o index) (sym at) ∙ f.placed slot index below e in
        absurd (grind (arith, nat_tests))

-- the flat machine's mapping of a slot in which a page is pinned
pinned_mapping : (state : FlatState) (g : GuestState) (slot : ℕ) (o : Option Slot) → SlotsFit state g.parts → TeardownsFit g → slot_at g.parts.maps slot ≡ o → pinned_row g.parts.maps slot ≢ 0
    → (x : Mapping) × (get state.mappings (slot_key o) ≡ Some x) × (pinned_row g.parts.maps slot ≤ pinned_pages x)
pinned_mapping state g slot None f teardowns at some = absurd (some (free_row state g.parts slot f at))
pinned_mapping state g slot (Some mapping) f teardowns at some =
    let k = shape_some (mapping_at state mapping.process mapping.map) (flat_slot g.parts.maps slot mapping)
    (shape_at state g.parts slot mapping f at (pinned_live g slot mapping teardowns at some)) in
    (k.0, k.1, at_most (live_row state g.parts slot mapping f at ∙ sym (ap (λ pins. count_by (λ pin. pin) pins) (shape_pins k.0 (flat_slot g.parts.maps slot mapping) k.2))))

-- no two of them are of one place
apart_mappings : (state : FlatState) (g : GuestState) (slot other : ℕ) (o p : Option Slot) → SlotsFit state g.parts → TeardownsFit g → slot_at g.parts.maps slot ≡ o
    → slot_at g.parts.maps other ≡ p → pinned_row g.parts.maps slot ≢ 0 → pinned_row g.parts.maps other ≢ 0 → slot_key o ≡ slot_key p → slot ≡ other
apart_mappings state g slot other None p f teardowns at there some more same = absurd (some (free_row state g.parts slot f at))
apart_mappings state g slot other (Some mapping) None f teardowns at there some more same = absurd (more (free_row state g.parts other f there))
apart_mappings state g slot other (Some mapping) (Some another) f teardowns at there some more same =
    f.apart slot other mapping another at there (pinned_live g slot mapping teardowns at some) (pinned_live g other another teardowns there more) (ap (λ (k : MappingKey). k.process) same)
    (ap (λ (k : MappingKey). k.map) same)

pub pinned_rows : (state : FlatState) (g : GuestState) (count : ℕ) → SlotsFit state g.parts → TeardownsFit g → sum_below (pinned_row g.parts.maps) count ≤ over_live pinned_pages state
pinned_rows state g count f teardowns =
    sum_within (pinned_row g.parts.maps) (λ slot. slot_key (slot_at g.parts.maps slot)) pinned_pages count state.mappings
    (λ slot below some. pinned_mapping state g slot (slot_at g.parts.maps slot) f teardowns refl some)
    (λ slot other a b some more same. apart_mappings state g slot other (slot_at g.parts.maps slot) (slot_at g.parts.maps other) f teardowns refl refl some more same)
