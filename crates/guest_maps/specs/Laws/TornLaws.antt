-- Laws of a slot whose mapping is being torn down, or that is made free, and of the pinned places of a slot.
use Rattle.std.proofs.Common.{◌≡◌, ◌≢◌, ℕ, ◌+◌, ◌*◌, ◌<◌, true, false, length, set, get_or, Option, Some, None, refl, sym, ap, ◌∙◌, arith, ⊎_elim, slice_range}
use Rattle.std.proofs.lemmas.List.{get_or-set_same, get_or-set_other}
use Rattle.std.proofs.lemmas.List.Edits.{length-between, get_or-between}
use Rattle.std.proofs.lemmas.List.Elements.{All-from_get_or}
use Rattle.std.proofs.lemmas.List.Folds.{list_any_at, list_any_none}
use Rattle.std.proofs.lemmas.Bool.{cases_eq, both_ways, false_from_ne_true}
use Rattle.cmm_types.specs.declared.command.TheConstants.{MAX_MAPPING_PAGES}
use Rattle.guest_maps.specs.declared.slot.Slot.{Slot}
use Rattle.guest_maps.specs.MapsView.{MapsView, slot_at, is_live_slot, is_mapping, find_slot, live_slots, torn, place_at}
use Rattle.guest_maps.specs.MapsView.{pinned_at, any_pinned, slot_has_page, tag_in, tag_at, with_slot, torn_slot, freed_slot}
use Rattle.guest_maps.specs.FirstPlace.{position_none}
use Rattle.guest_maps.specs.Laws.SlotLaws.{position-set_other, none_unless_live, live_torn, live_within, unlive_apart, slots_counted}
use Rattle.guest_maps.specs.Laws.MapsLaws.{slot_at-torn_slot_same}

-- ---- a mapping is being torn down

pub pinned-torn_slot : (maps : MapsView) (slot : ℕ) → (torn_slot maps slot).pinned ≡ maps.pinned
unfolding torn_slot with_slot
pinned-torn_slot maps slot = refl

pub pages-torn_slot : (maps : MapsView) (slot : ℕ) → (torn_slot maps slot).pages ≡ maps.pages
unfolding torn_slot with_slot
pages-torn_slot maps slot = refl

pub slot_at-torn_slot_other : (maps : MapsView) (slot other : ℕ) → other ≢ slot → slot_at (torn_slot maps slot) other ≡ slot_at maps other
unfolding torn_slot with_slot
slot_at-torn_slot_other maps slot other apart = get_or-set_other maps.slots slot other (torn (slot_at maps slot)) None apart

-- what doesn't depend on whether a mapping is live stays
pub same-torn_slot : {X : Type 0} (f : Option Slot → X) (maps : MapsView) (slot other : ℕ) → slot < length maps.slots → ((o : Option Slot) → f (torn o) ≡ f o)
    → f (slot_at (torn_slot maps slot) other) ≡ f (slot_at maps other)
same-torn_slot f maps slot other within same =
    ⊎_elim
    (λ z. ap (λ k. f (slot_at (torn_slot maps slot) k)) z ∙ ap f (slot_at-torn_slot_same maps slot within) ∙ same (slot_at maps slot) ∙ ap (λ k. f (slot_at maps k)) (sym z))
    (λ apart. ap f (slot_at-torn_slot_other maps slot other apart))
    (cases_eq other slot)

-- as what a place shows, and whether it is one
pub tag_at-torn_slot : (maps : MapsView) (slot other index : ℕ) → slot < length maps.slots → tag_at (torn_slot maps slot) other index ≡ tag_at maps other index
tag_at-torn_slot maps slot other index within = same-torn_slot (λ o. tag_in o other index) maps slot other within torn_tag
  where
    torn_tag : (o : Option Slot) → tag_in (torn o) other index ≡ tag_in o other index
    torn_tag None = refl
    torn_tag (Some mapping) = refl

pub place-torn_slot : (maps : MapsView) (slot other index : ℕ) → slot < length maps.slots → slot_has_page (slot_at (torn_slot maps slot) other) index ≡ slot_has_page (slot_at maps other) index
place-torn_slot maps slot other index within = same-torn_slot (λ o. slot_has_page o index) maps slot other within torn_page
  where
    torn_page : (o : Option Slot) → slot_has_page (torn o) index ≡ slot_has_page o index
    torn_page None = refl
    torn_page (Some mapping) = refl

-- the mapping isn't found any more, where it was in one slot alone
pub find_slot-torn_slot_same : (maps : MapsView) (slot process number : ℕ) → ((other : ℕ) → is_mapping process number (slot_at maps other) ≡ true → other ≡ slot)
    → find_slot (torn_slot maps slot) process number ≡ None
unfolding torn_slot with_slot
find_slot-torn_slot_same maps slot process number alone =
    position_none (is_mapping process number) (set maps.slots slot (torn (slot_at maps slot))) None
    (λ j below. false_from_ne_true _ (λ passes.
    let there = unlive_apart maps.slots slot (torn (slot_at maps slot)) (live_torn (slot_at maps slot)) j process number passes in there.0 (alone j there.1)))

pub find_slot-torn_slot_other : (maps : MapsView) (slot process number : ℕ) → is_mapping process number (slot_at maps slot) ≡ false
    → find_slot (torn_slot maps slot) process number ≡ find_slot maps process number
unfolding torn_slot with_slot
find_slot-torn_slot_other maps slot process number is_not =
    position-set_other maps.slots slot process number (torn (slot_at maps slot)) is_not (none_unless_live process number (torn (slot_at maps slot)) (live_torn (slot_at maps slot)))

pub live_slots-torn_slot : (maps : MapsView) (slot : ℕ) → is_live_slot (slot_at maps slot) ≡ true → live_slots (torn_slot maps slot) + 1 ≡ live_slots maps
unfolding torn_slot with_slot
live_slots-torn_slot maps slot is =
    omega (arith, slots_counted is_live_slot maps.slots slot (torn (slot_at maps slot)) true false (live_within maps.slots slot is) is (live_torn (slot_at maps slot)))

-- ---- a slot is made free

pub entries-freed_slot : (maps : MapsView) (slot : ℕ) → (freed_slot maps slot).entries ≡ maps.entries
unfolding freed_slot with_slot
entries-freed_slot maps slot = refl

pub pinned-freed_slot : (maps : MapsView) (slot : ℕ) → (freed_slot maps slot).pinned ≡ maps.pinned
unfolding freed_slot with_slot
pinned-freed_slot maps slot = refl

pub pages-freed_slot : (maps : MapsView) (slot : ℕ) → (freed_slot maps slot).pages ≡ maps.pages
unfolding freed_slot with_slot
pages-freed_slot maps slot = refl

pub slot_at-freed_slot_same : (maps : MapsView) (slot : ℕ) → slot < length maps.slots → slot_at (freed_slot maps slot) slot ≡ None
unfolding freed_slot with_slot
slot_at-freed_slot_same maps slot within = get_or-set_same maps.slots slot None None within

pub slot_at-freed_slot_other : (maps : MapsView) (slot other : ℕ) → other ≢ slot → slot_at (freed_slot maps slot) other ≡ slot_at maps other
unfolding freed_slot with_slot
slot_at-freed_slot_other maps slot other apart = get_or-set_other maps.slots slot other None None apart

pub find_slot-freed_slot : (maps : MapsView) (slot process number : ℕ) → is_live_slot (slot_at maps slot) ≡ false → find_slot (freed_slot maps slot) process number ≡ find_slot maps process number
unfolding freed_slot with_slot
find_slot-freed_slot maps slot process number not_live = position-set_other maps.slots slot process number None (none_unless_live process number (slot_at maps slot) not_live) refl

pub live_slots-freed_slot : (maps : MapsView) (slot : ℕ) → slot < length maps.slots → is_live_slot (slot_at maps slot) ≡ false → live_slots (freed_slot maps slot) ≡ live_slots maps
unfolding freed_slot with_slot
live_slots-freed_slot maps slot within not_live = omega (arith, slots_counted is_live_slot maps.slots slot None false false within not_live refl)

-- ---- pinned places of a slot

pub any_pinned-is : (maps : MapsView) (slot index : ℕ) → length maps.pinned ≡ length maps.slots * MAX_MAPPING_PAGES → slot < length maps.slots → index < MAX_MAPPING_PAGES
    → pinned_at maps slot index ≡ true → any_pinned maps slot ≡ true
any_pinned-is maps slot index whole within below is =
    list_any_at (λ pinned. pinned) (slice_range maps.pinned (place_at slot 0) (place_at slot MAX_MAPPING_PAGES)) index false
    (omega (arith, length-between maps.pinned (place_at slot 0) (place_at slot MAX_MAPPING_PAGES) (omega (arith, whole))))
    (get_or-between maps.pinned (place_at slot 0) (place_at slot MAX_MAPPING_PAGES) index false (omega arith) ∙ ap (λ k. get_or maps.pinned k false) (omega arith) ∙ is)

pub pinned_at-none : (maps : MapsView) (slot index : ℕ) → length maps.pinned ≡ length maps.slots * MAX_MAPPING_PAGES → slot < length maps.slots → index < MAX_MAPPING_PAGES
    → any_pinned maps slot ≡ false → pinned_at maps slot index ≡ false
pinned_at-none maps slot index whole within below none = false_from_ne_true _ (λ is. both_ways _ none (any_pinned-is maps slot index whole within below is))

pub any_pinned-none : (maps : MapsView) (slot : ℕ) → length maps.pinned ≡ length maps.slots * MAX_MAPPING_PAGES → slot < length maps.slots
    → ((index : ℕ) → index < MAX_MAPPING_PAGES → pinned_at maps slot index ≡ false) → any_pinned maps slot ≡ false
any_pinned-none maps slot whole within none =
    let size = length-between maps.pinned (place_at slot 0) (place_at slot MAX_MAPPING_PAGES) (omega (arith, whole)) in
    list_any_none (λ pinned. pinned) (slice_range maps.pinned (place_at slot 0) (place_at slot MAX_MAPPING_PAGES))
    (All-from_get_or (λ pinned. pinned ≡ false) (slice_range maps.pinned (place_at slot 0) (place_at slot MAX_MAPPING_PAGES)) false
    (λ index below.
    let index_below : index < MAX_MAPPING_PAGES = omega (arith, below, size) in
    get_or-between maps.pinned (place_at slot 0) (place_at slot MAX_MAPPING_PAGES) index false (omega (arith, index_below))
    ∙ ap (λ k. get_or maps.pinned k false) (omega arith)
    ∙ none index index_below))
