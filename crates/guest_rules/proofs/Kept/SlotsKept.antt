-- The mapping slots stay fit: where they are the same, where a file is mapped in a free one, where a page is pinned or unpinned, where a
-- mapping ends, and where its slot is free again.
use Rattle.std.proofs.Common.{◌≡◌, ◌≢◌, ◌<◌, ◌≤◌, ◌+◌, ◌-◌, ℕ, Bool, true, false, cond, List, length}
use Rattle.std.proofs.Common.{slice_index_or, Option, Some, None, is_some, refl, ap, sym, ◌∙◌, inl, inr, position, nat_lt, arith}
use Rattle.std.specs.FinMap as finite
use Rattle.std.proofs.lemmas.Bool.{cases_eq, cases_lt, false_from_ne_true, ltb-true}
use Rattle.std.proofs.lemmas.Bool.Decides.{nat_tests}
use Rattle.std.proofs.lemmas.List.{get_or_past}
use Rattle.std.proofs.lemmas.Option.{same_Some}
use Rattle.cmm_types.specs.declared.command.TheConstants.{MAX_MAPPING_PAGES}
use Rattle.cmm_flat.specs.declared.mapping.MappingKey.{MappingKey}
use Rattle.cmm_flat.specs.declared.mapping.Mapping.{Mapping}
use Rattle.cmm_flat.specs.declared.mapping.Shown.{Shown as FlatShown}
use Rattle.cmm_flat.specs.Mapping.{with_pin}
use Rattle.cmm_flat.specs.Laws.KeyLaws.{keys_total}
use Rattle.cmm_flat.specs.State.{FlatState, mapping_at, key_of}
use Rattle.cmm_flat.specs.Flat.{none_pinned, with_mapping as flat_with_mapping, without_mapping}
use Rattle.cmm_flat.specs.Laws.StepLaws.{mapping_at-with_mapping, mapping_at-with_mapping_other, mapping_at-without_mapping, mapping_at-without_mapping_other}
use Rattle.guest_maps.specs.declared.slot.Slot.{Slot}
use Rattle.guest_cache.specs.CacheView.{CacheView}
use Rattle.guest_maps.specs.declared.slot.Shown.{Shown}
use Rattle.guest_maps.specs.declared.slot.Shown.TheVariants.{File as OfFile, Anon as OfItsOwn}
use Rattle.guest_maps.specs.MapsView.{MapsView, IsPlace, slot_at, find_slot, free_slot, live_slots, is_live_slot, is_mapping}
use Rattle.guest_maps.specs.MapsView.{slot_has_page, place_at, pinned_at, new_mapping, torn, with_slot_mapped, torn_slot, freed_slot}
use Rattle.guest_maps.specs.FirstPlace.{position_only}
use Rattle.guest_maps.specs.Laws.SlotLaws.{own_mapping, other_mapping, mapping_is}
use Rattle.guest_maps.specs.Laws.MapsLaws.{IsPlace-from, free_slot-is, find_slot-is, find_slot-none, length-with_mapping, entries-with_mapping, pinned-with_mapping, pages-with_mapping}
use Rattle.guest_maps.specs.Laws.MapsLaws.{slot_at-with_mapping_same, slot_at-with_mapping_other, find_slot-with_mapping_other, live_slots-with_mapping, length-torn_slot, entries-torn_slot}
use Rattle.guest_maps.specs.Laws.MapsLaws.{slot_at-torn_slot_same, length-freed_slot}
use Rattle.guest_maps.specs.Laws.TornLaws.{pinned-torn_slot, pages-torn_slot, slot_at-torn_slot_other, place-torn_slot, find_slot-torn_slot_same, find_slot-torn_slot_other, live_slots-torn_slot}
use Rattle.guest_maps.specs.Laws.TornLaws.{entries-freed_slot, pinned-freed_slot, pages-freed_slot, slot_at-freed_slot_same, slot_at-freed_slot_other, find_slot-freed_slot, live_slots-freed_slot}
use Rattle.guest_rules.specs.declared.parts.Parts.{Parts}
use Rattle.guest_rules.specs.Fit.{SlotsFit, HasShownPages, pins_of, without_bytes, shape_of, flat_shown, flat_slot, flat_mapping, flat_found}
use Rattle.guest_rules.proofs.Cases.MapsFound.{IsFoundSlot, found_slot}
use Rattle.guest_rules.proofs.Cases.Placed.{PinPlace}
use Rattle.guest_rules.proofs.Kept.PinLaws.{PinChange, pins_of-same, pins_of-none, pins_of-set}
use Rattle.guest_rules.proofs.Kept.Shapes.{shape_none, shape_some, shape_pinned}

is_below : (index count : ℕ) → index < count → nat_lt index count ≡ true
is_below index count below = grind (arith, nat_tests)

-- a slot with a mapping is one
pub slot-below : (maps : MapsView) (slot : ℕ) (mapping : Slot) → slot_at maps slot ≡ Some mapping → slot < length maps.slots
slot-below maps slot mapping at = elim (cases_lt slot (length maps.slots)) [
  | inl below ↦ below
  | inr past ↦ let bad : None ≡ Some mapping = sym (get_or_past maps.slots slot None past) ∙ at in absurd cc
]

-- the same mapping in a slot, with the same pages pinned, is the same for the flat machine
flat_mapping-same : (old new : MapsView) (slot : ℕ) → slot_at new slot ≡ slot_at old slot
    → ((index : ℕ) → slot_has_page (slot_at old slot) index ≡ true → pinned_at new slot index ≡ pinned_at old slot index)
    → flat_mapping new slot (slot_at new slot) ≡ flat_mapping old slot (slot_at old slot)
flat_mapping-same old new slot same pins = ap (flat_mapping new slot) same ∙ of (slot_at old slot) pins
  where
    of : (o : Option Slot) → ((index : ℕ) → slot_has_page o index ≡ true → pinned_at new slot index ≡ pinned_at old slot index) → flat_mapping new slot o ≡ flat_mapping old slot o
    of None each = refl
    of (Some mapping) each =
        ap (λ q. let out : Option Mapping = Some (record { shown = flat_shown mapping.shown; pins = q }) in out)
        (pins_of-same old new slot mapping.count (λ index below. each index (is_below index mapping.count below)))

-- what is shown is there, where the files are the same
shows-files : (old new : CacheView) (shown : Shown) (count : ℕ) → new.files ≡ old.files → HasShownPages old shown count → HasShownPages new shown count
shows-files old new (OfFile file first writable) count files shows = (rw files shows.0, rw files shows.1)
shows-files old new OfItsOwn count files shows = tt

-- the slots are the same, and so are what is pinned, the files and the flat mappings
pub SlotsFit-kept : (state later : FlatState) (old new : Parts) → SlotsFit state old → later.mappings ≡ state.mappings → new.maps.slots ≡ old.maps.slots
    → length new.maps.entries ≡ length old.maps.entries
    → new.maps.pinned ≡ old.maps.pinned → new.maps.pages ≡ old.maps.pages → length new.pages.infos ≡ length old.pages.infos → new.cache.files ≡ old.cache.files → SlotsFit later new
SlotsFit-kept state later old new f mappings slots entries pinned pages infos files = record {
  slots = rw slots f.slots;
  entries = entries ∙ f.entries;
  pinned = ap length pinned ∙ f.pinned;
  pages = pages ∙ f.pages ∙ sym infos;
  apart = λ slot other mapping another e e'. f.apart slot other mapping another (rw slots at e) (rw slots at e');
  flat = λ process number. ap (λ m. shape_of (finite.get m (key_of process number))) mappings ∙ f.flat process number ∙ sym (found process number);
  counted = ap (λ m. finite.len m) mappings ∙ f.counted ∙ ap (λ xs. of_live xs) (sym slots);
  some = λ slot mapping e. f.some slot mapping (rw slots at e);
  shown = λ slot mapping e. let k = f.shown slot mapping (rw slots at e) in (k.0, shows-files old.cache new.cache mapping.shown mapping.count files k.1);
  placed = λ slot index below e.
      ap (λ xs. slot_has_page (slice_index_or xs slot None) index) slots ∙ f.placed slot index below (ap (λ xs. slice_index_or xs (place_at slot index) false) (sym pinned) ∙ e);
}
  where
    of_live : List (Option Slot) → ℕ
    of_live xs = live_slots (record old.maps { slots = xs })

    with_found : (process number : ℕ) (o : Option ℕ) → flat_found new.maps o ≡ flat_found old.maps o
    with_found process number None = refl
    with_found process number (Some slot) = flat_mapping-same old.maps new.maps slot (ap (λ xs. slice_index_or xs slot None) slots)
        (λ index below. ap (λ xs. slice_index_or xs (place_at slot index) false) pinned)

    found : (process number : ℕ) → flat_found new.maps (find_slot new.maps process number) ≡ flat_found old.maps (find_slot old.maps process number)
    found process number = ap (λ xs. flat_found new.maps (position (is_mapping process number) xs)) slots ∙ with_found process number (find_slot old.maps process number)

-- the flat mappings have other bytes of their own at most
pub record SameShapes (state later : FlatState) : Type 0 where
  pub shapes : (process number : ℕ) → shape_of (mapping_at later process number) ≡ shape_of (mapping_at state process number)
  pub count : finite.len later.mappings ≡ finite.len state.mappings

pub SlotsFit-shaped : (state later : FlatState) (parts : Parts) → SlotsFit state parts → SameShapes state later → SlotsFit later parts
SlotsFit-shaped state later parts f same = record {
  slots = f.slots;
  entries = f.entries;
  pinned = f.pinned;
  pages = f.pages;
  apart = f.apart;
  flat = λ process number. same.shapes process number ∙ f.flat process number;
  counted = same.count ∙ f.counted;
  some = f.some;
  shown = f.shown;
  placed = f.placed;
}

-- a mapping in a free slot
pub record NewMapping (old : Parts) (slot process number : ℕ) (shown : Shown) (count : ℕ) : Type 0 where
  pub free : free_slot old.maps ≡ Some slot
  pub none : find_slot old.maps process number ≡ None
  pub some : 1 ≤ count
  pub few : count ≤ MAX_MAPPING_PAGES
  pub shows : HasShownPages old.cache shown count

abbrev pub new_flat : FlatShown → ℕ → Mapping
new_flat flat count = record { shown = flat; pins = none_pinned count }

pub SlotsFit-mapped : (state : FlatState) (old new : Parts) (slot process number count : ℕ) (shown : Shown) (flat : FlatShown) → SlotsFit state old → NewMapping old slot process number shown count
    → without_bytes flat ≡ flat_shown shown → new ≡ record old { maps = with_slot_mapped old.maps slot process number shown count }
    → SlotsFit (flat_with_mapping state process number (new_flat flat count)) new
SlotsFit-mapped state old new slot process number count shown flat f k shape is = rw is (record {
  slots = length-with_mapping old.maps slot process number shown count ∙ f.slots;
  entries = ap length (entries-with_mapping old.maps slot process number shown count) ∙ f.entries;
  pinned = ap length pinned ∙ f.pinned;
  pages = pages-with_mapping old.maps slot process number shown count ∙ f.pages;
  apart = λ s o mapping another e e' live live' p q. elim (cases_eq s slot) [
    | inl z ↦ elim (cases_eq o slot) [
      | inl y ↦ z ∙ sym y
      | inr m ↦
          let its = here s mapping z e in
          absurd (taken o another (sym (there o m) ∙ e') live' (sym p ∙ ap (λ (x : Slot). x.process) (sym its)) (sym q ∙ ap (λ (x : Slot). x.map) (sym its)))
    ]
    | inr n ↦ elim (cases_eq o slot) [
      | inl y ↦
          let its = here o another y e' in
          absurd (taken s mapping (sym (there s n) ∙ e) live (p ∙ ap (λ (x : Slot). x.process) (sym its)) (q ∙ ap (λ (x : Slot). x.map) (sym its)))
      | inr m ↦ f.apart s o mapping another (sym (there s n) ∙ e) (sym (there o m) ∙ e') live live' p q
    ]
  ];
  flat = λ p n. elim (cases_eq p process) [
    | inl z ↦ elim (cases_eq n number) [
      | inl y ↦
          rw (z, y) (ap shape_of (mapping_at-with_mapping state process number (new_flat flat count)) ∙ ap shown_as shape
          ∙ sym (ap (flat_found now) found_here ∙ ap (flat_mapping now slot) (slot_at-with_mapping_same old.maps slot process number shown count below) ∙ ap new_pins none_pinned_yet))
      | inr m ↦ other p n (λ q r. m (sym r))
    ]
    | inr m ↦ other p n (λ q r. m (sym q))
  ];
  counted = len_more ∙ ap (λ n. n + 1) f.counted ∙ sym (live_slots-with_mapping old.maps slot process number shown count below free);
  some = λ s mapping e. elim (cases_eq s slot) [
    | inl z ↦ let its = here s mapping z e in rw (← its) k.some
    | inr n ↦ f.some s mapping (sym (there s n) ∙ e)
  ];
  shown = λ s mapping e. elim (cases_eq s slot) [
    | inl z ↦ let its = here s mapping z e in rw (← its) (k.few, k.shows)
    | inr n ↦ f.shown s mapping (sym (there s n) ∙ e)
  ];
  placed = λ s index lt e.
      let was = f.placed s index lt (sym (pinned_same s index) ∙ e) in
      ap (λ (o : Option Slot). slot_has_page o index) (there s (unpinned s index was)) ∙ was;
})
  where
    one : Slot
    one = new_mapping process number shown count

    now : MapsView
    now = with_slot_mapped old.maps slot process number shown count

    below : slot < length old.maps.slots
    below = (free_slot-is old.maps slot k.free).0

    free : slot_at old.maps slot ≡ None
    free = (free_slot-is old.maps slot k.free).1

    pinned : now.pinned ≡ old.maps.pinned
    pinned = pinned-with_mapping old.maps slot process number shown count

    pinned_same : (s index : ℕ) → pinned_at now s index ≡ pinned_at old.maps s index
    pinned_same s index = ap (λ xs. slice_index_or xs (place_at s index) false) pinned

    -- a free slot has no place
    unpinned : (s index : ℕ) → IsPlace old.maps s index → s ≢ slot
    unpinned s index is z = let bad : false ≡ true = ap (λ (o : Option Slot). slot_has_page o index) (sym free) ∙ ap (λ q. slot_has_page (slot_at old.maps q) index) (sym z) ∙ is in cc

    new_pins : List Bool → Option Mapping
    new_pins pins = Some (record { shown = flat_shown shown; pins = pins })

    shown_as : FlatShown → Option Mapping
    shown_as s = Some (record { shown = s; pins = none_pinned count })

    none_pinned_yet : pins_of now slot count ≡ none_pinned count
    none_pinned_yet =
        pins_of-none now slot count
        (λ index lt. false_from_ne_true (pinned_at now slot index) (λ e. unpinned slot index (f.placed slot index (omega (arith, lt, k.few)) (sym (pinned_same slot index) ∙ e)) refl))

    there : (s : ℕ) → s ≢ slot → slot_at now s ≡ slot_at old.maps s
    there s n = slot_at-with_mapping_other old.maps slot s process number shown count n

    here : (s : ℕ) (mapping : Slot) → s ≡ slot → slot_at now s ≡ Some mapping → one ≡ mapping
    here s mapping z e =
        let both : Some one ≡ Some mapping = sym (slot_at-with_mapping_same old.maps slot process number shown count below) ∙ ap (slot_at now) (sym z) ∙ e in
        same_Some _ _ both

    -- no other slot has the mapping's number
    taken : (s : ℕ) (m : Slot) → slot_at old.maps s ≡ Some m → m.live ≡ true → m.process ≡ process → m.map ≡ number → ⊥
    taken s m e live p n =
        let yes : is_mapping process number (Some m) ≡ true = ap (λ q. is_mapping q number (Some m)) (sym p) ∙ ap (λ q. is_mapping m.process q (Some m)) (sym n) ∙ own_mapping m live in
        let bad : true ≡ false = sym yes ∙ ap (is_mapping process number) (sym e) ∙ find_slot-none old.maps process number k.none s in absurd cc

    found_here : find_slot now process number ≡ Some slot
    found_here =
        position_only (is_mapping process number) now.slots slot None (rw (length-with_mapping old.maps slot process number shown count) below)
        (ap (is_mapping process number) (slot_at-with_mapping_same old.maps slot process number shown count below) ∙ own_mapping one refl) only
      where
        only : (j : ℕ) → is_mapping process number (slot_at now j) ≡ true → j ≡ slot
        only j t = elim (cases_eq j slot) [
          | inl z ↦ z
          | inr n ↦ let bad : true ≡ false = sym t ∙ ap (is_mapping process number) (there j n) ∙ find_slot-none old.maps process number k.none j in absurd cc
        ]

    other : (p n : ℕ) → (process ≡ p → number ≡ n → ⊥) → shape_of (mapping_at (flat_with_mapping state process number (new_flat flat count)) p n) ≡ flat_found now (find_slot now p n)
    other p n differ =
        ap shape_of (mapping_at-with_mapping_other state process number (new_flat flat count) p n (λ e. differ (ap (λ (x : MappingKey). x.process) (sym e)) (ap (λ (x : MappingKey). x.map) (sym e))))
        ∙ f.flat p n
        ∙ sym (ap (flat_found now) (find_slot-with_mapping_other old.maps slot process number p n shown count free differ) ∙ of (find_slot old.maps p n) refl)
      where
        of : (o : Option ℕ) → find_slot old.maps p n ≡ o → flat_found now o ≡ flat_found old.maps o
        of None e = refl
        of (Some s) e =
            let passes = find_slot-is old.maps p n s e in
            let apart : s ≢ slot = λ z. let bad : true ≡ false = sym passes ∙ ap (λ q. is_mapping p n (slot_at old.maps q)) z ∙ ap (is_mapping p n) free in cc in
            flat_mapping-same old.maps now s (there s apart) (λ index _. pinned_same s index)

    len_more : finite.len (flat_with_mapping state process number (new_flat flat count)).mappings ≡ finite.len state.mappings + 1
    len_more =
        let new : mapping_at state process number ≡ None = shape_none (mapping_at state process number) (f.flat process number ∙ ap (flat_found old.maps) k.none) in
        finite.len-insert keys_total state.mappings (key_of process number) (new_flat flat count)
        ∙ ap (λ (o : Option Mapping). cond (is_some o) (finite.len state.mappings) (finite.len state.mappings + 1)) new

-- what the flat machine has of a mapping whose page is pinned, or unpinned
abbrev pub pinned_state : FlatState → (process number : ℕ) → Mapping → (index : ℕ) → Bool → FlatState
pinned_state state process number its index pins = flat_with_mapping state process number (with_pin its index pins)

has_below : (maps : MapsView) (slot : ℕ) (mapping : Slot) (index : ℕ) → slot_at maps slot ≡ Some mapping → slot_has_page (slot_at maps slot) index ≡ true → index < mapping.count
has_below maps slot mapping index at has = ltb-true index mapping.count (ap (λ o. slot_has_page o index) (sym at) ∙ has)

pub SlotsFit-pinned : (state : FlatState) (old new : Parts) (process number slot index : ℕ) (pins : Bool) (its : Mapping) → SlotsFit state old → (k : PinPlace old.maps process number slot index pins)
    → mapping_at state process number ≡ Some its → PinChange old.maps new.maps slot index pins
    → length new.pages.infos ≡ length old.pages.infos → new.cache.files ≡ old.cache.files → SlotsFit (pinned_state state process number its index pins) new
SlotsFit-pinned state old new process number slot index pins its f k was change infos files = record {
  slots = rw slots f.slots;
  entries = ap length change.entries ∙ f.entries;
  pinned = change.size ∙ f.pinned;
  pages = change.pages ∙ f.pages ∙ sym infos;
  apart = λ s o mapping another e e'. f.apart s o mapping another (rw slots at e) (rw slots at e');
  flat = λ p n. elim (cases_eq p process) [
    | inl z ↦ elim (cases_eq n number) [
      | inl y ↦ rw (z, y) (ap shape_of (mapping_at-with_mapping state process number mine) ∙ shape_pinned its (flat_slot old.maps slot k.mapping) index pins shape ∙ sym here)
      | inr m ↦ other p n (λ q r. m r)
    ]
    | inr m ↦ other p n (λ q r. m q)
  ];
  counted =
      finite.len-insert keys_total state.mappings (key_of process number) mine
      ∙ ap (λ (o : Option Mapping). cond (is_some o) (finite.len state.mappings) (finite.len state.mappings + 1)) was
      ∙ f.counted
      ∙ ap (λ xs. of_live xs) (sym slots);
  some = λ s mapping e. f.some s mapping (rw slots at e);
  shown = λ s mapping e. let shows = f.shown s mapping (rw slots at e) in (shows.0, shows-files old.cache new.cache mapping.shown mapping.count files shows.1);
  placed = λ s i lt e. placed s i lt e;
}
  where
    mine : Mapping
    mine = with_pin its index pins

    of_live : List (Option Slot) → ℕ
    of_live xs = live_slots (record old.maps { slots = xs })

    slots : new.maps.slots ≡ old.maps.slots
    slots = change.slots

    same : (s : ℕ) → slot_at new.maps s ≡ slot_at old.maps s
    same s = ap (λ xs. slice_index_or xs s None) slots

    found_same : (p n : ℕ) → find_slot new.maps p n ≡ find_slot old.maps p n
    found_same p n = ap (λ xs. position (is_mapping p n) xs) slots

    shape : shape_of (Some its) ≡ Some (flat_slot old.maps slot k.mapping)
    shape = ap shape_of (sym was) ∙ f.flat process number ∙ ap (flat_found old.maps) k.found ∙ ap (flat_mapping old.maps slot) k.at

    here : flat_found new.maps (find_slot new.maps process number) ≡ Some (with_pin (flat_slot old.maps slot k.mapping) index pins)
    here =
        ap (flat_found new.maps) (found_same process number ∙ k.found) ∙ ap (flat_mapping new.maps slot) (same slot ∙ k.at)
        ∙ ap (λ q. let out : Option Mapping = Some (record { shown = flat_shown k.mapping.shown; pins = q }) in out)
        (pins_of-set old.maps new.maps slot k.mapping.count index pins k.below change.here (λ i lt n. change.others slot i (omega (arith, lt, (f.shown slot k.mapping k.at).0)) (λ z y. n y)))

    other : (p n : ℕ) → (p ≡ process → n ≡ number → ⊥) → shape_of (mapping_at (flat_with_mapping state process number mine) p n) ≡ flat_found new.maps (find_slot new.maps p n)
    other p n differ =
        ap shape_of (mapping_at-with_mapping_other state process number mine p n (λ e. differ (ap (λ (x : MappingKey). x.process) e) (ap (λ (x : MappingKey). x.map) e)))
        ∙ f.flat p n
        ∙ sym (ap (flat_found new.maps) (found_same p n) ∙ of (find_slot old.maps p n) refl)
      where
        -- a slot has one mapping
        apart : (s : ℕ) → find_slot old.maps p n ≡ Some s → s ≢ slot
        apart s e z =
            let its = found_slot old.maps p n s e in
            let mine = found_slot old.maps process number slot k.found in
            let both : Some its.mapping ≡ Some mine.mapping = sym its.at ∙ ap (slot_at old.maps) z ∙ mine.at in
            let one : its.mapping ≡ mine.mapping = cc in
            differ (sym its.process_is ∙ ap (λ (m : Slot). m.process) one ∙ mine.process_is) (sym its.number_is ∙ ap (λ (m : Slot). m.map) one ∙ mine.number_is)

        of : (o : Option ℕ) → find_slot old.maps p n ≡ o → flat_found new.maps o ≡ flat_found old.maps o
        of None e = refl
        of (Some s) e =
            let its = found_slot old.maps p n s e in
            flat_mapping-same old.maps new.maps s (same s) (λ i has. change.others s i (omega (arith, (f.shown s its.mapping its.at).0, has_below old.maps s its.mapping i its.at has))
            (λ z y. apart s e z))

    placed : (s i : ℕ) → i < MAX_MAPPING_PAGES → pinned_at new.maps s i ≡ true → IsPlace new.maps s i
    placed s i lt e = ap (λ o. slot_has_page o i) (same s) ∙ (elim (cases_eq s slot) [
      | inl z ↦ elim (cases_eq i index) [
        | inl y ↦ rw (z, y) (IsPlace-from old.maps slot index k.mapping k.at k.below)
        | inr n ↦ f.placed s i lt (sym (change.others s i lt (λ q r. n r)) ∙ e)
      ]
      | inr n ↦ f.placed s i lt (sym (change.others s i lt (λ q r. n q)) ∙ e)
    ])

-- ---- a mapping ends

-- nothing of another slot changes
flat_other : (old new : MapsView) (slot : ℕ) (o : Option ℕ) → ((s : ℕ) → s ≢ slot → slot_at new s ≡ slot_at old s) → ((s index : ℕ) → pinned_at new s index ≡ pinned_at old s index)
    → ((s : ℕ) → o ≡ Some s → s ≢ slot) → flat_found new o ≡ flat_found old o
flat_other old new slot None there pins apart = refl
flat_other old new slot (Some s) there pins apart = flat_mapping-same old new s (there s (apart s refl)) (λ index _. pins s index)

-- a mapping is not found any more, and its slot is being torn down
pub SlotsFit-torn : (state : FlatState) (old : Parts) (slot process number : ℕ) → SlotsFit state old → find_slot old.maps process number ≡ Some slot
    → SlotsFit (without_mapping state process number) (record old { maps = torn_slot old.maps slot })
SlotsFit-torn state old slot process number f found = record {
  slots = length-torn_slot old.maps slot ∙ f.slots;
  entries = ap length (entries-torn_slot old.maps slot) ∙ f.entries;
  pinned = ap length (pinned-torn_slot old.maps slot) ∙ f.pinned;
  pages = pages-torn_slot old.maps slot ∙ f.pages;
  apart = λ s o mapping another e e' live live'.
      f.apart s o mapping another (sym (there s (still s mapping e live)) ∙ e) (sym (there o (still o another e' live')) ∙ e') live live';
  flat = λ p n. elim (cases_eq p process) [
    | inl z ↦ elim (cases_eq n number) [
      | inl y ↦ rw (z, y) (ap shape_of (mapping_at-without_mapping state process number) ∙ sym (ap (flat_found now) gone))
      | inr m ↦ other p n (λ q r. m r)
    ]
    | inr m ↦ other p n (λ q r. m q)
  ];
  counted =
      finite.len-remove keys_total state.mappings (key_of process number)
      ∙ ap (λ (o : Option Mapping). cond (is_some o) (finite.len state.mappings - 1) (finite.len state.mappings)) was.1
      ∙ omega (arith, f.counted, live_slots-torn_slot old.maps slot live);
  some = λ s mapping e. elim (cases_eq s slot) [
    | inl z ↦ rw (← here s mapping z e) (f.some slot k.mapping k.at)
    | inr n ↦ f.some s mapping (sym (there s n) ∙ e)
  ];
  shown = λ s mapping e. elim (cases_eq s slot) [
    | inl z ↦ rw (← here s mapping z e) (f.shown slot k.mapping k.at)
    | inr n ↦ f.shown s mapping (sym (there s n) ∙ e)
  ];
  placed = λ s index lt e. place-torn_slot old.maps slot s index below ∙ f.placed s index lt (sym (pins s index) ∙ e);
}
  where
    now : MapsView
    now = torn_slot old.maps slot

    k : IsFoundSlot old.maps process number slot
    k = found_slot old.maps process number slot found

    below : slot < length old.maps.slots
    below = slot-below old.maps slot k.mapping k.at

    live : is_live_slot (slot_at old.maps slot) ≡ true
    live = ap is_live_slot k.at ∙ k.live

    there : (s : ℕ) → s ≢ slot → slot_at now s ≡ slot_at old.maps s
    there s n = slot_at-torn_slot_other old.maps slot s n

    pins : (s index : ℕ) → pinned_at now s index ≡ pinned_at old.maps s index
    pins s index = ap (λ xs. slice_index_or xs (place_at s index) false) (pinned-torn_slot old.maps slot)

    here : (s : ℕ) (mapping : Slot) → s ≡ slot → slot_at now s ≡ Some mapping → record k.mapping { live = false } ≡ mapping
    here s mapping z e =
        let both : Some (record k.mapping { live = false }) ≡ Some mapping = sym (slot_at-torn_slot_same old.maps slot below ∙ ap torn k.at) ∙ ap (slot_at now) (sym z) ∙ e in
        same_Some _ _ both

    still : (s : ℕ) (mapping : Slot) → slot_at now s ≡ Some mapping → mapping.live ≡ true → s ≢ slot
    still s mapping e lives z = let bad : false ≡ true = ap (λ (m : Slot). m.live) (here s mapping z e) ∙ lives in cc

    -- no other slot has a live mapping of that number
    alone : (s : ℕ) (o : Option Slot) → slot_at old.maps s ≡ o → is_mapping process number o ≡ true → s ≡ slot
    alone s None e is = let bad : false ≡ true = is in absurd cc
    alone s (Some m) e is =
        let its = mapping_is process number m is in f.apart s slot m k.mapping e k.at its.0 k.live (its.1 ∙ sym k.process_is) (its.2 ∙ sym k.number_is)

    gone : find_slot now process number ≡ None
    gone = find_slot-torn_slot_same old.maps slot process number (λ s is. alone s (slot_at old.maps s) refl is)

    was : (its : Mapping) × (mapping_at state process number ≡ Some its) × (shape_of (Some its) ≡ Some (flat_slot old.maps slot k.mapping))
    was = shape_some (mapping_at state process number) (flat_slot old.maps slot k.mapping) (f.flat process number ∙ ap (flat_found old.maps) found ∙ ap (flat_mapping old.maps slot) k.at)

    other : (p n : ℕ) → (p ≡ process → n ≡ number → ⊥) → shape_of (mapping_at (without_mapping state process number) p n) ≡ flat_found now (find_slot now p n)
    other p n differ =
        ap shape_of (mapping_at-without_mapping_other state process number p n (λ e. differ (ap (λ (x : MappingKey). x.process) e) (ap (λ (x : MappingKey). x.map) e)))
        ∙ f.flat p n
        ∙ sym (ap (flat_found now) (find_slot-torn_slot_other old.maps slot p n not_its) ∙ flat_other old.maps now slot (find_slot old.maps p n) there pins apart)
      where
        not_its : is_mapping p n (slot_at old.maps slot) ≡ false
        not_its = ap (is_mapping p n) k.at ∙ other_mapping p n k.mapping (λ a b. differ (sym a ∙ k.process_is) (sym b ∙ k.number_is))

        -- a slot has one mapping
        apart : (s : ℕ) → find_slot old.maps p n ≡ Some s → s ≢ slot
        apart s e z = let bad : true ≡ false = sym (find_slot-is old.maps p n s e) ∙ ap (λ q. is_mapping p n (slot_at old.maps q)) z ∙ not_its in cc

-- the slot of a mapping that isn't live is free, where none of its pages is pinned
pub SlotsFit-freed_slot : (state : FlatState) (old : Parts) (slot : ℕ) (mapping : Slot) → SlotsFit state old → slot_at old.maps slot ≡ Some mapping → mapping.live ≡ false
    → ((index : ℕ) → index < MAX_MAPPING_PAGES → pinned_at old.maps slot index ≡ false) → SlotsFit state (record old { maps = freed_slot old.maps slot })
SlotsFit-freed_slot state old slot mapping f at not_live unpinned = record {
  slots = length-freed_slot old.maps slot ∙ f.slots;
  entries = ap length (entries-freed_slot old.maps slot) ∙ f.entries;
  pinned = ap length (pinned-freed_slot old.maps slot) ∙ f.pinned;
  pages = pages-freed_slot old.maps slot ∙ f.pages;
  apart = λ s o m a e e'. f.apart s o m a (was s m e) (was o a e');
  flat = λ p n.
      f.flat p n
      ∙ sym (ap (flat_found now) (find_slot-freed_slot old.maps slot p n unlive) ∙ flat_other old.maps now slot (find_slot old.maps p n) there pins (apart p n));
  counted = f.counted ∙ sym (live_slots-freed_slot old.maps slot (slot-below old.maps slot mapping at) unlive);
  some = λ s m e. f.some s m (was s m e);
  shown = λ s m e. f.shown s m (was s m e);
  placed = λ s index lt e. elim (cases_eq s slot) [
    | inl z ↦ let bad : false ≡ true = sym (ap (λ x. pinned_at old.maps x index) z ∙ unpinned index lt) ∙ sym (pins s index) ∙ e in absurd cc
    | inr n ↦ ap (λ (o : Option Slot). slot_has_page o index) (there s n) ∙ f.placed s index lt (sym (pins s index) ∙ e)
  ];
}
  where
    now : MapsView
    now = freed_slot old.maps slot

    unlive : is_live_slot (slot_at old.maps slot) ≡ false
    unlive = ap is_live_slot at ∙ not_live

    there : (s : ℕ) → s ≢ slot → slot_at now s ≡ slot_at old.maps s
    there s n = slot_at-freed_slot_other old.maps slot s n

    pins : (s index : ℕ) → pinned_at now s index ≡ pinned_at old.maps s index
    pins s index = ap (λ xs. slice_index_or xs (place_at s index) false) (pinned-freed_slot old.maps slot)

    was : (s : ℕ) (m : Slot) → slot_at now s ≡ Some m → slot_at old.maps s ≡ Some m
    was s m e = sym (there s n) ∙ e
      where
        n : s ≢ slot
        n z = let bad : None ≡ Some m = sym (slot_at-freed_slot_same old.maps slot (slot-below old.maps slot mapping at)) ∙ ap (slot_at now) (sym z) ∙ e in cc

    apart : (p n s : ℕ) → find_slot old.maps p n ≡ Some s → s ≢ slot
    apart p n s e z =
        let its = found_slot old.maps p n s e in
        let bad : true ≡ false = sym its.live ∙ ap is_live_slot (sym its.at ∙ ap (slot_at old.maps) z) ∙ unlive in cc
