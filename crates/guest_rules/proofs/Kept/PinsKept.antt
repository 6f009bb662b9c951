-- The pins stay fit: where one page's info changes, where a page is freed or gets a tag, where a place is pinned or unpinned, where a file is
-- mapped, where a mapping ends, and where its slot is free again.
use Rattle.std.proofs.Common.{◌≡◌, ◌≢◌, ◌<◌, ◌+◌, ℕ, Bool, true, false, not, length, slice_index_or, Some, None, refl, ap, sym, ◌∙◌, inl, inr, arith}
use Rattle.std.proofs.lemmas.Bool.{cases_eq}
use Rattle.cmm_types.specs.declared.page.Tag.{Tag}
use Rattle.cmm_types.specs.declared.command.TheConstants.{MAX_MAPPING_PAGES}
use Rattle.cmm_types.specs.declared.plan.TheConstants.{MAX_MAPPING_SLOTS}
use Rattle.cmm_flat.specs.State.{FlatState}
use Rattle.guest_pages.specs.declared.info.PageInfo.{PageInfo}
use Rattle.guest_pages.specs.PagesView.{free_info, info_at}
use Rattle.guest_cache.specs.CacheView.{CacheView, IsTag, page_of}
use Rattle.guest_maps.specs.declared.slot.Shown.{Shown}
use Rattle.guest_maps.specs.MapsView.{MapsView, IsPlace, slot_at, slot_has_page, place_at, pinned_at, tag_in, tag_at, with_slot, with_slot_mapped, torn_slot, freed_slot}
use Rattle.guest_maps.specs.Laws.MapsLaws.{slot_at-with_mapping_other, length-with_mapping, length-torn_slot, length-freed_slot}
use Rattle.guest_maps.specs.Laws.TornLaws.{pinned-torn_slot, tag_at-torn_slot, pinned-freed_slot, slot_at-freed_slot_other}
use Rattle.guest_rules.specs.declared.parts.Parts.{Parts}
use Rattle.guest_rules.specs.Rows.{pins_after}
use Rattle.guest_rules.specs.Fit.{PagesFit, SlotsFit, PinsFit, IsKept, pin_on, pins_within, pins_on}
use Rattle.guest_rules.proofs.Kept.Changes.{InfoChange, IndexChange}
use Rattle.guest_rules.proofs.Kept.PinLaws.{PinChange, pin_on-none, pin_on-one, pin_on-same, pins_within-same, pins_within-one, pins_within-none, pins_within-some}
use Rattle.guest_rules.proofs.Kept.SlotsKept.{slot-below}
use Rattle.guest_rules.proofs.Cases.WantedTags.{shows_at, shown-is_tag}

-- ---- the places are the same

-- the slots and what is pinned are the same
pub record SamePlaces (old new : MapsView) : Type 0 where
  pub slots : new.slots ≡ old.slots
  pub pinned : new.pinned ≡ old.pinned

pinned-same : (old new : MapsView) (slot index : ℕ) → SamePlaces old new → pinned_at new slot index ≡ pinned_at old slot index
pinned-same old new slot index same = ap (λ xs. slice_index_or xs (place_at slot index) false) same.pinned

pub tag-same : (old new : MapsView) (slot index : ℕ) → new.slots ≡ old.slots → tag_at new slot index ≡ tag_at old slot index
tag-same old new slot index slots = ap (λ xs. tag_in (slice_index_or xs slot None) slot index) slots

pub pins_on-same : (old new : MapsView) (tag : Tag) → SamePlaces old new → pins_on new tag ≡ pins_on old tag
pins_on-same old new tag same =
    pins_within-same old new tag (length new.slots) MAX_MAPPING_PAGES
    (λ slot index _ _. pin_on-same old new tag slot index (pinned-same old new slot index same) (tag-same old new slot index same.slots))
    ∙ ap (λ xs. pins_within old tag (length xs) MAX_MAPPING_PAGES) same.slots

-- what was pinned under a tag was so before
record WasPinned (old : Parts) (slot index : ℕ) (tag : Tag) : Type 0 where
  pinned : pinned_at old.maps slot index ≡ true
  mapped : tag_at old.maps slot index ≡ Some tag

pinned_before : (old : Parts) (new : MapsView) (slot index : ℕ) (tag : Tag) → SamePlaces old.maps new → pinned_at new slot index ≡ true → tag_at new slot index ≡ Some tag
    → WasPinned old slot index tag
pinned_before old new slot index tag same pinned mapped =
    record { pinned = sym (pinned-same old.maps new slot index same) ∙ pinned; mapped = sym (tag-same old.maps new slot index same.slots) ∙ mapped }

-- a page's info is another, of the same tag and with as many pins, and it is up to date if it was
pub PinsFit-info : (old new : Parts) (page : ℕ) (info : PageInfo) → PinsFit old → InfoChange old.pages new.pages page info → new.cache ≡ old.cache → SamePlaces old.maps new.maps
    → info.tag ≡ (info_at old.pages page).tag → info.pins ≡ (info_at old.pages page).pins → ((info_at old.pages page).uptodate ≡ true → info.uptodate ≡ true) → PinsFit new
PinsFit-info old new page info f change cache same tags pins fresh = record {
  counted = λ i t e. elim (cases_eq i page) [
    | inl z ↦
        let tagged : (info_at old.pages page).tag ≡ Some t = sym tags ∙ ap (λ (x : PageInfo). x.tag) (sym change.here) ∙ ap (λ q. (info_at new.pages q).tag) (sym z) ∙ e in
        rw (z, change.here) (pins ∙ f.counted page t tagged ∙ sym (pins_on-same old.maps new.maps t same))
    | inr n ↦ rw (change.others i n) (f.counted i t (rw (change.others i n) at e) ∙ sym (pins_on-same old.maps new.maps t same))
  ];
  kept = λ slot index t below p m.
      let was = pinned_before old new.maps slot index t same p m in
      let k = f.kept slot index t below was.pinned was.mapped in
      record { page = k.page; there = ap (λ (c : CacheView). page_of c t) cache ∙ k.there; uptodate = still k.page k.uptodate };
}
  where
    still : (i : ℕ) → (info_at old.pages i).uptodate ≡ true → (info_at new.pages i).uptodate ≡ true
    still i u = elim (cases_eq i page) [
      | inl z ↦ rw (z, change.here) (fresh (rw z at u))
      | inr n ↦ rw (change.others i n) u
    ]

-- ---- a page is freed, or gets a tag

-- what is pinned is a tag of the cache, and its slot is one
pinned-is_tag : (state : FlatState) (old : Parts) (slot index : ℕ) (tag : Tag) → SlotsFit state old → old.cache.slots ≡ MAX_MAPPING_SLOTS → tag_at old.maps slot index ≡ Some tag → IsTag old.cache tag
pinned-is_tag state old slot index tag slots sized mapped = shown-is_tag state old slot index tag slots sized (shows_at state old slot index tag slots mapped)

-- no pinned place maps the tag of a page without pins
pub never-pinned : (state : FlatState) (old : Parts) (page : ℕ) (tag : Tag) → PinsFit old → SlotsFit state old → (info_at old.pages page).tag ≡ Some tag → (info_at old.pages page).pins ≡ 0
    → (slot index : ℕ) → index < MAX_MAPPING_PAGES → pinned_at old.maps slot index ≡ true → tag_at old.maps slot index ≡ Some tag → ⊥
never-pinned state old page tag f slots tagged none slot index below pinned mapped =
    let its = shows_at state old slot index tag slots mapped in
    let some = pins_within-some old.maps tag (length old.maps.slots) MAX_MAPPING_PAGES slot index (slot-below old.maps slot its.mapping its.there) below pinned mapped in
    omega (arith, some, f.counted page tag tagged, none)

-- a page whose tag is pinned nowhere is free
pub PinsFit-freed : (state : FlatState) (old new : Parts) (page : ℕ) (tag : Tag) → PinsFit old → PagesFit old → SlotsFit state old → old.cache.slots ≡ MAX_MAPPING_SLOTS
    → (info_at old.pages page).tag ≡ Some tag → (info_at old.pages page).pins ≡ 0
    → InfoChange old.pages new.pages page free_info → IndexChange old.cache new.cache tag None → SamePlaces old.maps new.maps → PinsFit new
PinsFit-freed state old new page tag f pages slots sized tagged none change index same = record {
  counted = λ i t e. elim (cases_eq i page) [
    | inl z ↦ let bad : None ≡ Some t = ap (λ (x : PageInfo). x.tag) (sym change.here) ∙ ap (λ q. (info_at new.pages q).tag) (sym z) ∙ e in absurd cc
    | inr n ↦ rw (change.others i n) (f.counted i t (rw (change.others i n) at e) ∙ sym (pins_on-same old.maps new.maps t same))
  ];
  kept = λ s i t below p m.
      let was = pinned_before old new.maps s i t same p m in
      let k = f.kept s i t below was.pinned was.mapped in
      let is = pinned-is_tag state old s i t slots sized was.mapped in
      let other : t ≢ tag = λ z. never-pinned state old page tag f slots tagged none s i below was.pinned (was.mapped ∙ ap Some z) in
      let apart : k.page ≢ page = λ z. other (let both : Some t ≡ Some tag = sym (pages.found k.page t is k.there).1 ∙ ap (λ q. (info_at old.pages q).tag) z ∙ tagged in cc) in
      record { page = k.page; there = index.others t is other ∙ k.there; uptodate = rw (change.others k.page apart) k.uptodate };
}

-- a free page has a tag that is on no page
pub PinsFit-begun : (state : FlatState) (old new : Parts) (page : ℕ) (tag : Tag) (info : PageInfo) → PinsFit old → PagesFit old → SlotsFit state old
    → old.cache.slots ≡ MAX_MAPPING_SLOTS → info_at old.pages page ≡ free_info
    → page_of old.cache tag ≡ None
    → info.tag ≡ Some tag → info.pins ≡ 0 → InfoChange old.pages new.pages page info → IndexChange old.cache new.cache tag (Some page) → SamePlaces old.maps new.maps → PinsFit new
PinsFit-begun state old new page tag info f pages slots sized bare none tagged pins change index same = record {
  counted = λ i t e. elim (cases_eq i page) [
    | inl z ↦
        let both : Some tag ≡ Some t = sym tagged ∙ ap (λ (x : PageInfo). x.tag) (sym change.here) ∙ ap (λ q. (info_at new.pages q).tag) (sym z) ∙ e in
        let one : tag ≡ t = cc in
        rw (z, change.here) (pins ∙ sym (ap (pins_on new.maps) (sym one) ∙ pins_on-same old.maps new.maps tag same ∙ pins_within-none old.maps tag (length old.maps.slots) MAX_MAPPING_PAGES nowhere))
    | inr n ↦ rw (change.others i n) (f.counted i t (rw (change.others i n) at e) ∙ sym (pins_on-same old.maps new.maps t same))
  ];
  kept = λ s i t below p m.
      let was = pinned_before old new.maps s i t same p m in
      let k = f.kept s i t below was.pinned was.mapped in
      let is = pinned-is_tag state old s i t slots sized was.mapped in
      let other : t ≢ tag = λ z. nowhere s i below was.pinned (was.mapped ∙ ap Some z) in
      let apart : k.page ≢ page = λ z. (let bad : false ≡ true = ap (λ (x : PageInfo). x.uptodate) (sym bare) ∙ ap (λ q. (info_at old.pages q).uptodate) (sym z) ∙ k.uptodate in cc) in
      record { page = k.page; there = index.others t is other ∙ k.there; uptodate = rw (change.others k.page apart) k.uptodate };
}
  where
    nowhere : (s i : ℕ) → i < MAX_MAPPING_PAGES → pinned_at old.maps s i ≡ true → tag_at old.maps s i ≡ Some tag → ⊥
    nowhere s i below p m =
        let k = f.kept s i tag below p m in
        let bad : None ≡ Some k.page = sym none ∙ k.there in cc

-- ---- a place is pinned or unpinned

-- the place maps the tag of a page that is up to date, and it wasn't pinned, or was
pub record PinStep (old new : Parts) (page slot index : ℕ) (pins : Bool) (tag : Tag) (info : PageInfo) : Type 0 where
  pub maps : PinChange old.maps new.maps slot index pins
  pub cache : new.cache ≡ old.cache
  pub change : InfoChange old.pages new.pages page info
  pub count : info.pins ≡ pins_after pins (info_at old.pages page).pins
  pub tags : info.tag ≡ (info_at old.pages page).tag
  pub fresh : info.uptodate ≡ true
  pub tagged : (info_at old.pages page).tag ≡ Some tag
  pub uptodate : (info_at old.pages page).uptodate ≡ true
  pub mapped : tag_at old.maps slot index ≡ Some tag
  pub slot_below : slot < length old.maps.slots
  pub index_below : index < MAX_MAPPING_PAGES
  pub was : pinned_at old.maps slot index ≡ not pins

abbrev if_pins : Bool → ℕ → ℕ → ℕ
if_pins true a b = a
if_pins false a b = b

if_not : (pins : Bool) → if_pins (not pins) 1 0 ≡ if_pins pins 0 1
if_not true = refl
if_not false = refl

counted-after : (pins : Bool) (old new here was : ℕ) → here ≡ (if_pins pins 1 0) → was ≡ (if_pins pins 0 1) → ((a b : ℕ) → here + a ≡ was + b → new + a ≡ old + b) → pins_after pins old ≡ new
counted-after true old new here was h w each = let k = each 0 1 (omega (arith, h, w)) in omega (arith, k)
counted-after false old new here was h w each = let k = each 1 0 (omega (arith, h, w)) in omega (arith, k)

pub PinsFit-pinned : (old new : Parts) (page slot index : ℕ) (pins : Bool) (tag : Tag) (info : PageInfo) → PinsFit old → PagesFit old → PinStep old new page slot index pins tag info
    → PinsFit new
PinsFit-pinned old new page slot index pins tag info f pages k = record {
  counted = λ i t e. elim (cases_eq i page) [
    | inl z ↦
        let both : Some tag ≡ Some t = sym (k.tags ∙ k.tagged) ∙ ap (λ (x : PageInfo). x.tag) (sym k.change.here) ∙ ap (λ q. (info_at new.pages q).tag) (sym z) ∙ e in
        let one : tag ≡ t = cc in
        rw (z, k.change.here) (k.count ∙ ap (pins_after pins) (f.counted page tag k.tagged) ∙ more ∙ ap (pins_on new.maps) one)
    | inr n ↦
        let tagged : (info_at old.pages i).tag ≡ Some t = rw (k.change.others i n) at e in
        let other : t ≢ tag = λ z. n (let two : Some i ≡ Some page = sym (pages.indexed i t tagged).1 ∙ ap (page_of old.cache) z ∙ (pages.indexed page tag k.tagged).1 in cc) in
        rw (k.change.others i n) (f.counted i t tagged ∙ sym (elsewhere t other))
  ];
  kept = λ s i t below p m. elim (cases_eq s slot) [
    | inl z ↦ elim (cases_eq i index) [
      | inl y ↦
          let both : Some tag ≡ Some t = sym k.mapped ∙ (λ q. tag_at old.maps (sym z q) (sym y q)) ∙ sym (maps_same s i) ∙ m in
          let one : tag ≡ t = cc in
          record { page = page; there = ap (λ (c : CacheView). page_of c t) k.cache ∙ ap (page_of old.cache) (sym one) ∙ (pages.indexed page tag k.tagged).1; uptodate = rw k.change.here k.fresh }
      | inr n ↦ left s i t below (λ q r. n r) p m
    ]
    | inr n ↦ left s i t below (λ q r. n q) p m
  ];
}
  where
    maps_same : (s i : ℕ) → tag_at new.maps s i ≡ tag_at old.maps s i
    maps_same s i = tag-same old.maps new.maps s i k.maps.slots

    count_same : (t : Tag) → pins_on new.maps t ≡ pins_within new.maps t (length old.maps.slots) MAX_MAPPING_PAGES
    count_same t = ap (λ xs. pins_within new.maps t (length xs) MAX_MAPPING_PAGES) k.maps.slots

    same : (t : Tag) (s i : ℕ) → i < MAX_MAPPING_PAGES → (s ≡ slot → i ≡ index → ⊥) → pin_on new.maps t s i ≡ pin_on old.maps t s i
    same t s i below apart = pin_on-same old.maps new.maps t s i (k.maps.others s i below apart) (maps_same s i)

    -- the place counts once where it is pinned
    here : (m : MapsView) (b : Bool) → pinned_at m slot index ≡ b → tag_at m slot index ≡ Some tag → pin_on m tag slot index ≡ if_pins b 1 0
    here m true pinned mapped = pin_on-one m tag slot index pinned mapped
    here m false unpinned mapped = pin_on-none m tag slot index (λ pinned _. let bad : false ≡ true = sym unpinned ∙ pinned in cc)

    more : pins_after pins (pins_on old.maps tag) ≡ pins_on new.maps tag
    more =
        counted-after pins (pins_on old.maps tag) (pins_within new.maps tag (length old.maps.slots) MAX_MAPPING_PAGES) (pin_on new.maps tag slot index) (pin_on old.maps tag slot index)
        (here new.maps pins k.maps.here (maps_same slot index ∙ k.mapped)) (here old.maps (not pins) k.was k.mapped ∙ if_not pins)
        (λ a b e. pins_within-one old.maps new.maps tag (length old.maps.slots) MAX_MAPPING_PAGES slot index a b k.slot_below k.index_below (same tag) e)
        ∙ sym (count_same tag)

    -- it maps no other tag
    elsewhere : (t : Tag) → t ≢ tag → pins_on new.maps t ≡ pins_on old.maps t
    elsewhere t other = count_same t ∙ pins_within-same old.maps new.maps t (length old.maps.slots) MAX_MAPPING_PAGES each
      where
        none : (m : MapsView) → tag_at m slot index ≡ Some tag → pin_on m t slot index ≡ 0
        none m mapped = pin_on-none m t slot index (λ _ is. other (let both : Some t ≡ Some tag = sym is ∙ mapped in cc))

        each : (s i : ℕ) → s < length old.maps.slots → i < MAX_MAPPING_PAGES → pin_on new.maps t s i ≡ pin_on old.maps t s i
        each s i lt below = elim (cases_eq s slot) [
          | inl z ↦ elim (cases_eq i index) [
            | inl y ↦ rw (z, y) (none new.maps (maps_same slot index ∙ k.mapped) ∙ sym (none old.maps k.mapped))
            | inr n ↦ same t s i below (λ q r. n r)
          ]
          | inr n ↦ same t s i below (λ q r. n q)
        ]

    left : (s i : ℕ) (t : Tag) → i < MAX_MAPPING_PAGES → (s ≡ slot → i ≡ index → ⊥) → pinned_at new.maps s i ≡ true → tag_at new.maps s i ≡ Some t → IsKept new t
    left s i t below apart p m =
        let was = f.kept s i t below (sym (k.maps.others s i below apart) ∙ p) (sym (maps_same s i) ∙ m) in
        record { page = was.page; there = ap (λ (c : CacheView). page_of c t) k.cache ∙ was.there; uptodate = still was.page was.uptodate }
      where
        still : (i : ℕ) → (info_at old.pages i).uptodate ≡ true → (info_at new.pages i).uptodate ≡ true
        still i u = elim (cases_eq i page) [
          | inl z ↦ rw (z, k.change.here) k.fresh
          | inr n ↦ rw (k.change.others i n) u
        ]

-- ---- a file is mapped

-- a slot that was free has a mapping, of which no page is pinned
pub PinsFit-new : (state : FlatState) (old new : Parts) (slot process number count : ℕ) (shown : Shown) → PinsFit old → SlotsFit state old → slot_at old.maps slot ≡ None
    → new ≡ record old { maps = with_slot_mapped old.maps slot process number shown count } → PinsFit new
unfolding with_slot_mapped with_slot
PinsFit-new state old new slot process number count shown f slots free is = rw is (record {
  counted = λ page tag e. f.counted page tag e ∙ sym (ap (λ n. pins_within now tag n MAX_MAPPING_PAGES) (length-with_mapping old.maps slot process number shown count)
      ∙ pins_within-same old.maps now tag (length old.maps.slots) MAX_MAPPING_PAGES (λ s i _ below. each tag s i below));
  kept = λ s i tag below p m.
      let n = apart s i below p in
      let k = f.kept s i tag below p (sym (ap (λ o. tag_in o s i) (slot_at-with_mapping_other old.maps slot s process number shown count n)) ∙ m) in
      record { page = k.page; there = k.there; uptodate = k.uptodate };
})
  where
    now : MapsView
    now = with_slot_mapped old.maps slot process number shown count

    apart : (s i : ℕ) → i < MAX_MAPPING_PAGES → pinned_at old.maps s i ≡ true → s ≢ slot
    apart s i below p z =
        let place : IsPlace old.maps s i = slots.placed s i below p in
        let bad : false ≡ true = ap (λ o. slot_has_page o i) (sym free) ∙ ap (λ q. slot_has_page (slot_at old.maps q) i) (sym z) ∙ place in cc

    each : (tag : Tag) (s i : ℕ) → i < MAX_MAPPING_PAGES → pin_on now tag s i ≡ pin_on old.maps tag s i
    each tag s i below = elim (cases_eq s slot) [
      | inl z ↦ pin_on-none now tag s i (λ p _. apart s i below p z) ∙ sym (pin_on-none old.maps tag s i (λ p _. apart s i below p z))
      | inr n ↦ pin_on-same old.maps now tag s i refl (ap (λ o. tag_in o s i) (slot_at-with_mapping_other old.maps slot s process number shown count n))
    ]

-- ---- a mapping ends

-- what its places map, and which are pinned, stays
pub PinsFit-torn : (old : Parts) (slot : ℕ) → PinsFit old → slot < length old.maps.slots → PinsFit (record old { maps = torn_slot old.maps slot })
PinsFit-torn old slot f within = record {
  counted = λ page tag e. f.counted page tag e ∙ sym (ap (λ n. pins_within now tag n MAX_MAPPING_PAGES) (length-torn_slot old.maps slot)
      ∙ pins_within-same old.maps now tag (length old.maps.slots) MAX_MAPPING_PAGES (λ s i _ _. pin_on-same old.maps now tag s i (pins s i) (tag_at-torn_slot old.maps slot s i within)));
  kept = λ s i tag below p m.
      let k = f.kept s i tag below (sym (pins s i) ∙ p) (sym (tag_at-torn_slot old.maps slot s i within) ∙ m) in record { page = k.page; there = k.there; uptodate = k.uptodate };
}
  where
    now : MapsView
    now = torn_slot old.maps slot

    pins : (s i : ℕ) → pinned_at now s i ≡ pinned_at old.maps s i
    pins s i = ap (λ xs. slice_index_or xs (place_at s i) false) (pinned-torn_slot old.maps slot)

-- its slot is free, where none of its pages is pinned
pub PinsFit-freed_slot : (old : Parts) (slot : ℕ) → PinsFit old → ((index : ℕ) → index < MAX_MAPPING_PAGES → pinned_at old.maps slot index ≡ false)
    → PinsFit (record old { maps = freed_slot old.maps slot })
PinsFit-freed_slot old slot f unpinned = record {
  counted = λ page tag e. f.counted page tag e ∙ sym (ap (λ n. pins_within now tag n MAX_MAPPING_PAGES) (length-freed_slot old.maps slot)
      ∙ pins_within-same old.maps now tag (length old.maps.slots) MAX_MAPPING_PAGES (λ s i _ below. each tag s i below));
  kept = λ s i tag below p m.
      let was : pinned_at old.maps s i ≡ true = sym (pins s i) ∙ p in
      let k = f.kept s i tag below was (sym (ap (λ o. tag_in o s i) (slot_at-freed_slot_other old.maps slot s (apart s i below was))) ∙ m) in
      record { page = k.page; there = k.there; uptodate = k.uptodate };
}
  where
    now : MapsView
    now = freed_slot old.maps slot

    pins : (s i : ℕ) → pinned_at now s i ≡ pinned_at old.maps s i
    pins s i = ap (λ xs. slice_index_or xs (place_at s i) false) (pinned-freed_slot old.maps slot)

    apart : (s i : ℕ) → i < MAX_MAPPING_PAGES → pinned_at old.maps s i ≡ true → s ≢ slot
    apart s i below p z = let bad : false ≡ true = sym (unpinned i below) ∙ ap (λ x. pinned_at old.maps x i) (sym z) ∙ p in cc

    each : (tag : Tag) (s i : ℕ) → i < MAX_MAPPING_PAGES → pin_on now tag s i ≡ pin_on old.maps tag s i
    each tag s i below = elim (cases_eq s slot) [
      | inl z ↦
          pin_on-none now tag s i (λ p _. apart s i below (sym (pins s i) ∙ p) z)
          ∙ sym (pin_on-none old.maps tag s i (λ p _. apart s i below p z))
      | inr n ↦ pin_on-same old.maps now tag s i (pins s i) (ap (λ o. tag_in o s i) (slot_at-freed_slot_other old.maps slot s n))
    ]
