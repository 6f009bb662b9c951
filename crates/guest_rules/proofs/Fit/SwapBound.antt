-- Where a guest has no page for a command, the pages that can be written nowhere and the swap slots are together at most the pages of mappings of
-- their own: of those that are live, and of those that unmaps have ended whose pages are still being taken off. For each has the tag of such a
-- page, and no two have one tag.
use Rattle.std.proofs.Common.{◌≡◌, ◌≢◌, ◌<◌, ◌≤◌, ◌+◌, ◌-◌, ◌&&◌, not, nat_lt, ℕ, zero, suc, Bool, true, false, length, Option, Some, None, is_none, refl, ap, sym, ◌∙◌, inl, inr, subst, arith}
use Rattle.std.proofs.lemmas.Bool.{cases_eq, ltb-true, lt-ltb}
use Rattle.std.specs.FinMap.{get}
use Rattle.std.specs.List.{sum_by}
use Rattle.std.proofs.lemmas.List.Sums.{count_by-le-length}
use Rattle.std.proofs.lemmas.Bool.Decides.{nat_tests}
use Rattle.std.proofs.lemmas.Option.{same_Some}
use Rattle.cmm_types.specs.declared.command.TheConstants.{MAX_MAPPING_PAGES}
use Rattle.cmm_types.specs.declared.page.Tag.{Tag}
use Rattle.cmm_types.specs.declared.page.Tag.TheVariants.{File, Anon}
use Rattle.cmm_flat.specs.declared.mapping.Mapping.{Mapping}
use Rattle.cmm_flat.specs.declared.mapping.MappingKey.{MappingKey}
use Rattle.cmm_flat.specs.State.{FlatState}
use Rattle.cmm_flat.specs.Legal.{HasNoPage, Progress, at_start, progress_of, flat_of, start_of, anonymous_pages, over_live}
use Rattle.cmm_flat.specs.Laws.LegalLaws.{length-cpus, length-start}
use Rattle.cmm_io.specs.DiskView.{DiskView}
use Rattle.cmm_storage.specs.StorageView.{StorageView}
use Rattle.guest_pages.specs.PagesView.{info_at, free_info}
use Rattle.guest_cache.specs.CacheView.{CacheView, holds_page, swap_slot}
use Rattle.guest_cache.specs.Laws.CacheLaws.{holds-itself}
use Rattle.guest_maps.specs.FirstPlace.{none_within}
use Rattle.guest_maps.specs.declared.slot.Slot.{Slot}
use Rattle.guest_maps.specs.declared.slot.Shown.{Shown}
use Rattle.guest_maps.specs.declared.slot.Shown.TheVariants.{File as OfFile, Anon as OfItsOwn}
use Rattle.guest_maps.specs.MapsView.{MapsView, slot_at}
use Rattle.guest_rules.specs.declared.parts.Parts.{Parts}
use Rattle.guest_rules.specs.GuestState.{GuestState, processor_at}
use Rattle.guest_rules.specs.MakeRoom.{is_pinned, pinned_count}
use Rattle.guest_rules.specs.Stuck.{IsStuck, IsUnslotted}
use Rattle.cmm_types.specs.Sums.{sum_below, one_if}
use Rattle.cmm_types.specs.Laws.SumLaws.{sum_below-add}
use Rattle.guest_rules.specs.Fit.{SlotsFit, Fit, IsOwnPage, IsUsedTag, own_pages}
use Rattle.guest_rules.proofs.Cases.Reached.{tears_slot, tears_slot-is, one_slot}
use Rattle.guest_rules.proofs.Kept.PinLaws.{sum_below-at, sum_below-same}
use Rattle.guest_rules.proofs.Kept.SlotsKept.{slot-below}
use Rattle.guest_rules.proofs.Kept.SwapLaws.{swap_tag, holds-is, swap_slot-nowhere}
use Rattle.guest_rules.proofs.Kept.FlatTags.{finds, flat_mapped, mapped-pages}
use Rattle.guest_rules.proofs.Kept.Sums.{sum_below-mono, sum_below-swap, sum_below-single, count_below, sum_below-list, some_below, at_most, at_most-then}
use Rattle.guest_rules.proofs.Fit.FitEntered.{walk_at}
use Rattle.guest_rules.proofs.Fit.PinnedBound.{slot_key, sum_within, pinned_places, pinned_rows}

-- ---- sums

-- of two opposite tests one holds
both_counted : (p : ℕ → Bool) (count : ℕ) → sum_below (λ i. one_if (p i)) count + sum_below (λ i. one_if (not (p i))) count ≡ count
both_counted p zero = refl
both_counted p (suc count) = omega (arith, both_counted p count, one (p count))
  where
    one : (b : Bool) → one_if b + one_if (not b) ≡ 1
    one true = refl
    one false = refl

-- so many numbers are below a number
below_row : (most count : ℕ) → (sum_below (λ i. one_if (nat_lt i most)) count ≤ most) × (sum_below (λ i. one_if (nat_lt i most)) count ≤ count)
below_row most zero = (omega arith, omega arith)
below_row most (suc count) = of (below_row most count) (nat_lt count most) refl
  where
    of : (sum_below (λ i. one_if (nat_lt i most)) count ≤ most) × (sum_below (λ i. one_if (nat_lt i most)) count ≤ count) → (b : Bool) → nat_lt count most ≡ b
        → (sum_below (λ i. one_if (nat_lt i most)) count + one_if (nat_lt count most) ≤ most) × (sum_below (λ i. one_if (nat_lt i most)) count + one_if (nat_lt count most) ≤ suc count)
    of rest true e =
        let one : one_if (nat_lt count most) ≡ 1 = ap one_if e in
        let less : count < most = ltb-true count most e in
        (omega (arith, rest.1, one, less), omega (arith, rest.1, one))
    of rest false e =
        let none : one_if (nat_lt count most) ≡ 0 = ap one_if e in
        (omega (arith, rest.0, none), omega (arith, rest.1, none))

-- a number at a place of two is at most the sum over all places
at_place : (f : ℕ → ℕ → ℕ) (row column rows columns : ℕ) → row < rows → column < columns → f row column ≤ sum_below (λ i. sum_below (f i) columns) rows
at_place f row column rows columns lt below =
    at_most-then (sum_below-at (f row) column columns below) (sum_below-at (λ i. sum_below (f i) columns) row rows lt)

-- ---- what has the tag of a page of a mapping

-- one where a page that isn't pinned has the tag
abbrev page_has : Parts → (page slot index : ℕ) → ℕ
page_has parts page slot index = one_if (not (is_pinned (info_at parts.pages page)) && holds_page slot index (info_at parts.pages page).tag)

-- one where a swap slot is assigned to the tag
abbrev slot_has : CacheView → (number slot index : ℕ) → ℕ
slot_has cache number slot index = one_if (holds_page slot index (swap_tag cache number))

true_of : (a b : Bool) → one_if (a && b) ≢ 0 → (a ≡ true) × (b ≡ true)
true_of true true some = (refl, refl)
true_of true false some = absurd (some refl)
true_of false b some = absurd (some refl)

true_one : (b : Bool) → one_if b ≢ 0 → b ≡ true
true_one true some = refl
true_one false some = absurd (some refl)

one_most : (b : Bool) → one_if b ≤ 1
one_most true = omega arith
one_most false = omega arith

not_true : (b : Bool) → not b ≡ true → b ≡ false
not_true true e = let bad : false ≡ true = e in absurd cc
not_true false e = refl

unpinned : (parts : Parts) (page : ℕ) → is_pinned (info_at parts.pages page) ≡ false → (info_at parts.pages page).pins ≢ 0 → ⊥
unpinned parts page e some = absurd (grind (arith, nat_tests))

-- a page that isn't pinned can be written nowhere
page_unslotted : (parts : Parts) (page : ℕ) → IsStuck parts → page < length parts.pages.infos → is_pinned (info_at parts.pages page) ≡ false → IsUnslotted parts page
page_unslotted parts page stuck below e = elim (stuck.fast page below) [
  | inl pinned ↦ absurd (unpinned parts page e pinned)
  | inr u ↦ u
]

-- the place of a page of a mapping of its own
record IsOwnPlace (maps : MapsView) (slot index : ℕ) : Type 0 where
  slot_below : slot < length maps.slots
  index_below : index < MAX_MAPPING_PAGES
  within : index < own_pages (slot_at maps slot)

own_place : (state : FlatState) (parts : Parts) (slot index : ℕ) → SlotsFit state parts → IsUsedTag parts.maps (Anon slot index) → IsOwnPlace parts.maps slot index
own_place state parts slot index f is = of (slot_at parts.maps slot) refl is
  where
    of : (o : Option Slot) → slot_at parts.maps slot ≡ o → IsOwnPage o index → IsOwnPlace parts.maps slot index
    of None at own = absurd own
    of (Some mapping) at own = record {
      slot_below = slot-below parts.maps slot mapping at;
      index_below = omega (arith, own.1, (f.shown slot mapping at).0);
      within = subst (λ (n : ℕ). index < n) (sym (ap own_pages at ∙ pages mapping.shown mapping.count own.0)) own.1;
    }
      where
        pages : (shown : Shown) (count : ℕ) → shown ≡ OfItsOwn → own_pages (Some (record mapping { shown = shown; count = count })) ≡ count
        pages (OfFile file first writable) count e = absurd (cc e)
        pages OfItsOwn count e = refl

-- g the guest, v its storage, d its disk
module _ (g : GuestState) (v : StorageView) (d : DiskView) where
  -- at most one has the tag, and then it is a page of a mapping of its own
  one_has : (slot index : ℕ) → Fit g v d → IsStuck g.parts
      → sum_below (λ page. page_has g.parts page slot index) (length g.parts.pages.infos) + sum_below (λ number. slot_has g.parts.cache number slot index) (length g.parts.cache.swap)
      ≤ one_if (nat_lt index (own_pages (slot_at g.parts.maps slot)))
  one_has slot index f stuck = elim (cases_eq pages 0) [
    | inl no_page ↦ elim (cases_eq swaps 0) [
      | inl no_slot ↦ omega (arith, no_page, no_slot)
      | inr some ↦ omega (arith, no_page, swaps_most, place_of_swap (some_swap some))
    ]
    | inr some ↦ elim (cases_eq swaps 0) [
      | inl no_slot ↦ omega (arith, no_slot, pages_most, place_of_page (some_page some))
      | inr more ↦ absurd (never (some_page some) (some_swap more))
    ]
  ]
    where
      pages : ℕ
      pages = sum_below (λ page. page_has g.parts page slot index) (length g.parts.pages.infos)

      swaps : ℕ
      swaps = sum_below (λ number. slot_has g.parts.cache number slot index) (length g.parts.cache.swap)

      tagged : (page : ℕ) → page_has g.parts page slot index ≢ 0 → (is_pinned (info_at g.parts.pages page) ≡ false) × ((info_at g.parts.pages page).tag ≡ Some (Anon slot index))
      tagged page some =
          let both = true_of (not (is_pinned (info_at g.parts.pages page))) (holds_page slot index (info_at g.parts.pages page).tag) some in
          (not_true (is_pinned (info_at g.parts.pages page)) both.0, holds-is slot index (info_at g.parts.pages page).tag both.1)

      held : (number : ℕ) → slot_has g.parts.cache number slot index ≢ 0 → swap_tag g.parts.cache number ≡ Some (Anon slot index)
      held number some = holds-is slot index (swap_tag g.parts.cache number) (true_one (holds_page slot index (swap_tag g.parts.cache number)) some)

      same_page : (p q : ℕ) → (info_at g.parts.pages p).tag ≡ Some (Anon slot index) → (info_at g.parts.pages q).tag ≡ Some (Anon slot index) → p ≡ q
      same_page p q a b = let both : Some p ≡ Some q = sym (f.pages.indexed p (Anon slot index) a).1 ∙ (f.pages.indexed q (Anon slot index) b).1 in cc

      pages_most : pages ≤ 1
      pages_most =
          sum_below-single (λ page. page_has g.parts page slot index) 1 (length g.parts.pages.infos)
          (λ page h. one_most (not (is_pinned (info_at g.parts.pages page)) && holds_page slot index (info_at g.parts.pages page).tag))
          (λ p q hp hq a b. same_page p q (tagged p a).1 (tagged q b).1)

      swaps_most : swaps ≤ 1
      swaps_most =
          sum_below-single (λ number. slot_has g.parts.cache number slot index) 1 (length g.parts.cache.swap) (λ number h. one_most (holds_page slot index (swap_tag g.parts.cache number)))
          (λ p q hp hq a b. f.tags.distinct p q (Anon slot index) (held p a) (held q b))

      some_page : pages ≢ 0 → (page : ℕ) × (page < length g.parts.pages.infos) × (page_has g.parts page slot index ≢ 0)
      some_page some = some_below (λ page. page_has g.parts page slot index) (length g.parts.pages.infos) some

      some_swap : swaps ≢ 0 → (number : ℕ) × (number < length g.parts.cache.swap) × (slot_has g.parts.cache number slot index ≢ 0)
      some_swap some = some_below (λ number. slot_has g.parts.cache number slot index) (length g.parts.cache.swap) some

      place : IsUsedTag g.parts.maps (Anon slot index) → 1 ≤ one_if (nat_lt index (own_pages (slot_at g.parts.maps slot)))
      place is =
          let k = own_place (flat_of g.plan g.journal) g.parts slot index f.slots is in
          at_most (sym (ap one_if (lt-ltb index (own_pages (slot_at g.parts.maps slot)) k.within)))

      place_of_page : (page : ℕ) × (page < length g.parts.pages.infos) × (page_has g.parts page slot index ≢ 0) → 1 ≤ one_if (nat_lt index (own_pages (slot_at g.parts.maps slot)))
      place_of_page (page, below, some) = place (f.tags.pages page (Anon slot index) (tagged page some).1)

      place_of_swap : (number : ℕ) × (number < length g.parts.cache.swap) × (slot_has g.parts.cache number slot index ≢ 0) → 1 ≤ one_if (nat_lt index (own_pages (slot_at g.parts.maps slot)))
      place_of_swap (number, below, some) = place (f.tags.swapped number (Anon slot index) (held number some)).1

      never : (page : ℕ) × (page < length g.parts.pages.infos) × (page_has g.parts page slot index ≢ 0)
          → (number : ℕ) × (number < length g.parts.cache.swap) × (slot_has g.parts.cache number slot index ≢ 0) → ⊥
      never (page, below, some) (number, lt, more) =
          let its = tagged page some in
          let u = page_unslotted g.parts page stuck below its.0 in
          let both : Some (Anon u.slot u.index) ≡ Some (Anon slot index) = sym u.tagged ∙ its.1 in
          let slots : u.slot ≡ slot = cc in
          let indexes : u.index ≡ index = cc in
          swap_slot-nowhere g.parts.cache slot index number ((λ i. swap_slot g.parts.cache (Anon (sym slots i) (sym indexes i))) ∙ u.none) (held number more)

  -- ---- all of them together

  -- in the row of a slot
  row_has : (slot : ℕ) → Fit g v d → IsStuck g.parts
      → sum_below (λ page. sum_below (page_has g.parts page slot) MAX_MAPPING_PAGES) (length g.parts.pages.infos)
      + sum_below (λ number. sum_below (slot_has g.parts.cache number slot) MAX_MAPPING_PAGES) (length g.parts.cache.swap) ≤ own_pages (slot_at g.parts.maps slot)
  row_has slot f stuck =
      let by_page = sum_below-swap (λ page index. page_has g.parts page slot index) (length g.parts.pages.infos) MAX_MAPPING_PAGES in
      let by_swap = sum_below-swap (λ number index. slot_has g.parts.cache number slot index) (length g.parts.cache.swap) MAX_MAPPING_PAGES in
      let together = sum_below-add (λ index. sum_below (λ page. page_has g.parts page slot index) (length g.parts.pages.infos))
      (λ index. sum_below (λ number. slot_has g.parts.cache number slot index) (length g.parts.cache.swap)) MAX_MAPPING_PAGES in
      let each = sum_below-mono (λ index. sum_below (λ page. page_has g.parts page slot index) (length g.parts.pages.infos)
      + sum_below (λ number. slot_has g.parts.cache number slot index) (length g.parts.cache.swap)) (λ index. one_if (nat_lt index (own_pages (slot_at g.parts.maps slot)))) MAX_MAPPING_PAGES
      (λ index h. one_has slot index f stuck) in
      joined _ _ _ _ _ _ _ by_page by_swap together each (below_row (own_pages (slot_at g.parts.maps slot)) MAX_MAPPING_PAGES).0
    where
      joined : (a b c e both rows most : ℕ) → a ≡ c → b ≡ e → both ≡ c + e → both ≤ rows → rows ≤ most → a + b ≤ most
      joined a b c e both rows most x y z u w = omega (arith, x, y, z, u, w)

  page_counts : (page : ℕ) → Fit g v d → IsStuck g.parts → page < length g.parts.pages.infos
      → one_if (not (is_pinned (info_at g.parts.pages page))) ≤ sum_below (λ slot. sum_below (page_has g.parts page slot) MAX_MAPPING_PAGES) (length g.parts.maps.slots)
  page_counts page f stuck below = of (is_pinned (info_at g.parts.pages page)) refl
    where
      of : (b : Bool) → is_pinned (info_at g.parts.pages page) ≡ b
          → one_if (not (is_pinned (info_at g.parts.pages page))) ≤ sum_below (λ slot. sum_below (page_has g.parts page slot) MAX_MAPPING_PAGES) (length g.parts.maps.slots)
      of true e = let none : one_if (not (is_pinned (info_at g.parts.pages page))) ≡ 0 = ap (λ b. one_if (not b)) e in omega (arith, none)
      of false e =
          let u = page_unslotted g.parts page stuck below e in
          let k = own_place (flat_of g.plan g.journal) g.parts u.slot u.index f.slots (f.tags.pages page (Anon u.slot u.index) u.tagged) in
          let has : page_has g.parts page u.slot u.index ≡ 1 =
          ap (λ b. one_if (not b && holds_page u.slot u.index (info_at g.parts.pages page).tag)) e
          ∙ ap (λ o. one_if (holds_page u.slot u.index o)) u.tagged ∙ ap one_if (holds-itself u.slot u.index) in
          at_most-then (at_most-then (one_most (not (is_pinned (info_at g.parts.pages page)))) (at_most (sym has)))
          (at_place (λ slot index. page_has g.parts page slot index) u.slot u.index (length g.parts.maps.slots) MAX_MAPPING_PAGES k.slot_below k.index_below)

  swap_counts : (number : ℕ) → Fit g v d → is_none (swap_tag g.parts.cache number) ≡ false
      → 1 ≤ sum_below (λ slot. sum_below (slot_has g.parts.cache number slot) MAX_MAPPING_PAGES) (length g.parts.maps.slots)
  swap_counts number f assigned = of (swap_tag g.parts.cache number) refl
    where
      of : (o : Option Tag) → swap_tag g.parts.cache number ≡ o → 1 ≤ sum_below (λ slot. sum_below (slot_has g.parts.cache number slot) MAX_MAPPING_PAGES) (length g.parts.maps.slots)
      of None e = let bad : true ≡ false = ap (λ (o : Option Tag). is_none o) (sym e) ∙ assigned in absurd cc
      of (Some (File file index)) e = absurd (f.tags.swapped number (File file index) e).0
      of (Some (Anon slot index)) e =
          let k = own_place (flat_of g.plan g.journal) g.parts slot index f.slots (f.tags.swapped number (Anon slot index) e).1 in
          let has : slot_has g.parts.cache number slot index ≡ 1 = ap (λ o. one_if (holds_page slot index o)) e ∙ ap one_if (holds-itself slot index) in
          at_most-then (at_most (sym has)) (at_place (λ s i. slot_has g.parts.cache number s i) slot index (length g.parts.maps.slots) MAX_MAPPING_PAGES k.slot_below k.index_below)

  pub own_counted : Fit g v d → IsStuck g.parts → ((number : ℕ) → number < length g.parts.cache.swap → is_none (swap_tag g.parts.cache number) ≡ false)
      → length g.parts.pages.infos - pinned_count g.parts + length g.parts.cache.swap ≤ sum_below (λ slot. own_pages (slot_at g.parts.maps slot)) (length g.parts.maps.slots)
  own_counted f stuck assigned =
      let opposite = both_counted (λ page. is_pinned (info_at g.parts.pages page)) (length g.parts.pages.infos) in
      let pinned = count_below is_pinned free_info g.parts.pages.infos in
      let pages = sum_below-mono (λ page. one_if (not (is_pinned (info_at g.parts.pages page)))) (λ page. sum_below (λ slot. sum_below (page_has g.parts page slot) MAX_MAPPING_PAGES) slots)
      (length g.parts.pages.infos) (λ page h. page_counts page f stuck h) in
      let swaps = sum_below-mono (λ number. 1) (λ number. sum_below (λ slot. sum_below (slot_has g.parts.cache number slot) MAX_MAPPING_PAGES) slots) (length g.parts.cache.swap)
      (λ number h. swap_counts number f (assigned number h)) in
      let by_page = sum_below-swap (λ page slot. sum_below (page_has g.parts page slot) MAX_MAPPING_PAGES) (length g.parts.pages.infos) slots in
      let by_swap = sum_below-swap (λ number slot. sum_below (slot_has g.parts.cache number slot) MAX_MAPPING_PAGES) (length g.parts.cache.swap) slots in
      let together = sum_below-add (λ slot. sum_below (λ page. sum_below (page_has g.parts page slot) MAX_MAPPING_PAGES) (length g.parts.pages.infos))
      (λ slot. sum_below (λ number. sum_below (slot_has g.parts.cache number slot) MAX_MAPPING_PAGES) (length g.parts.cache.swap)) slots in
      let rows = sum_below-mono (λ slot. sum_below (λ page. sum_below (page_has g.parts page slot) MAX_MAPPING_PAGES) (length g.parts.pages.infos)
      + sum_below (λ number. sum_below (slot_has g.parts.cache number slot) MAX_MAPPING_PAGES) (length g.parts.cache.swap)) (λ slot. own_pages (slot_at g.parts.maps slot)) slots
      (λ slot h. row_has slot f stuck) in
      joined _ _ _ _ _ _ _ _ _ _ _ _ opposite pinned pages swaps (ones (length g.parts.cache.swap)) by_page by_swap together rows
    where
      slots : ℕ
      slots = length g.parts.maps.slots

      ones : (n : ℕ) → sum_below (λ i. 1) n ≡ n
      ones zero = refl
      ones (suc n) = omega (arith, ones n)

      joined : (count pins others pinned pages swap one swaps c e both rows : ℕ) → pins + others ≡ count → pinned ≡ pins → others ≤ pages → one ≤ swaps → one ≡ swap → pages ≡ c → swaps ≡ e
          → both ≡ c + e → both ≤ rows → count - pinned + swap ≤ rows
      joined count pins others pinned pages swap one swaps c e both rows a b x y z p q t u = omega (arith, a, b, x, y, z, p, q, t, u)

-- ---- and these are the flat machine's, and those that unmaps have ended

-- the pages of its own of a live mapping, and of one that is torn down
abbrev live_own : Option Slot → ℕ
live_own None = 0
live_own (Some mapping) = by mapping.live (own_pages (Some mapping))
  where
    by : Bool → ℕ → ℕ
    by true pages = pages
    by false pages = 0

abbrev torn_own : Option Slot → ℕ
torn_own None = 0
torn_own (Some mapping) = by mapping.live (own_pages (Some mapping))
  where
    by : Bool → ℕ → ℕ
    by true pages = 0
    by false pages = pages

either_own : (o : Option Slot) → own_pages o ≡ live_own o + torn_own o
either_own None = refl
either_own (Some mapping) = of mapping.live mapping.shown mapping.count mapping.process mapping.map
  where
    of : (live : Bool) (shown : Shown) (count process number : ℕ)
        → own_pages (Some (record { process = process; map = number; live = live; shown = shown; count = count }))
        ≡ live_own (Some (record { process = process; map = number; live = live; shown = shown; count = count }))
        + torn_own (Some (record { process = process; map = number; live = live; shown = shown; count = count }))
    of true (OfFile file first writable) count process number = refl
    of true OfItsOwn count process number = omega arith
    of false (OfFile file first writable) count process number = refl
    of false OfItsOwn count process number = omega arith

is_live_own : (mapping : Slot) → live_own (Some mapping) ≢ 0 → mapping.live ≡ true
is_live_own mapping some = of mapping.live refl
  where
    of : (b : Bool) → mapping.live ≡ b → mapping.live ≡ true
    of true e = e
    of false e = absurd (some (rw e refl))

live_is : (mapping : Slot) → mapping.live ≡ true → live_own (Some mapping) ≡ own_pages (Some mapping)
live_is mapping live = rw live refl

live_rows : (state : FlatState) (g : GuestState) → SlotsFit state g.parts → sum_below (λ slot. live_own (slot_at g.parts.maps slot)) (length g.parts.maps.slots) ≤ over_live anonymous_pages state
live_rows state g f =
    sum_within (λ slot. live_own (slot_at g.parts.maps slot)) (λ slot. slot_key (slot_at g.parts.maps slot)) anonymous_pages (length g.parts.maps.slots) state.mappings
    (λ slot below some. mapping_of slot (slot_at g.parts.maps slot) refl some)
    (λ slot other a b some more same. apart slot other (slot_at g.parts.maps slot) (slot_at g.parts.maps other) refl refl some more same)
  where
    mapping_of : (slot : ℕ) (o : Option Slot) → slot_at g.parts.maps slot ≡ o → live_own o ≢ 0 → (x : Mapping) × (get state.mappings (slot_key o) ≡ Some x) × (live_own o ≤ anonymous_pages x)
    mapping_of slot None at some = absurd (some refl)
    mapping_of slot (Some mapping) at some =
        let live = is_live_own mapping some in
        let k = flat_mapped state g.parts mapping.process mapping.map slot f (finds state g.parts slot mapping f at live) in
        let same : k.found.mapping ≡ mapping = same_Some k.found.mapping mapping (sym k.found.at ∙ at) in
        (k.its, k.there, at_most (live_is mapping live ∙ ap (λ (m : Slot). own_pages (Some m)) (sym same) ∙ sym (mapped-pages state g.parts mapping.process mapping.map slot k)))

    apart : (slot other : ℕ) (o p : Option Slot) → slot_at g.parts.maps slot ≡ o → slot_at g.parts.maps other ≡ p → live_own o ≢ 0 → live_own p ≢ 0 → slot_key o ≡ slot_key p → slot ≡ other
    apart slot other None p at there some more same = absurd (some refl)
    apart slot other (Some mapping) None at there some more same = absurd (more refl)
    apart slot other (Some mapping) (Some another) at there some more same =
        f.apart slot other mapping another at there (is_live_own mapping some) (is_live_own another more) (ap (λ (k : MappingKey). k.process) same) (ap (λ (k : MappingKey). k.map) same)

-- what a processor's last entry ended, if its unmap takes the pages off the slot
abbrev ends_at : GuestState → (cpu slot : ℕ) → ℕ
ends_at g cpu slot = by (tears_slot (processor_at g cpu).phase slot) (progress_of (walk_at g) cpu).ended
  where
    by : Bool → ℕ → ℕ
    by true pages = pages
    by false pages = 0

torn_rows : (g : GuestState) (v : StorageView) (d : DiskView) → Fit g v d
    → sum_below (λ slot. torn_own (slot_at g.parts.maps slot)) (length g.parts.maps.slots) ≤ sum_by (λ (cpu : Progress). cpu.ended) (walk_at g).cpus
torn_rows g v d f =
    let each = sum_below-mono (λ slot. torn_own (slot_at g.parts.maps slot)) (λ slot. sum_below (λ cpu. ends_at g cpu slot) count) slots (λ slot h. by_slot slot (slot_at g.parts.maps slot) refl) in
    let swapped = sum_below-swap (λ slot cpu. ends_at g cpu slot) slots count in
    let ones = sum_below-mono (λ cpu. sum_below (λ slot. ends_at g cpu slot) slots) (λ cpu. (progress_of (walk_at g) cpu).ended) count
    (λ cpu h. sum_below-single (λ slot. ends_at g cpu slot) (progress_of (walk_at g) cpu).ended slots (λ slot _. at_most_ended cpu slot)
    (λ a b _ _ x y. one_slot (processor_at g cpu).phase a b (tears cpu a x) (tears cpu b y))) in
    at_most-then each (at_most-then (at_most swapped) (at_most-then ones (at_most all)))
  where
    slots : ℕ
    slots = length g.parts.maps.slots

    count : ℕ
    count = length g.processors

    all : sum_below (λ cpu. (progress_of (walk_at g) cpu).ended) count ≡ sum_by (λ (cpu : Progress). cpu.ended) (walk_at g).cpus
    all =
        ap (sum_below (λ cpu. (progress_of (walk_at g) cpu).ended)) (f.sizes.processors ∙ sym (length-start g.plan) ∙ sym (length-cpus g.plan (start_of g.plan) g.journal))
        ∙ sym (sum_below-list (λ (cpu : Progress). cpu.ended) at_start (walk_at g).cpus)

    at_most_ended : (cpu slot : ℕ) → ends_at g cpu slot ≤ (progress_of (walk_at g) cpu).ended
    at_most_ended cpu slot = of (tears_slot (processor_at g cpu).phase slot) refl
      where
        of : (b : Bool) → tears_slot (processor_at g cpu).phase slot ≡ b → ends_at g cpu slot ≤ (progress_of (walk_at g) cpu).ended
        of true e = rw e (omega arith)
        of false e = rw e (omega arith)

    tears : (cpu slot : ℕ) → ends_at g cpu slot ≢ 0 → one_if (tears_slot (processor_at g cpu).phase slot) ≢ 0
    tears cpu slot some = of (tears_slot (processor_at g cpu).phase slot) refl
      where
        of : (b : Bool) → tears_slot (processor_at g cpu).phase slot ≡ b → one_if (tears_slot (processor_at g cpu).phase slot) ≢ 0
        of true e none = let bad : 1 ≡ 0 = ap one_if (sym e) ∙ none in absurd (omega (arith, bad))
        of false e none = some (rw e refl)

    by_slot : (slot : ℕ) (o : Option Slot) → slot_at g.parts.maps slot ≡ o → torn_own o ≤ sum_below (λ cpu. ends_at g cpu slot) count
    by_slot slot None at = omega arith
    by_slot slot (Some mapping) at = of mapping.live refl
      where
        of : (b : Bool) → mapping.live ≡ b → torn_own (Some mapping) ≤ sum_below (λ cpu. ends_at g cpu slot) count
        of true e = rw e (omega arith)
        of false e =
            let k = f.teardowns.torn slot mapping at e in
            let below = (f.teardowns.tearing k.0 slot k.1 k.2).cpu_below in
            let its : ends_at g k.0 slot ≡ (progress_of (walk_at g) k.0).ended = rw (tears_slot-is (processor_at g k.0).phase slot k.1 k.2) refl in
            let pages : torn_own (Some mapping) ≡ own_pages (Some mapping) = rw e refl in
            at_most-then (at_most (pages ∙ ap own_pages (sym at) ∙ sym (f.journal.ended k.0 slot k.1 k.2) ∙ sym its)) (sum_below-at (λ cpu. ends_at g cpu slot) k.0 count below)

-- the bound
pub swap_bound : (g : GuestState) (v : StorageView) (d : DiskView) → Fit g v d → IsStuck g.parts → ((number : ℕ) → number < length g.parts.cache.swap → is_none (swap_tag g.parts.cache number) ≡ false)
    → length g.parts.pages.infos - pinned_count g.parts + g.plan.swap
    ≤ over_live anonymous_pages (flat_of g.plan g.journal) + sum_by (λ (cpu : Progress). cpu.ended) (walk_at g).cpus
swap_bound g v d f stuck assigned =
    let all = own_counted g v d f stuck assigned in
    let split = sum_below-same (λ slot. own_pages (slot_at g.parts.maps slot)) (λ slot. live_own (slot_at g.parts.maps slot) + torn_own (slot_at g.parts.maps slot)) (length g.parts.maps.slots)
    (λ slot h. either_own (slot_at g.parts.maps slot)) in
    let two = sum_below-add (λ slot. live_own (slot_at g.parts.maps slot)) (λ slot. torn_own (slot_at g.parts.maps slot)) (length g.parts.maps.slots) in
    joined _ _ _ _ _ _ _ _ all f.sizes.swap split two (live_rows (flat_of g.plan g.journal) g f.slots) (torn_rows g v d f)
  where
    joined : (others swap planned rows live torn a b : ℕ) → others + swap ≤ rows → swap ≡ planned → {both : ℕ} → rows ≡ both → both ≡ live + torn → live ≤ a → torn ≤ b → others + planned ≤ a + b
    joined others swap planned rows live torn a b x y z u p q = omega (arith, x, y, z, u, p, q)

-- ---- the failure

-- the two numbers are those that a legal journal allows
pub no_page_legal : (g : GuestState) (v : StorageView) (d : DiskView) → Fit g v d → IsStuck g.parts
    → HasNoPage g.plan (walk_at g) (pinned_count g.parts) (length g.parts.pages.infos - pinned_count g.parts)
no_page_legal g v d f stuck = record {
  all_pages = omega (arith, count_by-le-length is_pinned g.parts.pages.infos, f.sizes.infos);
  as_pinned = at_most-then (pinned_places g.parts f.pages f.pins) (pinned_rows (flat_of g.plan g.journal) g (length g.parts.maps.slots) f.slots f.teardowns);
  as_anonymous = elim (cases_eq (length g.parts.pages.infos - pinned_count g.parts) 0) [
    | inl z ↦ inl z
    | inr some ↦ inr (swap_bound g v d f stuck (assigned (some_below (λ page. one_if (not (is_pinned (info_at g.parts.pages page)))) (length g.parts.pages.infos) (others some))))
  ];
}
  where
    others : length g.parts.pages.infos - pinned_count g.parts ≢ 0 → sum_below (λ page. one_if (not (is_pinned (info_at g.parts.pages page)))) (length g.parts.pages.infos) ≢ 0
    others some none =
        some (left _ _ _ _ (both_counted (λ page. is_pinned (info_at g.parts.pages page)) (length g.parts.pages.infos)) (count_below is_pinned free_info g.parts.pages.infos) none)
      where
        left : (count pins others pinned : ℕ) → pins + others ≡ count → pinned ≡ pins → others ≡ 0 → count - pinned ≡ 0
        left count pins others pinned a b c = omega (arith, a, b, c)

    -- where a page can be written nowhere, every swap slot is assigned
    assigned : (page : ℕ) × (page < length g.parts.pages.infos) × (one_if (not (is_pinned (info_at g.parts.pages page))) ≢ 0)
        → (number : ℕ) → number < length g.parts.cache.swap → is_none (swap_tag g.parts.cache number) ≡ false
    assigned (page, below, some) number lt =
        let u = page_unslotted g.parts page stuck below (not_true (is_pinned (info_at g.parts.pages page)) (true_one (not (is_pinned (info_at g.parts.pages page))) some)) in
        none_within is_none g.parts.cache.swap None u.all_assigned number lt
