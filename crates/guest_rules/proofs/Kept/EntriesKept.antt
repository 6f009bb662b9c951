-- The entries stay fit: where one page's info changes, where a page is freed, where an entry is set or cleared, where a file is mapped, where
-- a mapping ends, and where its slot is free again.
use Rattle.std.proofs.Common.{◌≡◌, ◌≢◌, ◌<◌, ◌+◌, ◌-◌, ◌*◌, ℕ, Bool, true, false, length, slice_index_or, count_by, Option, Some, None, refl, ap, sym, ◌∙◌, inl, inr, subst, arith}
use Rattle.std.proofs.lemmas.Bool.{cases_eq}
use Rattle.std.proofs.lemmas.Option.{same_Some}
use Rattle.cmm_types.specs.declared.page.Tag.{Tag}
use Rattle.cmm_types.specs.declared.command.TheConstants.{MAX_MAPPING_PAGES}
use Rattle.cmm_types.specs.declared.plan.TheConstants.{MAX_MAPPING_SLOTS}
use Rattle.cmm_types.specs.Sums.{one_if}
use Rattle.guest_pages.specs.declared.info.PageInfo.{PageInfo}
use Rattle.guest_pages.specs.PagesView.{free_info, info_at}
use Rattle.guest_maps.specs.declared.slot.Pte.{Pte}
use Rattle.guest_maps.specs.declared.slot.Slot.{Slot}
use Rattle.guest_maps.specs.declared.slot.Shown.{Shown}
use Rattle.guest_maps.specs.MapsView.{MapsView, slot_at, entry_at, place_at, tag_in, tag_at, slot_has_page, stores_to}
use Rattle.guest_maps.specs.MapsView.{with_entry, without_entries_of, with_slot, with_slot_mapped, torn, torn_slot, freed_slot}
use Rattle.guest_maps.specs.Laws.MapsLaws.{entry_place_exact, slots-with_entry, entry_at-with_entry_other, slots-without_entries_of}
use Rattle.guest_maps.specs.Laws.MapsLaws.{writers_showing-without_same, writers_showing-without_other, slot_at-with_mapping_other, entries-torn_slot, entry_at-torn_slot}
use Rattle.guest_maps.specs.Laws.TornLaws.{same-torn_slot, tag_at-torn_slot, place-torn_slot, entries-freed_slot, slot_at-freed_slot_other}
use Rattle.guest_rules.specs.declared.parts.Parts.{Parts}
use Rattle.guest_rules.specs.Rows.{shown_info}
use Rattle.guest_rules.specs.Turns.{slot_writable}
use Rattle.guest_rules.specs.Fit.{IsEntry, EntriesFit}
use Rattle.guest_rules.proofs.Cases.TurnCases.{CanBeSet}
use Rattle.guest_rules.proofs.Kept.Changes.{InfoChange}
use Rattle.guest_rules.proofs.Kept.EntryLaws.{place-tagged, entry-without, entry_at-set, writers-with_entry_same, writers-with_entry_other, writers-cleared_same, writers-cleared_other}

-- a page that is up to date under a tag is so still
abbrev pub StillShown : Parts → Parts → ℕ → Type 0
StillShown old new page =
    (tag : Tag) → (info_at old.pages page).tag ≡ Some tag → (info_at old.pages page).uptodate ≡ true → ((info_at new.pages page).tag ≡ Some tag) × ((info_at new.pages page).uptodate ≡ true)

pub IsEntry-kept : (old new : Parts) (slot index : ℕ) (pte : Pte) → IsEntry old slot index pte → slot_at new.maps slot ≡ slot_at old.maps slot → StillShown old new pte.page
    → IsEntry new slot index pte
IsEntry-kept old new slot index pte k same shows =
    let now = shows k.tag k.tagged k.uptodate in
    record {
      place = ap (λ (o : Option Slot). slot_has_page o index) same ∙ k.place;
      tag = k.tag;
      mapped = ap (λ (o : Option Slot). tag_in o slot index) same ∙ k.mapped;
      tagged = now.0;
      uptodate = now.1;
      writable = λ w. ap slot_writable same ∙ k.writable w;
    }

-- of the other pages nothing changed
still_shown : (old new : Parts) (page : ℕ) (info : PageInfo) → InfoChange old.pages new.pages page info
    → ((tag : Tag) → (info_at old.pages page).tag ≡ Some tag → (info_at old.pages page).uptodate ≡ true → (info.tag ≡ Some tag) × (info.uptodate ≡ true)) → (i : ℕ) → StillShown old new i
still_shown old new page info change shows i tag t u = elim (cases_eq i page) [
  | inl z ↦ let now = shows tag (rw z at t) (rw z at u) in rw (z, change.here) now
  | inr n ↦ rw (change.others i n) (t, u)
]

-- one page's info is another, and what shows it stays
pub EntriesFit-info : (old new : Parts) (page : ℕ) (info : PageInfo) → EntriesFit old → InfoChange old.pages new.pages page info → new.maps ≡ old.maps
    → ((tag : Tag) → (info_at old.pages page).tag ≡ Some tag → (info_at old.pages page).uptodate ≡ true → (info.tag ≡ Some tag) × (info.uptodate ≡ true))
    → info.writers ≡ (info_at old.pages page).writers → EntriesFit new
EntriesFit-info old new page info f change maps shows writers = record {
  entry = λ slot index pte lt e.
      IsEntry-kept old new slot index pte (f.entry slot index pte lt (rw maps at e)) (ap (λ (m : MapsView). slot_at m slot) maps) (still_shown old new page info change shows pte.page);
  writers = λ i. elim (cases_eq i page) [
    | inl z ↦ rw (z, change.here, maps) (writers ∙ f.writers page)
    | inr n ↦ rw (change.others i n, maps) (f.writers i)
  ];
}

-- the same where other places are pinned
pub EntriesFit-pinned : (old new : Parts) (page : ℕ) (info : PageInfo) → EntriesFit old → InfoChange old.pages new.pages page info → new.maps.slots ≡ old.maps.slots
    → new.maps.entries ≡ old.maps.entries
    → ((tag : Tag) → (info_at old.pages page).tag ≡ Some tag → (info_at old.pages page).uptodate ≡ true → (info.tag ≡ Some tag) × (info.uptodate ≡ true))
    → info.writers ≡ (info_at old.pages page).writers → EntriesFit new
EntriesFit-pinned old new page info f change slots entries shows writers = record {
  entry = λ slot index pte lt e.
      IsEntry-kept old new slot index pte (f.entry slot index pte lt (ap (λ xs. slice_index_or xs (place_at slot index) None) (sym entries) ∙ e)) (ap (λ xs. slice_index_or xs slot None) slots)
      (still_shown old new page info change shows pte.page);
  writers = λ i. elim (cases_eq i page) [
    | inl z ↦ rw (z, change.here) (writers ∙ f.writers page ∙ ap (λ xs. count_by (stores_to page) xs) (sym entries))
    | inr n ↦ rw (change.others i n) (f.writers i ∙ ap (λ xs. count_by (stores_to i) xs) (sym entries))
  ];
}

-- a page is free, and no entry shows it any more
pub EntriesFit-freed : (old new : Parts) (page : ℕ) → EntriesFit old → InfoChange old.pages new.pages page free_info → new.maps ≡ without_entries_of old.maps page → EntriesFit new
EntriesFit-freed old new page f change maps = record {
  entry = λ slot index pte lt e.
      let k = entry-without old.maps page slot index pte (rw maps at e) in
      IsEntry-kept old new slot index pte (f.entry slot index pte lt k.was)
      (ap (λ (m : MapsView). slot_at m slot) maps ∙ ap (λ xs. slot_at (record old.maps { slots = xs }) slot) (slots-without_entries_of old.maps page))
      (λ tag t u. rw (change.others pte.page k.other) (t, u));
  writers = λ i. elim (cases_eq i page) [
    | inl z ↦ rw (z, change.here, maps) (sym (writers_showing-without_same old.maps page))
    | inr n ↦ rw (change.others i n, maps) (f.writers i ∙ sym (writers_showing-without_other old.maps page i n))
  ];
}

-- an entry that can be set so
pub record NewEntry (old : Parts) (slot index page : ℕ) (writes : Bool) (tag : Tag) : Type 0 where
  pub slot_below : slot < MAX_MAPPING_SLOTS
  pub index_below : index < MAX_MAPPING_PAGES
  pub size : length old.maps.entries ≡ MAX_MAPPING_SLOTS * MAX_MAPPING_PAGES
  pub mapped : tag_at old.maps slot index ≡ Some tag
  pub tagged : (info_at old.pages page).tag ≡ Some tag
  pub uptodate : (info_at old.pages page).uptodate ≡ true
  pub writable : writes ≡ true → slot_writable (slot_at old.maps slot) ≡ true
  pub can : CanBeSet (entry_at old.maps slot index) writes

-- an entry shows the page
pub EntriesFit-mapped : (old new : Parts) (slot index page : ℕ) (writes : Bool) (tag : Tag) → EntriesFit old → NewEntry old slot index page writes tag
    → InfoChange old.pages new.pages page (shown_info (info_at old.pages page) writes)
    → new.maps ≡ with_entry old.maps slot index (Some (record { page = page; writable = writes })) → EntriesFit new
EntriesFit-mapped old new slot index page writes tag f k change maps = record {
  entry = λ s i pte lt e. elim (cases_eq s slot) [
    | inl z ↦ elim (cases_eq i index) [
      | inl y ↦
          let is : Some one ≡ Some pte = sym (entry_at-set old.maps slot index (Some one) below) ∙ ap (λ m. entry_at m slot index) (sym maps) ∙ (λ p. entry_at new.maps (sym z p) (sym y p)) ∙ e in
          subst (λ q. IsEntry new s i q) (same_Some _ _ is) (rw (z, y) mine)
      | inr m ↦ left s i pte lt (λ q. m (entry_place_exact s slot i index lt k.index_below q).1) e
    ]
    | inr m ↦ left s i pte lt (λ q. m (entry_place_exact s slot i index lt k.index_below q).0) e
  ];
  writers = λ i. elim (cases_eq i page) [
    | inl z ↦ rw (z, change.here, maps) (ap (λ n. n + one_if writes) (f.writers page) ∙ sym (writers-with_entry_same old.maps slot index page writes below k.can))
    | inr n ↦ rw (change.others i n, maps) (f.writers i ∙ sym (writers-with_entry_other old.maps slot index page i writes below k.can n))
  ];
}
  where
    one : Pte
    one = record { page = page; writable = writes }

    below : place_at slot index < length old.maps.entries
    below = rw k.size (omega (arith, k.slot_below, k.index_below))

    same : (s : ℕ) → slot_at new.maps s ≡ slot_at old.maps s
    same s = ap (λ (m : MapsView). slot_at m s) maps ∙ ap (λ xs. slot_at (record old.maps { slots = xs }) s) (slots-with_entry old.maps slot index (Some one))

    shows : (i : ℕ) → StillShown old new i
    shows = still_shown old new page (shown_info (info_at old.pages page) writes) change (λ t a u. (a, u))

    mine : IsEntry new slot index one
    mine = record {
      place = ap (λ (o : Option Slot). slot_has_page o index) (same slot) ∙ place-tagged old.maps slot index tag k.mapped;
      tag = tag;
      mapped = ap (λ (o : Option Slot). tag_in o slot index) (same slot) ∙ k.mapped;
      tagged = (shows page tag k.tagged k.uptodate).0;
      uptodate = (shows page tag k.tagged k.uptodate).1;
      writable = λ w. ap slot_writable (same slot) ∙ k.writable w;
    }

    left : (s i : ℕ) (pte : Pte) → i < MAX_MAPPING_PAGES → place_at s i ≢ place_at slot index → entry_at new.maps s i ≡ Some pte → IsEntry new s i pte
    left s i pte lt apart e =
        IsEntry-kept old new s i pte (f.entry s i pte lt (sym (entry_at-with_entry_other old.maps slot index s i (Some one) apart) ∙ ap (λ m. entry_at m s i) (sym maps) ∙ e)) (same s) (shows pte.page)

-- a slot that was free has a mapping
pub EntriesFit-new : (old new : Parts) (slot process number count : ℕ) (shown : Shown) → EntriesFit old → slot_at old.maps slot ≡ None
    → new ≡ record old { maps = with_slot_mapped old.maps slot process number shown count } → EntriesFit new
unfolding with_slot_mapped with_slot
EntriesFit-new old new slot process number count shown f free is = rw is (record {
  entry = λ s i pte lt e.
      let was = f.entry s i pte lt e in
      let n : s ≢ slot = λ z. let bad : false ≡ true = ap (λ (o : Option Slot). slot_has_page o i) (sym free) ∙ ap (λ q. slot_has_page (slot_at old.maps q) i) (sym z) ∙ was.place in cc in
      IsEntry-kept old _ s i pte was (slot_at-with_mapping_other old.maps slot s process number shown count n) (λ tag t u. (t, u));
  writers = f.writers;
})

-- ---- an entry is cleared

-- an entry that is set, at a place of the tables
pub record HasEntry (old : Parts) (slot index : ℕ) (pte : Pte) : Type 0 where
  pub slot_below : slot < MAX_MAPPING_SLOTS
  pub index_below : index < MAX_MAPPING_PAGES
  pub size : length old.maps.entries ≡ MAX_MAPPING_SLOTS * MAX_MAPPING_PAGES
  pub set : entry_at old.maps slot index ≡ Some pte

pub has_entry-within : (old : Parts) (slot index : ℕ) (pte : Pte) → HasEntry old slot index pte → place_at slot index < length old.maps.entries
has_entry-within old slot index pte k = rw k.size (omega (arith, k.slot_below, k.index_below))

-- the page that it showed has one writer less where it allowed stores
pub EntriesFit-unmapped : (old new : Parts) (slot index : ℕ) (pte : Pte) → EntriesFit old → HasEntry old slot index pte
    → InfoChange old.pages new.pages pte.page (record (info_at old.pages pte.page) { writers = (info_at old.pages pte.page).writers - one_if pte.writable })
    → new.maps ≡ with_entry old.maps slot index None → EntriesFit new
EntriesFit-unmapped old new slot index pte f k change maps = record {
  entry = λ s i p lt e. elim (cases_eq s slot) [
    | inl z ↦ elim (cases_eq i index) [
      | inl y ↦
          let bad : None ≡ Some p = sym (entry_at-set old.maps slot index None below) ∙ ap (λ m. entry_at m slot index) (sym maps) ∙ (λ q. entry_at new.maps (sym z q) (sym y q)) ∙ e in absurd cc
      | inr m ↦ left s i p lt (λ q. m (entry_place_exact s slot i index lt k.index_below q).1) e
    ]
    | inr m ↦ left s i p lt (λ q. m (entry_place_exact s slot i index lt k.index_below q).0) e
  ];
  writers = λ i. elim (cases_eq i pte.page) [
    | inl z ↦ rw (z, change.here, maps) (fewer _ _ _ _ (f.writers pte.page) (writers-cleared_same old.maps slot index pte below k.set))
    | inr n ↦ rw (change.others i n, maps) (f.writers i ∙ sym (writers-cleared_other old.maps slot index i pte below k.set n))
  ];
}
  where
    fewer : (counted showing now one : ℕ) → counted ≡ showing → now + one ≡ showing → counted - one ≡ now
    fewer counted showing now one is less = omega (arith, is, less)

    below : place_at slot index < length old.maps.entries
    below = has_entry-within old slot index pte k

    same : (s : ℕ) → slot_at new.maps s ≡ slot_at old.maps s
    same s = ap (λ (m : MapsView). slot_at m s) maps ∙ ap (λ xs. slot_at (record old.maps { slots = xs }) s) (slots-with_entry old.maps slot index None)

    shows : (i : ℕ) → StillShown old new i
    shows = still_shown old new pte.page (record (info_at old.pages pte.page) { writers = (info_at old.pages pte.page).writers - one_if pte.writable }) change (λ t a u. (a, u))

    left : (s i : ℕ) (p : Pte) → i < MAX_MAPPING_PAGES → place_at s i ≢ place_at slot index → entry_at new.maps s i ≡ Some p → IsEntry new s i p
    left s i p lt apart e =
        IsEntry-kept old new s i p (f.entry s i p lt (sym (entry_at-with_entry_other old.maps slot index s i None apart) ∙ ap (λ m. entry_at m s i) (sym maps) ∙ e)) (same s) (shows p.page)

-- ---- a mapping ends

-- its entries stay until they are cleared
pub EntriesFit-torn : (old : Parts) (slot : ℕ) → EntriesFit old → slot < length old.maps.slots → EntriesFit (record old { maps = torn_slot old.maps slot })
EntriesFit-torn old slot f below = record {
  entry = λ s i pte lt e.
      let was = f.entry s i pte lt (sym (entry_at-torn_slot old.maps slot s i) ∙ e) in
      record {
        place = place-torn_slot old.maps slot s i below ∙ was.place;
        tag = was.tag;
        mapped = tag_at-torn_slot old.maps slot s i below ∙ was.mapped;
        tagged = was.tagged;
        uptodate = was.uptodate;
        writable = λ w. same-torn_slot slot_writable old.maps slot s below torn_writable ∙ was.writable w;
      };
  writers = λ i. f.writers i ∙ ap (λ xs. count_by (stores_to i) xs) (sym (entries-torn_slot old.maps slot));
}
  where
    torn_writable : (o : Option Slot) → slot_writable (torn o) ≡ slot_writable o
    torn_writable None = refl
    torn_writable (Some mapping) = refl

-- its slot is free, once none is left
pub EntriesFit-freed_slot : (old : Parts) (slot : ℕ) → EntriesFit old → ((index : ℕ) → index < MAX_MAPPING_PAGES → entry_at old.maps slot index ≡ None)
    → EntriesFit (record old { maps = freed_slot old.maps slot })
EntriesFit-freed_slot old slot f none = record {
  entry = λ s i pte lt e.
      let there : entry_at old.maps s i ≡ Some pte = ap (λ xs. slice_index_or xs (place_at s i) None) (sym (entries-freed_slot old.maps slot)) ∙ e in
      let n : s ≢ slot = λ z. (let bad : None ≡ Some pte = sym (none i lt) ∙ ap (λ x. entry_at old.maps x i) (sym z) ∙ there in cc) in
      IsEntry-kept old _ s i pte (f.entry s i pte lt there) (slot_at-freed_slot_other old.maps slot s n) (λ tag t u. (t, u));
  writers = λ i. f.writers i ∙ ap (λ xs. count_by (stores_to i) xs) (sym (entries-freed_slot old.maps slot));
}
