-- The teardowns stay fit: where no mapping that is being torn down changes, where an unmap begins, goes on to the next page, and ends.
use Rattle.std.proofs.Common.{◌≡◌, ◌≢◌, ◌<◌, ◌≤◌, ◌+◌, ℕ, Bool, true, false, List, length, get_or, set, slice_index_or, Option}
use Rattle.std.proofs.Common.{Some, None, refl, ap, sym, ◌∙◌, inl, inr, subst, arith, length-set, get_or-set_same, get_or-set_other}
use Rattle.std.proofs.lemmas.Bool.{cases_eq}
use Rattle.std.proofs.lemmas.Option.{same_Some}
use Rattle.cmm_types.specs.declared.command.TheConstants.{MAX_MAPPING_PAGES}
use Rattle.cmm_types.specs.declared.command.Op.TheVariants.{Sync, Unmap}
use Rattle.cmm_types.specs.declared.command.Reply.TheVariants.{Done}
use Rattle.cmm_flat.specs.State.{FlatState}
use Rattle.cmm_flat.specs.Legal.{command_of, process_of}
use Rattle.cmm_types.specs.declared.page.Tag.TheVariants.{Anon}
use Rattle.guest_cache.specs.CacheView.{CacheView, page_of, swap_slot}
use Rattle.guest_rules.specs.declared.parts.Parts.{Parts}
use Rattle.guest_maps.specs.declared.slot.Pte.{Pte}
use Rattle.guest_maps.specs.declared.slot.Shown.{Shown}
use Rattle.guest_maps.specs.declared.slot.Slot.{Slot}
use Rattle.guest_maps.specs.MapsView.{MapsView, slot_at, place_at, entry_at, pinned_at, unless_shows, torn, with_entry, without_entries_of, with_slot_mapped, torn_slot, freed_slot}
use Rattle.guest_maps.specs.Laws.MapsLaws.{entry_places_differ, slots-with_entry, pinned-with_entry, entry_at-with_entry_other, slots-without_entries_of, pinned-without_entries_of}
use Rattle.guest_maps.specs.Laws.MapsLaws.{entry_at-without_entries_of, slot_at-with_mapping_same, slot_at-with_mapping_other, entries-with_mapping, pinned-with_mapping, slot_at-torn_slot_same}
use Rattle.guest_maps.specs.Laws.MapsLaws.{entry_at-torn_slot}
use Rattle.guest_maps.specs.Laws.TornLaws.{pinned-torn_slot, slot_at-torn_slot_other, entries-freed_slot, pinned-freed_slot, slot_at-freed_slot_same, slot_at-freed_slot_other}
use Rattle.guest_rules.specs.declared.processor.Phase.{Phase}
use Rattle.guest_rules.specs.declared.processor.Phase.TheVariants.{Start, Fill, Room as AtRoom, Sync as AtSync, SyncWrite, Teardown}
use Rattle.guest_rules.specs.declared.processor.Processor.{Processor}
use Rattle.guest_rules.specs.GuestState.{GuestState, first_processor, processor_at, with_parts, with_phase, answered, next_command}
use Rattle.guest_rules.specs.Fit.{SlotsFit, HasLocked, IsTearing, TeardownsFit, IsUntagged}
use Rattle.guest_rules.proofs.Kept.Changes.{PhaseChange, teardown_of, same-teardown}
use Rattle.guest_rules.proofs.Kept.SlotsKept.{slot-below}
use Rattle.guest_rules.proofs.Kept.PinLaws.{PinChange}
use Rattle.guest_rules.proofs.Kept.PinsKept.{SamePlaces}

-- ---- the mappings that are being torn down are the same

-- none of their entries is set, and none of their pages is pinned
pub record KeepsTorn (old new : MapsView) : Type 0 where
  pub stays : (slot : ℕ) (mapping : Slot) → slot_at old slot ≡ Some mapping → mapping.live ≡ false → slot_at new slot ≡ Some mapping
  pub was : (slot : ℕ) (mapping : Slot) → slot_at new slot ≡ Some mapping → mapping.live ≡ false → slot_at old slot ≡ Some mapping
  pub none : (slot index : ℕ) (mapping : Slot) → slot_at old slot ≡ Some mapping → mapping.live ≡ false → index < MAX_MAPPING_PAGES → entry_at old slot index ≡ None → entry_at new slot index ≡ None
  pub unpinned : (slot index : ℕ) (mapping : Slot) → slot_at old slot ≡ Some mapping → mapping.live ≡ false → index < MAX_MAPPING_PAGES → pinned_at old slot index ≡ false
      → pinned_at new slot index ≡ false

-- the slots and what is pinned are the same
pub keeps_torn-places : (old new : MapsView) → SamePlaces old new
    → ((slot index : ℕ) (mapping : Slot) → slot_at old slot ≡ Some mapping → mapping.live ≡ false → index < MAX_MAPPING_PAGES → entry_at old slot index ≡ None → entry_at new slot index ≡ None)
    → KeepsTorn old new
keeps_torn-places old new same none = record {
  stays = λ slot mapping at not_live. ap (λ xs. slice_index_or xs slot None) same.slots ∙ at;
  was = λ slot mapping at not_live. ap (λ xs. slice_index_or xs slot None) (sym same.slots) ∙ at;
  none = none;
  unpinned = λ slot index mapping at not_live below e. ap (λ xs. slice_index_or xs (place_at slot index) false) same.pinned ∙ e;
}

pub keeps_torn-same : (old new : MapsView) → new ≡ old → KeepsTorn old new
keeps_torn-same old new same =
    keeps_torn-places old new (record { slots = ap (λ (m : MapsView). m.slots) same; pinned = ap (λ (m : MapsView). m.pinned) same })
    (λ slot index mapping at not_live below e. ap (λ (m : MapsView). entry_at m slot index) same ∙ e)

-- the entries of a page are gone
pub keeps_torn-without : (maps : MapsView) (page : ℕ) → KeepsTorn maps (without_entries_of maps page)
keeps_torn-without maps page =
    keeps_torn-places maps (without_entries_of maps page) (record { slots = slots-without_entries_of maps page; pinned = pinned-without_entries_of maps page })
    (λ slot index mapping at not_live below e. entry_at-without_entries_of maps page slot index ∙ ap (unless_shows page) e)

-- a live slot isn't one that is being torn down
live-apart : (maps : MapsView) (slot other : ℕ) (mapping another : Slot) → slot_at maps slot ≡ Some mapping → mapping.live ≡ true → slot_at maps other ≡ Some another → another.live ≡ false
    → other ≢ slot
live-apart maps slot other mapping another at live there not_live z =
    let both : Some another ≡ Some mapping = sym there ∙ ap (slot_at maps) z ∙ at in
    let same : another ≡ mapping = cc in
    let bad : false ≡ true = sym not_live ∙ ap (λ (m : Slot). m.live) same ∙ live in cc

-- an entry of a live mapping is set
pub keeps_torn-mapped : (maps : MapsView) (slot index : ℕ) (mapping : Slot) (pte : Option Pte) → slot_at maps slot ≡ Some mapping → mapping.live ≡ true → index < MAX_MAPPING_PAGES
    → KeepsTorn maps (with_entry maps slot index pte)
keeps_torn-mapped maps slot index mapping pte at live within =
    keeps_torn-places maps (with_entry maps slot index pte) (record { slots = slots-with_entry maps slot index pte; pinned = pinned-with_entry maps slot index pte })
    (λ s i m there not_live below e.
    entry_at-with_entry_other maps slot index s i pte (entry_places_differ slot s index i within below (λ z _. live-apart maps slot s mapping m at live there not_live z)) ∙ e)

-- an entry is cleared
pub keeps_torn-cleared : (maps : MapsView) (slot index : ℕ) → place_at slot index < length maps.entries → KeepsTorn maps (with_entry maps slot index None)
unfolding with_entry
keeps_torn-cleared maps slot index below =
    keeps_torn-places maps (with_entry maps slot index None) (record { slots = refl; pinned = refl })
    (λ s i mapping at not_live _ e. elim (cases_eq (place_at s i) (place_at slot index)) [
      | inl z ↦ ap (λ k. get_or (set maps.entries (place_at slot index) None) k None) z ∙ get_or-set_same maps.entries (place_at slot index) None None below
      | inr n ↦ get_or-set_other maps.entries (place_at slot index) (place_at s i) None None n ∙ e
    ])

-- a page of a live mapping is pinned, or unpinned
pub keeps_torn-pinned : (old new : MapsView) (slot index : ℕ) (pins : Bool) (mapping : Slot) → PinChange old new slot index pins → slot_at old slot ≡ Some mapping → mapping.live ≡ true
    → KeepsTorn old new
keeps_torn-pinned old new slot index pins mapping change at live = record {
  stays = λ s m there not_live. ap (λ xs. slice_index_or xs s None) change.slots ∙ there;
  was = λ s m there not_live. ap (λ xs. slice_index_or xs s None) (sym change.slots) ∙ there;
  none = λ s i m there not_live below e. ap (λ xs. slice_index_or xs (place_at s i) None) change.entries ∙ e;
  unpinned = λ s i m there not_live below e. change.others s i below (λ z _. live-apart old slot s mapping m at live there not_live z) ∙ e;
}

-- a free slot has a new mapping
pub keeps_torn-new : (maps : MapsView) (slot process number : ℕ) (shown : Shown) (count : ℕ) → slot < length maps.slots → slot_at maps slot ≡ None
    → KeepsTorn maps (with_slot_mapped maps slot process number shown count)
keeps_torn-new maps slot process number shown count below free = record {
  stays = λ s m there not_live. slot_at-with_mapping_other maps slot s process number shown count (taken s m there) ∙ there;
  was = λ s m there not_live. elim (cases_eq s slot) [
    | inl z ↦
        let both : Some _ ≡ Some m = sym (slot_at-with_mapping_same maps slot process number shown count below) ∙ ap (slot_at now) (sym z) ∙ there in
        let bad : true ≡ false = ap (λ (x : Slot). x.live) (same_Some _ _ both) ∙ not_live in absurd cc
    | inr n ↦ sym (slot_at-with_mapping_other maps slot s process number shown count n) ∙ there
  ];
  none = λ s i m there not_live lt e. ap (λ xs. slice_index_or xs (place_at s i) None) (entries-with_mapping maps slot process number shown count) ∙ e;
  unpinned = λ s i m there not_live lt e. ap (λ xs. slice_index_or xs (place_at s i) false) (pinned-with_mapping maps slot process number shown count) ∙ e;
}
  where
    now : MapsView
    now = with_slot_mapped maps slot process number shown count

    taken : (s : ℕ) (m : Slot) → slot_at maps s ≡ Some m → s ≢ slot
    taken s m there z = let bad : None ≡ Some m = sym free ∙ ap (slot_at maps) (sym z) ∙ there in cc

-- ---- the processors that tear a mapping down are as they were

pub record KeepsTearing (g h : GuestState) : Type 0 where
  pub plan : h.plan ≡ g.plan
  pub count : length h.processors ≡ length g.processors
  pub stays : (cpu slot index : ℕ) → (processor_at g cpu).phase ≡ Teardown slot index → processor_at h cpu ≡ processor_at g cpu
  pub was : (cpu slot index : ℕ) → (processor_at h cpu).phase ≡ Teardown slot index → processor_at h cpu ≡ processor_at g cpu

-- one processor is in another phase, in which it tears down what it did
pub keeps_tearing-phase : (g h : GuestState) (cpu : ℕ) (phase : Phase) → h.plan ≡ g.plan → PhaseChange g.processors h.processors cpu phase → KeepsTearing g h
keeps_tearing-phase g h cpu phase plan change = record {
  plan = plan;
  count = change.size;
  stays = λ q slot index e. elim (cases_eq q cpu) [
    | inl z ↦
        let before : (processor_at g cpu).phase ≡ Teardown slot index = ap (λ x. (processor_at g x).phase) (sym z) ∙ e in
        moved q z (same-teardown (processor_at g cpu).phase phase slot index (sym change.teardown) before ∙ sym before)
    | inr n ↦ change.others q n
  ];
  was = λ q slot index e. elim (cases_eq q cpu) [
    | inl z ↦
        let after : phase ≡ Teardown slot index = ap (λ (p : Processor). p.phase) (sym change.here) ∙ ap (λ x. (processor_at h x).phase) (sym z) ∙ e in
        moved q z (after ∙ sym (same-teardown phase (processor_at g cpu).phase slot index change.teardown after))
    | inr n ↦ change.others q n
  ];
}
  where
    moved : (q : ℕ) → q ≡ cpu → phase ≡ (processor_at g cpu).phase → processor_at h q ≡ processor_at g q
    moved q z same =
        ap (processor_at h) z ∙ change.here ∙ ap (λ p. let out : Processor = record { place = (processor_at g cpu).place; phase = p } in out) same ∙ ap (processor_at g) (sym z)

-- all processors are as they were
pub keeps_tearing-all : (g h : GuestState) → h.plan ≡ g.plan → h.processors ≡ g.processors → KeepsTearing g h
keeps_tearing-all g h plan same = record {
  plan = plan;
  count = ap (λ (ps : List Processor). length ps) same;
  stays = λ q slot index e. ap (λ ps. get_or ps q first_processor) same;
  was = λ q slot index e. ap (λ ps. get_or ps q first_processor) same;
}

-- one processor is another
pub record OneProcessor (old new : List Processor) (cpu : ℕ) (processor : Processor) : Type 0 where
  pub size : length new ≡ length old
  pub here : get_or new cpu first_processor ≡ processor
  pub others : (q : ℕ) → q ≢ cpu → get_or new q first_processor ≡ get_or old q first_processor

pub one-set : (old : List Processor) (cpu : ℕ) (processor : Processor) → cpu < length old → OneProcessor old (set old cpu processor) cpu processor
one-set old cpu processor below = record {
  size = length-set old cpu processor;
  here = get_or-set_same old cpu processor first_processor below;
  others = λ q other. get_or-set_other old cpu q processor first_processor other;
}

-- one that tears nothing down, before and afterwards
pub keeps_tearing-one : (g h : GuestState) (cpu : ℕ) (processor : Processor) → h.plan ≡ g.plan → OneProcessor g.processors h.processors cpu processor
    → (processor_at g cpu).phase ≡ Start → processor.phase ≡ Start → KeepsTearing g h
keeps_tearing-one g h cpu processor plan one before after = record {
  plan = plan;
  count = one.size;
  stays = λ q slot index e. one.others q (λ z. let bad : Start ≡ Teardown slot index = sym before ∙ ap (λ x. (processor_at g x).phase) (sym z) ∙ e in cc);
  was = λ q slot index e. one.others q (λ z.
      let bad : Start ≡ Teardown slot index = sym after ∙ ap (λ (p : Processor). p.phase) (sym one.here) ∙ ap (λ x. (processor_at h x).phase) (sym z) ∙ e in cc);
}

-- a processor whose command is a sync tears nothing down
pub sync-tears_nothing : (g : GuestState) (cpu file : ℕ) → TeardownsFit g → command_of g.plan cpu (processor_at g cpu).place ≡ Some (Sync file) → teardown_of (processor_at g cpu).phase ≡ None
sync-tears_nothing g cpu file f command = of (processor_at g cpu).phase refl
  where
    of : (phase : Phase) → (processor_at g cpu).phase ≡ phase → teardown_of phase ≡ None
    of Start e = refl
    of (Fill page) e = refl
    of (AtRoom page) e = refl
    of (AtSync index) e = refl
    of (SyncWrite index page) e = refl
    of (Teardown slot index) e =
        let k = f.tearing cpu slot index e in
        let bad : Some (Sync file) ≡ Some (Unmap k.number) = sym command ∙ k.command in absurd cc

-- nor does one that has a page locked
pub locked-tears_nothing : (g : GuestState) (cpu page : ℕ) → HasLocked g cpu page → teardown_of (processor_at g cpu).phase ≡ None
locked-tears_nothing g cpu page (inl fills) = ap teardown_of fills
locked-tears_nothing g cpu page (inr (inl (index, writes))) = ap teardown_of writes
locked-tears_nothing g cpu page (inr (inr pages_out)) = ap teardown_of pages_out

-- ---- no teardown changes

-- no page has the tag of a page of a mapping, and no swap slot is assigned to it

-- what has been taken off a mapping that is torn down stays off
abbrev pub KeepsUntagged : Parts → CacheView → Type 0
KeepsUntagged old new = (slot index : ℕ) (mapping : Slot) → slot_at old.maps slot ≡ Some mapping → mapping.live ≡ false → index < mapping.count
    → IsUntagged old.cache slot index → IsUntagged new slot index

pub untagged-same : (old : Parts) (new : CacheView) → new ≡ old.cache → KeepsUntagged old new
untagged-same old new same slot index mapping at torn below was = subst (λ (c : CacheView). IsUntagged c slot index) (sym same) was

pub tearing-kept : (g h : GuestState) (cpu slot index : ℕ) → h.plan ≡ g.plan → length h.processors ≡ length g.processors → processor_at h cpu ≡ processor_at g cpu → IsTearing g cpu slot index
    → slot_at h.parts.maps slot ≡ slot_at g.parts.maps slot → ((before : ℕ) → before < index → entry_at h.parts.maps slot before ≡ None)
    → ((before : ℕ) → before < index → IsUntagged h.parts.cache slot before) → IsTearing h cpu slot index
tearing-kept g h cpu slot index plan count processor k same past untagged = record {
  cpu_below = rw count k.cpu_below;
  number = k.number;
  command = rw (plan, processor) k.command;
  mapping = k.mapping;
  at = same ∙ k.at;
  torn = k.torn;
  its = (rw plan k.its.0, k.its.1);
  within = k.within;
  past = past;
  untagged = untagged;
}

pub TeardownsFit-kept : (state : FlatState) (g h : GuestState) → SlotsFit state g.parts → TeardownsFit g → KeepsTearing g h → KeepsTorn g.parts.maps h.parts.maps → KeepsUntagged g.parts h.parts.cache
    → TeardownsFit h
TeardownsFit-kept state g h slots f kept maps untagged = record {
  tearing = λ cpu slot index e.
      let k = f.tearing cpu slot index (before cpu slot index e) in
      tearing-kept g h cpu slot index kept.plan kept.count (kept.was cpu slot index e) k (maps.stays slot k.mapping k.at k.torn ∙ sym k.at)
      (λ i lt. maps.none slot i k.mapping k.at k.torn (omega (arith, lt, k.within, (slots.shown slot k.mapping k.at).0)) (k.past i lt))
      (λ i lt. untagged slot i k.mapping k.at k.torn (omega (arith, lt, k.within)) (k.untagged i lt));
  torn = λ slot mapping at not_live.
      let k = f.torn slot mapping (maps.was slot mapping at not_live) not_live in
      (k.0, k.1, ap (λ (p : Processor). p.phase) (kept.stays k.0 slot k.1 k.2) ∙ k.2);
  alone = λ cpu other slot index at e e'. f.alone cpu other slot index at (before cpu slot index e) (before other slot at e');
  unpinned = λ slot index mapping at not_live lt.
      let was = maps.was slot mapping at not_live in
      maps.unpinned slot index mapping was not_live lt (f.unpinned slot index mapping was not_live lt);
}
  where
    before : (cpu slot index : ℕ) → (processor_at h cpu).phase ≡ Teardown slot index → (processor_at g cpu).phase ≡ Teardown slot index
    before cpu slot index e = ap (λ (p : Processor). p.phase) (sym (kept.was cpu slot index e)) ∙ e

-- ---- an unmap begins

-- a processor's unmap of a live mapping of which no page is pinned
pub record CanUnmap (g : GuestState) (cpu number slot : ℕ) : Type 0 where
  pub below : cpu < length g.processors
  pub start : (processor_at g cpu).phase ≡ Start
  pub command : command_of g.plan cpu (processor_at g cpu).place ≡ Some (Unmap number)
  pub mapping : Slot
  pub at : slot_at g.parts.maps slot ≡ Some mapping
  pub live : mapping.live ≡ true
  pub its : (mapping.process ≡ process_of g.plan cpu) × (mapping.map ≡ number)
  pub some : 1 ≤ mapping.count
  pub unpinned : (index : ℕ) → index < MAX_MAPPING_PAGES → pinned_at g.parts.maps slot index ≡ false

pub TeardownsFit-begun : (g : GuestState) (cpu number slot : ℕ) → TeardownsFit g → CanUnmap g cpu number slot
    → TeardownsFit (answered (with_parts g (record g.parts { maps = torn_slot g.parts.maps slot })) cpu (Unmap number) Done (Teardown slot 0))
unfolding answered
TeardownsFit-begun g cpu number slot f k = record {
  tearing = λ q s i e. elim (cases_eq q cpu) [
    | inl z ↦
        let both : Teardown slot 0 ≡ Teardown s i = sym now ∙ ap (λ x. (processor_at h x).phase) (sym z) ∙ e in
        let s_is : slot ≡ s = cc in
        let i_is : 0 ≡ i = cc in
        subst (λ x. IsTearing h x s i) (sym z) (subst (λ x. IsTearing h cpu x i) s_is (subst (λ x. IsTearing h cpu slot x) i_is mine))
    | inr n ↦
        let was = f.tearing q s i (before q s i n e) in
        tearing-kept g h q s i refl one.size (one.others q n) was (elsewhere s (apart s was.mapping was.at was.torn)) (λ j lt. entry_at-torn_slot g.parts.maps slot s j ∙ was.past j lt) was.untagged
  ];
  torn = λ s m at not_live. elim (cases_eq s slot) [
    | inl z ↦ (cpu, 0, now ∙ ap (λ x. Teardown x 0) (sym z))
    | inr n ↦
        let was = f.torn s m (sym (elsewhere s n) ∙ at) not_live in
        let other : was.0 ≢ cpu = λ z. (let bad : Start ≡ Teardown s was.1 = sym k.start ∙ ap (λ x. (processor_at g x).phase) (sym z) ∙ was.2 in cc) in
        (was.0, was.1, ap (λ (p : Processor). p.phase) (one.others was.0 other) ∙ was.2)
  ];
  alone = λ q o s i j e e'. elim (cases_eq q cpu) [
    | inl z ↦ elim (cases_eq o cpu) [
      | inl y ↦ z ∙ sym y
      | inr m ↦ let was = f.tearing o s j (before o s j m e') in absurd (apart s was.mapping was.at was.torn (here q s i z e))
    ]
    | inr n ↦ elim (cases_eq o cpu) [
      | inl y ↦ let was = f.tearing q s i (before q s i n e) in absurd (apart s was.mapping was.at was.torn (here o s j y e'))
      | inr m ↦ f.alone q o s i j (before q s i n e) (before o s j m e')
    ]
  ];
  unpinned = λ s i m at not_live lt. pinned s i ∙ (elim (cases_eq s slot) [
    | inl z ↦ ap (λ x. pinned_at g.parts.maps x i) z ∙ k.unpinned i lt
    | inr n ↦ f.unpinned s i m (sym (elsewhere s n) ∙ at) not_live lt
  ]);
}
  where
    processor : Processor
    processor = record { place = (processor_at g cpu).place; phase = Teardown slot 0 }

    h : GuestState
    h = answered (with_parts g (record g.parts { maps = torn_slot g.parts.maps slot })) cpu (Unmap number) Done (Teardown slot 0)

    one : OneProcessor g.processors (set g.processors cpu processor) cpu processor
    one = one-set g.processors cpu processor k.below

    now : (processor_at h cpu).phase ≡ Teardown slot 0
    now = ap (λ (p : Processor). p.phase) one.here

    before : (q s i : ℕ) → q ≢ cpu → (processor_at h q).phase ≡ Teardown s i → (processor_at g q).phase ≡ Teardown s i
    before q s i n e = ap (λ (p : Processor). p.phase) (sym (one.others q n)) ∙ e

    here : (q s i : ℕ) → q ≡ cpu → (processor_at h q).phase ≡ Teardown s i → s ≡ slot
    here q s i z e = let both : Teardown slot 0 ≡ Teardown s i = sym now ∙ ap (λ x. (processor_at h x).phase) (sym z) ∙ e in cc

    elsewhere : (s : ℕ) → s ≢ slot → slot_at (torn_slot g.parts.maps slot) s ≡ slot_at g.parts.maps s
    elsewhere s n = slot_at-torn_slot_other g.parts.maps slot s n

    apart : (s : ℕ) (m : Slot) → slot_at g.parts.maps s ≡ Some m → m.live ≡ false → s ≢ slot
    apart s m at not_live = live-apart g.parts.maps slot s k.mapping m k.at k.live at not_live

    pinned : (s i : ℕ) → pinned_at (torn_slot g.parts.maps slot) s i ≡ pinned_at g.parts.maps s i
    pinned s i = ap (λ xs. slice_index_or xs (place_at s i) false) (pinned-torn_slot g.parts.maps slot)

    mine : IsTearing h cpu slot 0
    mine = record {
      cpu_below = rw one.size k.below;
      number = number;
      command = rw one.here k.command;
      mapping = record k.mapping { live = false };
      at = slot_at-torn_slot_same g.parts.maps slot (slot-below g.parts.maps slot k.mapping k.at) ∙ ap torn k.at;
      torn = refl;
      its = k.its;
      within = omega (arith, k.some);
      past = λ j lt. absurd (omega (arith, lt));
      untagged = λ j lt. absurd (omega (arith, lt));
    }

-- ---- an unmap goes on

-- the page that it is at has no entry
pub TeardownsFit-next : (g : GuestState) (cpu slot index : ℕ) → TeardownsFit g → (processor_at g cpu).phase ≡ Teardown slot index → (k : IsTearing g cpu slot index)
    → entry_at g.parts.maps slot index ≡ None → IsUntagged g.parts.cache slot index → index + 1 < k.mapping.count → TeardownsFit (with_phase g cpu (Teardown slot (index + 1)))
unfolding with_phase
TeardownsFit-next g cpu slot index f phase k none bare more = record {
  tearing = λ q s i e. elim (cases_eq q cpu) [
    | inl z ↦
        let both : Teardown slot (index + 1) ≡ Teardown s i = sym now ∙ ap (λ x. (processor_at h x).phase) (sym z) ∙ e in
        let s_is : slot ≡ s = cc in
        let i_is : index + 1 ≡ i = cc in
        subst (λ x. IsTearing h x s i) (sym z) (subst (λ x. IsTearing h cpu x i) s_is (subst (λ x. IsTearing h cpu slot x) i_is mine))
    | inr n ↦ let was = f.tearing q s i (before q s i n e) in tearing-kept g h q s i refl one.size (one.others q n) was refl was.past was.untagged
  ];
  torn = λ s m at not_live.
      let was = f.torn s m at not_live in
      elim (cases_eq was.0 cpu) [
        | inl z ↦
            let both : Teardown s was.1 ≡ Teardown slot index = sym was.2 ∙ ap (λ x. (processor_at g x).phase) z ∙ phase in
            let same : s ≡ slot = cc in
            (cpu, index + 1, now ∙ ap (λ x. Teardown x (index + 1)) (sym same))
        | inr n ↦ (was.0, was.1, ap (λ (p : Processor). p.phase) (one.others was.0 n) ∙ was.2)
      ];
  alone = λ q o s i j e e'. let a = at_slot q s i e in let b = at_slot o s j e' in f.alone q o s a.0 b.0 a.1 b.1;
  unpinned = f.unpinned;
}
  where
    processor : Processor
    processor = record { place = (processor_at g cpu).place; phase = Teardown slot (index + 1) }

    h : GuestState
    h = with_phase g cpu (Teardown slot (index + 1))

    one : OneProcessor g.processors (set g.processors cpu processor) cpu processor
    one = one-set g.processors cpu processor k.cpu_below

    now : (processor_at h cpu).phase ≡ Teardown slot (index + 1)
    now = ap (λ (p : Processor). p.phase) one.here

    before : (q s i : ℕ) → q ≢ cpu → (processor_at h q).phase ≡ Teardown s i → (processor_at g q).phase ≡ Teardown s i
    before q s i n e = ap (λ (p : Processor). p.phase) (sym (one.others q n)) ∙ e

    -- it was at the same slot
    at_slot : (q s i : ℕ) → (processor_at h q).phase ≡ Teardown s i → (j : ℕ) × ((processor_at g q).phase ≡ Teardown s j)
    at_slot q s i e = elim (cases_eq q cpu) [
      | inl z ↦
          let both : Teardown slot (index + 1) ≡ Teardown s i = sym now ∙ ap (λ x. (processor_at h x).phase) (sym z) ∙ e in
          let same : slot ≡ s = cc in
          (index, ap (λ x. (processor_at g x).phase) z ∙ phase ∙ ap (λ x. Teardown x index) same)
      | inr n ↦ (i, before q s i n e)
    ]

    mine : IsTearing h cpu slot (index + 1)
    mine = record {
      cpu_below = rw one.size k.cpu_below;
      number = k.number;
      command = rw one.here k.command;
      mapping = k.mapping;
      at = k.at;
      torn = k.torn;
      its = k.its;
      within = more;
      past = λ j lt. elim (cases_eq j index) [
        | inl z ↦ ap (entry_at g.parts.maps slot) z ∙ none
        | inr n ↦ k.past j (omega (arith, lt, n))
      ];
      untagged = λ j lt. elim (cases_eq j index) [
        | inl z ↦ subst (IsUntagged g.parts.cache slot) (sym z) bare
        | inr n ↦ k.untagged j (omega (arith, lt, n))
      ];
    }

-- ---- an unmap ends

pub TeardownsFit-ended : (g : GuestState) (cpu slot index : ℕ) → TeardownsFit g → (processor_at g cpu).phase ≡ Teardown slot index → IsTearing g cpu slot index
    → TeardownsFit (next_command (with_parts g (record g.parts { maps = freed_slot g.parts.maps slot })) cpu)
unfolding next_command
TeardownsFit-ended g cpu slot index f phase k = record {
  tearing = λ q s i e.
      let n = other q s i e in
      let was = f.tearing q s i (before q s i n e) in
      tearing-kept g h q s i refl one.size (one.others q n) was (elsewhere s (apart q s i n (before q s i n e)))
      (λ j lt. ap (λ xs. slice_index_or xs (place_at s j) None) (entries-freed_slot g.parts.maps slot) ∙ was.past j lt) was.untagged;
  torn = λ s m at not_live.
      let n = there s m at in
      let was = f.torn s m (sym (elsewhere s n) ∙ at) not_live in
      let q_other : was.0 ≢ cpu = λ z. (let both : Teardown s was.1 ≡ Teardown slot index = sym was.2 ∙ ap (λ x. (processor_at g x).phase) z ∙ phase in n (cc)) in
      (was.0, was.1, ap (λ (p : Processor). p.phase) (one.others was.0 q_other) ∙ was.2);
  alone = λ q o s i j e e'. f.alone q o s i j (before q s i (other q s i e) e) (before o s j (other o s j e') e');
  unpinned = λ s i m at not_live lt.
      ap (λ xs. slice_index_or xs (place_at s i) false) (pinned-freed_slot g.parts.maps slot) ∙ f.unpinned s i m (sym (elsewhere s (there s m at)) ∙ at) not_live lt;
}
  where
    processor : Processor
    processor = record { place = (processor_at g cpu).place + 1; phase = Start }

    h : GuestState
    h = next_command (with_parts g (record g.parts { maps = freed_slot g.parts.maps slot })) cpu

    one : OneProcessor g.processors (set g.processors cpu processor) cpu processor
    one = one-set g.processors cpu processor k.cpu_below

    other : (q s i : ℕ) → (processor_at h q).phase ≡ Teardown s i → q ≢ cpu
    other q s i e z = let bad : Start ≡ Teardown s i = ap (λ (p : Processor). p.phase) (sym one.here) ∙ ap (λ x. (processor_at h x).phase) (sym z) ∙ e in cc

    before : (q s i : ℕ) → q ≢ cpu → (processor_at h q).phase ≡ Teardown s i → (processor_at g q).phase ≡ Teardown s i
    before q s i n e = ap (λ (p : Processor). p.phase) (sym (one.others q n)) ∙ e

    apart : (q s i : ℕ) → q ≢ cpu → (processor_at g q).phase ≡ Teardown s i → s ≢ slot
    apart q s i n e z = n (f.alone q cpu s i index e (phase ∙ ap (λ x. Teardown x index) (sym z)))

    elsewhere : (s : ℕ) → s ≢ slot → slot_at (freed_slot g.parts.maps slot) s ≡ slot_at g.parts.maps s
    elsewhere s n = slot_at-freed_slot_other g.parts.maps slot s n

    there : (s : ℕ) (m : Slot) → slot_at (freed_slot g.parts.maps slot) s ≡ Some m → s ≢ slot
    there s m at z =
        let bad : None ≡ Some m = sym (slot_at-freed_slot_same g.parts.maps slot (slot-below g.parts.maps slot k.mapping k.at)) ∙ ap (slot_at (freed_slot g.parts.maps slot)) (sym z) ∙ at in cc
