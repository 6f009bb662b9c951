-- Fit after a page was taken off a mapping that is torn down: its entry is cleared, and the unmap goes on behind it.
use Rattle.std.proofs.Common.{◌≡◌, ◌≢◌, ◌<◌, ◌≤◌, ◌+◌, ◌-◌, ℕ, true, false, set, length, Option, Some, None, refl, ap, sym, ◌∙◌, inl, inr, subst, arith}
use Rattle.std.proofs.lemmas.Bool.{cases_eq, cases_lt, ltb-true}
use Rattle.std.proofs.lemmas.List.Sums.{sum_by-set}
use Rattle.cmm_types.specs.declared.page.Tag.{Tag}
use Rattle.cmm_types.specs.declared.page.Tag.TheVariants.{File, Anon}
use Rattle.cmm_types.specs.declared.command.TheConstants.{MAX_MAPPING_PAGES}
use Rattle.cmm_types.specs.declared.turn.Turn.{Turn}
use Rattle.cmm_io.specs.DiskView.{DiskView}
use Rattle.cmm_flat.specs.State.{FlatState}
use Rattle.cmm_flat.specs.Legal.{flat_of}
use Rattle.essa_state.specs.PageValue.{PageValue, MayBecome}
use Rattle.cmm_storage.specs.StorageView.{StorageView}
use Rattle.guest_pages.specs.PagesView.{info_at}
use Rattle.guest_maps.specs.declared.slot.Pte.{Pte}
use Rattle.guest_maps.specs.declared.slot.Slot.{Slot}
use Rattle.guest_maps.specs.MapsView.{MapsView, slot_at, is_live_slot, slot_has_page, entry_at, pinned_at, with_entry, freed_slot}
use Rattle.guest_maps.specs.Laws.TornLaws.{slot_at-freed_slot_same, slot_at-freed_slot_other}
use Rattle.guest_maps.specs.Laws.MapsLaws.{slots-with_entry, pinned-with_entry, pages-with_entry}
use Rattle.guest_rules.specs.declared.parts.Parts.{Parts}
use Rattle.guest_rules.specs.declared.processor.Phase.TheVariants.{Start, Teardown}
use Rattle.guest_rules.specs.declared.processor.Processor.{Processor}
use Rattle.guest_rules.specs.GuestState.{GuestState, first_processor, processor_at, with_parts, with_phase, next_command}
use Rattle.guest_rules.specs.Rows.{unmapped}
use Rattle.guest_rules.specs.Turns.{mapping_pages}
use Rattle.guest_rules.specs.Fit.{SlotsFit, EntriesFit, IsTearing, JournalFit, FitAt, Fit, IsOwnPage, IsUsedTag, answered_early, entries_of, own_pages, IsUntagged}
use Rattle.guest_rules.proofs.Cases.TurnCases.{GivenBack, ShowsPage, IsRehinted}
use Rattle.guest_rules.proofs.Cases.TornPast.{HasTornPast, tears_on, has_ended}
use Rattle.guest_rules.proofs.Kept.Changes.{InfoChange}
use Rattle.guest_rules.proofs.Kept.RowChanges.{unshown_info, change-unmapped, only-unmapped, maps-unmapped}
use Rattle.guest_rules.proofs.Kept.EntryLaws.{length-with_entry}
use Rattle.guest_rules.proofs.Kept.SlotsKept.{slot-below, SlotsFit-kept, SlotsFit-freed_slot}
use Rattle.guest_rules.proofs.Kept.EntriesKept.{HasEntry, has_entry-within, EntriesFit-unmapped, EntriesFit-freed_slot}
use Rattle.guest_rules.proofs.Kept.PinsKept.{SamePlaces, PinsFit-info, PinsFit-freed_slot}
use Rattle.guest_rules.proofs.Kept.LocksKept.{locks_none, LocksFit-passed}
use Rattle.guest_rules.proofs.Kept.TeardownsKept.{KeepsTorn, keeps_torn-cleared, OneProcessor, one-set, TeardownsFit-next, TeardownsFit-ended}
use Rattle.guest_rules.proofs.Fit.FitMay.{infos-pages}
use Rattle.guest_rules.proofs.Kept.TagsKept.{tags_stand, TagsStand-maps}
use Rattle.guest_rules.proofs.Fit.FitOthers.{FlatFit-others, FitAt-others}
use Rattle.guest_rules.proofs.Fit.FitChanged.{KeepsEnded, JournalFit-kept}
use Rattle.guest_rules.proofs.Kept.SwapLaws.{swap_tag, swap_slot-nowhere}
use Rattle.guest_rules.proofs.Fit.StepTold.{Fit-told}

-- ---- an entry is cleared

-- what has writers left had some
fewer_writers : (writers less : ℕ) → 1 ≤ writers - less → 1 ≤ writers
fewer_writers writers less h = omega (arith, h)

-- the entry of the page that an unmap is at
pub torn-has_entry : (state : FlatState) (g : GuestState) (cpu slot index : ℕ) (pte : Pte) → SlotsFit state g.parts → IsTearing g cpu slot index → entry_at g.parts.maps slot index ≡ Some pte
    → HasEntry g.parts slot index pte
torn-has_entry state g cpu slot index pte f k at = record {
  slot_below = rw f.slots at (slot-below g.parts.maps slot k.mapping k.at);
  index_below = omega (arith, k.within, (f.shown slot k.mapping k.at).0);
  size = f.entries;
  set = at;
}

pub Fit-cleared_entry : (state : FlatState) (g : GuestState) (v : StorageView) (d : DiskView) (w : StorageView) (e : DiskView) (cpu slot index : ℕ) (tag : Tag) (pte : Pte) (found : PageValue)
    (after : Parts) → FitAt state g v d
    → IsTearing g cpu slot index → entry_at g.parts.maps slot index ≡ Some pte → ShowsPage g tag pte.page → GivenBack pte.page v d w e → MayBecome (v.values pte.page) found
    → IsRehinted (unmapped g.parts slot index pte) pte.page found after (w.values pte.page) → FitAt state (with_parts g after) w e
Fit-cleared_entry state g v d w e cpu slot index tag pte found after f k at shows back may told =
    Fit-told state state g v d w e pte.page tag found middle after f shows back may (record {
      files = refl;
      own = λ process number. refl;
      sound = f.flat.sound;
      only = only-unmapped g.parts slot index pte;
      change = record { size = change.size; here = refl; others = change.others };
      keeps = rw change.here (record { tag = refl; uptodate = refl; dirty = λ e. e; owner = refl });
      mappings = places.slots;
      written = rw change.here (λ s i e some. f.tags.written pte.page s i (rw (infos-pages g v d f.sizes) at shows.below) e (inr (fewer_writers _ _ some)));
      slots = SlotsFit-kept state state g.parts middle f.slots refl places.slots (ap (λ (m : MapsView). length m.entries) set_none ∙ length-with_entry g.parts.maps slot index None) places.pinned
          (ap (λ (m : MapsView). m.pages) set_none ∙ pages-with_entry g.parts.maps slot index None) change.size (ap (λ c. c.files) (only-unmapped g.parts slot index pte).cache);
      entries = EntriesFit-unmapped g.parts middle slot index pte f.entries has change set_none;
      torn = subst (KeepsTorn g.parts.maps) (sym set_none) (keeps_torn-cleared g.parts.maps slot index (has_entry-within g.parts slot index pte has));
      pins = PinsFit-info g.parts middle pte.page (unshown_info pte.writable (info_at g.parts.pages pte.page)) f.pins change
          (only-unmapped g.parts slot index pte).cache places refl refl (λ u. u);
    })
    told
  where
    middle : Parts
    middle = unmapped g.parts slot index pte

    has : HasEntry g.parts slot index pte
    has = torn-has_entry state g cpu slot index pte f.slots k at

    set_none : middle.maps ≡ with_entry g.parts.maps slot index None
    set_none = maps-unmapped g.parts slot index pte

    change : InfoChange g.parts.pages middle.pages pte.page (unshown_info pte.writable (info_at g.parts.pages pte.page))
    change = change-unmapped g.parts slot index pte shows.below

    places : SamePlaces g.parts.maps middle.maps
    places = record {
      slots = ap (λ (m : MapsView). m.slots) set_none ∙ slots-with_entry g.parts.maps slot index None;
      pinned = ap (λ (m : MapsView). m.pinned) set_none ∙ pinned-with_entry g.parts.maps slot index None;
    }

-- ---- the unmap goes on behind the page

-- no page of the mapping has an entry any more
none_left : (state : FlatState) (g : GuestState) (cpu slot index : ℕ) → SlotsFit state g.parts → EntriesFit g.parts → (k : IsTearing g cpu slot index) → entry_at g.parts.maps slot index ≡ None
    → k.mapping.count ≤ index + 1 → (i : ℕ) → i < MAX_MAPPING_PAGES → entry_at g.parts.maps slot i ≡ None
none_left state g cpu slot index slots entries k none last i lt = of (entry_at g.parts.maps slot i) refl
  where
    past_end : (pte : Pte) → entry_at g.parts.maps slot i ≡ Some pte → index < i → ⊥
    past_end pte e past =
        let there : slot_has_page (Some k.mapping) i ≡ true = ap (λ o. slot_has_page o i) (sym k.at) ∙ (entries.entry slot i pte lt e).place in
        let below : i < k.mapping.count = ltb-true i k.mapping.count there in
        omega (arith, below, last, past)

    of : (o : Option Pte) → entry_at g.parts.maps slot i ≡ o → entry_at g.parts.maps slot i ≡ None
    of None e = e
    of (Some pte) e = elim (cases_lt i index) [
      | inl before ↦ k.past i before
      | inr from ↦ elim (cases_eq i index) [
        | inl z ↦ ap (entry_at g.parts.maps slot) z ∙ none
        | inr n ↦ absurd (past_end pte e (omega (arith, from, n)))
      ]
    ]

-- the journal has no entry more
same_entries : (g h : GuestState) (cpu : ℕ) (processor : Processor) → JournalFit g → KeepsEnded g h → h.plan ≡ g.plan → h.journal ≡ g.journal → OneProcessor g.processors h.processors cpu processor
    → h.processors ≡ set g.processors cpu processor → cpu < length g.processors → entries_of processor ≡ entries_of (processor_at g cpu) → JournalFit h
same_entries g h cpu processor f ended plan journal one is below same =
    JournalFit-kept g h f plan journal one.size each (rw is (sums _ _ _ _ (sum_by-set entries_of g.processors cpu processor first_processor below) same)) ended
  where
    sums : (new was old now : ℕ) → new + was ≡ old + now → now ≡ was → new ≡ old
    sums new was old now a b = omega (arith, a, b)

    each : (q : ℕ) → entries_of (processor_at h q) ≡ entries_of (processor_at g q)
    each q = elim (cases_eq q cpu) [
      | inl z ↦ ap (λ x. entries_of (processor_at h x)) z ∙ ap entries_of one.here ∙ same ∙ ap (λ x. entries_of (processor_at g x)) (sym z)
      | inr n ↦ ap entries_of (one.others q n)
    ]

-- an unmap that is at its pages has been answered
torn-entries : (g : GuestState) (cpu slot index : ℕ) → (processor_at g cpu).phase ≡ Teardown slot index → (processor_at g cpu).place + 1 ≡ entries_of (processor_at g cpu)
torn-entries g cpu slot index phase = ap (λ p. (processor_at g cpu).place + answered_early p) (sym phase)

before_last : (i index count : ℕ) → i < count → count ≤ index + 1 → i ≢ index → i < index
before_last i index count below last other = omega (arith, below, last, other)

no_more : (place : ℕ) → place + 1 + 0 ≡ place + 1
no_more place = omega arith

-- the page that it is at has no entry, and no page or swap slot of its own
pub Fit-torn_past : (g : GuestState) (v : StorageView) (d : DiskView) (h : GuestState) (cpu slot index : ℕ) (t : Turn) → Fit g v d
    → (processor_at g cpu).phase ≡ Teardown slot index → entry_at g.parts.maps slot index ≡ None → IsUntagged g.parts.cache slot index
    → HasTornPast g cpu slot index (mapping_pages (slot_at g.parts.maps slot)) h t → Fit h v d
unfolding with_phase next_command
Fit-torn_past g v d h cpu slot index t f phase none bare (tears_on more eh et) =
    rw eh (FitAt-others flat flat g v d g.parts.maps g.journal (set g.processors cpu processor) f
    (FlatFit-others flat g v d g.parts.maps g.journal (set g.processors cpu processor) f.flat (λ s live. refl)) one.size (record {
      slots = f.slots;
      entries = f.entries;
      pins = f.pins;
      tags = tags_stand g.parts v f.tags;
      locks = LocksFit-passed g now cpu (Teardown slot (index + 1)) f.locks refl refl refl one.size (ap (λ (p : Processor). p.phase) one.here) one.others
          (locks_none g cpu (Teardown slot index) phase tt) tt tt;
      teardowns = TeardownsFit-next g cpu slot index f.teardowns phase k none bare (rw k.at at more);
      journal = same_entries g now cpu processor f.journal ended refl refl one refl k.cpu_below (torn-entries g cpu slot index phase);
    }))
  where
    flat : FlatState
    flat = flat_of g.plan g.journal

    k : IsTearing g cpu slot index
    k = f.teardowns.tearing cpu slot index phase

    processor : Processor
    processor = record { place = (processor_at g cpu).place; phase = Teardown slot (index + 1) }

    now : GuestState
    now = with_phase g cpu (Teardown slot (index + 1))

    one : OneProcessor g.processors (set g.processors cpu processor) cpu processor
    one = one-set g.processors cpu processor k.cpu_below

    ended : KeepsEnded g now
    ended q s i e = elim (cases_eq q cpu) [
      | inl z ↦
          let both : Teardown slot (index + 1) ≡ Teardown s i = ap (λ (p : Processor). p.phase) (sym one.here) ∙ ap (λ x. (processor_at now x).phase) (sym z) ∙ e in
          let same : slot ≡ s = cc in
          (index, ap (λ x. (processor_at g x).phase) z ∙ phase ∙ ap (λ x. Teardown x index) same, refl)
      | inr n ↦ (i, ap (λ (p : Processor). p.phase) (sym (one.others q n)) ∙ e, refl)
    ]
Fit-torn_past g v d h cpu slot index t f phase none bare (has_ended last eh et) =
    rw eh (FitAt-others flat flat g v d (freed_slot g.parts.maps slot) g.journal (set g.processors cpu processor) f
    (FlatFit-others flat g v d (freed_slot g.parts.maps slot) g.journal (set g.processors cpu processor) f.flat (λ s live. elsewhere s (lives s live))) one.size (record {
      slots = SlotsFit-freed_slot flat g.parts slot k.mapping f.slots k.at k.torn unpinned;
      entries = EntriesFit-freed_slot g.parts slot f.entries (none_left flat g cpu slot index f.slots f.entries k none (rw k.at at last));
      pins = PinsFit-freed_slot g.parts slot f.pins unpinned;
      tags = TagsStand-maps g.parts (freed_slot g.parts.maps slot) (tags_stand g.parts v f.tags) (λ page tag e is. kept tag (λ i z. paged page i (e ∙ ap Some z)) is)
          (λ number tag e is. kept tag (λ i z. swapped number i (e ∙ ap Some z)) is);
      locks = LocksFit-passed g now cpu Start f.locks refl refl refl one.size (ap (λ (p : Processor). p.phase) one.here) one.others (locks_none g cpu (Teardown slot index) phase tt) tt tt;
      teardowns = TeardownsFit-ended g cpu slot index f.teardowns phase k;
      journal = same_entries g now cpu processor f.journal ended refl refl one refl k.cpu_below (no_more (processor_at g cpu).place ∙ torn-entries g cpu slot index phase);
    }))
  where
    flat : FlatState
    flat = flat_of g.plan g.journal

    k : IsTearing g cpu slot index
    k = f.teardowns.tearing cpu slot index phase

    processor : Processor
    processor = record { place = (processor_at g cpu).place + 1; phase = Start }

    now : GuestState
    now = next_command (with_parts g (record g.parts { maps = freed_slot g.parts.maps slot })) cpu

    one : OneProcessor g.processors (set g.processors cpu processor) cpu processor
    one = one-set g.processors cpu processor k.cpu_below

    elsewhere : (s : ℕ) → s ≢ slot → slot_at (freed_slot g.parts.maps slot) s ≡ slot_at g.parts.maps s
    elsewhere s n = slot_at-freed_slot_other g.parts.maps slot s n

    free_now : slot_at (freed_slot g.parts.maps slot) slot ≡ None
    free_now = slot_at-freed_slot_same g.parts.maps slot (slot-below g.parts.maps slot k.mapping k.at)

    lives : (s : ℕ) → is_live_slot (slot_at (freed_slot g.parts.maps slot) s) ≡ true → s ≢ slot
    lives s live z = let bad : false ≡ true = ap is_live_slot (sym free_now) ∙ ap (λ x. is_live_slot (slot_at (freed_slot g.parts.maps slot) x)) (sym z) ∙ live in cc

    -- all pages of the mapping have been taken off
    gone : (i : ℕ) → IsOwnPage (slot_at g.parts.maps slot) i → IsUntagged g.parts.cache slot i
    gone i is =
        let own : IsOwnPage (Some k.mapping) i = rw k.at at is in
        elim (cases_eq i index) [
          | inl z ↦ subst (IsUntagged g.parts.cache slot) (sym z) bare
          | inr n ↦ k.untagged i (before_last _ _ _ own.1 (rw k.at at last) n)
        ]

    paged : (page i : ℕ) → (info_at g.parts.pages page).tag ≡ Some (Anon slot i) → ⊥
    paged page i e =
        let none = (gone i (f.tags.pages page (Anon slot i) e)).0 in
        let bad : None ≡ Some page = sym none ∙ (f.pages.indexed page (Anon slot i) e).1 in cc

    swapped : (number i : ℕ) → swap_tag g.parts.cache number ≡ Some (Anon slot i) → ⊥
    swapped number i e = swap_slot-nowhere g.parts.cache slot i number (gone i (f.tags.swapped number (Anon slot i) e).1).1 e

    kept : (tag : Tag) → ((i : ℕ) → tag ≡ Anon slot i → ⊥) → IsUsedTag g.parts.maps tag → IsUsedTag (freed_slot g.parts.maps slot) tag
    kept (File file i) never is = tt
    kept (Anon s i) never is = subst (λ (o : Option Slot). IsOwnPage o i) (sym (elsewhere s (λ z. never i (λ j. Anon (z j) i)))) is

    ended : KeepsEnded g now
    ended q s i e =
        let n : q ≢ cpu = λ z. (let bad : Start ≡ Teardown s i = ap (λ (p : Processor). p.phase) (sym one.here) ∙ ap (λ x. (processor_at now x).phase) (sym z) ∙ e in cc) in
        let was : (processor_at g q).phase ≡ Teardown s i = ap (λ (p : Processor). p.phase) (sym (one.others q n)) ∙ e in
        (i, was, ap own_pages (elsewhere s (λ z. n (f.teardowns.alone q cpu s i index was (phase ∙ ap (λ x. Teardown x index) (sym z))))))

    unpinned : (i : ℕ) → i < MAX_MAPPING_PAGES → pinned_at g.parts.maps slot i ≡ false
    unpinned i lt = f.teardowns.unpinned slot i k.mapping k.at k.torn lt
