-- Up to which page the mapping of an unmap is torn down, in a guest that fits.
use Rattle.std.proofs.Common.{◌≡◌, ◌⊎◌, ◌<◌, ◌≤◌, ◌+◌, ◌*◌, ◌^◌, ℕ, not, cond, Bool, true, false, nat_lt, if◌then◌else◌}
use Rattle.std.proofs.Common.{List, length, Option, Some, None, slice_index_or, refl, ap, sym, subst, ◌∙◌, inl, inr, eq-eqb, arith}
use Rattle.std.proofs.lemmas.Bool.{cases_lt}
use Rattle.std.proofs.lemmas.Bool.Decides.{nat_tests}
use Rattle.std.proofs.lemmas.List.{get_or-set_same}
use Rattle.std.proofs.lemmas.Option.{same_Some}
use Rattle.cmm_types.specs.declared.page.Tag.{Tag}
use Rattle.cmm_types.specs.declared.page.Tag.TheVariants.{File, Anon}
use Rattle.cmm_types.specs.declared.command.TheConstants.{MAX_MAPPING_PAGES}
use Rattle.cmm_types.specs.declared.command.Op.TheVariants.{Unmap}
use Rattle.cmm_types.specs.declared.turn.Turn.{Turn}
use Rattle.cmm_types.specs.declared.turn.Turn.TheVariants.{Moved, Finished}
use Rattle.cmm_flat.specs.Legal.{flat_of}
use Rattle.cmm_io.specs.DiskView.{DiskView}
use Rattle.cmm_storage.specs.StorageCall.{StorageCall}
use Rattle.cmm_storage.specs.StorageView.{StorageView, Follows}
use Rattle.cmm_storage.specs.Program.{Program, done, bind, DoesAlone}
use Rattle.cmm_storage.specs.Runs.{does_bind}
use Rattle.cmm_storage.specs.Views.{Seen}
use Rattle.guest_cache.specs.CacheView.{page_of}
use Rattle.guest_maps.specs.declared.slot.Pte.{Pte}
use Rattle.guest_maps.specs.declared.slot.Shown.{Shown}
use Rattle.guest_maps.specs.declared.slot.Shown.TheVariants.{File as OfFile, Anon as OfItsOwn}
use Rattle.guest_maps.specs.declared.slot.Slot.{Slot}
use Rattle.guest_maps.specs.declared.slot.Spot.{Spot}
use Rattle.guest_maps.specs.MapsView.{MapsView, slot_at, slot_has_page, place_at, entry_at, tag_of, tag_at, spot_at, is_torn, unless_shows, with_entry, without_entries_of, freed_slot}
use Rattle.guest_maps.specs.Laws.MapsLaws.{slots-with_entry, pinned-with_entry, slots-without_entries_of, pinned-without_entries_of, entry_at-without_entries_of, spot_at-some, spot_at-none}
use Rattle.guest_maps.specs.Laws.TornLaws.{any_pinned-none}
use Rattle.guest_rules.specs.declared.parts.Parts.{Parts}
use Rattle.guest_rules.specs.declared.outcome.Placed.{Placed}
use Rattle.guest_rules.specs.declared.outcome.Placed.TheVariants.{Done as PlaceDone, Gone as PlaceGone, Again as PlaceAgain}
use Rattle.guest_rules.specs.declared.processor.Phase.TheVariants.{Teardown}
use Rattle.guest_rules.specs.GuestState.{GuestState, processor_at, with_parts, with_phase, next_command}
use Rattle.guest_rules.specs.Rows.{freed, clear_entry, released, tear_page}
use Rattle.guest_rules.specs.Answers.{HasBeenFilled}
use Rattle.guest_rules.specs.Turns.{mapping_pages, torn_past, torn_next, teardown_turn, teardown_in, teardown_shown, teardown_entry, teardown_page}
use Rattle.guest_rules.specs.Fit.{Fit, IsTearing}
use Rattle.guest_rules.proofs.Cases.TurnCases.{ShowsPage}
use Rattle.guest_rules.proofs.Cases.MapsFound.{tag_at-place}
use Rattle.guest_rules.proofs.Kept.PageFits.{tagged-below}
use Rattle.guest_rules.proofs.Kept.SlotsKept.{slot-below}
use Rattle.guest_rules.proofs.Kept.PinsKept.{SamePlaces}
use Rattle.guest_rules.proofs.Kept.TeardownsKept.{KeepsTorn, keeps_torn-same, keeps_torn-without, keeps_torn-cleared}
use Rattle.guest_rules.proofs.Kept.RowChanges.{handled-maps, freed-maps}
use Rattle.guest_rules.proofs.Rows.AnswerLaws.{any_disk, seen_alone, usable, clear-says}
use Rattle.guest_rules.proofs.Rows.ClearEntry.{is_used_unmapped, seen_clear_entry}
use Rattle.guest_rules.proofs.Rows.TearPage.{TearOutcome, seen_tear_page}
use Rattle.guest_rules.proofs.Fit.FitTorn.{released-maps}
use Rattle.guest_rules.proofs.Ready.AnswerReady.{shown-ready}
use Rattle.guest_rules.proofs.Ready.ReadyCalls.{place-below, tearing-below}
use Rattle.guest_core.specs.Between.{IsTornTo}
use Rattle.guest_core.proofs.Spots.{place_test}

-- ---- a page is taken off

-- the page that an unmap is at was taken off its mapping: the place has no entry, and no other of a mapping that is torn down has a new one
pub record TakesOff (old new : MapsView) (slot index : ℕ) : Type 0 where
  pub keeps : KeepsTorn old new
  pub places : SamePlaces old new
  pub gone : entry_at new slot index ≡ None

-- it had no entry
pub off-bare : (maps : MapsView) (slot index : ℕ) → entry_at maps slot index ≡ None → TakesOff maps maps slot index
off-bare maps slot index none = record { keeps = keeps_torn-same maps maps refl; places = record { slots = refl; pinned = refl }; gone = none }

-- its entry was cleared
cleared_here : (maps : MapsView) (slot index : ℕ) → place_at slot index < length maps.entries → entry_at (with_entry maps slot index None) slot index ≡ None
unfolding with_entry
cleared_here maps slot index below = get_or-set_same maps.entries (place_at slot index) None None below

off-cleared : (maps new : MapsView) (slot index : ℕ) → place_at slot index < length maps.entries → new ≡ with_entry maps slot index None → TakesOff maps new slot index
off-cleared maps new slot index below is =
    subst (λ (m : MapsView). TakesOff maps m slot index) (sym is) (record {
      keeps = keeps_torn-cleared maps slot index below;
      places = record { slots = slots-with_entry maps slot index None; pinned = pinned-with_entry maps slot index None };
      gone = cleared_here maps slot index below;
    })

-- its page had been discarded, and no entry shows it any more
unless-shown : (pte : Pte) → unless_shows pte.page (Some pte) ≡ None
unless-shown pte = ap (λ (b : Bool). cond b None (Some pte)) (eq-eqb pte.page pte.page refl)

off-discarded : (maps new : MapsView) (slot index : ℕ) (pte : Pte) → entry_at maps slot index ≡ Some pte → new ≡ without_entries_of maps pte.page → TakesOff maps new slot index
off-discarded maps new slot index pte entry is =
    subst (λ (m : MapsView). TakesOff maps m slot index) (sym is) (record {
      keeps = keeps_torn-without maps pte.page;
      places = record { slots = slots-without_entries_of maps pte.page; pinned = pinned-without_entries_of maps pte.page };
      gone = entry_at-without_entries_of maps pte.page slot index ∙ ap (unless_shows pte.page) entry ∙ unless-shown pte;
    })

-- its page was freed, the only one that its entry could show
unless-only : (maps : MapsView) (slot index page : ℕ) (o : Option Pte) → entry_at maps slot index ≡ o → ((pte : Pte) → entry_at maps slot index ≡ Some pte → pte.page ≡ page)
    → unless_shows page o ≡ None
unless-only maps slot index page None e only = refl
unless-only maps slot index page (Some pte) e only = ap (λ n. unless_shows n (Some pte)) (sym (only pte e)) ∙ unless-shown pte

off-freed : (maps new : MapsView) (slot index page : ℕ) → ((pte : Pte) → entry_at maps slot index ≡ Some pte → pte.page ≡ page) → new ≡ without_entries_of maps page
    → TakesOff maps new slot index
off-freed maps new slot index page only is =
    subst (λ (m : MapsView). TakesOff maps m slot index) (sym is) (record {
      keeps = keeps_torn-without maps page;
      places = record { slots = slots-without_entries_of maps page; pinned = pinned-without_entries_of maps page };
      gone = entry_at-without_entries_of maps page slot index ∙ unless-only maps slot index page (entry_at maps slot index) refl only;
    })

-- ---- a page of an unmap's mapping

-- the page that its entry shows has been filled
shown-filled : (g : GuestState) (v : StorageView) (d : DiskView) (slot index : ℕ) (pte : Pte) → Fit g v d → index < MAX_MAPPING_PAGES → entry_at g.parts.maps slot index ≡ Some pte
    → HasBeenFilled g.parts pte.page v
shown-filled g v d slot index pte f below entry =
    let its = f.entries.entry slot index pte below entry in
    let shows : ShowsPage g its.tag pte.page = record { below = tagged-below g.parts.pages pte.page its.tag its.tagged; tagged = its.tagged; uptodate = its.uptodate } in
    shown-ready (flat_of g.plan g.journal) g v d pte.page its.tag f shows

-- the place that an unmap is at is one of the table's
entry-below : (g : GuestState) (v : StorageView) (d : DiskView) (cpu slot index : ℕ) → Fit g v d → IsTearing g cpu slot index → place_at slot index < length g.parts.maps.entries
entry-below g v d cpu slot index f k =
    omega (arith, tearing-below g v d cpu slot index f k, slot-below g.parts.maps slot k.mapping k.at, f.slots.slots, f.slots.entries)

-- the page is off unless the call is to be made again
abbrev pub TakesOffBy : (old new : MapsView) (slot index : ℕ) → Placed → Type 0
TakesOffBy old new slot index PlaceDone = TakesOff old new slot index
TakesOffBy old new slot index PlaceGone = TakesOff old new slot index
TakesOffBy old new slot index (PlaceAgain why) = Unit {0}

pub clears-off : (g : GuestState) (v w : StorageView) (d x y : DiskView) (cpu slot index : ℕ) (pte : Pte) (a : Parts) (r : Placed) → Fit g v d → IsTearing g cpu slot index
    → entry_at g.parts.maps slot index ≡ Some pte → Seen {A = Parts × Placed} (clear_entry g.parts slot index pte) v x (a, r) w y → TakesOffBy g.parts.maps a.maps slot index r
clears-off g v w d x y cpu slot index pte a PlaceDone f k entry seen =
    let can = shown-filled g v d slot index pte f (tearing-below g v d cpu slot index f k) entry in
    off-cleared g.parts.maps a.maps slot index (entry-below g v d cpu slot index f k) (clear-says g.parts slot index pte v x a PlaceDone w y can seen).0
clears-off g v w d x y cpu slot index pte a PlaceGone f k entry seen =
    let can = shown-filled g v d slot index pte f (tearing-below g v d cpu slot index f k) entry in
    let its =
    seen_clear_entry g.parts slot index pte v x a PlaceGone w y (usable g.parts pte.page v can) (is_used_unmapped g.parts slot index pte can.has.tag can.has.below can.has.tagged) seen
    in
    off-discarded g.parts.maps a.maps slot index pte entry (ap (λ (p : Parts). p.maps) its.tables ∙ handled-maps g.parts pte.page ∙ freed-maps g.parts pte.page)
clears-off g v w d x y cpu slot index pte a (PlaceAgain why) f k entry seen = tt

-- the same of a run over any storage, from tables that are the guest's
pub off-by : {S : Type 0} (step : S → StorageCall → S → Type 0) (view : S → StorageView) (meets : (s : S) (call : StorageCall) (t : S) → step s call t → Follows (view s) call (view t))
    (inside g : GuestState) (s t : S) (d : DiskView) (cpu slot index : ℕ) (pte : Pte) (a : Parts) (r : Placed) → inside ≡ g → Fit g (view s) d → IsTearing g cpu slot index
    → entry_at g.parts.maps slot index ≡ Some pte → DoesAlone {A = Parts × Placed} step (clear_entry inside.parts slot index pte) s (a, r) t → TakesOffBy g.parts.maps a.maps slot index r
off-by step view meets inside g s t d cpu slot index pte a r same f k entry run =
    let its = subst (λ (q : GuestState). DoesAlone {A = Parts × Placed} step (clear_entry q.parts slot index pte) s (a, r) t) same run in
    clears-off g (view s) (view t) d any_disk any_disk cpu slot index pte a r f k entry (seen_alone step view meets (clear_entry g.parts slot index pte) s (a, r) t its)

-- ---- a page of a mapping of pages of its own

-- the entry there shows the page that has the tag
shows-own : (g : GuestState) (v : StorageView) (d : DiskView) (slot index page : ℕ) → Fit g v d → index < MAX_MAPPING_PAGES → tag_at g.parts.maps slot index ≡ Some (Anon slot index)
    → page_of g.parts.cache (Anon slot index) ≡ Some page → (pte : Pte) → entry_at g.parts.maps slot index ≡ Some pte → pte.page ≡ page
shows-own g v d slot index page f below own there pte entry =
    let its = f.entries.entry slot index pte below entry in
    let tag : its.tag ≡ Anon slot index = same_Some _ _ (sym its.mapped ∙ own) in
    same_Some _ _ (sym (ap (page_of g.parts.cache) (sym tag) ∙ (f.pages.indexed pte.page its.tag its.tagged).1) ∙ there)

-- and there is none where no page has it
pub bare-own : (g : GuestState) (v : StorageView) (d : DiskView) (slot index : ℕ) → Fit g v d → index < MAX_MAPPING_PAGES → tag_at g.parts.maps slot index ≡ Some (Anon slot index)
    → page_of g.parts.cache (Anon slot index) ≡ None → entry_at g.parts.maps slot index ≡ None
bare-own g v d slot index f below own none = of (entry_at g.parts.maps slot index) refl
  where
    of : (o : Option Pte) → entry_at g.parts.maps slot index ≡ o → o ≡ None
    of None e = refl
    of (Some pte) e =
        let its = f.entries.entry slot index pte below e in
        let tag : its.tag ≡ Anon slot index = same_Some _ _ (sym its.mapped ∙ own) in
        let bad : None ≡ Some pte.page = sym none ∙ ap (page_of g.parts.cache) (sym tag) ∙ (f.pages.indexed pte.page its.tag its.tagged).1 in
        absurd cc

-- it is taken off, with its swap slot
tears-off : (g : GuestState) (v w : StorageView) (d x y : DiskView) (cpu slot index page : ℕ) (a : Parts) (r : Placed) → Fit g v d → IsTearing g cpu slot index
    → tag_at g.parts.maps slot index ≡ Some (Anon slot index) → page_of g.parts.cache (Anon slot index) ≡ Some page
    → Seen {A = Parts × Placed} (tear_page g.parts slot index page) v x (a, r) w y → TakesOffBy g.parts.maps a.maps slot index r
tears-off g v w d x y cpu slot index page a r f k own there seen = of r (seen_tear_page g.parts slot index page v x a r w y seen)
  where
    of : (q : Placed) → TearOutcome g.parts slot index page v x a q w y → TakesOffBy g.parts.maps a.maps slot index q
    of PlaceDone was =
        off-freed g.parts.maps a.maps slot index page (shows-own g v d slot index page f (tearing-below g v d cpu slot index f k) own there)
        (ap (λ (p : Parts). p.maps) was.tables ∙ released-maps (freed g.parts page) slot index ∙ freed-maps g.parts page)
    of PlaceGone never = absurd never
    of (PlaceAgain why) missed = tt

pub torn_off-by : {S : Type 0} (step : S → StorageCall → S → Type 0) (view : S → StorageView) (meets : (s : S) (call : StorageCall) (t : S) → step s call t → Follows (view s) call (view t))
    (inside g : GuestState) (s t : S) (d : DiskView) (cpu slot index page : ℕ) (a : Parts) (r : Placed) → inside ≡ g → Fit g (view s) d → IsTearing g cpu slot index
    → tag_at g.parts.maps slot index ≡ Some (Anon slot index) → page_of g.parts.cache (Anon slot index) ≡ Some page
    → DoesAlone {A = Parts × Placed} step (tear_page inside.parts slot index page) s (a, r) t → TakesOffBy g.parts.maps a.maps slot index r
torn_off-by step view meets inside g s t d cpu slot index page a r same f k own there run =
    let its = subst (λ (q : GuestState). DoesAlone {A = Parts × Placed} step (tear_page q.parts slot index page) s (a, r) t) same run in
    tears-off g (view s) (view t) d any_disk any_disk cpu slot index page a r f k own there (seen_alone step view meets (tear_page g.parts slot index page) s (a, r) t its)

-- ---- up to which page the mapping is torn down

-- where it has no page, a mapping has no entry
bare_outside : (g : GuestState) (v : StorageView) (d : DiskView) (slot index : ℕ) (mapping : Slot) → Fit g v d → slot_at g.parts.maps slot ≡ Some mapping → index < MAX_MAPPING_PAGES
    → mapping.count ≤ index → entry_at g.parts.maps slot index ≡ None
bare_outside g v d slot index mapping f at below past = of (entry_at g.parts.maps slot index) refl
  where
    of : (o : Option Pte) → entry_at g.parts.maps slot index ≡ o → o ≡ None
    of None e = refl
    of (Some pte) e =
        let place : slot_has_page (slot_at g.parts.maps slot) index ≡ true = (f.entries.entry slot index pte below e).place in
        let inside : nat_lt index mapping.count ≡ true = ap (λ (o : Option Slot). slot_has_page o index) (sym at) ∙ place in
        absurd (grind (arith, nat_tests))

pub torn_to : (g : GuestState) (v : StorageView) (d : DiskView) (cpu slot index : ℕ) (new : MapsView) → Fit g v d → IsTearing g cpu slot index → TakesOff g.parts.maps new slot index
    → IsTornTo new slot index
torn_to g v d cpu slot index new f k off = record {
  below = slot-below new slot k.mapping at;
  torn = ap is_torn at ∙ ap not k.torn;
  unpinned = any_pinned-none new slot whole (slot-below new slot k.mapping at) (λ i lt. off.keeps.unpinned slot i k.mapping k.at k.torn lt (f.teardowns.unpinned slot i k.mapping k.at k.torn lt));
  past = λ i le. elim (cases_lt i index) [
    | inl lt ↦ off.keeps.none slot i k.mapping k.at k.torn (omega (arith, lt, within)) (k.past i lt)
    | inr ge ↦ let same : i ≡ index = omega (arith, le, ge) in ap (entry_at new slot) same ∙ off.gone
  ];
  outside = λ i lt past. off.keeps.none slot i k.mapping k.at k.torn lt (bare_outside g v d slot i k.mapping f k.at lt (omega (arith, past, pages)));
}
  where
    at : slot_at new slot ≡ Some k.mapping
    at = off.keeps.stays slot k.mapping k.at k.torn

    pages : mapping_pages (slot_at new slot) ≡ k.mapping.count
    pages = ap mapping_pages at

    within : index < MAX_MAPPING_PAGES
    within = tearing-below g v d cpu slot index f k

    whole : length new.pinned ≡ length new.slots * MAX_MAPPING_PAGES
    whole = omega (arith, ap (λ (xs : List Bool). length xs) off.places.pinned, ap (λ (xs : List (Option Slot)). length xs) off.places.slots, f.slots.pinned, f.slots.slots)

-- behind the last page it has no entry at all
pub bare : (maps : MapsView) (slot index : ℕ) → IsTornTo maps slot index → spot_at maps slot (index + 1) ≡ None → (at : ℕ) → at < MAX_MAPPING_PAGES → entry_at maps slot at ≡ None
bare maps slot index k none at below =
    let test : nat_lt (index + 1) (mapping_pages (slot_at maps slot)) ≡ false = place_test (slot_at maps slot) (index + 1) ∙ spot_at-none maps slot (index + 1) none in
    elim (cases_lt index at) [
      | inl behind ↦ k.outside at below (let last : mapping_pages (slot_at maps slot) ≤ index + 1 = grind (arith, nat_tests) in omega (arith, last, behind))
      | inr up_to ↦ k.past at (omega (arith, up_to))
    ]

-- ---- the programs

-- it is the last page, or there is a next one
pub past-last : (g : GuestState) (cpu slot index : ℕ) → spot_at g.parts.maps slot (index + 1) ≡ None
    → ◌≡◌ {A = GuestState × Turn} (torn_past g cpu slot index (mapping_pages (slot_at g.parts.maps slot)))
    (next_command (with_parts g (record g.parts { maps = freed_slot g.parts.maps slot })) cpu, Finished)
past-last g cpu slot index none =
    ap (λ (more : Bool).
    let both : GuestState × Turn =
    if more then (with_phase g cpu (Teardown slot (index + 1)), Moved)
    else (next_command (with_parts g (record g.parts { maps = freed_slot g.parts.maps slot })) cpu, Finished) in
    both)
    (place_test (slot_at g.parts.maps slot) (index + 1) ∙ spot_at-none g.parts.maps slot (index + 1) none)

pub past-next : (g : GuestState) (cpu slot index : ℕ) (spot : Spot) → spot_at g.parts.maps slot (index + 1) ≡ Some spot
    → ◌≡◌ {A = GuestState × Turn} (torn_past g cpu slot index (mapping_pages (slot_at g.parts.maps slot))) (with_phase g cpu (Teardown slot (index + 1)), Moved)
past-next g cpu slot index spot some =
    ap (λ (more : Bool).
    let both : GuestState × Turn =
    if more then (with_phase g cpu (Teardown slot (index + 1)), Moved)
    else (next_command (with_parts g (record g.parts { maps = freed_slot g.parts.maps slot })) cpu, Finished) in
    both)
    (place_test (slot_at g.parts.maps slot) (index + 1) ∙ (spot_at-some g.parts.maps slot (index + 1) spot some).0)

-- a guest and its answer that are these
pub pair : (g h : GuestState) (r t : Turn) → h ≡ g → t ≡ r → ◌≡◌ {A = GuestState × Turn} (g, r) (h, t)
pair g h r t same answer i = (sym same i, sym answer i)

-- the teardown's turn, by what the mapping shows
tears-shown : (g : GuestState) (cpu slot index : ℕ) (k : IsTearing g cpu slot index)
    → teardown_turn g cpu slot index ≡ teardown_shown g cpu slot index (mapping_pages (slot_at g.parts.maps slot)) k.mapping.shown
unfolding teardown_turn
tears-shown g cpu slot index k =
    ap (teardown_in g cpu slot index) k.at ∙ ap (λ (count : ℕ). teardown_shown g cpu slot index count k.mapping.shown) (sym (ap mapping_pages k.at))

-- at a page of a mapping of a file
pub tears-file : (g : GuestState) (cpu slot index file at : ℕ) → IsTearing g cpu slot index → tag_at g.parts.maps slot index ≡ Some (File file at)
    → teardown_turn g cpu slot index ≡ teardown_entry g cpu slot index (mapping_pages (slot_at g.parts.maps slot)) (entry_at g.parts.maps slot index)
tears-file g cpu slot index file at k tag = tears-shown g cpu slot index k ∙ of k.mapping.shown (same_Some _ _ (sym (tag_at-place g.parts.maps slot index k.mapping k.at k.within) ∙ tag))
  where
    of : (s : Shown) → tag_of s slot index ≡ File file at
        → teardown_shown g cpu slot index (mapping_pages (slot_at g.parts.maps slot)) s
        ≡ teardown_entry g cpu slot index (mapping_pages (slot_at g.parts.maps slot)) (entry_at g.parts.maps slot index)
    of (OfFile its first writable) e = refl
    of OfItsOwn e = let bad : Anon slot index ≡ File file at = e in absurd cc

-- and of a mapping of pages of its own, whose tag there is that of the place
pub tears-own : (g : GuestState) (cpu slot index other at : ℕ) → IsTearing g cpu slot index → tag_at g.parts.maps slot index ≡ Some (Anon other at)
    → (teardown_turn g cpu slot index ≡ teardown_page g cpu slot index (mapping_pages (slot_at g.parts.maps slot)) (page_of g.parts.cache (Anon slot index)))
    × (tag_at g.parts.maps slot index ≡ Some (Anon slot index))
tears-own g cpu slot index other at k tag =
    let its = of k.mapping.shown (same_Some _ _ (sym (tag_at-place g.parts.maps slot index k.mapping k.at k.within) ∙ tag)) in
    (tears-shown g cpu slot index k ∙ its.0, tag_at-place g.parts.maps slot index k.mapping k.at k.within ∙ ap (λ (t : Tag). Some t) its.1)
  where
    of : (s : Shown) → tag_of s slot index ≡ Anon other at
        → (teardown_shown g cpu slot index (mapping_pages (slot_at g.parts.maps slot)) s
        ≡ teardown_page g cpu slot index (mapping_pages (slot_at g.parts.maps slot)) (page_of g.parts.cache (Anon slot index)))
        × (tag_of s slot index ≡ Anon slot index)
    of (OfFile its first writable) e = let bad : File its (first + index) ≡ Anon other at = e in absurd cc
    of OfItsOwn e = (refl, refl)

-- a page had no entry: the turn is what follows
pub run-bare : {S : Type 0} (step : S → StorageCall → S → Type 0) (s : S) (g h : GuestState) (r : Turn) (cpu slot index count : ℕ)
    → ◌≡◌ {A = GuestState × Turn} (torn_past g cpu slot index count) (h, r) → DoesAlone step (teardown_entry g cpu slot index count None) s (h, r) s
run-bare step s g h r cpu slot index count past = (sym past, refl, refl)

-- what follows a row of calls that takes the page off
abbrev torn_by : GuestState → (cpu slot index : ℕ) → Program (Parts × Placed) → Program (GuestState × Turn)
torn_by g cpu slot index row = bind row (λ (went : Parts × Placed). torn_next g cpu slot index (mapping_pages (slot_at g.parts.maps slot)) went.0 went.1)

-- the page is off, by the row
run_row : {S : Type 0} (step : S → StorageCall → S → Type 0) (s t : S) (g h : GuestState) (r : Turn) (cpu slot index : ℕ) (row : Program (Parts × Placed)) (a : Parts) (went : Placed)
    → (went ≡ PlaceDone) ⊎ (went ≡ PlaceGone) → TakesOff g.parts.maps a.maps slot index → DoesAlone {A = Parts × Placed} step row s (a, went) t
    → ◌≡◌ {A = GuestState × Turn} (torn_past (with_parts g a) cpu slot index (mapping_pages (slot_at a.maps slot))) (h, r)
    → DoesAlone step (torn_by g cpu slot index row) s (h, r) t
run_row {S} step s t g h r cpu slot index row a went by off run past =
    does_bind {A = Parts × Placed} {B = GuestState × Turn} {D = Unit} step (λ d call e. ⊥) row
    (λ (q : Parts × Placed). torn_next g cpu slot index (mapping_pages (slot_at g.parts.maps slot)) q.0 q.1) s tt (a, went) t tt (h, r) t tt run
    (subst (λ (p : Program (GuestState × Turn)). DoesAlone step p t (h, r) t) (sym next) (sym past', refl, refl))
  where
    past' : ◌≡◌ {A = GuestState × Turn} (torn_past (with_parts g a) cpu slot index (mapping_pages (slot_at g.parts.maps slot))) (h, r)
    past' = ap (λ (slots : List (Option Slot)). torn_past (with_parts g a) cpu slot index (mapping_pages (slice_index_or slots slot None))) (sym off.places.slots) ∙ past

    next : torn_next g cpu slot index (mapping_pages (slot_at g.parts.maps slot)) a went ≡ done (torn_past (with_parts g a) cpu slot index (mapping_pages (slot_at g.parts.maps slot)))
    next = elim by [
      | inl is ↦ ap (torn_next g cpu slot index (mapping_pages (slot_at g.parts.maps slot)) a) is
      | inr is ↦ ap (torn_next g cpu slot index (mapping_pages (slot_at g.parts.maps slot)) a) is
    ]

pub run-off : {S : Type 0} (step : S → StorageCall → S → Type 0) (s t : S) (inside g h : GuestState) (r : Turn) (cpu slot index : ℕ)
    (row : Parts → Program (Parts × Placed)) (a : Parts) (went : Placed)
    → inside ≡ g → (went ≡ PlaceDone) ⊎ (went ≡ PlaceGone) → TakesOff g.parts.maps a.maps slot index → DoesAlone {A = Parts × Placed} step (row inside.parts) s (a, went) t
    → ◌≡◌ {A = GuestState × Turn} (torn_past (with_parts inside a) cpu slot index (mapping_pages (slot_at a.maps slot))) (h, r)
    → DoesAlone step (torn_by g cpu slot index (row g.parts)) s (h, r) t
run-off step s t inside g h r cpu slot index row a went same by off run past =
    subst (λ (q : GuestState). DoesAlone step (torn_by q cpu slot index (row q.parts)) s (h, r) t) same
    (run_row step s t inside h r cpu slot index (row inside.parts) a went by (subst (λ (q : GuestState). TakesOff q.parts.maps a.maps slot index) (sym same) off) run past)

-- the number of an unmap's next command is within range
pub tearing-next : (g : GuestState) (v : StorageView) (d : DiskView) (cpu slot index : ℕ) → Fit g v d → IsTearing g cpu slot index → (processor_at g cpu).place + 1 < 2 ^ 32
tearing-next g v d cpu slot index f k = omega (arith, place-below g v d cpu (Unmap k.number) f k.command)

-- ---- no page has the tag, and the swap slot is free

released-same : (g inside : GuestState) (a : Parts) (slot index : ℕ) → inside ≡ g → a ≡ released inside.parts slot index → a ≡ released g.parts slot index
released-same g inside a slot index same is = is ∙ ap (λ (q : GuestState). released q.parts slot index) same

pub torn-released : (g inside : GuestState) (a : Parts) (slot index : ℕ) → inside ≡ g → a ≡ released inside.parts slot index → IsTornTo g.parts.maps slot index → IsTornTo a.maps slot index
torn-released g inside a slot index same is to =
    subst (λ (m : MapsView). IsTornTo m slot index) (sym (ap (λ (p : Parts). p.maps) (released-same g inside a slot index same is) ∙ released-maps g.parts slot index)) to

pub past-released : (g inside h : GuestState) (a : Parts) (r : Turn) (cpu slot index : ℕ) → inside ≡ g → a ≡ released inside.parts slot index
    → ◌≡◌ {A = GuestState × Turn} (torn_past (with_parts inside a) cpu slot index (mapping_pages (slot_at a.maps slot))) (h, r)
    → ◌≡◌ {A = GuestState × Turn} (torn_past (with_parts g (released g.parts slot index)) cpu slot index (mapping_pages (slot_at g.parts.maps slot))) (h, r)
past-released g inside h a r cpu slot index same is past =
    let its = released-same g inside a slot index same is in
    let pages : mapping_pages (slot_at g.parts.maps slot) ≡ mapping_pages (slot_at a.maps slot) =
    ap (λ (m : MapsView). mapping_pages (slot_at m slot)) (sym (ap (λ (p : Parts). p.maps) its ∙ released-maps g.parts slot index)) in
    ap (λ (n : ℕ). torn_past (with_parts g (released g.parts slot index)) cpu slot index n) pages
    ∙ ap (λ (p : Parts). torn_past (with_parts g p) cpu slot index (mapping_pages (slot_at a.maps slot))) (sym its)
    ∙ ap (λ (q : GuestState). torn_past (with_parts q a) cpu slot index (mapping_pages (slot_at a.maps slot))) (sym same)
    ∙ past
