-- Every turn of an unmap that takes its pages off keeps fit.
use Rattle.std.proofs.Common.{◌≡◌, ◌<◌, ℕ, false, Option, Some, None, refl, ap, sym, ◌∙◌, subst, arith}
use Rattle.std.proofs.lemmas.Bool.{eq-eqb}
use Rattle.std.proofs.lemmas.Option.{same_Some}
use Rattle.cmm_types.specs.declared.page.Tag.{Tag}
use Rattle.cmm_types.specs.declared.page.Tag.TheVariants.{Anon}
use Rattle.cmm_types.specs.declared.turn.Turn.{Turn}
use Rattle.cmm_io.specs.DiskView.{DiskView}
use Rattle.cmm_flat.specs.State.{FlatState}
use Rattle.cmm_flat.specs.Legal.{flat_of}
use Rattle.cmm_storage.specs.StorageView.{StorageView}
use Rattle.guest_cache.specs.CacheView.{CacheView, page_of, swap_slot}
use Rattle.guest_cache.specs.Laws.CacheLaws.{page_of-without_page_same}
use Rattle.guest_maps.specs.declared.slot.Pte.{Pte}
use Rattle.guest_maps.specs.declared.slot.Slot.{Slot}
use Rattle.guest_maps.specs.declared.slot.Shown.{Shown}
use Rattle.guest_maps.specs.declared.slot.Shown.TheVariants.{File as OfFile, Anon as OfItsOwn}
use Rattle.guest_maps.specs.MapsView.{MapsView, slot_at, entry_at, tag_of, unless_shows}
use Rattle.guest_maps.specs.Laws.MapsLaws.{slots-without_entries_of, slots-with_entry, entry_at-without_entries_of}
use Rattle.guest_maps.specs.EntryCounts.{unless_shows-own}
use Rattle.guest_rules.specs.declared.parts.Parts.{Parts}
use Rattle.guest_rules.specs.declared.processor.Phase.TheVariants.{Teardown}
use Rattle.guest_rules.specs.GuestState.{GuestState, processor_at, with_parts}
use Rattle.guest_rules.specs.Rows.{freed, handled, unmapped, released}
use Rattle.guest_rules.specs.Turns.{mapping_pages}
use Rattle.guest_rules.specs.Fit.{FitAt, Fit, IsTearing, IsOwnPage, IsUsedTag, IsUntagged}
use Rattle.guest_rules.proofs.Cases.TurnCases.{HasPage, TearsPast, TearsFile, TearsOwn, TearCase, had_no_entry, tear_missed, tear_gone}
use Rattle.guest_rules.proofs.Cases.TurnCases.{was_cleared_at, TearOwnCase, had_no_page_of_its, tear_waited, tear_own_missed, was_torn_off}
use Rattle.guest_rules.proofs.Cases.MapsFound.{tag_at-place}
use Rattle.guest_rules.proofs.Cases.TornPast.{HasTornPast, has_torn_past}
use Rattle.guest_rules.proofs.Kept.RowChanges.{handled-maps, freed-maps, freed-cache, maps-unmapped, maps-changed}
use Rattle.guest_rules.proofs.Kept.EntryLaws.{entry_at-set}
use Rattle.guest_rules.proofs.Kept.EntriesKept.{has_entry-within}
use Rattle.guest_rules.proofs.Kept.SwapLaws.{swap_slot-is}
use Rattle.guest_rules.proofs.Kept.FlatTags.{own-is_tag}
use Rattle.guest_rules.proofs.Fit.FitMay.{FitAt-may}
use Rattle.guest_rules.proofs.Fit.StepFreed.{Fit-gone, Fit-torn_off}
use Rattle.guest_rules.proofs.Fit.StepSwapped.{FitAt-released, released-untagged}
use Rattle.guest_rules.proofs.Fit.StepTorn.{torn-has_entry, Fit-cleared_entry, Fit-torn_past}

-- the mapping has as many pages in the tables afterwards
past_with : (g : GuestState) (cpu slot index : ℕ) (after : Parts) (h : GuestState) (t : Turn) → slot_at after.maps slot ≡ slot_at g.parts.maps slot → TearsPast g cpu slot index after h t
    → HasTornPast (with_parts g after) cpu slot index (mapping_pages (slot_at after.maps slot)) h t
past_with g cpu slot index after h t same past =
    rw same (has_torn_past (with_parts g after) cpu slot index (mapping_pages (slot_at g.parts.maps slot)) h t past)

-- the entry of a page that was handled is gone
handled-entry : (g : GuestState) (slot index : ℕ) (pte : Pte) → entry_at g.parts.maps slot index ≡ Some pte → entry_at (handled g.parts pte.page).maps slot index ≡ None
handled-entry g slot index pte at =
    ap (λ (m : MapsView). entry_at m slot index) (handled-maps g.parts pte.page ∙ freed-maps g.parts pte.page)
    ∙ entry_at-without_entries_of g.parts.maps pte.page slot index
    ∙ ap (unless_shows pte.page) at
    ∙ unless_shows-own pte.page (Some pte) (eq-eqb pte.page pte.page refl)

pub handled-slot : (g : GuestState) (slot page : ℕ) → slot_at (handled g.parts page).maps slot ≡ slot_at g.parts.maps slot
handled-slot g slot page =
    ap (λ (m : MapsView). slot_at m slot) (handled-maps g.parts page ∙ freed-maps g.parts page)
    ∙ ap (λ xs. slot_at (record g.parts.maps { slots = xs }) slot) (slots-without_entries_of g.parts.maps page)

-- a page of a mapping of a file has no tag of its own
pub file_untagged : (state : FlatState) (g : GuestState) (v : StorageView) (d : DiskView) (slot index : ℕ) (k : TearsFile g slot) → FitAt state g v d → index < k.mapping.count
    → IsUntagged g.parts.cache slot index
file_untagged state g v d slot index k f below = (no_page (page_of g.parts.cache (Anon slot index)) refl, no_slot (swap_slot g.parts.cache (Anon slot index)) refl)
  where
    never : IsUsedTag g.parts.maps (Anon slot index) → ⊥
    never is =
        let own : IsOwnPage (Some k.mapping) index = subst (λ (o : Option Slot). IsOwnPage o index) k.at is in
        let bad : OfFile k.file k.first k.writable ≡ OfItsOwn = sym k.shown ∙ own.0 in cc

    no_page : (o : Option ℕ) → page_of g.parts.cache (Anon slot index) ≡ o → page_of g.parts.cache (Anon slot index) ≡ None
    no_page None e = e
    no_page (Some page) e =
        absurd (never (f.tags.pages page (Anon slot index) (f.pages.found page (Anon slot index) (own-is_tag state g v d f.sizes f.slots slot index k.mapping k.at below) e).1))

    no_slot : (o : Option ℕ) → swap_slot g.parts.cache (Anon slot index) ≡ o → swap_slot g.parts.cache (Anon slot index) ≡ None
    no_slot None e = e
    no_slot (Some number) e = absurd (never (f.tags.swapped number (Anon slot index) (swap_slot-is g.parts.cache slot index number e).1).1)

-- also with other tables, in which the mapping is the same
abbrev pub still_file : (g : GuestState) (slot : ℕ) (after : Parts) → slot_at after.maps slot ≡ slot_at g.parts.maps slot → TearsFile g slot → TearsFile (with_parts g after) slot
still_file g slot after same k = record { mapping = k.mapping; at = same ∙ k.at; file = k.file; first = k.first; writable = k.writable; shown = k.shown }

-- the page that the unmap is at is one of the mapping
pub tearing-within : (g : GuestState) (cpu slot index : ℕ) (mapping : Slot) → IsTearing g cpu slot index → slot_at g.parts.maps slot ≡ Some mapping → index < mapping.count
tearing-within g cpu slot index mapping k at = subst (λ (m : Slot). index < m.count) (same_Some _ _ (sym k.at ∙ at)) k.within

pub torn_mapping : (g : GuestState) (cpu slot index : ℕ) (its : TearsOwn g slot) → IsTearing g cpu slot index → its.mapping.live ≡ false
torn_mapping g cpu slot index its k = ap (λ (m : Slot). m.live) (same_Some _ _ (sym its.at ∙ k.at)) ∙ k.torn

pub Fit-torn : (g : GuestState) (v : StorageView) (d : DiskView) (h : GuestState) (w : StorageView) (e : DiskView) (cpu slot index : ℕ) (t : Turn) → Fit g v d → TearsFile g slot
    → TearCase g cpu slot index v d h t w e → Fit h w e
Fit-torn g v d h w e cpu slot index t f its (had_no_entry k none past ew ee) =
    rw (ew, ee) (Fit-torn_past g v d h cpu slot index t f k.phase none
    (file_untagged (flat_of g.plan g.journal) g v d slot index its f (tearing-within g cpu slot index its.mapping k.tearing its.at))
    (past_with g cpu slot index g.parts h t refl past))
Fit-torn g v d h w e cpu slot index t f its (tear_missed why k eh et may misses ee) = rw eh (FitAt-may (flat_of g.plan g.journal) g v d w e f may)
Fit-torn g v d h w e cpu slot index t f its (tear_gone tag pte found k at has back may lost unused past) =
    let now = Fit-gone (flat_of g.plan g.journal) g v d w e tag pte.page found f has back may lost unused in
    Fit-torn_past (with_parts g (handled g.parts pte.page)) w e h cpu slot index t now k.phase (handled-entry g slot index pte at)
    (file_untagged (flat_of g.plan g.journal) (with_parts g (handled g.parts pte.page)) w e slot index (still_file g slot (handled g.parts pte.page) (handled-slot g slot pte.page) its) now
    (tearing-within g cpu slot index its.mapping k.tearing its.at))
    (past_with g cpu slot index (handled g.parts pte.page) h t (handled-slot g slot pte.page) past)
Fit-torn g v d h w e cpu slot index t f its (was_cleared_at tag pte found after k at shows back may told past) =
    let maps = ap (λ (p : Parts). p.maps) told.tables ∙ maps-changed (unmapped g.parts slot index pte) pte.page found.changed ∙ maps-unmapped g.parts slot index pte in
    let within = has_entry-within g.parts slot index pte (torn-has_entry (flat_of g.plan g.journal) g cpu slot index pte f.slots k.tearing at) in
    let same = ap (λ (m : MapsView). slot_at m slot) maps ∙ ap (λ xs. slot_at (record g.parts.maps { slots = xs }) slot) (slots-with_entry g.parts.maps slot index None) in
    let now = Fit-cleared_entry (flat_of g.plan g.journal) g v d w e cpu slot index tag pte found after f k.tearing at shows back may told in
    Fit-torn_past (with_parts g after) w e h cpu slot index t now k.phase
    (ap (λ (m : MapsView). entry_at m slot index) maps ∙ entry_at-set g.parts.maps slot index None within)
    (file_untagged (flat_of g.plan g.journal) (with_parts g after) w e slot index (still_file g slot after same its) now (tearing-within g cpu slot index its.mapping k.tearing its.at))
    (past_with g cpu slot index after h t same past)

-- ---- a mapping of pages of its own

-- a page that isn't there has no entry
pub no_entry : (state : FlatState) (g : GuestState) (v : StorageView) (d : DiskView) (slot index : ℕ) (k : TearsOwn g slot) → FitAt state g v d → index < k.mapping.count
    → page_of g.parts.cache (Anon slot index) ≡ None → entry_at g.parts.maps slot index ≡ None
no_entry state g v d slot index k f below none = of (entry_at g.parts.maps slot index) refl
  where
    of : (o : Option Pte) → entry_at g.parts.maps slot index ≡ o → entry_at g.parts.maps slot index ≡ None
    of None e = e
    of (Some pte) e =
        let is = f.entries.entry slot index pte (omega (arith, below, (f.slots.shown slot k.mapping k.at).0)) e in
        let both : Some is.tag ≡ Some (tag_of k.mapping.shown slot index) = sym is.mapped ∙ tag_at-place g.parts.maps slot index k.mapping k.at below in
        let its : is.tag ≡ Anon slot index = same_Some _ _ both ∙ ap (λ (s : Shown). tag_of s slot index) k.shown in
        let bad : None ≡ Some pte.page = sym none ∙ ap (page_of g.parts.cache) (sym its) ∙ (f.pages.indexed pte.page is.tag is.tagged).1 in
        absurd cc

pub released-maps : (parts : Parts) (slot index : ℕ) → (released parts slot index).maps ≡ parts.maps
unfolding released
released-maps parts slot index = refl

-- behind a page that no page has the tag of, its swap slot is free
past_released : (g : GuestState) (v : StorageView) (d : DiskView) (h : GuestState) (cpu slot index : ℕ) (t : Turn) → Fit g v d → (processor_at g cpu).phase ≡ Teardown slot index
    → (k : TearsOwn g slot) → k.mapping.live ≡ false → index < k.mapping.count → page_of g.parts.cache (Anon slot index) ≡ None
    → HasTornPast (with_parts g (released g.parts slot index)) cpu slot index (mapping_pages (slot_at g.parts.maps slot)) h t → Fit h v d
past_released g v d h cpu slot index t f phase k torn below none past =
    let flat = flat_of g.plan g.journal in
    let maps = released-maps g.parts slot index in
    Fit-torn_past (with_parts g (released g.parts slot index)) v d h cpu slot index t (FitAt-released flat g v d slot index k.mapping f k.at torn none) phase
    (ap (λ (m : MapsView). entry_at m slot index) maps ∙ no_entry flat g v d slot index k f below none) (released-untagged flat g v d slot index f none)
    (subst (λ n. HasTornPast (with_parts g (released g.parts slot index)) cpu slot index n h t) (sym (ap (λ (m : MapsView). mapping_pages (slot_at m slot)) maps)) past)

pub freed-slot : (g : GuestState) (slot page : ℕ) → slot_at (freed g.parts page).maps slot ≡ slot_at g.parts.maps slot
freed-slot g slot page =
    ap (λ (m : MapsView). slot_at m slot) (freed-maps g.parts page) ∙ ap (λ xs. slot_at (record g.parts.maps { slots = xs }) slot) (slots-without_entries_of g.parts.maps page)

-- also where one of its pages was freed, whose tag no page has then
abbrev pub still_own : (g : GuestState) (slot page : ℕ) → TearsOwn g slot → TearsOwn (with_parts g (freed g.parts page)) slot
still_own g slot page its = record { mapping = its.mapping; at = freed-slot g slot page ∙ its.at; shown = its.shown }

pub freed_none : (state : FlatState) (g : GuestState) (v : StorageView) (d : DiskView) (slot index page : ℕ) → FitAt state g v d → HasPage g (Anon slot index) page
    → page_of (freed g.parts page).cache (Anon slot index) ≡ None
freed_none state g v d slot index page f has =
    ap (λ (c : CacheView). page_of c (Anon slot index)) (freed-cache g.parts page (Anon slot index) has.tagged)
    ∙ page_of-without_page_same g.parts.cache (Anon slot index) (record { whole = f.sizes.index }) (f.pages.indexed page (Anon slot index) has.tagged).0

pub Fit-torn_own : (g : GuestState) (v : StorageView) (d : DiskView) (h : GuestState) (w : StorageView) (e : DiskView) (cpu slot index : ℕ) (t : Turn) → Fit g v d → TearsOwn g slot
    → TearOwnCase g cpu slot index v d h t w e → Fit h w e
Fit-torn_own g v d h w e cpu slot index t f its (had_no_page_of_its k none past ew ee) =
    rw (ew, ee) (past_released g v d h cpu slot index t f k.phase its (torn_mapping g cpu slot index its k.tearing) (tearing-within g cpu slot index its.mapping k.tearing its.at) none
    (has_torn_past (with_parts g (released g.parts slot index)) cpu slot index (mapping_pages (slot_at g.parts.maps slot)) h t past))
Fit-torn_own g v d h w e cpu slot index t f its (tear_waited page owner k there locked eh et ew ee) = rw (eh, ew, ee) f
Fit-torn_own g v d h w e cpu slot index t f its (tear_own_missed why k eh et may misses ee) = rw eh (FitAt-may (flat_of g.plan g.journal) g v d w e f may)
Fit-torn_own g v d h w e cpu slot index t f its (was_torn_off page found k has back may unused past) =
    let flat = flat_of g.plan g.journal in
    let torn = torn_mapping g cpu slot index its k.tearing in
    let now = Fit-torn_off flat g v d w e slot index page its.mapping found f its.at torn has back may unused in
    let same = freed-slot g slot page in
    past_released (with_parts g (freed g.parts page)) w e h cpu slot index t now k.phase (still_own g slot page its) torn
    (tearing-within g cpu slot index its.mapping k.tearing its.at) (freed_none flat g v d slot index page f has)
    (subst (λ n. HasTornPast (with_parts g (released (freed g.parts page) slot index)) cpu slot index n h t) (ap mapping_pages (sym same))
    (has_torn_past (with_parts g (released (freed g.parts page) slot index)) cpu slot index (mapping_pages (slot_at g.parts.maps slot)) h t past))
