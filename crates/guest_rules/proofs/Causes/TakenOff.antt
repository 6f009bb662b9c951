-- What the tables are once a page was taken off a mapping that is torn down: its place has no entry, neither a page nor a swap slot has the
-- tag of its own page, and the slots are as they were.
use Rattle.std.proofs.Common.{◌≡◌, ℕ, true, Some, None, cond, refl, ap, ◌∙◌}
use Rattle.std.proofs.lemmas.Bool.{eq-eqb}
use Rattle.cmm_types.specs.declared.page.Tag.{Tag}
use Rattle.cmm_types.specs.declared.page.Tag.TheVariants.{Anon}
use Rattle.cmm_types.specs.declared.command.Op.TheVariants.{Unmap}
use Rattle.cmm_flat.specs.Legal.{flat_of}
use Rattle.cmm_io.specs.DiskView.{DiskView}
use Rattle.essa_state.specs.PageValue.{PageValue, IsMadeUnused, MayBecome, is_lost}
use Rattle.cmm_storage.specs.StorageView.{StorageView}
use Rattle.guest_cache.specs.CacheView.{page_of}
use Rattle.guest_maps.specs.declared.slot.Pte.{Pte}
use Rattle.guest_maps.specs.MapsView.{MapsView, slot_at, entry_at, unless_shows, with_entry}
use Rattle.guest_maps.specs.Laws.MapsLaws.{slots-with_entry, slots-without_entries_of, entry_at-without_entries_of}
use Rattle.guest_rules.specs.declared.parts.Parts.{Parts}
use Rattle.guest_rules.specs.GuestState.{GuestState, with_parts}
use Rattle.guest_rules.specs.Rows.{handled, unmapped, freed, released}
use Rattle.guest_rules.specs.Fit.{Fit, FitAt, IsUntagged}
use Rattle.guest_rules.proofs.Cases.TurnCases.{Has, HasPage, ShowsPage, GivenBack, Tears, TearsFile, TearsOwn, IsRehinted}
use Rattle.guest_rules.proofs.Kept.EntryLaws.{entry_at-set}
use Rattle.guest_rules.proofs.Kept.EntriesKept.{HasEntry, has_entry-within}
use Rattle.guest_rules.proofs.Fit.StepFreed.{Fit-gone, Fit-torn_off}
use Rattle.guest_rules.proofs.Fit.StepSwapped.{released-untagged}
use Rattle.guest_rules.proofs.Fit.StepTorn.{torn-has_entry, Fit-cleared_entry}
use Rattle.guest_rules.proofs.Fit.FitTorn.{handled-slot, file_untagged, still_file, tearing-within, torn_mapping, no_entry, released-maps, still_own, freed_none}
use Rattle.guest_rules.proofs.Kept.RowChanges.{handled-maps, freed-maps, maps-changed, maps-unmapped}

pub record IsTakenOff (g : GuestState) (slot index : ℕ) (after : Parts) : Type 0 where
  pub cleared : entry_at after.maps slot index ≡ None
  pub slots : after.maps.slots ≡ g.parts.maps.slots
  pub untagged : IsUntagged after.cache slot index

-- a mapping of a file: no tag is of a page of its own
untagged-file : (g : GuestState) (after : Parts) (w : StorageView) (e : DiskView) (cpu slot index : ℕ) → (its : TearsFile g slot) → Tears g cpu slot index
    → FitAt (flat_of g.plan g.journal) (with_parts g after) w e → slot_at after.maps slot ≡ slot_at g.parts.maps slot → IsUntagged after.cache slot index
untagged-file g after w e cpu slot index its k now same =
    file_untagged (flat_of g.plan g.journal) (with_parts g after) w e slot index (still_file g slot after same its) now (tearing-within g cpu slot index its.mapping k.tearing its.at)

-- the place had no entry
pub taken-none : (g : GuestState) (v : StorageView) (d : DiskView) (cpu slot index : ℕ) → Fit g v d → TearsFile g slot → Tears g cpu slot index → entry_at g.parts.maps slot index ≡ None
    → IsTakenOff g slot index g.parts
taken-none g v d cpu slot index f its k none = record {
  cleared = none;
  slots = refl;
  untagged = file_untagged (flat_of g.plan g.journal) g v d slot index its f (tearing-within g cpu slot index its.mapping k.tearing its.at);
}

-- the page that the entry showed was discarded
pub slots-handled : (g : GuestState) (page : ℕ) → (handled g.parts page).maps.slots ≡ g.parts.maps.slots
slots-handled g page = ap (λ (m : MapsView). m.slots) (handled-maps g.parts page ∙ freed-maps g.parts page) ∙ slots-without_entries_of g.parts.maps page

pub taken-handled : (g : GuestState) (v w : StorageView) (d e : DiskView) (cpu slot index : ℕ) (tag : Tag) (pte : Pte) (found : PageValue) → Fit g v d → TearsFile g slot
    → Tears g cpu slot index → entry_at g.parts.maps slot index ≡ Some pte → HasPage g tag pte.page → GivenBack pte.page v d w e → MayBecome (v.values pte.page) found
    → is_lost found.contents ≡ true → IsMadeUnused found (w.values pte.page) → IsTakenOff g slot index (handled g.parts pte.page)
taken-handled g v w d e cpu slot index tag pte found f its k entry has back may lost unused =
    let maps = handled-maps g.parts pte.page ∙ freed-maps g.parts pte.page in
    let now = Fit-gone (flat_of g.plan g.journal) g v d w e tag pte.page found f has back may lost unused in
    record {
      cleared = ap (λ m. entry_at m slot index) maps
          ∙ entry_at-without_entries_of g.parts.maps pte.page slot index
          ∙ ap (unless_shows pte.page) entry
          ∙ ap (λ b. cond b None (Some pte)) (eq-eqb pte.page pte.page refl);
      slots = slots-handled g pte.page;
      untagged = untagged-file g (handled g.parts pte.page) w e cpu slot index its k now (handled-slot g slot pte.page);
    }

-- the entry was cleared
pub maps-cleared : (g : GuestState) (w : StorageView) (slot index : ℕ) (pte : Pte) (found : PageValue) (after : Parts)
    → IsRehinted (unmapped g.parts slot index pte) pte.page found after (w.values pte.page) → after.maps ≡ with_entry g.parts.maps slot index None
maps-cleared g w slot index pte found after told =
    ap (λ (q : Parts). q.maps) told.tables ∙ maps-changed (unmapped g.parts slot index pte) pte.page found.changed ∙ maps-unmapped g.parts slot index pte

pub slots-cleared : (g : GuestState) (w : StorageView) (slot index : ℕ) (pte : Pte) (found : PageValue) (after : Parts)
    → IsRehinted (unmapped g.parts slot index pte) pte.page found after (w.values pte.page) → after.maps.slots ≡ g.parts.maps.slots
slots-cleared g w slot index pte found after told = ap (λ (m : MapsView). m.slots) (maps-cleared g w slot index pte found after told) ∙ slots-with_entry g.parts.maps slot index None

pub taken-cleared : (g : GuestState) (v w : StorageView) (d e : DiskView) (cpu slot index : ℕ) (tag : Tag) (pte : Pte) (found : PageValue) (after : Parts) → Fit g v d → TearsFile g slot
    → Tears g cpu slot index → entry_at g.parts.maps slot index ≡ Some pte → ShowsPage g tag pte.page → GivenBack pte.page v d w e → MayBecome (v.values pte.page) found
    → IsRehinted (unmapped g.parts slot index pte) pte.page found after (w.values pte.page) → IsTakenOff g slot index after
taken-cleared g v w d e cpu slot index tag pte found after f its k entry shows back may told = record {
  cleared = ap (λ m. entry_at m slot index) (maps-cleared g w slot index pte found after told) ∙ entry_at-set g.parts.maps slot index None (has_entry-within g.parts slot index pte has);
  slots = slots-cleared g w slot index pte found after told;
  untagged = untagged-file g after w e cpu slot index its k now (ap (λ xs. slot_at (record g.parts.maps { slots = xs }) slot) (slots-cleared g w slot index pte found after told));
}
  where
    has : HasEntry g.parts slot index pte
    has = torn-has_entry (flat_of g.plan g.journal) g cpu slot index pte f.slots k.tearing entry

    now : FitAt (flat_of g.plan g.journal) (with_parts g after) w e
    now = Fit-cleared_entry (flat_of g.plan g.journal) g v d w e cpu slot index tag pte found after f k.tearing entry shows back may told

-- a mapping of pages of its own: no page has the tag, and its swap slot is free
pub slots-released : (g : GuestState) (slot index : ℕ) → (released g.parts slot index).maps.slots ≡ g.parts.maps.slots
slots-released g slot index = ap (λ (m : MapsView). m.slots) (released-maps g.parts slot index)

pub taken-released : (g : GuestState) (v : StorageView) (d : DiskView) (cpu slot index : ℕ) → Fit g v d → Tears g cpu slot index → TearsOwn g slot → page_of g.parts.cache (Anon slot index) ≡ None
    → IsTakenOff g slot index (released g.parts slot index)
taken-released g v d cpu slot index f k its none = record {
  cleared = ap (λ m. entry_at m slot index) (released-maps g.parts slot index)
      ∙ no_entry (flat_of g.plan g.journal) g v d slot index its f (tearing-within g cpu slot index its.mapping k.tearing its.at) none;
  slots = slots-released g slot index;
  untagged = released-untagged (flat_of g.plan g.journal) g v d slot index f none;
}

-- or the page with it was freed, too
pub slots-torn_off : (g : GuestState) (slot index page : ℕ) → (released (freed g.parts page) slot index).maps.slots ≡ g.parts.maps.slots
slots-torn_off g slot index page =
    ap (λ (m : MapsView). m.slots) (released-maps (freed g.parts page) slot index ∙ freed-maps g.parts page) ∙ slots-without_entries_of g.parts.maps page

pub taken-torn_off : (g : GuestState) (v w : StorageView) (d e : DiskView) (cpu slot index page : ℕ) (found : PageValue) → Fit g v d → Tears g cpu slot index → TearsOwn g slot
    → HasPage g (Anon slot index) page → GivenBack page v d w e → MayBecome (v.values page) found → IsMadeUnused found (w.values page)
    → IsTakenOff g slot index (released (freed g.parts page) slot index)
taken-torn_off g v w d e cpu slot index page found f k its has back may unused =
    let flat = flat_of g.plan g.journal in
    let now = Fit-torn_off flat g v d w e slot index page its.mapping found f its.at (torn_mapping g cpu slot index its k.tearing) has back may unused in
    record {
      cleared = ap (λ m. entry_at m slot index) (released-maps (freed g.parts page) slot index)
          ∙ no_entry flat (with_parts g (freed g.parts page)) w e slot index (still_own g slot page its) now (tearing-within g cpu slot index its.mapping k.tearing its.at)
          (freed_none flat g v d slot index page f has);
      slots = slots-torn_off g slot index page;
      untagged = released-untagged flat (with_parts g (freed g.parts page)) w e slot index now (freed_none flat g v d slot index page f has);
    }

-- the processor's command
pub tearing_has : (g : GuestState) (cpu slot index : ℕ) → (k : Tears g cpu slot index) → Has g cpu (Unmap k.tearing.number)
tearing_has g cpu slot index k = record { below = k.tearing.cpu_below; command = k.tearing.command }
