-- What a new mapping leaves of the tags, and of the flat machine's bytes.
use Rattle.std.proofs.Common.{◌≡◌, ◌≢◌, ◌<◌, ◌*◌, ℕ, length, Option, Some, None, ap, sym, ◌∙◌, inl, inr, subst, refl}
use Rattle.std.proofs.lemmas.Bool.{cases_eq}
use Rattle.cmm_types.specs.declared.page.TheConstants.{PAGE}
use Rattle.cmm_types.specs.declared.page.Tag.{Tag}
use Rattle.cmm_types.specs.declared.page.Tag.TheVariants.{File, Anon}
use Rattle.cmm_types.specs.Bytes.{zeros, bytes_at}
use Rattle.cmm_io.specs.DiskView.{DiskView}
use Rattle.cmm_flat.specs.declared.mapping.MappingKey.{MappingKey}
use Rattle.cmm_flat.specs.declared.mapping.Mapping.{Mapping}
use Rattle.cmm_flat.specs.declared.mapping.Shown.{Shown as FlatShown}
use Rattle.cmm_flat.specs.declared.mapping.Shown.TheVariants.{Anonymous}
use Rattle.cmm_flat.specs.State.{FlatState, IsSound}
use Rattle.cmm_flat.specs.Flat.{with_mapping as flat_with_mapping}
use Rattle.cmm_flat.specs.Laws.StepLaws.{mapping_at-with_mapping, mapping_at-with_mapping_other}
use Rattle.cmm_storage.specs.StorageView.{StorageView}
use Rattle.guest_cache.specs.CacheView.{IsTag, page_of, swap_slot, swap_block}
use Rattle.guest_maps.specs.declared.slot.Slot.{Slot}
use Rattle.guest_maps.specs.declared.slot.Shown.{Shown}
use Rattle.guest_maps.specs.declared.slot.Shown.TheVariants.{Anon as OfItsOwn}
use Rattle.guest_maps.specs.MapsView.{MapsView, slot_at, find_slot, new_mapping, with_slot_mapped}
use Rattle.guest_maps.specs.Laws.MapsLaws.{slot_at-with_mapping_same, slot_at-with_mapping_other}
use Rattle.guest_rules.specs.GuestState.{GuestState}
use Rattle.guest_rules.specs.Fit.{FitAt, FlatFit, IsOwnPage, IsUsedTag, IsLiveOwnPage, IsFlatTag, own_bytes, flat_page, backed, backing, current, current_at}
use Rattle.guest_rules.proofs.Kept.SwapLaws.{swap_slot-none}
use Rattle.guest_rules.proofs.Kept.SlotsKept.{new_flat}
use Rattle.guest_rules.proofs.Kept.TagsKept.{TagsStand, tags_stand, TagsStand-maps}
use Rattle.guest_rules.proofs.Kept.FlatTags.{is_own, finds, flat_page-at, zeros-page}
use Rattle.guest_rules.proofs.Fit.FitOthers.{with_others}

-- a mapping of a process in a slot that was free, where it had none of that number
pub record IsNew (state : FlatState) (g : GuestState) (slot process number : ℕ) : Type 0 where
  pub below : slot < length g.parts.maps.slots
  pub free : slot_at g.parts.maps slot ≡ None
  pub none : find_slot g.parts.maps process number ≡ None

-- a free slot has no page
free-unused : (maps : MapsView) (slot index : ℕ) → slot_at maps slot ≡ None → IsUsedTag maps (Anon slot index) → ⊥
free-unused maps slot index free is = subst (λ (o : Option Slot). IsOwnPage o index) free is

pub TagsStand-new : (state : FlatState) (g : GuestState) (v : StorageView) (d : DiskView) (slot process number count : ℕ) (shown : Shown) → FitAt state g v d → IsNew state g slot process number
    → TagsStand (record g.parts { maps = with_slot_mapped g.parts.maps slot process number shown count })
TagsStand-new state g v d slot process number count shown f k =
    TagsStand-maps g.parts (with_slot_mapped g.parts.maps slot process number shown count) (tags_stand g.parts v f.tags) (λ page tag e is. kept tag is) (λ other tag e is. kept tag is)
  where
    kept : (tag : Tag) → IsUsedTag g.parts.maps tag → IsUsedTag (with_slot_mapped g.parts.maps slot process number shown count) tag
    kept (File file index) is = tt
    kept (Anon s i) is =
        let n : s ≢ slot = λ z. free-unused g.parts.maps slot i k.free (subst (λ x. IsUsedTag g.parts.maps (Anon x i)) z is) in
        subst (λ (o : Option Slot). IsOwnPage o i) (sym (slot_at-with_mapping_other g.parts.maps slot s process number shown count n)) is

-- each page of the new mapping is what backs it
pub FlatFit-new : (state : FlatState) (g : GuestState) (v : StorageView) (d : DiskView) (slot process number count : ℕ) (shown : Shown) (flat : FlatShown) → FitAt state g v d
    → IsNew state g slot process number → IsSound (flat_with_mapping state process number (new_flat flat count))
    → ((index : ℕ) → shown ≡ OfItsOwn → index < count → bytes_at (own_bytes (Some (new_flat flat count))) (PAGE * index) PAGE ≡ current g.parts v d (Anon slot index))
    → FlatFit (flat_with_mapping state process number (new_flat flat count)) (with_others g (with_slot_mapped g.parts.maps slot process number shown count) g.journal g.processors) v d
FlatFit-new state g v d slot process number count shown flat f k sound mine = record { lengths = f.flat.lengths; sound = sound; pages = of }
  where
    now : MapsView
    now = with_slot_mapped g.parts.maps slot process number shown count

    later : FlatState
    later = flat_with_mapping state process number (new_flat flat count)

    at_slot : slot_at now slot ≡ Some (new_mapping process number shown count)
    at_slot = slot_at-with_mapping_same g.parts.maps slot process number shown count k.below

    of : (tag : Tag) → IsFlatTag (record g.parts { maps = now }) tag → flat_page later now tag ≡ current g.parts v d tag
    of (File file index) is = f.flat.pages (File file index) is
    of (Anon s i) is = elim (cases_eq s slot) [
      | inl z ↦
          let here : IsLiveOwnPage (Some (new_mapping process number shown count)) i = subst (λ (o : Option Slot). IsLiveOwnPage o i) (ap (slot_at now) z ∙ at_slot) is in
          rw z (flat_page-at later now slot i (new_mapping process number shown count) at_slot
          ∙ ap (λ (o : Option Mapping). bytes_at (own_bytes o) (PAGE * i) PAGE) (mapping_at-with_mapping state process number (new_flat flat count))
          ∙ mine i here.1 here.2)
      | inr n ↦
          let there = slot_at-with_mapping_other g.parts.maps slot s process number shown count n in
          let was : IsFlatTag g.parts (Anon s i) = subst (λ (o : Option Slot). IsLiveOwnPage o i) there is in
          let x = is_own g.parts.maps s i was in
          let other : x.mapping.process ≡ process → x.mapping.map ≡ number → ⊥ = λ p q.
          (let bad : None ≡ Some s = sym k.none ∙ (λ j. find_slot g.parts.maps (sym p j) (sym q j)) ∙ finds state g.parts s x.mapping f.slots x.at x.live in cc) in
          flat_page-at later now s i x.mapping (there ∙ x.at)
          ∙ ap (λ (o : Option Mapping). bytes_at (own_bytes o) (PAGE * i) PAGE)
          (mapping_at-with_mapping_other state process number (new_flat flat count) x.mapping.process x.mapping.map
          (λ e. other (ap (λ (y : MappingKey). y.process) e) (ap (λ (y : MappingKey). y.map) e)))
          ∙ sym (flat_page-at state g.parts.maps s i x.mapping x.at)
          ∙ f.flat.pages (Anon s i) was
    ]

-- of a mapping of pages of its own these are zeros, as no page and no swap slot has a tag of a free slot
pub zeros-new : (state : FlatState) (g : GuestState) (v : StorageView) (d : DiskView) (slot process number count index : ℕ) → FitAt state g v d → IsNew state g slot process number
    → IsTag g.parts.cache (Anon slot index) → index < count
    → bytes_at (own_bytes (Some (new_flat (Anonymous (zeros (PAGE * count))) count))) (PAGE * index) PAGE ≡ current g.parts v d (Anon slot index)
zeros-new state g v d slot process number count index f k is below =
    zeros-page count index below ∙ sym (ap (λ o. current_at g.parts v o (backing g.parts.cache d (Anon slot index))) no_page ∙ ap (λ o. backed d.blocks (swap_block g.parts.cache.files o)) no_slot)
  where
    no_page : page_of g.parts.cache (Anon slot index) ≡ None
    no_page = of (page_of g.parts.cache (Anon slot index)) refl
      where
        of : (o : Option ℕ) → page_of g.parts.cache (Anon slot index) ≡ o → page_of g.parts.cache (Anon slot index) ≡ None
        of None e = e
        of (Some page) e = absurd (free-unused g.parts.maps slot index k.free (f.tags.pages page (Anon slot index) (f.pages.found page (Anon slot index) is e).1))

    no_slot : swap_slot g.parts.cache (Anon slot index) ≡ None
    no_slot = swap_slot-none g.parts.cache slot index (λ other e. free-unused g.parts.maps slot index k.free (f.tags.swapped other (Anon slot index) e).1)
