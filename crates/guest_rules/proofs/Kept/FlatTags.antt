-- What the flat machine has of the page of a tag: of a file's page, or of a page of a live mapping of its own.
use Rattle.std.proofs.Common.{◌≡◌, ◌<◌, ◌-◌, ◌*◌, ℕ, Bool, true, false, List, length, take, Option, Some, None, slice_index_or, refl, ap, sym, ◌∙◌, subst, arith}
use Rattle.std.specs.FinMap as finite
use Rattle.std.proofs.lemmas.List.{take-replicate, drop-replicate}
use Rattle.std.proofs.lemmas.Option.{same_Some}
use Rattle.cmm_types.specs.declared.page.TheConstants.{PAGE}
use Rattle.cmm_types.specs.declared.page.Tag.{Tag}
use Rattle.cmm_types.specs.declared.page.Tag.TheVariants.{File, Anon}
use Rattle.cmm_types.specs.Bytes.{zeros, zero_page, bytes_at}
use Rattle.cmm_io.specs.DiskView.{DiskView}
use Rattle.cmm_flat.specs.declared.mapping.Mapping.{Mapping}
use Rattle.cmm_flat.specs.declared.mapping.Shown.TheVariants.{OfFile as FlatFile, Anonymous}
use Rattle.cmm_flat.specs.State.{FlatState, mapping_at, file_at}
use Rattle.cmm_flat.specs.Legal.{anonymous_pages}
use Rattle.cmm_storage.specs.StorageView.{StorageView}
use Rattle.guest_cache.specs.CacheView.{IsTag}
use Rattle.guest_maps.specs.declared.slot.Slot.{Slot}
use Rattle.guest_maps.specs.declared.slot.Shown.{Shown}
use Rattle.guest_maps.specs.declared.slot.Shown.TheVariants.{File as OfFile, Anon as OfItsOwn}
use Rattle.guest_maps.specs.FirstPlace.{none_within}
use Rattle.guest_maps.specs.Laws.SlotLaws.{own_mapping}
use Rattle.guest_maps.specs.MapsView.{MapsView, slot_at, find_slot, is_mapping}
use Rattle.guest_rules.specs.declared.parts.Parts.{Parts}
use Rattle.guest_rules.specs.GuestState.{GuestState}
use Rattle.guest_rules.specs.Fit.{SizesFit, SlotsFit, IsLiveOwnPage, IsFlatTag, IsUsedTag, own_pages, own_bytes}
use Rattle.guest_rules.specs.Fit.{flat_of_slot, flat_page, flat_shown, flat_slot, flat_mapping, flat_found, shape_of, pins_of}
use Rattle.guest_rules.proofs.Cases.MapsFound.{IsFoundSlot, found_slot}
use Rattle.guest_rules.proofs.Kept.Changes.{IsTag-same}
use Rattle.guest_rules.proofs.Kept.PinLaws.{length-pins_of}
use Rattle.guest_rules.proofs.Kept.Shapes.{shape_some, shape_file, shape_own}
use Rattle.guest_rules.proofs.Kept.SlotsKept.{slot-below}

-- ---- a page of a live mapping of its own

pub record IsOwn (maps : MapsView) (slot index : ℕ) : Type 0 where
  pub mapping : Slot
  pub at : slot_at maps slot ≡ Some mapping
  pub live : mapping.live ≡ true
  pub shown : mapping.shown ≡ OfItsOwn
  pub below : index < mapping.count

pub is_own : (maps : MapsView) (slot index : ℕ) → IsLiveOwnPage (slot_at maps slot) index → IsOwn maps slot index
is_own maps slot index is = of (slot_at maps slot) refl is
  where
    of : (o : Option Slot) → slot_at maps slot ≡ o → IsLiveOwnPage o index → IsOwn maps slot index
    of None at is = absurd is
    of (Some mapping) at is = record { mapping = mapping; at = at; live = is.0; shown = is.1; below = is.2 }

-- a page of a mapping has a place in the index
pub own-is_tag : (state : FlatState) (g : GuestState) (v : StorageView) (d : DiskView) → SizesFit g v d → SlotsFit state g.parts → (slot index : ℕ) (mapping : Slot)
    → slot_at g.parts.maps slot ≡ Some mapping → index < mapping.count → IsTag g.parts.cache (Anon slot index)
own-is_tag state g v d sizes slots slot index mapping at below =
    (omega (arith, slot-below g.parts.maps slot mapping at, slots.slots, sizes.slots), omega (arith, below, (slots.shown slot mapping at).0))

-- the flat machine has no page of a mapping that is torn down
pub never_live : (parts : Parts) (slot index : ℕ) (mapping : Slot) → slot_at parts.maps slot ≡ Some mapping → mapping.live ≡ false → IsFlatTag parts (Anon slot index) → ⊥
never_live parts slot index mapping at torn is =
    let k = is_own parts.maps slot index is in
    let both : Some k.mapping ≡ Some mapping = sym k.at ∙ at in
    let same : k.mapping ≡ mapping = cc in
    let bad : true ≡ false = sym k.live ∙ ap (λ (m : Slot). m.live) same ∙ torn in
    cc

-- what the flat machine has a page of is a tag that is used
pub flat-used : (parts : Parts) (tag : Tag) → IsFlatTag parts tag → IsUsedTag parts.maps tag
flat-used parts (File file index) is = tt
flat-used parts (Anon slot index) is = let k = is_own parts.maps slot index is in rw k.at (k.shown, k.below)

-- what the flat machine has a page of has a place in the index
pub flat_tag-is : (state : FlatState) (g : GuestState) (v : StorageView) (d : DiskView) → SizesFit g v d → SlotsFit state g.parts → (tag : Tag) → IsFlatTag g.parts tag → IsTag g.parts.cache tag
flat_tag-is state g v d sizes slots (File file index) is = is
flat_tag-is state g v d sizes slots (Anon slot index) is =
    let k = is_own g.parts.maps slot index is in own-is_tag state g v d sizes slots slot index k.mapping k.at k.below

-- ---- the flat machine's mapping

-- a live mapping is found by its process and number
pub finds : (state : FlatState) (parts : Parts) (slot : ℕ) (mapping : Slot) → SlotsFit state parts → slot_at parts.maps slot ≡ Some mapping → mapping.live ≡ true
    → find_slot parts.maps mapping.process mapping.map ≡ Some slot
finds state parts slot mapping f at live = of (find_slot parts.maps mapping.process mapping.map) refl
  where
    of : (o : Option ℕ) → find_slot parts.maps mapping.process mapping.map ≡ o → o ≡ Some slot
    of None e =
        let within : slot < length parts.maps.slots = slot-below parts.maps slot mapping at in
        let bad : false ≡ true =
        sym (none_within (is_mapping mapping.process mapping.map) parts.maps.slots None e slot within) ∙ ap (is_mapping mapping.process mapping.map) at ∙ own_mapping mapping live in
        absurd cc
    of (Some other) e =
        let k = found_slot parts.maps mapping.process mapping.map other e in
        ap Some (f.apart other slot k.mapping mapping k.at at k.live live k.process_is k.number_is)

-- what the flat machine has of a live mapping, but for bytes of its own
pub shape_at : (state : FlatState) (parts : Parts) (slot : ℕ) (mapping : Slot) → SlotsFit state parts → slot_at parts.maps slot ≡ Some mapping → mapping.live ≡ true
    → shape_of (mapping_at state mapping.process mapping.map) ≡ Some (flat_slot parts.maps slot mapping)
shape_at state parts slot mapping f at live =
    f.flat mapping.process mapping.map ∙ ap (flat_found parts.maps) (finds state parts slot mapping f at live) ∙ ap (flat_mapping parts.maps slot) at

-- the flat machine's mapping of pages of its own
pub record HasOwn (state : FlatState) (maps : MapsView) (slot : ℕ) (mapping : Slot) : Type 0 where
  pub bytes : List ℕ
  pub there : mapping_at state mapping.process mapping.map ≡ Some (record { shown = Anonymous bytes; pins = pins_of maps slot mapping.count })

-- the flat machine's mapping of a slot that was found
pub record FlatMapped (state : FlatState) (parts : Parts) (process number slot : ℕ) : Type 0 where
  pub found : IsFoundSlot parts.maps process number slot
  pub its : Mapping
  pub there : mapping_at state process number ≡ Some its
  pub shape : shape_of (Some its) ≡ Some (flat_slot parts.maps slot found.mapping)

pub flat_mapped : (state : FlatState) (parts : Parts) (process number slot : ℕ) → SlotsFit state parts → find_slot parts.maps process number ≡ Some slot → FlatMapped state parts process number slot
flat_mapped state parts process number slot f e =
    let found = found_slot parts.maps process number slot e in
    let k = shape_some (mapping_at state process number) (flat_slot parts.maps slot found.mapping)
    (f.flat process number ∙ ap (flat_found parts.maps) e ∙ ap (flat_mapping parts.maps slot) found.at) in
    record { found = found; its = k.0; there = k.1; shape = k.2 }

-- of the same place
pub same_place : (state : FlatState) (maps : MapsView) (process number slot : ℕ) → (k : IsFoundSlot maps process number slot)
    → mapping_at state k.mapping.process k.mapping.map ≡ mapping_at state process number
same_place state maps process number slot k = λ i. mapping_at state (k.process_is i) (k.number_is i)

-- a mapping of a file shows the file, and one of pages of its own has their bytes
pub mapped_file : (state : FlatState) (parts : Parts) (process number slot file first : ℕ) (writable : Bool) → (k : FlatMapped state parts process number slot)
    → k.found.mapping.shown ≡ OfFile file first writable → k.its ≡ record { shown = FlatFile file first writable; pins = pins_of parts.maps slot k.found.mapping.count }
mapped_file state parts process number slot file first writable k shown =
    same_Some _ _ (shape_file (Some k.its) file first writable (pins_of parts.maps slot k.found.mapping.count)
    (k.shape ∙ ap (λ (s : Shown). let out : Option Mapping = Some (record { shown = flat_shown s; pins = pins_of parts.maps slot k.found.mapping.count }) in out) shown))

pub mapped_own : (state : FlatState) (parts : Parts) (process number slot : ℕ) → (k : FlatMapped state parts process number slot) → k.found.mapping.shown ≡ OfItsOwn
    → (bytes : List ℕ) × ◌≡◌ {A = Mapping} k.its (record { shown = Anonymous bytes; pins = pins_of parts.maps slot k.found.mapping.count })
mapped_own state parts process number slot k shown =
    let own = shape_own (Some k.its) (pins_of parts.maps slot k.found.mapping.count)
    (k.shape ∙ ap (λ (s : Shown). let out : Option Mapping = Some (record { shown = flat_shown s; pins = pins_of parts.maps slot k.found.mapping.count }) in out) shown) in
    (own.0, same_Some _ _ own.1)

-- it has as many pages of its own
pub mapped-pages : (state : FlatState) (parts : Parts) (process number slot : ℕ) (k : FlatMapped state parts process number slot) → anonymous_pages k.its ≡ own_pages (Some k.found.mapping)
mapped-pages state parts process number slot k = by k.found.mapping.shown refl
  where
    by : (shown : Shown) → k.found.mapping.shown ≡ shown → anonymous_pages k.its ≡ own_pages (Some k.found.mapping)
    by (OfFile file first writable) e = ap anonymous_pages (mapped_file state parts process number slot file first writable k e) ∙ sym (pages_of e)
      where
        pages_of : k.found.mapping.shown ≡ OfFile file first writable → own_pages (Some k.found.mapping) ≡ 0
        pages_of e = rw e refl
    by OfItsOwn e = ap anonymous_pages (mapped_own state parts process number slot k e).1 ∙ length-pins_of parts.maps slot k.found.mapping.count ∙ sym (pages_of e)
      where
        pages_of : k.found.mapping.shown ≡ OfItsOwn → own_pages (Some k.found.mapping) ≡ k.found.mapping.count
        pages_of e = rw e refl

-- ---- what the flat machine has of a page

-- a file's page depends on the files
pub flat_page-file : (state later : FlatState) (maps : MapsView) (file index : ℕ) → later.files ≡ state.files → flat_page later maps (File file index) ≡ flat_page state maps (File file index)
flat_page-file state later maps file index files = ap (λ (all : List (List ℕ)). bytes_at (file_at all file) (PAGE * index) PAGE) files

-- and a page of a mapping of its own on that mapping's bytes
pub flat_page-at : (state : FlatState) (maps : MapsView) (slot index : ℕ) (mapping : Slot) → slot_at maps slot ≡ Some mapping
    → flat_page state maps (Anon slot index) ≡ bytes_at (own_bytes (mapping_at state mapping.process mapping.map)) (PAGE * index) PAGE
flat_page-at state maps slot index mapping at = ap (λ (o : Option Slot). bytes_at (own_bytes (flat_of_slot state o)) (PAGE * index) PAGE) at

pub flat_page-own : (state later : FlatState) (maps : MapsView) (slot index : ℕ) (mapping : Slot) → slot_at maps slot ≡ Some mapping
    → own_bytes (mapping_at later mapping.process mapping.map) ≡ own_bytes (mapping_at state mapping.process mapping.map)
    → flat_page later maps (Anon slot index) ≡ flat_page state maps (Anon slot index)
flat_page-own state later maps slot index mapping at same =
    flat_page-at later maps slot index mapping at ∙ ap (λ (own : List ℕ). bytes_at own (PAGE * index) PAGE) same ∙ sym (flat_page-at state maps slot index mapping at)

-- all mappings have the bytes of their own that they had
abbrev pub KeepsOwn : FlatState → FlatState → Type 0
KeepsOwn state later = (process number : ℕ) → own_bytes (mapping_at later process number) ≡ own_bytes (mapping_at state process number)

pub flat_page-kept : (state later : FlatState) (parts : Parts) (tag : Tag) → later.files ≡ state.files → KeepsOwn state later → IsFlatTag parts tag
    → flat_page later parts.maps tag ≡ flat_page state parts.maps tag
flat_page-kept state later parts (File file index) files own is = flat_page-file state later parts.maps file index files
flat_page-kept state later parts (Anon slot index) files own is =
    let k = is_own parts.maps slot index is in
    flat_page-own state later parts.maps slot index k.mapping k.at (own k.mapping.process k.mapping.map)

-- the slots are the same
pub flat_page-slots : (state : FlatState) (old new : MapsView) (tag : Tag) → new.slots ≡ old.slots → flat_page state new tag ≡ flat_page state old tag
flat_page-slots state old new (File file index) same = refl
flat_page-slots state old new (Anon slot index) same = ap (λ slots. bytes_at (own_bytes (flat_of_slot state (slice_index_or slots slot None))) (PAGE * index) PAGE) same

pub IsFlatTag-same : (old new : Parts) (tag : Tag) → new.cache.files ≡ old.cache.files → new.cache.slots ≡ old.cache.slots → new.maps.slots ≡ old.maps.slots → IsFlatTag old tag → IsFlatTag new tag
IsFlatTag-same old new (File file index) files slots maps is = IsTag-same old.cache new.cache (File file index) files slots is
IsFlatTag-same old new (Anon slot index) files slots maps is = subst (λ (all : List (Option Slot)). IsLiveOwnPage (slice_index_or all slot None) index) (sym maps) is

-- a page of zeros
pub zeros-page : (count index : ℕ) → index < count → bytes_at (zeros (PAGE * count)) (PAGE * index) PAGE ≡ zero_page
unfolding zeros zero_page
zeros-page count index below =
    ap (take PAGE) (drop-replicate (PAGE * index) (PAGE * count) 0) ∙ take-replicate PAGE (PAGE * count - PAGE * index) 0 (omega (arith, below))
