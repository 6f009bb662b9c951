-- The tag that an accepted command needs a page of.
use Rattle.std.proofs.Common.{◌≡◌, ◌<◌, ◌≤◌, ◌+◌, ◌*◌, ◌/◌, nat_lt, nat_le, if◌then◌else◌, cond, Bool, true, false, ℕ, zero, suc, List}
use Rattle.std.proofs.Common.{[], ◌∷◌, map, length, get_or, slice_index_or, Option, Some, None, refl, ap, sym, subst, ◌∙◌, inl, inr, arith}
use Rattle.std.proofs.lemmas.Bool.{and_parts, cases_lt, ltb-true, leb-true}
use Rattle.std.proofs.lemmas.List.{length-map, get_or_past}
use Rattle.cmm_types.specs.declared.page.TheConstants.{PAGE}
use Rattle.cmm_types.specs.declared.page.Tag.{Tag}
use Rattle.cmm_types.specs.declared.page.Tag.TheVariants.{File}
use Rattle.cmm_types.specs.declared.plan.FilePlan.{FilePlan}
use Rattle.cmm_types.specs.declared.plan.TheConstants.{MAX_MAPPING_SLOTS}
use Rattle.cmm_types.specs.declared.command.TheConstants.{MAX_MAPPING_PAGES}
use Rattle.cmm_types.specs.declared.command.Op.{Op}
use Rattle.cmm_types.specs.declared.command.Op.TheVariants.{Read, Write, Load, Store, Pin, Unpin, Sync}
use Rattle.cmm_types.specs.declared.command.FlatRefusal.TheVariants.{OutOfRange}
use Rattle.cmm_types.specs.InRange.{IsPiece}
use Rattle.cmm_io.specs.DiskView.{DiskView}
use Rattle.cmm_flat.specs.State.{FlatState}
use Rattle.cmm_flat.specs.Legal.{process_of}
use Rattle.cmm_storage.specs.StorageView.{StorageView}
use Rattle.guest_cache.specs.CacheView.{IsTag}
use Rattle.guest_maps.specs.declared.slot.Slot.{Slot}
use Rattle.guest_maps.specs.declared.slot.Shown.{Shown}
use Rattle.guest_maps.specs.declared.slot.Shown.TheVariants.{File as OfFile, Anon as OfItsOwn}
use Rattle.guest_maps.specs.MapsView.{MapsView, slot_at, find_slot, tag_of, tag_at, tag_in as slot_tag}
use Rattle.guest_rules.specs.declared.parts.Parts.{Parts}
use Rattle.guest_rules.specs.GuestState.{GuestState, processor_at}
use Rattle.guest_rules.specs.Turns.{file_pages, file_has_bytes, refusal_in}
use Rattle.guest_rules.specs.Fit.{SizesFit, SlotsFit, HasShownPages, IsFlatTag}
use Rattle.guest_rules.proofs.Cases.TurnCases.{Has, Starts, Wants, found_tag}
use Rattle.cmm_flat.specs.Laws.CommandLaws.{command_in_range}
use Rattle.guest_rules.proofs.Cases.MapsFound.{found_slot}

-- ---- what a place of a mapping shows

-- the mapping in the slot has the page, and what it shows is there
pub record ShowsAt (parts : Parts) (slot index : ℕ) (tag : Tag) : Type 0 where
  pub mapping : Slot
  pub there : slot_at parts.maps slot ≡ Some mapping
  pub is : tag ≡ tag_of mapping.shown slot index
  pub below : index < mapping.count
  pub few : mapping.count ≤ MAX_MAPPING_PAGES
  pub shows : HasShownPages parts.cache mapping.shown mapping.count

shown_if : (b : Bool) (t tag : Tag) → cond b (Some t) None ≡ Some tag → (b ≡ true) × (t ≡ tag)
shown_if true t tag e = (refl, cc)
shown_if false t tag e = let bad : None ≡ Some tag = e in absurd cc

pub shows_at : (state : FlatState) (parts : Parts) (slot index : ℕ) (tag : Tag) → SlotsFit state parts → tag_at parts.maps slot index ≡ Some tag → ShowsAt parts slot index tag
shows_at state parts slot index tag f e = of (slot_at parts.maps slot) refl e
  where
    of : (o : Option Slot) → slot_at parts.maps slot ≡ o → slot_tag o slot index ≡ Some tag → ShowsAt parts slot index tag
    of None z e = let bad : None ≡ Some tag = e in absurd cc
    of (Some mapping) z e =
        let its = f.shown slot mapping z in
        let k = shown_if (nat_lt index mapping.count) (tag_of mapping.shown slot index) tag e in
        record { mapping = mapping; there = z; is = sym k.1; below = ltb-true index mapping.count k.0; few = its.0; shows = its.1 }

pub tag_in-Some : (parts : Parts) (o : Option ℕ) (index : ℕ) (tag : Tag) → found_tag parts o index ≡ Some tag → (slot : ℕ) × (o ≡ Some slot) × (tag_at parts.maps slot index ≡ Some tag)
tag_in-Some parts None index tag e = let bad : None ≡ Some tag = e in absurd cc
tag_in-Some parts (Some slot) index tag e = (slot, refl, e)

-- ---- the tags of commands

pub pages_of_file : (plans : List FilePlan) (file : ℕ) → get_or (map (λ plan. plan.pages) plans) file 0 ≡ file_pages plans file
pages_of_file [] file = refl
pages_of_file (plan ∷ plans) zero = refl
pages_of_file (plan ∷ plans) (suc file) = pages_of_file plans file

-- the cache has the plan's files
pub file-planned : (g : GuestState) (v : StorageView) (d : DiskView) (file : ℕ) → SizesFit g v d → file < length g.parts.cache.files → file < length g.plan.files
file-planned g v d file f below = rw (f.files, length-map) at below

pub pages-planned : (g : GuestState) (v : StorageView) (d : DiskView) (file : ℕ) → SizesFit g v d → slice_index_or g.parts.cache.files file 0 ≡ file_pages g.plan.files file
pages-planned g v d file f = rw f.files (pages_of_file g.plan.files file)

-- a page of a file of the plan has a tag
pub planned-tag : (g : GuestState) (v : StorageView) (d : DiskView) (file index : ℕ) → SizesFit g v d → file < length g.plan.files → index < file_pages g.plan.files file
    → IsTag g.parts.cache (File file index)
planned-tag g v d file index f below within = (rw (f.files, length-map) below, rw (f.files, pages_of_file g.plan.files file) within)

accepted_within : (b : Bool) → (if b then None else Some OutOfRange) ≡ None → b ≡ true
accepted_within true e = refl
accepted_within false e = cc

-- an accepted sync has its file
pub sync-file : (g : GuestState) (process file : ℕ) → refusal_in g process (Sync file) ≡ None → file < length g.plan.files
sync-file g process file e = ltb-true file (length g.plan.files) (accepted_within (nat_lt file (length g.plan.files)) e)

-- a file has the bytes that are asked for, so it has their pages
pub record HasBytes (g : GuestState) (file off len : ℕ) : Type 0 where
  pub file_below : file < length g.parts.cache.files
  pub within : off + len ≤ PAGE * slice_index_or g.parts.cache.files file 0

-- g the guest, v its storage, d its disk
module _ (g : GuestState) (v : StorageView) (d : DiskView) where
  pub has_bytes-file : (file off len : ℕ) → SizesFit g v d → file_has_bytes g.plan.files file off len ≡ true → HasBytes g file off len
  has_bytes-file file off len f has =
      let parts = and_parts (nat_lt file (length g.plan.files)) (nat_le (off + len) (PAGE * file_pages g.plan.files file)) has in
      record { file_below = rw (f.files, length-map g.plan.files (λ plan. plan.pages)) (ltb-true _ _ parts.0); within = rw (f.files, pages_of_file g.plan.files file) (leb-true _ _ parts.1) }

  -- an accepted read or write has its bytes
  pub read-bytes : (process file off len : ℕ) → SizesFit g v d → refusal_in g process (Read file off len) ≡ None → HasBytes g file off len
  read-bytes process file off len f e = has_bytes-file file off len f (accepted_within (file_has_bytes g.plan.files file off len) e)

  pub write-bytes : (process file off : ℕ) (bytes : List ℕ) → SizesFit g v d → refusal_in g process (Write file off bytes) ≡ None → HasBytes g file off (length bytes)
  write-bytes process file off bytes f e = has_bytes-file file off (length bytes) f (accepted_within (file_has_bytes g.plan.files file off (length bytes)) e)

  pub read-piece : (cpu file off len : ℕ) → SizesFit g v d → Has g cpu (Read file off len) → IsPiece off len
  read-piece cpu file off len f has = (command_in_range g.plan cpu (processor_at g cpu).place (Read file off len) f.range has.command).1

  pub write-piece : (cpu file off : ℕ) (bytes : List ℕ) → SizesFit g v d → Has g cpu (Write file off bytes) → IsPiece off (length bytes)
  write-piece cpu file off bytes f has = (command_in_range g.plan cpu (processor_at g cpu).place (Write file off bytes) f.range has.command).1

page_within : (off len pages : ℕ) → 1 ≤ len → off + len ≤ PAGE * pages → off / PAGE < pages
page_within off len pages some within = omega arith

-- a page of a file, or of a live mapping of its own: the flat machine has it
pub record IsWanted (parts : Parts) (tag : Tag) : Type 0 where
  pub is_tag : IsTag parts.cache tag
  pub flat : IsFlatTag parts tag

wanted-bytes : (g : GuestState) (file off len : ℕ) (tag : Tag) → HasBytes g file off len → IsPiece off len → Some (File file (off / PAGE)) ≡ Some tag → IsWanted g.parts tag
wanted-bytes g file off len tag k piece wants =
    let is : tag ≡ File file (off / PAGE) = cc in
    let its : IsTag g.parts.cache (File file (off / PAGE)) = (k.file_below, page_within off len _ piece.some k.within) in
    subst (IsWanted g.parts) (sym is) (record { is_tag = its; flat = its })

shown-tag : (parts : Parts) (slot index count : ℕ) (shown : Shown) → HasShownPages parts.cache shown count → slot < parts.cache.slots → index < count → count ≤ MAX_MAPPING_PAGES
    → IsTag parts.cache (tag_of shown slot index)
shown-tag parts slot index count (OfFile file first writable) shows below within few = (shows.0, omega (arith, shows.1, within))
shown-tag parts slot index count OfItsOwn shows below within few = (below, omega (arith, within, few))

slot-within : (slot all cache : ℕ) → slot < all → all ≡ MAX_MAPPING_SLOTS → cache ≡ MAX_MAPPING_SLOTS → slot < cache
slot-within slot all cache below a c = omega (arith, below, a, c)

slot_below : (maps : MapsView) (slot : ℕ) (mapping : Slot) → slot_at maps slot ≡ Some mapping → slot < length maps.slots
slot_below maps slot mapping at = elim (cases_lt slot (length maps.slots)) [
  | inl below ↦ below
  | inr past ↦ let bad : None ≡ Some mapping = sym (get_or_past maps.slots slot None past) ∙ at in absurd cc
]

-- what a place shows has a place in the index
pub shown-is_tag : (state : FlatState) (parts : Parts) (slot index : ℕ) (tag : Tag) → SlotsFit state parts → parts.cache.slots ≡ MAX_MAPPING_SLOTS
    → ShowsAt parts slot index tag → IsTag parts.cache tag
shown-is_tag state parts slot index tag f sized k =
    rw k.is (shown-tag parts slot index k.mapping.count k.mapping.shown k.shows
    (slot-within slot (length parts.maps.slots) parts.cache.slots (slot_below parts.maps slot k.mapping k.there) f.slots sized) k.below k.few)

-- and the flat machine has it, where the mapping is live
shown-flat : (parts : Parts) (slot index : ℕ) (mapping : Slot) (shown : Shown) → slot_at parts.maps slot ≡ Some mapping → mapping.live ≡ true → mapping.shown ≡ shown → index < mapping.count
    → IsTag parts.cache (tag_of shown slot index) → IsFlatTag parts (tag_of shown slot index)
shown-flat parts slot index mapping (OfFile file first writable) at live shown below is = is
shown-flat parts slot index mapping OfItsOwn at live shown below is = rw at (live, shown, below)

pub wanted-shown : (state : FlatState) (parts : Parts) (slot index : ℕ) (tag : Tag) → SlotsFit state parts → parts.cache.slots ≡ MAX_MAPPING_SLOTS → (k : ShowsAt parts slot index tag)
    → k.mapping.live ≡ true → IsWanted parts tag
wanted-shown state parts slot index tag f sized k live =
    let is = shown-is_tag state parts slot index tag f sized k in
    record { is_tag = is; flat = rw k.is (shown-flat parts slot index k.mapping k.mapping.shown k.there live refl k.below (rw k.is at is)) }

wanted-in : (state : FlatState) (parts : Parts) (process number index : ℕ) (tag : Tag) → SlotsFit state parts → parts.cache.slots ≡ MAX_MAPPING_SLOTS
    → found_tag parts (find_slot parts.maps process number) index ≡ Some tag → IsWanted parts tag
wanted-in state parts process number index tag f sized e =
    let k = tag_in-Some parts (find_slot parts.maps process number) index tag e in
    let at = shows_at state parts k.0 index tag f k.2 in
    let found = found_slot parts.maps process number k.0 k.1 in
    let both : Some found.mapping ≡ Some at.mapping = sym found.at ∙ at.there in
    let same : found.mapping ≡ at.mapping = cc in
    wanted-shown state parts k.0 index tag f sized at (ap (λ (m : Slot). m.live) (sym same) ∙ found.live)

pub is_wanted : (state : FlatState) (g : GuestState) (v : StorageView) (d : DiskView) (cpu : ℕ) (op : Op) (tag : Tag) → SizesFit g v d → SlotsFit state g.parts → Starts g cpu op
    → Wants g cpu op tag → IsWanted g.parts tag
is_wanted state g v d cpu (Read file off len) tag sizes slots starts wants =
    wanted-bytes g file off len tag (read-bytes g v d (process_of g.plan cpu) file off len sizes starts.accepted) (read-piece g v d cpu file off len sizes starts.has) wants
is_wanted state g v d cpu (Write file off bytes) tag sizes slots starts wants =
    wanted-bytes g file off (length bytes) tag (write-bytes g v d (process_of g.plan cpu) file off bytes sizes starts.accepted) (write-piece g v d cpu file off bytes sizes starts.has) wants
is_wanted state g v d cpu (Load number off len) tag sizes slots starts wants = wanted-in state g.parts (process_of g.plan cpu) number (off / PAGE) tag slots sizes.slots wants
is_wanted state g v d cpu (Store number off bytes) tag sizes slots starts wants = wanted-in state g.parts (process_of g.plan cpu) number (off / PAGE) tag slots sizes.slots wants
is_wanted state g v d cpu (Pin number index) tag sizes slots starts wants = wanted-in state g.parts (process_of g.plan cpu) number index tag slots sizes.slots wants
is_wanted state g v d cpu (Unpin number index) tag sizes slots starts wants = wanted-in state g.parts (process_of g.plan cpu) number index tag slots sizes.slots wants
is_wanted state g v d cpu op tag sizes slots starts wants = let bad : None ≡ Some tag = wants in absurd cc
