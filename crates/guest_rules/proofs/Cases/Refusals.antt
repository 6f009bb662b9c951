-- The tables refuse what the flat machine refuses.
use Rattle.std.proofs.Common.{◌≡◌, ◌<◌, ◌≤◌, ◌+◌, ◌*◌, ◌/◌, ◌%◌, ◌&&◌, not, nat_lt, nat_le, if◌then◌else◌, ℕ, zero, suc, Bool, true}
use Rattle.std.proofs.Common.{false, List, [], ◌∷◌, map, length, get_or, take, drop, Option, Some, None, is_some, refl, ap, sym, ◌∙◌, arith}
use Rattle.std.specs.FinMap as finite
use Rattle.std.specs.List.{list_any}
use Rattle.std.proofs.lemmas.Bool.{ltb-true, false_from_ne_true}
use Rattle.std.proofs.lemmas.List.Elements.{All-from_get_or}
use Rattle.std.proofs.lemmas.List.Folds.{list_any_at, list_any_none}
use Rattle.std.proofs.lemmas.List.{length-map}
use Rattle.cmm_types.specs.declared.page.TheConstants.{PAGE}
use Rattle.cmm_types.specs.declared.command.TheConstants.{MAX_MAPPING_PAGES}
use Rattle.cmm_types.specs.declared.plan.TheConstants.{MAX_LIVE_MAPPINGS}
use Rattle.cmm_types.specs.declared.plan.FilePlan.{FilePlan}
use Rattle.cmm_types.specs.declared.command.Op.{Op}
use Rattle.cmm_types.specs.declared.command.Op.TheVariants.{Read, Write, MapFile, MapAnon, Unmap, Load, Store, Pin, Unpin, Sync}
use Rattle.cmm_types.specs.declared.command.FlatRefusal.{FlatRefusal}
use Rattle.cmm_types.specs.declared.command.FlatRefusal.TheVariants.{NoMapping, AlreadyMapped, OutOfRange, ReadOnly, Pinned, NotPinned, TooManyMaps}
use Rattle.cmm_flat.specs.declared.mapping.Mapping.{Mapping}
use Rattle.cmm_flat.specs.declared.mapping.Shown.{Shown as FlatShown}
use Rattle.cmm_flat.specs.declared.mapping.Shown.TheVariants.{OfFile as FlatFile, Anonymous}
use Rattle.cmm_types.specs.Bytes.{bytes_at}
use Rattle.cmm_flat.specs.Laws.RangeLaws.{bytes_at-bytes_at}
use Rattle.cmm_flat.specs.Mapping.{shows_writable as flat_writable}
use Rattle.cmm_flat.specs.State.{FlatState, mapping_at, file_at}
use Rattle.cmm_flat.specs.Flat.{in_file, in_mapping, has_page, has_pin, pins_page, of_live, first_refusal, refusal_of}
use Rattle.cmm_flat.specs.Laws.FlatLaws.{length-file_at}
use Rattle.guest_maps.specs.declared.slot.Shown.{Shown}
use Rattle.guest_maps.specs.declared.slot.Shown.TheVariants.{File, Anon}
use Rattle.guest_maps.specs.declared.slot.Slot.{Slot}
use Rattle.guest_maps.specs.MapsView.{MapsView, slot_at, find_slot, live_slots, is_writable, slot_has_page, pinned_at, any_pinned}
use Rattle.guest_maps.specs.Laws.TornLaws.{pinned_at-none, any_pinned-none}
use Rattle.guest_rules.specs.declared.parts.Parts.{Parts}
use Rattle.guest_rules.specs.GuestState.{GuestState}
use Rattle.guest_rules.specs.Turns.{file_pages, file_has_bytes, refusal_at, refusal_of_new, refusal_of_pin, refusal_of_pin_at, refusal_of_unmap, refusal_in}
use Rattle.guest_rules.specs.Fit.{SlotsFit, pins_of, without_bytes, shape_of, flat_slot, flat_mapping, flat_found}
use Rattle.guest_rules.proofs.Cases.MapsFound.{found_slot}
use Rattle.guest_rules.proofs.Kept.PinLaws.{length-pins_of, pins_of-at}
use Rattle.guest_rules.proofs.Kept.SlotsKept.{slot-below}

-- the files have the planned sizes
abbrev pub HasLengths : List (List ℕ) → List FilePlan → Type 0
HasLengths files plans = map length files ≡ map (λ plan. PAGE * plan.pages) plans

planned : (plans : List FilePlan) (file : ℕ) → get_or (map (λ plan. PAGE * plan.pages) plans) file 0 ≡ PAGE * file_pages plans file
planned [] file = refl
planned (plan ∷ plans) zero = refl
planned (plan ∷ plans) (suc file) = planned plans file

pub length-file : (files : List (List ℕ)) (plans : List FilePlan) (file : ℕ) → HasLengths files plans → length (file_at files file) ≡ PAGE * file_pages plans file
length-file files plans file has = length-file_at files file ∙ ap (λ ns. get_or ns file 0) has ∙ planned plans file

pub length-files : (files : List (List ℕ)) (plans : List FilePlan) → HasLengths files plans → length files ≡ length plans
length-files files plans has = sym (length-map files length) ∙ ap length has ∙ length-map plans (λ plan. PAGE * plan.pages)

pub in_file-has_bytes : (files : List (List ℕ)) (plans : List FilePlan) (file off len : ℕ) → HasLengths files plans → in_file files file off len ≡ file_has_bytes plans file off len
in_file-has_bytes files plans file off len has =
    ap (λ n. nat_lt file n && nat_le (off + len) (length (file_at files file))) (length-files files plans has)
    ∙ ap (λ n. nat_lt file (length plans) && nat_le (off + len) n) (length-file files plans file has)

-- reads, writes and syncs of files
abbrev range_refusal : Bool → Option FlatRefusal
range_refusal within = first_refusal ((not within, OutOfRange) ∷ [])

range_same : (b : Bool) → range_refusal b ≡ (if b then None else Some OutOfRange)
range_same true = refl
range_same false = refl

-- loads and stores
abbrev load_refusal : (off len : ℕ) → Option Mapping → Option FlatRefusal
load_refusal off len mapping = first_refusal ((not (is_some mapping), NoMapping) ∷ (not (of_live (in_mapping off len) mapping), OutOfRange) ∷ [])

abbrev store_refusal : (off len : ℕ) → Option Mapping → Option FlatRefusal
store_refusal off len mapping =
    first_refusal ((not (is_some mapping), NoMapping)
    ∷ (not (of_live (in_mapping off len) mapping), OutOfRange)
    ∷ (not (of_live (λ m. flat_writable m.shown) mapping), ReadOnly) ∷ [])

-- a slot's mapping is as long and as writable as the flat machine's
in_slot : (maps : MapsView) (at : ℕ) (slot : Slot) (off len : ℕ) → of_live (in_mapping off len) (flat_mapping maps at (Some slot)) ≡ nat_le (off + len) (PAGE * slot.count)
in_slot maps at slot off len = ap (λ n. nat_le (off + len) (PAGE * n)) (length-pins_of maps at slot.count)

writable_shown : (maps : MapsView) (at process number : ℕ) (live : Bool) (shown : Shown) (count : ℕ)
    → of_live (λ m. flat_writable m.shown) (flat_mapping maps at (Some (record { process = process; map = number; live = live; shown = shown; count = count }))) ≡ is_writable shown
writable_shown maps at process number live (File file first writable) count = refl
writable_shown maps at process number live Anon count = refl

two_tests : (b : Bool) → first_refusal ((not b, OutOfRange) ∷ []) ≡ (if b then (if false then Some ReadOnly else None) else Some OutOfRange)
two_tests true = refl
two_tests false = refl

three_tests : (b c : Bool) → first_refusal ((not b, OutOfRange) ∷ (not c, ReadOnly) ∷ []) ≡ (if b then (if true && not c then Some ReadOnly else None) else Some OutOfRange)
three_tests true true = refl
three_tests true false = refl
three_tests false true = refl
three_tests false false = refl

load_same : (maps : MapsView) (process number off len : ℕ) (o : Option ℕ) → find_slot maps process number ≡ o → load_refusal off len (flat_found maps o) ≡ refusal_at maps false off len o
load_same maps process number off len None e = refl
load_same maps process number off len (Some slot) e =
    let found = found_slot maps process number slot e in
    rw found.at (ap (λ b. first_refusal ((not b, OutOfRange) ∷ [])) (in_slot maps slot found.mapping off len) ∙ two_tests (nat_le (off + len) (PAGE * found.mapping.count)))

store_same : (maps : MapsView) (process number off len : ℕ) (o : Option ℕ) → find_slot maps process number ≡ o → store_refusal off len (flat_found maps o) ≡ refusal_at maps true off len o
store_same maps process number off len None e = refl
store_same maps process number off len (Some slot) e =
    let found = found_slot maps process number slot e in
    let m = found.mapping in
    let flat : Option Mapping = flat_mapping maps slot (Some m) in
    rw found.at (
    ap (λ b. first_refusal ((not b, OutOfRange) ∷ (not (of_live (λ q. flat_writable q.shown) flat), ReadOnly) ∷ [])) (in_slot maps slot m off len)
    ∙ ap (λ c. first_refusal ((not (nat_le (off + len) (PAGE * m.count)), OutOfRange) ∷ (not c, ReadOnly) ∷ [])) (writable_shown maps slot m.process m.map m.live m.shown m.count)
    ∙ three_tests (nat_le (off + len) (PAGE * m.count)) (is_writable m.shown)
    )

-- new mappings
abbrev map_refusal : (live within full : Bool) → Option FlatRefusal
map_refusal live within full = first_refusal ((live, AlreadyMapped) ∷ (not within, OutOfRange) ∷ (full, TooManyMaps) ∷ [])

new_tests : (b c : Bool) → map_refusal false b c ≡ (if b then (if c then Some TooManyMaps else None) else Some OutOfRange)
new_tests true true = refl
new_tests true false = refl
new_tests false true = refl
new_tests false false = refl

map_same : (g : GuestState) (process number : ℕ) (are_there : Bool) (o : Option ℕ) → find_slot g.parts.maps process number ≡ o
    → map_refusal (is_some (flat_found g.parts.maps o)) are_there (nat_le MAX_LIVE_MAPPINGS (live_slots g.parts.maps)) ≡ refusal_of_new g are_there o
map_same g process number are_there None e = new_tests are_there (nat_le MAX_LIVE_MAPPINGS (live_slots g.parts.maps))
map_same g process number are_there (Some slot) e = let found = found_slot g.parts.maps process number slot e in rw found.at refl

-- new mappings of pages of their own
abbrev anon_refusal : (live full : Bool) → Option FlatRefusal
anon_refusal live full = first_refusal ((live, AlreadyMapped) ∷ (full, TooManyMaps) ∷ [])

anon_same : (g : GuestState) (process number : ℕ) (o : Option ℕ) → find_slot g.parts.maps process number ≡ o
    → anon_refusal (is_some (flat_found g.parts.maps o)) (nat_le MAX_LIVE_MAPPINGS (live_slots g.parts.maps)) ≡ refusal_of_new g true o
anon_same g process number None e = of (nat_le MAX_LIVE_MAPPINGS (live_slots g.parts.maps))
  where
    of : (full : Bool) → anon_refusal false full ≡ (if true then (if full then Some TooManyMaps else None) else Some OutOfRange)
    of true = refl
    of false = refl
anon_same g process number (Some slot) e = let found = found_slot g.parts.maps process number slot e in rw found.at refl

-- ---- a refusal doesn't depend on bytes of a mapping's own

live_shape : (o : Option Mapping) → is_some (shape_of o) ≡ is_some o
live_shape None = refl
live_shape (Some mapping) = refl

live_same : (flat : FlatState) (parts : Parts) (process number : ℕ) → SlotsFit flat parts
    → is_some (mapping_at flat process number) ≡ is_some (flat_found parts.maps (find_slot parts.maps process number))
live_same flat parts process number fits = sym (live_shape (mapping_at flat process number)) ∙ ap (λ (o : Option Mapping). is_some o) (fits.flat process number)

writable_shape : (shown : FlatShown) → flat_writable (without_bytes shown) ≡ flat_writable shown
writable_shape (FlatFile file first writable) = refl
writable_shape (Anonymous bytes) = refl

load_shape : (off len : ℕ) (o : Option Mapping) → load_refusal off len (shape_of o) ≡ load_refusal off len o
load_shape off len None = refl
load_shape off len (Some mapping) = refl

store_shape : (off len : ℕ) (o : Option Mapping) → store_refusal off len (shape_of o) ≡ store_refusal off len o
store_shape off len None = refl
store_shape off len (Some mapping) =
    ap (λ c. first_refusal ((not (in_mapping off len mapping), OutOfRange) ∷ (not c, ReadOnly) ∷ [])) (writable_shape mapping.shown)

-- pins
abbrev place_tests : (pins within is_pinned : Bool) → Option FlatRefusal
place_tests true within is_pinned = first_refusal ((not within, OutOfRange) ∷ (is_pinned, Pinned) ∷ [])
place_tests false within is_pinned = first_refusal ((not within, OutOfRange) ∷ (not is_pinned, NotPinned) ∷ [])

abbrev pin_refusal : (pins : Bool) → (index : ℕ) → Option Mapping → Option FlatRefusal
pin_refusal pins index None = Some NoMapping
pin_refusal pins index (Some mapping) = place_tests pins (has_page index mapping) (pins_page index mapping)

pin_refused : (index : ℕ) (o : Option Mapping)
    → first_refusal ((not (is_some o), NoMapping) ∷ (not (of_live (has_page index) o), OutOfRange) ∷ (of_live (pins_page index) o, Pinned) ∷ []) ≡ pin_refusal true index o
pin_refused index None = refl
pin_refused index (Some mapping) = refl

unpin_refused : (index : ℕ) (o : Option Mapping)
    → first_refusal ((not (is_some o), NoMapping) ∷ (not (of_live (has_page index) o), OutOfRange) ∷ (not (of_live (pins_page index) o), NotPinned) ∷ []) ≡ pin_refusal false index o
unpin_refused index None = refl
unpin_refused index (Some mapping) = refl

tests_same : (pins within flat table : Bool) → (within ≡ true → flat ≡ table) → place_tests pins within flat ≡ (if within then refusal_of_pin pins table else Some OutOfRange)
tests_same true true flat table same = ap (place_tests true true) (same refl) ∙ of table
  where
    of : (table : Bool) → place_tests true true table ≡ refusal_of_pin true table
    of true = refl
    of false = refl
tests_same false true flat table same = ap (place_tests false true) (same refl) ∙ of table
  where
    of : (table : Bool) → place_tests false true table ≡ refusal_of_pin false table
    of true = refl
    of false = refl
tests_same true false flat table same = refl
tests_same false false flat table same = refl

pin_shape : (pins : Bool) (index : ℕ) (o : Option Mapping) → pin_refusal pins index (shape_of o) ≡ pin_refusal pins index o
pin_shape pins index None = refl
pin_shape pins index (Some mapping) = refl

pin_same : (maps : MapsView) (process number index : ℕ) (pins : Bool) (o : Option ℕ) → find_slot maps process number ≡ o
    → pin_refusal pins index (flat_found maps o) ≡ refusal_of_pin_at maps pins index o
pin_same maps process number index pins None e = refl
pin_same maps process number index pins (Some slot) e =
    let found = found_slot maps process number slot e in
    let count = found.mapping.count in
    rw found.at (
    ap (λ n. place_tests pins (nat_lt index n) (get_or (pins_of maps slot count) index false)) (length-pins_of maps slot count)
    ∙ tests_same pins (nat_lt index count) (get_or (pins_of maps slot count) index false) (pinned_at maps slot index) (λ t. pins_of-at maps slot count index false (ltb-true index count t))
    )

-- ends of mappings
abbrev unmap_refusal : Option Mapping → Option FlatRefusal
unmap_refusal mapping = first_refusal ((not (is_some mapping), NoMapping) ∷ (of_live has_pin mapping, Pinned) ∷ [])

-- a page of the mapping is pinned for the flat machine where one is in the tables
any_same : (flat : FlatState) (parts : Parts) (slot : ℕ) (mapping : Slot) → SlotsFit flat parts → slot_at parts.maps slot ≡ Some mapping
    → has_pin (flat_slot parts.maps slot mapping) ≡ any_pinned parts.maps slot
any_same flat parts slot mapping f at = by (any_pinned parts.maps slot) refl
  where
    pins : List Bool
    pins = pins_of parts.maps slot mapping.count

    below : slot < length parts.maps.slots
    below = slot-below parts.maps slot mapping at

    whole : length parts.maps.pinned ≡ length parts.maps.slots * MAX_MAPPING_PAGES
    whole = f.pinned ∙ ap (λ n. n * MAX_MAPPING_PAGES) (sym f.slots)

    -- where the flat machine has none, the tables have none
    none : list_any (λ pin. pin) pins ≡ false → (index : ℕ) → index < MAX_MAPPING_PAGES → pinned_at parts.maps slot index ≡ false
    none free index lt = false_from_ne_true (pinned_at parts.maps slot index) (λ is.
        let there : slot_has_page (Some mapping) index ≡ true = ap (λ o. slot_has_page o index) (sym at) ∙ f.placed slot index lt is in
        let inside : index < mapping.count = ltb-true index mapping.count there in
        let found = list_any_at (λ pin. pin) pins index false (rw (length-pins_of parts.maps slot mapping.count) inside) (pins_of-at parts.maps slot mapping.count index false inside ∙ is) in
        let bad : true ≡ false = sym found ∙ free in cc)

    by : (b : Bool) → any_pinned parts.maps slot ≡ b → list_any (λ pin. pin) pins ≡ any_pinned parts.maps slot
    by true e = sym (e ∙ sym (some (list_any (λ pin. pin) pins) refl))
      where
        some : (b : Bool) → list_any (λ pin. pin) pins ≡ b → list_any (λ pin. pin) pins ≡ true
        some true x = x
        some false x = let bad : true ≡ false = sym e ∙ any_pinned-none parts.maps slot whole below (none x) in absurd cc
    by false e =
        list_any_none (λ pin. pin) pins (All-from_get_or (λ pin. pin ≡ false) pins false (λ index lt.
        let inside : index < mapping.count = rw (length-pins_of parts.maps slot mapping.count) at lt in
        pins_of-at parts.maps slot mapping.count index false inside
        ∙ pinned_at-none parts.maps slot index whole below (omega (arith, inside, (f.shown slot mapping at).0)) e))
        ∙ sym e

unmap_shape : (o : Option Mapping) → unmap_refusal (shape_of o) ≡ unmap_refusal o
unmap_shape None = refl
unmap_shape (Some mapping) = refl

unmap_same : (flat : FlatState) (parts : Parts) (process number : ℕ) (o : Option ℕ) → SlotsFit flat parts → find_slot parts.maps process number ≡ o
    → unmap_refusal (flat_found parts.maps o) ≡ refusal_of_unmap parts.maps o
unmap_same flat parts process number None f e = refl
unmap_same flat parts process number (Some slot) f e =
    let found = found_slot parts.maps process number slot e in
    rw found.at (ap (λ b. first_refusal ((b, Pinned) ∷ [])) (any_same flat parts slot found.mapping f found.at) ∙ pinned_test (any_pinned parts.maps slot))
  where
    pinned_test : (b : Bool) → first_refusal ((b, Pinned) ∷ []) ≡ (if b then Some Pinned else None)
    pinned_test true = refl
    pinned_test false = refl

-- a command is refused by the tables as the flat machine refuses it
pub refusal-same : (flat : FlatState) (g : GuestState) (process : ℕ) (op : Op) → SlotsFit flat g.parts → HasLengths flat.files g.plan.files
    → refusal_of flat process op ≡ refusal_in g process op
refusal-same flat g process (Read file off len) fits has = ap range_refusal (in_file-has_bytes flat.files g.plan.files file off len has) ∙ range_same (file_has_bytes g.plan.files file off len)
refusal-same flat g process (Write file off bytes) fits has =
    ap range_refusal (in_file-has_bytes flat.files g.plan.files file off (length bytes) has) ∙ range_same (file_has_bytes g.plan.files file off (length bytes))
refusal-same flat g process (MapFile number file first count writable) fits has =
    ap (λ b. map_refusal b (in_file flat.files file (PAGE * first) (PAGE * count)) (nat_le MAX_LIVE_MAPPINGS (finite.len flat.mappings))) (live_same flat g.parts process number fits)
    ∙ ap (λ b. map_refusal (is_some (flat_found g.parts.maps (find_slot g.parts.maps process number))) b (nat_le MAX_LIVE_MAPPINGS (finite.len flat.mappings)))
    (in_file-has_bytes flat.files g.plan.files file (PAGE * first) (PAGE * count) has)
    ∙ ap (λ n. map_refusal (is_some (flat_found g.parts.maps (find_slot g.parts.maps process number))) (file_has_bytes g.plan.files file (PAGE * first) (PAGE * count))
    (nat_le MAX_LIVE_MAPPINGS n)) fits.counted
    ∙ map_same g process number (file_has_bytes g.plan.files file (PAGE * first) (PAGE * count)) (find_slot g.parts.maps process number) refl
refusal-same flat g process (MapAnon number count) fits has =
    ap (λ b. anon_refusal b (nat_le MAX_LIVE_MAPPINGS (finite.len flat.mappings))) (live_same flat g.parts process number fits)
    ∙ ap (λ n. anon_refusal (is_some (flat_found g.parts.maps (find_slot g.parts.maps process number))) (nat_le MAX_LIVE_MAPPINGS n)) fits.counted
    ∙ anon_same g process number (find_slot g.parts.maps process number) refl
refusal-same flat g process (Load number off len) fits has =
    sym (load_shape off len (mapping_at flat process number))
    ∙ ap (load_refusal off len) (fits.flat process number)
    ∙ load_same g.parts.maps process number off len (find_slot g.parts.maps process number) refl
refusal-same flat g process (Store number off bytes) fits has =
    sym (store_shape off (length bytes) (mapping_at flat process number))
    ∙ ap (store_refusal off (length bytes)) (fits.flat process number)
    ∙ store_same g.parts.maps process number off (length bytes) (find_slot g.parts.maps process number) refl
refusal-same flat g process (Pin number index) fits has =
    pin_refused index (mapping_at flat process number) ∙ sym (pin_shape true index (mapping_at flat process number)) ∙ ap (pin_refusal true index) (fits.flat process number)
    ∙ pin_same g.parts.maps process number index true (find_slot g.parts.maps process number) refl
refusal-same flat g process (Unpin number index) fits has =
    unpin_refused index (mapping_at flat process number) ∙ sym (pin_shape false index (mapping_at flat process number)) ∙ ap (pin_refusal false index) (fits.flat process number)
    ∙ pin_same g.parts.maps process number index false (find_slot g.parts.maps process number) refl
refusal-same flat g process (Sync file) fits has =
    ap (λ n. range_refusal (nat_lt file n)) (length-files flat.files g.plan.files has) ∙ range_same (nat_lt file (length g.plan.files))
refusal-same flat g process (Unmap number) fits has =
    sym (unmap_shape (mapping_at flat process number)) ∙ ap unmap_refusal (fits.flat process number) ∙ unmap_same flat g.parts process number (find_slot g.parts.maps process number) fits refl

-- bytes of a page are the file's
pub page-bytes : (all : List ℕ) (off len : ℕ) → off % PAGE + len ≤ PAGE → take len (drop (off % PAGE) (bytes_at all (PAGE * (off / PAGE)) PAGE)) ≡ bytes_at all off len
page-bytes all off len within = bytes_at-bytes_at all (PAGE * (off / PAGE)) PAGE (off % PAGE) len within ∙ ap (λ n. bytes_at all n len) (omega arith)
