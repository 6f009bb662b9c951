-- What a write changes of the flat machine's bytes: those of a file's page, or of a page of a mapping of its own.
use Rattle.std.proofs.Common.{◌≡◌, ◌≢◌, ◌⊎◌, ◌<◌, ◌≤◌, ◌+◌, ◌-◌, ◌*◌, ◌/◌, ◌%◌, ℕ, cond, List, map, length, Option, Some, is_some, refl, ap, sym, ◌∙◌, inl, inr, arith}
use Rattle.std.specs.FinMap as finite
use Rattle.std.proofs.lemmas.Bool.{cases_eq, cases_lt}
use Rattle.cmm_types.specs.declared.page.TheConstants.{PAGE}
use Rattle.cmm_types.specs.declared.page.Tag.{Tag}
use Rattle.cmm_types.specs.declared.page.Tag.TheVariants.{File, Anon}
use Rattle.cmm_types.specs.Bytes.{bytes_at, with_bytes}
use Rattle.cmm_io.specs.DiskView.{DiskView}
use Rattle.cmm_flat.specs.declared.mapping.MappingKey.{MappingKey}
use Rattle.cmm_flat.specs.declared.mapping.Mapping.{Mapping}
use Rattle.cmm_flat.specs.declared.mapping.Shown.TheVariants.{Anonymous}
use Rattle.cmm_flat.specs.Mapping.{written}
use Rattle.cmm_flat.specs.State.{FlatState, IsSound, mapping_at, key_of}
use Rattle.cmm_flat.specs.Flat.{with_file_bytes, with_mapping}
use Rattle.cmm_flat.specs.Laws.FlatLaws.{lengths-with_file_bytes, sound-lengths}
use Rattle.cmm_flat.specs.Laws.KeyLaws.{keys_total}
use Rattle.cmm_flat.specs.Laws.StepLaws.{mapping_at-with_mapping, mapping_at-with_mapping_other}
use Rattle.cmm_flat.specs.Laws.RangeLaws.{bytes_at-with_bytes_below, bytes_at-with_bytes_above, bytes_at-with_bytes_round}
use Rattle.essa_state.specs.PageValue.{PageValue}
use Rattle.cmm_storage.specs.StorageView.{StorageView}
use Rattle.guest_maps.specs.declared.slot.Shown.TheVariants.{Anon as OfItsOwn}
use Rattle.guest_rules.specs.GuestState.{GuestState}
use Rattle.guest_rules.specs.Fit.{FitAt, IsFlatTag, own_bytes, flat_page, shape_of, pins_of}
use Rattle.guest_rules.proofs.Kept.FlatTags.{is_own, FlatMapped, same_place, flat_page-at, flat_page-own}
use Rattle.guest_rules.proofs.Fit.FoundBytes.{IsFound, found-bytes}
use Rattle.guest_rules.proofs.Fit.StoredBytes.{IsWrite, stored-here, stored-elsewhere}
use Rattle.guest_rules.proofs.Fit.FitBytes.{ChangesBytes}

-- ---- a file's bytes

pub file_changes : (state : FlatState) (g : GuestState) (v : StorageView) (d : DiskView) (file first off : ℕ) (bytes : List ℕ) (page : ℕ) (tag : Tag) (found : PageValue) (all : List ℕ)
    → FitAt state g v d → IsWrite state.files file first off (length bytes) → tag ≡ File file (first + off / PAGE) → IsFlatTag g.parts tag → IsFound g v page tag found all
    → ChangesBytes state (with_file_bytes state file (PAGE * first + off) bytes) g v page tag found all (with_bytes all (off % PAGE) bytes)
file_changes state g v d file first off bytes page tag found all f write is flat its = record {
  its = its;
  flat = flat;
  lengths = lengths;
  sound = sound-lengths state.files later.files state refl lengths f.flat.sound;
  shapes = record { shapes = λ process number. refl; count = refl };
  here =
      ap (flat_page later g.parts.maps) is
      ∙ stored-here state.files file first off bytes all write (ap (flat_page state g.parts.maps) (sym is) ∙ found-bytes state g v d page tag found all f flat its);
  elsewhere = elsewhere;
}
  where
    later : FlatState
    later = with_file_bytes state file (PAGE * first + off) bytes

    lengths : map length later.files ≡ map length state.files
    lengths = lengths-with_file_bytes state.files file (PAGE * first + off) bytes write.within

    elsewhere : (t : Tag) → IsFlatTag g.parts t → t ≢ tag → flat_page later g.parts.maps t ≡ flat_page state g.parts.maps t
    elsewhere (File i j) at n = stored-elsewhere state.files file first off i j bytes write (λ z. n (z ∙ sym is))
    elsewhere (Anon slot index) at n =
        let k = is_own g.parts.maps slot index at in flat_page-own state later g.parts.maps slot index k.mapping k.at refl

-- ---- bytes of a mapping's own

-- bytes in one page of a mapping of pages of its own
pub record OwnWrite (state : FlatState) (g : GuestState) (process number slot off len : ℕ) : Type 0 where
  pub at : FlatMapped state g.parts process number slot
  pub shown : at.found.mapping.shown ≡ OfItsOwn
  pub own : List ℕ
  pub has : at.its ≡ record { shown = Anonymous own; pins = pins_of g.parts.maps slot at.found.mapping.count }
  pub within : off + len ≤ length own
  pub within_page : off % PAGE + len ≤ PAGE

own_here : (own bytes : List ℕ) (off : ℕ) → off + length bytes ≤ length own → off % PAGE + length bytes ≤ PAGE
    → bytes_at (with_bytes own off bytes) (PAGE * (off / PAGE)) PAGE ≡ with_bytes (bytes_at own (PAGE * (off / PAGE)) PAGE) (off % PAGE) bytes
own_here own bytes off within within_page =
    let from = PAGE * (off / PAGE) in
    let start : from ≤ off = omega arith in
    let end : off + length bytes ≤ from + PAGE = omega (arith, within_page) in
    let rest : off - from ≡ off % PAGE = omega arith in
    bytes_at-with_bytes_round own off bytes from PAGE within start end ∙ ap (λ n. with_bytes (bytes_at own from PAGE) n bytes) rest

own_elsewhere : (own bytes : List ℕ) (off index : ℕ) → off + length bytes ≤ length own → off % PAGE + length bytes ≤ PAGE → index ≢ off / PAGE
    → bytes_at (with_bytes own off bytes) (PAGE * index) PAGE ≡ bytes_at own (PAGE * index) PAGE
own_elsewhere own bytes off index within within_page other = of (cases_lt index (off / PAGE))
  where
    of : (index < off / PAGE) ⊎ (off / PAGE ≤ index) → bytes_at (with_bytes own off bytes) (PAGE * index) PAGE ≡ bytes_at own (PAGE * index) PAGE
    of (inl below) = bytes_at-with_bytes_below own off bytes (PAGE * index) PAGE (omega (arith, within)) (omega (arith, below))
    of (inr above) = bytes_at-with_bytes_above own off bytes (PAGE * index) PAGE within (omega (arith, above, other, within_page))

pub own_changes : (state : FlatState) (g : GuestState) (v : StorageView) (d : DiskView) (process number slot off : ℕ) (bytes : List ℕ) (page : ℕ) (tag : Tag) (found : PageValue) (all : List ℕ)
    → FitAt state g v d → (k : OwnWrite state g process number slot off (length bytes)) → tag ≡ Anon slot (off / PAGE) → IsFlatTag g.parts tag → IsFound g v page tag found all
    → IsSound (with_mapping state process number (written k.at.its off bytes))
    → ChangesBytes state (with_mapping state process number (written k.at.its off bytes)) g v page tag found all (with_bytes all (off % PAGE) bytes)
own_changes state g v d process number slot off bytes page tag found all f k is flat its sound = record {
  its = its;
  flat = flat;
  lengths = refl;
  sound = sound;
  shapes = record { shapes = shapes; count = count };
  here =
      ap (flat_page later g.parts.maps) is ∙ flat_page-at later g.parts.maps slot (off / PAGE) k.at.found.mapping k.at.found.at ∙ ap (λ (b : List ℕ). bytes_at b (PAGE * (off / PAGE)) PAGE) own_now
      ∙ own_here k.own bytes off k.within k.within_page ∙ ap (λ (b : List ℕ). with_bytes b (off % PAGE) bytes) page_before;
  elsewhere = elsewhere;
}
  where
    later : FlatState
    later = with_mapping state process number (written k.at.its off bytes)

    -- the mapping's own bytes, before and now
    own_before : own_bytes (mapping_at state k.at.found.mapping.process k.at.found.mapping.map) ≡ k.own
    own_before = ap own_bytes (same_place state g.parts.maps process number slot k.at.found ∙ k.at.there) ∙ ap (λ (m : Mapping). own_bytes (Some m)) k.has

    own_now : own_bytes (mapping_at later k.at.found.mapping.process k.at.found.mapping.map) ≡ with_bytes k.own off bytes
    own_now =
        ap own_bytes (same_place later g.parts.maps process number slot k.at.found ∙ mapping_at-with_mapping state process number (written k.at.its off bytes))
        ∙ ap (λ (m : Mapping). own_bytes (Some (written m off bytes))) k.has

    page_before : bytes_at k.own (PAGE * (off / PAGE)) PAGE ≡ all
    page_before =
        ap (λ (b : List ℕ). bytes_at b (PAGE * (off / PAGE)) PAGE) (sym own_before)
        ∙ sym (flat_page-at state g.parts.maps slot (off / PAGE) k.at.found.mapping k.at.found.at)
        ∙ ap (flat_page state g.parts.maps) (sym is)
        ∙ found-bytes state g v d page tag found all f flat its

    other_place : (p n : ℕ) → (p ≡ process → n ≡ number → ⊥) → mapping_at later p n ≡ mapping_at state p n
    other_place p n differ =
        mapping_at-with_mapping_other state process number (written k.at.its off bytes) p n (λ e. differ (ap (λ (x : MappingKey). x.process) e) (ap (λ (x : MappingKey). x.map) e))

    same_shape : shape_of (Some (written k.at.its off bytes)) ≡ shape_of (Some k.at.its)
    same_shape = ap (λ (m : Mapping). shape_of (Some (written m off bytes))) k.has ∙ sym (ap (λ (m : Mapping). shape_of (Some m)) k.has)

    shapes : (p n : ℕ) → shape_of (mapping_at later p n) ≡ shape_of (mapping_at state p n)
    shapes p n = elim (cases_eq p process) [
      | inl z ↦ elim (cases_eq n number) [
        | inl y ↦ rw (z, y) (ap shape_of (mapping_at-with_mapping state process number (written k.at.its off bytes)) ∙ same_shape ∙ sym (ap shape_of k.at.there))
        | inr m ↦ ap shape_of (other_place p n (λ q r. m r))
      ]
      | inr m ↦ ap shape_of (other_place p n (λ q r. m q))
    ]

    count : finite.len later.mappings ≡ finite.len state.mappings
    count =
        finite.len-insert keys_total state.mappings (key_of process number) (written k.at.its off bytes)
        ∙ ap (λ (o : Option Mapping). cond (is_some o) (finite.len state.mappings) (finite.len state.mappings + 1)) k.at.there

    -- the page of another slot, or another page of this one
    elsewhere : (t : Tag) → IsFlatTag g.parts t → t ≢ tag → flat_page later g.parts.maps t ≡ flat_page state g.parts.maps t
    elsewhere (File i j) at n = refl
    elsewhere (Anon s i) at n = elim (cases_eq s slot) [
      | inl z ↦
          let m : i ≢ off / PAGE = λ y. n ((λ j. Anon (z j) (y j)) ∙ sym is) in
          rw z (flat_page-at later g.parts.maps slot i k.at.found.mapping k.at.found.at ∙ ap (λ (b : List ℕ). bytes_at b (PAGE * i) PAGE) own_now
          ∙ own_elsewhere k.own bytes off i k.within k.within_page m ∙ ap (λ (b : List ℕ). bytes_at b (PAGE * i) PAGE) (sym own_before)
          ∙ sym (flat_page-at state g.parts.maps slot i k.at.found.mapping k.at.found.at))
      | inr m ↦
          let x = is_own g.parts.maps s i at in
          flat_page-own state later g.parts.maps s i x.mapping x.at (ap own_bytes (other_place x.mapping.process x.mapping.map (λ p q.
          m (f.slots.apart s slot x.mapping k.at.found.mapping x.at k.at.found.at x.live k.at.found.live (p ∙ sym k.at.found.process_is) (q ∙ sym k.at.found.number_is)))))
    ]
