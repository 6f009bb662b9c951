-- Laws of pinned places: of a mapping as a list, and how many map a tag.
use Rattle.std.proofs.Common.{◌≡◌, ◌≢◌, ◌<◌, ◌≤◌, ◌+◌, ◌*◌, ◌&&◌, ℕ, zero, suc, Bool, true, false, List, length, get_or, set, replicate}
use Rattle.std.proofs.Common.{Option, Some, None, refl, ap, sym, ◌∙◌, inl, inr, arith, subst, length-set, get_or-set_same, get_or-set_other}
use Rattle.std.specs.Prelude.{◌==◌}
use Rattle.std.proofs.lemmas.Bool.{cases_eq, and_parts, eqb-true}
use Rattle.std.proofs.lemmas.Bool.Decides.{nat_tests}
use Rattle.std.proofs.lemmas.List.{same_lists, get_or-replicate, length-replicate}
use Rattle.std.proofs.lemmas.List.FromFn.{length-map-range_with_len, get_or-map-range_with_len}
use Rattle.cmm_types.specs.declared.command.TheConstants.{MAX_MAPPING_PAGES}
use Rattle.cmm_types.specs.declared.page.Tag.{Tag}
use Rattle.cmm_types.specs.declared.page.Tag.TheVariants.{File, Anon}
use Rattle.guest_maps.specs.MapsView.{MapsView, place_at, pinned_at, tag_at, with_pinned}
use Rattle.guest_maps.specs.Laws.MapsLaws.{entry_place_exact, pinned_at-with_pinned_other}
use Rattle.cmm_types.specs.Sums.{sum_below, one_if}
use Rattle.cmm_types.specs.Laws.SumLaws.{sum_below-none}
use Rattle.guest_rules.specs.Fit.{pins_of, same_tag, is_tag_of, pin_on, pins_within}

-- ---- the pins of a mapping as a list

pub length-pins_of : (maps : MapsView) (slot count : ℕ) → length (pins_of maps slot count) ≡ count
length-pins_of maps slot count = length-map-range_with_len (pinned_at maps slot) 0 count

pub pins_of-at : (maps : MapsView) (slot count index : ℕ) (d : Bool) → index < count → get_or (pins_of maps slot count) index d ≡ pinned_at maps slot index
pins_of-at maps slot count index d below = get_or-map-range_with_len (pinned_at maps slot) 0 count index index d below (omega arith)

-- a list of the same length and with the same pins
pins_of-is : (maps : MapsView) (slot count : ℕ) (pins : List Bool) → length pins ≡ count → ((index : ℕ) (d : Bool) → index < count → pinned_at maps slot index ≡ get_or pins index d)
    → pins_of maps slot count ≡ pins
pins_of-is maps slot count pins size each =
    same_lists (pins_of maps slot count) pins (length-pins_of maps slot count ∙ sym size)
    (λ index d below. let within : index < count = rw (length-pins_of maps slot count) at below in pins_of-at maps slot count index d within ∙ each index d within)

pub pins_of-same : (old new : MapsView) (slot count : ℕ) → ((index : ℕ) → index < count → pinned_at new slot index ≡ pinned_at old slot index) → pins_of new slot count ≡ pins_of old slot count
pins_of-same old new slot count each =
    pins_of-is new slot count (pins_of old slot count) (length-pins_of old slot count) (λ index d below. each index below ∙ sym (pins_of-at old slot count index d below))

pub pins_of-none : (maps : MapsView) (slot count : ℕ) → ((index : ℕ) → index < count → pinned_at maps slot index ≡ false) → pins_of maps slot count ≡ replicate count false
pins_of-none maps slot count each =
    pins_of-is maps slot count (replicate count false) (length-replicate count false) (λ index d below. each index below ∙ sym (get_or-replicate count index false d below))

pub pins_of-set : (old new : MapsView) (slot count at : ℕ) (pins : Bool) → at < count → pinned_at new slot at ≡ pins
    → ((index : ℕ) → index < count → index ≢ at → pinned_at new slot index ≡ pinned_at old slot index)
    → pins_of new slot count ≡ set (pins_of old slot count) at pins
pins_of-set old new slot count at pins below here others =
    pins_of-is new slot count (set (pins_of old slot count) at pins) (length-set (pins_of old slot count) at pins ∙ length-pins_of old slot count) each
  where
    each : (index : ℕ) (d : Bool) → index < count → pinned_at new slot index ≡ get_or (set (pins_of old slot count) at pins) index d
    each index d within = elim (cases_eq index at) [
      | inl z ↦ rw z (here ∙ sym (get_or-set_same (pins_of old slot count) at pins d (rw (length-pins_of old slot count) below)))
      | inr n ↦ others index within n ∙ sym (get_or-set_other (pins_of old slot count) at index pins d n ∙ pins_of-at old slot count index d within)
    ]

-- one place is pinned, or unpinned
pub record PinChange (old new : MapsView) (slot index : ℕ) (pins : Bool) : Type 0 where
  pub slots : new.slots ≡ old.slots
  pub entries : new.entries ≡ old.entries
  pub pages : new.pages ≡ old.pages
  pub size : length new.pinned ≡ length old.pinned
  pub here : pinned_at new slot index ≡ pins
  pub others : (s i : ℕ) → i < MAX_MAPPING_PAGES → (s ≡ slot → i ≡ index → ⊥) → pinned_at new s i ≡ pinned_at old s i

place-within : (slot index slots places : ℕ) → slot < slots → index < MAX_MAPPING_PAGES → places ≡ slots * MAX_MAPPING_PAGES → place_at slot index < places
place-within slot index slots places below within size = omega (arith, below, within, size)

pub change-with_pinned : (maps : MapsView) (slot index slots : ℕ) (pins : Bool) → slot < slots → index < MAX_MAPPING_PAGES → length maps.pinned ≡ slots * MAX_MAPPING_PAGES
    → PinChange maps (with_pinned maps slot index pins) slot index pins
unfolding with_pinned
change-with_pinned maps slot index slots pins below within size = record {
  slots = refl;
  entries = refl;
  pages = refl;
  size = length-set maps.pinned (place_at slot index) pins;
  here = get_or-set_same maps.pinned (place_at slot index) pins false (place-within slot index slots (length maps.pinned) below within size);
  others = λ s i lt apart. pinned_at-with_pinned_other maps slot index s i pins (λ e. let k = entry_place_exact s slot i index lt within e in apart k.0 k.1);
}

-- ---- sums

pub sum_below-same : (f g : ℕ → ℕ) (count : ℕ) → ((i : ℕ) → i < count → f i ≡ g i) → sum_below f count ≡ sum_below g count
sum_below-same f g zero each = refl
sum_below-same f g (suc count) each = omega (arith, sum_below-same f g count (λ i h. each i (omega arith)), each count (omega arith))

-- the numbers differ at one place
pub sum_below-one : (f g : ℕ → ℕ) (at count a b : ℕ) → at < count → ((i : ℕ) → i < count → i ≢ at → f i ≡ g i) → f at + a ≡ g at + b → sum_below f count + a ≡ sum_below g count + b
sum_below-one f g at zero a b below others here = absurd (omega arith)
sum_below-one f g at (suc count) a b below others here = elim (cases_eq at count) [
  | inl z ↦
      let last : f count + a ≡ g count + b = subst (λ i. f i + a ≡ g i + b) z here in
      omega (arith, sum_below-same f g count (λ i h. others i (omega arith) (λ y. absurd (omega arith))), last)
  | inr n ↦ omega (arith, sum_below-one f g at count a b (omega arith) (λ i h m. others i (omega arith) m) here, others count (omega arith) (λ y. n (sym y)))
]

pub sum_below-at : (f : ℕ → ℕ) (at count : ℕ) → at < count → f at ≤ sum_below f count
sum_below-at f at zero below = absurd (omega arith)
sum_below-at f at (suc count) below = elim (cases_eq at count) [
  | inl z ↦ let last : f at ≡ f count = ap f z in omega (arith, last)
  | inr n ↦ omega (arith, sum_below-at f at count (omega arith))
]

pub sum_below-most : (f : ℕ → ℕ) (most count : ℕ) → ((i : ℕ) → i < count → f i ≤ most) → sum_below f count ≤ count * most
sum_below-most f most zero each = omega arith
sum_below-most f most (suc count) each = omega (arith, sum_below-most f most count (λ i h. each i (omega arith)), each count (omega arith))

-- ---- how many pinned places map a tag

pub same_tag-itself : (tag : Tag) → same_tag tag tag ≡ true
same_tag-itself (File file index) = grind (arith, nat_tests)
same_tag-itself (Anon slot index) = grind (arith, nat_tests)

pub same_tag-is : (a b : Tag) → same_tag a b ≡ true → a ≡ b
same_tag-is (File file index) (File other at) e =
    let k = and_parts (file == other) (index == at) e in
    let files = eqb-true file other k.0 in
    let indexes = eqb-true index at k.1 in λ i. File (files i) (indexes i)
same_tag-is (File file index) (Anon other at) e = let bad : false ≡ true = e in absurd cc
same_tag-is (Anon slot index) (File other at) e = let bad : false ≡ true = e in absurd cc
same_tag-is (Anon slot index) (Anon other at) e =
    let k = and_parts (slot == other) (index == at) e in
    let slots = eqb-true slot other k.0 in
    let indexes = eqb-true index at k.1 in λ i. Anon (slots i) (indexes i)

pub is_tag_of-is : (o : Option Tag) (tag : Tag) → is_tag_of o tag ≡ true → o ≡ Some tag
is_tag_of-is None tag e = let bad : false ≡ true = e in absurd cc
is_tag_of-is (Some its) tag e = ap Some (same_tag-is its tag e)

one_if-most : (b : Bool) → one_if b ≤ 1
one_if-most true = omega arith
one_if-most false = omega arith

-- a place that isn't pinned, or maps another tag, counts nothing
pub pin_on-none : (maps : MapsView) (tag : Tag) (slot index : ℕ) → (pinned_at maps slot index ≡ true → tag_at maps slot index ≡ Some tag → ⊥) → pin_on maps tag slot index ≡ 0
pin_on-none maps tag slot index none = of (pinned_at maps slot index) (is_tag_of (tag_at maps slot index) tag) (λ a b. none a (is_tag_of-is (tag_at maps slot index) tag b))
  where
    of : (a b : Bool) → (a ≡ true → b ≡ true → ⊥) → one_if (a && b) ≡ 0
    of true true never = absurd (never refl refl)
    of true false _ = refl
    of false _ _ = refl

pub pin_on-one : (maps : MapsView) (tag : Tag) (slot index : ℕ) → pinned_at maps slot index ≡ true → tag_at maps slot index ≡ Some tag → pin_on maps tag slot index ≡ 1
pin_on-one maps tag slot index pinned mapped =
    ap (λ a. one_if (a && is_tag_of (tag_at maps slot index) tag)) pinned
    ∙ ap (λ o. one_if (true && is_tag_of o tag)) mapped
    ∙ ap (λ b. one_if (true && b)) (same_tag-itself tag)

-- a place that is as it was counts as it did
pub pin_on-same : (old new : MapsView) (tag : Tag) (slot index : ℕ) → pinned_at new slot index ≡ pinned_at old slot index → tag_at new slot index ≡ tag_at old slot index
    → pin_on new tag slot index ≡ pin_on old tag slot index
pin_on-same old new tag slot index pinned mapped =
    ap (λ a. one_if (a && is_tag_of (tag_at new slot index) tag)) pinned ∙ ap (λ o. one_if (pinned_at old slot index && is_tag_of o tag)) mapped

pub pins_within-same : (old new : MapsView) (tag : Tag) (slots pages : ℕ) → ((slot index : ℕ) → slot < slots → index < pages → pin_on new tag slot index ≡ pin_on old tag slot index)
    → pins_within new tag slots pages ≡ pins_within old tag slots pages
unfolding pins_within
pins_within-same old new tag slots pages each =
    sum_below-same (λ slot. sum_below (pin_on new tag slot) pages) (λ slot. sum_below (pin_on old tag slot) pages) slots
    (λ slot lt. sum_below-same (pin_on new tag slot) (pin_on old tag slot) pages (λ index below. each slot index lt below))

-- one place counts otherwise
pub pins_within-one : (old new : MapsView) (tag : Tag) (slots pages slot index a b : ℕ) → slot < slots → index < pages
    → ((s i : ℕ) → i < pages → (s ≡ slot → i ≡ index → ⊥) → pin_on new tag s i ≡ pin_on old tag s i) → pin_on new tag slot index + a ≡ pin_on old tag slot index + b
    → pins_within new tag slots pages + a ≡ pins_within old tag slots pages + b
unfolding pins_within
pins_within-one old new tag slots pages slot index a b lt below others here =
    sum_below-one (λ s. sum_below (pin_on new tag s) pages) (λ s. sum_below (pin_on old tag s) pages) slot slots a b lt
    (λ s _ n. sum_below-same (pin_on new tag s) (pin_on old tag s) pages (λ i h. others s i h (λ z _. n z)))
    (sum_below-one (pin_on new tag slot) (pin_on old tag slot) index pages a b below (λ i h m. others slot i h (λ _ y. m y)) here)

pub pins_within-none : (maps : MapsView) (tag : Tag) (slots pages : ℕ) → ((slot index : ℕ) → index < pages → pinned_at maps slot index ≡ true → tag_at maps slot index ≡ Some tag → ⊥)
    → pins_within maps tag slots pages ≡ 0
unfolding pins_within
pins_within-none maps tag slots pages none =
    sum_below-none (λ slot. sum_below (pin_on maps tag slot) pages) slots
    (λ slot _. sum_below-none (pin_on maps tag slot) pages (λ index below. pin_on-none maps tag slot index (none slot index below)))

pub pins_within-some : (maps : MapsView) (tag : Tag) (slots pages slot index : ℕ) → slot < slots → index < pages → pinned_at maps slot index ≡ true → tag_at maps slot index ≡ Some tag
    → 1 ≤ pins_within maps tag slots pages
unfolding pins_within
pins_within-some maps tag slots pages slot index lt below pinned mapped =
    omega (arith, sum_below-at (λ s. sum_below (pin_on maps tag s) pages) slot slots lt, sum_below-at (pin_on maps tag slot) index pages below, pin_on-one maps tag slot index pinned mapped)

pub pins_within-most : (maps : MapsView) (tag : Tag) (slots pages : ℕ) → pins_within maps tag slots pages ≤ slots * pages
unfolding pins_within
pins_within-most maps tag slots pages =
    sum_below-most (λ slot. sum_below (pin_on maps tag slot) pages) pages slots
    (λ slot _. of (sum_below-most (pin_on maps tag slot) 1 pages (λ index _. one_if-most (pinned_at maps slot index && is_tag_of (tag_at maps slot index) tag))))
  where
    of : {n : ℕ} → n ≤ pages * 1 → n ≤ pages
    of h = omega (arith, h)
