-- The first page that passes a test, from the hand on or else of all, and which page can go.
use Rattle.std.specs.Prelude.{◌≡◌, ◌≢◌, ◌⊎◌, ◌<◌, ◌≤◌, ◌+◌, ◌-◌, ℕ, zero, suc, length, find, cond, Bool, true, false, not, ◌&&◌, Option, Some, None, is_none, nat_eq, refl}
use Rattle.std.specs.List.{range_with_len}
use Rattle.std.specs.Option.{option_or}
use Rattle.std.proofs.Common.{arith, ap, sym, ◌∙◌, subst, inl, inr}
use Rattle.std.proofs.lemmas.Bool.{cases_eq, eqb-true, false_from_ne_true}
use Rattle.cmm_types.specs.declared.page.Tag.{Tag}
use Rattle.guest_pages.specs.declared.info.PageInfo.{PageInfo}
use Rattle.guest_pages.specs.PagesView.{info_at}
use Rattle.guest_rules.specs.declared.parts.Parts.{Parts}
use Rattle.guest_rules.specs.MakeRoom.{can_go, first_from, first_locked, is_locked, is_pinned, is_unslotted}

-- ---- the first of some numbers that follow one another

-- it is one of them, and passes
record IsFound (test : ℕ → Bool) (from count i : ℕ) : Type 0 where
  least : from ≤ i
  most : i < from + count
  passes : test i ≡ true

found_next : (test : ℕ → Bool) (from count i : ℕ) (b : Bool) → test from ≡ b → (find test (range_with_len (from + 1) count) ≡ Some i → IsFound test (from + 1) count i)
    → cond b (Some from) (find test (range_with_len (from + 1) count)) ≡ Some i → IsFound test from (suc count) i
found_next test from count i true passes next e =
    let same : from ≡ i = cc in record { least = omega (arith, same); most = omega (arith, same); passes = subst (λ j. test j ≡ true) same passes }
found_next test from count i false fails next e = let k = next e in record { least = omega (arith, k.least); most = omega (arith, k.most); passes = k.passes }

found_in : (test : ℕ → Bool) (from count i : ℕ) → find test (range_with_len from count) ≡ Some i → IsFound test from count i
found_in test from zero i e = let bad : None ≡ Some i = e in absurd cc
found_in test from (suc count) i e = found_next test from count i (test from) refl (found_in test (from + 1) count i) e

-- all of them fail the test
abbrev AllFail : (test : ℕ → Bool) → (from count : ℕ) → Type 0
AllFail test from count = (i : ℕ) → from ≤ i → i < from + count → test i ≡ false

-- test what is looked for, from where the search begins, count how many numbers it looks at
module _ (test : ℕ → Bool) (from count : ℕ) where
  -- the first fails, and so do the others
  fail_more : test from ≡ false → AllFail test (from + 1) count → AllFail test from (suc count)
  fail_more first rest i least most = elim (cases_eq i from) [
    | inl same ↦ ap test same ∙ first
    | inr other ↦ rest i (omega (arith, least, other)) (omega (arith, most))
  ]

  fail_first : AllFail test from (suc count) → test from ≡ false
  fail_first all = all from (omega arith) (omega arith)

  fail_rest : AllFail test from (suc count) → AllFail test (from + 1) count
  fail_rest all i least most = all i (omega (arith, least)) (omega (arith, most))

  none_next : (b : Bool) → test from ≡ b → (find test (range_with_len (from + 1) count) ≡ None → AllFail test (from + 1) count)
      → cond b (Some from) (find test (range_with_len (from + 1) count)) ≡ None → AllFail test from (suc count)
  none_next true passes next e = let bad : Some from ≡ None = e in absurd cc
  none_next false fails next e = fail_more fails (next e)

none_in : (test : ℕ → Bool) (from count : ℕ) → find test (range_with_len from count) ≡ None → AllFail test from count
none_in test from zero e = λ i least most. absurd (omega (arith, least, most))
none_in test from (suc count) e = none_next test from count (test from) refl (none_in test (from + 1) count) e

none_from : (test : ℕ → Bool) (from count : ℕ) → AllFail test from count → find test (range_with_len from count) ≡ None
none_from test from zero all = refl
none_from test from (suc count) all =
    ap (λ b. cond b (Some from) (find test (range_with_len (from + 1) count))) (fail_first test from count all) ∙ none_from test (from + 1) count (fail_rest test from count all)

-- what passes the other test passes this one
abbrev PassesAs : (other test : ℕ → Bool) → (from count : ℕ) → Type 0
PassesAs other test from count = (i : ℕ) → from ≤ i → i < from + count → other i ≡ true → test i ≡ true

passes_rest : (other test : ℕ → Bool) (from count : ℕ) → PassesAs other test from (suc count) → PassesAs other test (from + 1) count
passes_rest other test from count only i least most = only i (omega (arith, least)) (omega (arith, most))

fail_as : (other test : ℕ → Bool) (from count : ℕ) → PassesAs other test from count → AllFail test from count → AllFail other from count
fail_as other test from count only all i least most =
    false_from_ne_true (other i) (λ passes. let bad : true ≡ false = sym (only i least most passes) ∙ all i least most in cc)

kept_next : (other test : ℕ → Bool) (from count i : ℕ) (b : Bool) → test from ≡ b → other i ≡ true → PassesAs other test from (suc count)
    → (find test (range_with_len (from + 1) count) ≡ Some i → find other (range_with_len (from + 1) count) ≡ Some i)
    → cond b (Some from) (find test (range_with_len (from + 1) count)) ≡ Some i → find other (range_with_len from (suc count)) ≡ Some i
kept_next other test from count i true passes here only next e =
    let same : from ≡ i = cc in ap (λ b. cond b (Some from) (find other (range_with_len (from + 1) count))) (ap other same ∙ here) ∙ e
kept_next other test from count i false fails here only next e =
    let fails_too : other from ≡ false = false_from_ne_true (other from) (λ passes. let bad : true ≡ false = sym (only from (omega arith) (omega arith) passes) ∙ fails in cc) in
    ap (λ b. cond b (Some from) (find other (range_with_len (from + 1) count))) fails_too ∙ next e

-- the first number stays the first where it passes, and others pass only where they did
kept_in : (other test : ℕ → Bool) (from count i : ℕ) → find test (range_with_len from count) ≡ Some i → other i ≡ true → PassesAs other test from count
    → find other (range_with_len from count) ≡ Some i
kept_in other test from zero i e here only = let bad : None ≡ Some i = e in absurd cc
kept_in other test from (suc count) i e here only =
    kept_next other test from count i (test from) refl here only (λ found. kept_in other test (from + 1) count i found here (passes_rest other test from count only)) e

-- ---- the first page that passes a test

-- it is a page, and its info passes
pub record IsFirst (parts : Parts) (test : PageInfo → Bool) (page : ℕ) : Type 0 where
  pub below : page < length parts.pages.infos
  pub passes : test (info_at parts.pages page) ≡ true

pub first_from-Some : (parts : Parts) (test : PageInfo → Bool) (page : ℕ) → first_from parts test ≡ Some page → IsFirst parts test page
first_from-Some parts test page e = of (find at (range_with_len parts.hand (length parts.pages.infos - parts.hand))) refl e
  where
    at : ℕ → Bool
    at i = test (info_at parts.pages i)

    of : (o : Option ℕ) → find at (range_with_len parts.hand (length parts.pages.infos - parts.hand)) ≡ o → option_or o (find at (range_with_len 0 (length parts.pages.infos))) ≡ Some page
        → IsFirst parts test page
    of (Some i) found same =
        let here : i ≡ page = cc in
        let k = found_in at parts.hand (length parts.pages.infos - parts.hand) i found in
        record { below = omega (arith, here, k.least, k.most); passes = subst (λ j. at j ≡ true) here k.passes }
    of None none found = let k = found_in at 0 (length parts.pages.infos) page found in record { below = omega (arith, k.most); passes = k.passes }

-- none passes
pub first_from-None : (parts : Parts) (test : PageInfo → Bool) → first_from parts test ≡ None → (page : ℕ) → page < length parts.pages.infos → test (info_at parts.pages page) ≡ false
first_from-None parts test e page below = of (find at (range_with_len parts.hand (length parts.pages.infos - parts.hand))) e
  where
    at : ℕ → Bool
    at i = test (info_at parts.pages i)

    of : (o : Option ℕ) → option_or o (find at (range_with_len 0 (length parts.pages.infos))) ≡ None → at page ≡ false
    of (Some i) bad = let wrong : Some i ≡ None = bad in absurd cc
    of None none = none_in at 0 (length parts.pages.infos) none page (omega arith) (omega (arith, below))

pub first_from-none : (parts : Parts) (test : PageInfo → Bool) → ((page : ℕ) → page < length parts.pages.infos → test (info_at parts.pages page) ≡ false) → first_from parts test ≡ None
first_from-none parts test fails =
    ap (λ o. option_or o (find at (range_with_len 0 (length parts.pages.infos))))
    (none_from at parts.hand (length parts.pages.infos - parts.hand) (λ i least most. fails i (omega (arith, least, most))))
    ∙ none_from at 0 (length parts.pages.infos) (λ i least most. fails i (omega (arith, most)))
  where
    at : ℕ → Bool
    at i = test (info_at parts.pages i)

-- the first page stays the first where it passes, and others pass only where they did
pub record StaysFirst (old new : Parts) (test other : PageInfo → Bool) (page : ℕ) : Type 0 where
  pub hand : new.hand ≡ old.hand
  pub size : length new.pages.infos ≡ length old.pages.infos
  pub passes : other (info_at new.pages page) ≡ true
  pub worse : (i : ℕ) → i < length old.pages.infos → other (info_at new.pages i) ≡ true → test (info_at old.pages i) ≡ true

pub first_from-kept : (old new : Parts) (test other : PageInfo → Bool) (page : ℕ) → first_from old test ≡ Some page → StaysFirst old new test other page → first_from new other ≡ Some page
first_from-kept old new test other page e k =
    ap (λ n. option_or (find later (range_with_len n (length new.pages.infos - n))) (find later (range_with_len 0 (length new.pages.infos)))) k.hand
    ∙ ap (λ n. option_or (find later (range_with_len old.hand (n - old.hand))) (find later (range_with_len 0 n))) k.size
    ∙ of (find now (range_with_len old.hand (length old.pages.infos - old.hand))) refl e
  where
    now : ℕ → Bool
    now i = test (info_at old.pages i)

    later : ℕ → Bool
    later i = other (info_at new.pages i)

    of : (o : Option ℕ) → find now (range_with_len old.hand (length old.pages.infos - old.hand)) ≡ o → option_or o (find now (range_with_len 0 (length old.pages.infos))) ≡ Some page
        → option_or (find later (range_with_len old.hand (length old.pages.infos - old.hand))) (find later (range_with_len 0 (length old.pages.infos))) ≡ Some page
    of (Some i) found same =
        let found' : find now (range_with_len old.hand (length old.pages.infos - old.hand)) ≡ Some page = found ∙ same in
        ap (λ o. option_or o (find later (range_with_len 0 (length old.pages.infos))))
        (kept_in later now old.hand (length old.pages.infos - old.hand) page found' k.passes (λ j least most. k.worse j (omega (arith, least, most))))
    of None none found =
        ap (λ o. option_or o (find later (range_with_len 0 (length old.pages.infos))))
        (none_from later old.hand (length old.pages.infos - old.hand)
        (fail_as later now old.hand (length old.pages.infos - old.hand) (λ j least most. k.worse j (omega (arith, least, most))) (none_in now old.hand (length old.pages.infos - old.hand) none)))
        ∙ kept_in later now 0 (length old.pages.infos) page found k.passes (λ j least most. k.worse j (omega (arith, most)))

-- ---- which page can go

-- it has a tag, is neither locked nor pinned, and can be written where it has to be
pub record CanGo (parts : Parts) (info : PageInfo) : Type 0 where
  pub tag : Tag
  pub tagged : info.tag ≡ Some tag
  pub unlocked : info.owner ≡ None
  pub unpinned : info.pins ≡ 0
  pub placed : is_unslotted parts info ≡ false

all_four : (a b c d : Bool) → (a && (b && (c && d))) ≡ true → (a ≡ true) × (b ≡ true) × (c ≡ true) × (d ≡ true)
all_four true true true true e = (refl, refl, refl, refl)
all_four true true true false e = let bad : false ≡ true = e in absurd cc
all_four true true false d e = let bad : false ≡ true = e in absurd cc
all_four true false c d e = let bad : false ≡ true = e in absurd cc
all_four false b c d e = let bad : false ≡ true = e in absurd cc

not-true : (b : Bool) → not b ≡ true → b ≡ false
not-true true e = let bad : false ≡ true = e in absurd cc
not-true false e = refl

not_not-true : (b : Bool) → not (not b) ≡ true → b ≡ true
not_not-true true e = refl
not_not-true false e = let bad : false ≡ true = e in absurd cc

has_some : {A : Type 0} (o : Option A) → not (is_none o) ≡ true → (x : A) × (o ≡ Some x)
has_some (Some x) e = (x, refl)
has_some None e = let bad : false ≡ true = e in absurd cc

has_none : {A : Type 0} (o : Option A) → not (not (is_none o)) ≡ true → o ≡ None
has_none None e = refl
has_none (Some x) e = let bad : false ≡ true = e in absurd cc

pub can_go-parts : (parts : Parts) (info : PageInfo) → can_go parts info ≡ true → CanGo parts info
can_go-parts parts info e =
    let all = all_four (not (is_none info.tag)) (not (is_locked info)) (not (is_pinned info)) (not (is_unslotted parts info)) e in
    let tag = has_some info.tag all.0 in
    record {
      tag = tag.0;
      tagged = tag.1;
      unlocked = has_none info.owner all.1;
      unpinned = eqb-true info.pins 0 (not_not-true (nat_eq info.pins 0) all.2);
      placed = not-true (is_unslotted parts info) all.3;
    }

-- a page that has a tag and isn't locked, but can't go, is pinned or can be written nowhere
pub cannot_go : (parts : Parts) (info : PageInfo) (tag : Tag) → info.tag ≡ Some tag → info.owner ≡ None → can_go parts info ≡ false → (info.pins ≢ 0) ⊎ (is_unslotted parts info ≡ true)
cannot_go parts info tag tagged unlocked e = of (nat_eq info.pins 0) (is_unslotted parts info) refl refl left
  where
    left : (not (is_pinned info) && not (is_unslotted parts info)) ≡ false
    left =
        ap (λ o. not (not (is_none o)) && (not (is_pinned info) && not (is_unslotted parts info))) (sym unlocked)
        ∙ ap (λ o. not (is_none o) && (not (not (is_none info.owner)) && (not (is_pinned info) && not (is_unslotted parts info)))) (sym tagged)
        ∙ e

    of : (none lacks : Bool) → nat_eq info.pins 0 ≡ none → is_unslotted parts info ≡ lacks → (not (not none) && not lacks) ≡ false → (info.pins ≢ 0) ⊎ (is_unslotted parts info ≡ true)
    of false lacks nonzero is goes = inl (λ none. let bad : true ≡ false = sym (ap (λ n. nat_eq n 0) none) ∙ nonzero in cc)
    of true true is lacking goes = inr lacking
    of true false is placed goes = let bad : true ≡ false = goes in absurd cc

-- a page that is locked has an owner
pub first_locked-owned : (parts : Parts) (page : ℕ) → first_locked parts ≡ Some page → (owner : ℕ) × ((info_at parts.pages page).owner ≡ Some owner)
first_locked-owned parts page e = has_some (info_at parts.pages page).owner (first_from-Some parts is_locked page e).passes
