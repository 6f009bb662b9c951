-- What an assigned and a released swap slot do to the table of swap slots.
use Rattle.std.proofs.Common.{◌≡◌, ◌≢◌, ℕ, ◌+◌, ◌*◌, ◌<◌, Bool, true, false, cond, nat_lt, List, length, get_or}
use Rattle.std.proofs.Common.{slice_set, slice_index_or, replicate, Option, None, Some, is_none, refl, ap, sym, ◌∙◌, arith, inl, inr}
use Rattle.std.specs.List.{position, position_or_len}
use Rattle.std.proofs.lemmas.List.{length-set, length-replicate, get_or-set_same, get_or-set_other, get_or-replicate, get_or_past}
use Rattle.std.proofs.lemmas.List.Sums.{position_or_len_is, fails_before_first}
use Rattle.std.proofs.lemmas.List.Folds.{position_or_len-set}
use Rattle.std.proofs.lemmas.List.Quantifiers.{position-Some}
use Rattle.std.proofs.lemmas.Bool.{cases_eq, cases_lt}
use Rattle.std.proofs.lemmas.Bool.Decides.{nat_tests}
use Rattle.cmm_types.specs.declared.command.TheConstants.{MAX_MAPPING_PAGES}
use Rattle.cmm_types.specs.declared.page.Tag.{Tag}
use Rattle.cmm_types.specs.declared.page.Tag.TheVariants.{Anon}
use Rattle.guest_cache.specs.CacheView.{holds_page}
use Rattle.guest_cache.specs.Laws.CacheLaws.{slot_exact, holds-itself, holds-exact}
use Rattle.guest_cache.specs.SwapTable.{IsSwapIndex}

-- ---- the first place that passes a test

found_at : (i n : ℕ) (first : ℕ) → first ≡ i → i < n → cond (nat_lt first n) (Some first) None ≡ Some i
found_at i n first is within = grind (arith, nat_tests)

pub position-is : {X : Type 0} (p : X → Bool) (xs : List X) (i : ℕ) (d : X) → i < length xs → ((k : ℕ) → k < i → p (get_or xs k d) ≡ false) → p (get_or xs i d) ≡ true → position p xs ≡ Some i
position-is p xs i d within before passes =
    found_at i (length xs) (position_or_len p xs) (position_or_len_is p xs i d (omega arith) before (λ h. passes)) within

none_at : (n first : ℕ) → first ≡ n → cond (nat_lt first n) (Some first) None ≡ None
none_at n first is = grind (arith, nat_tests)

pub position-none : {X : Type 0} (p : X → Bool) (xs : List X) (d : X) → ((k : ℕ) → k < length xs → p (get_or xs k d) ≡ false) → position p xs ≡ None
position-none p xs d fails =
    none_at (length xs) (position_or_len p xs) (position_or_len_is p xs (length xs) d (omega arith) fails (λ h. absurd (omega (arith, h))))

-- where a test passes nowhere
pub fails-everywhere : (p : Option Tag → Bool) (xs : List (Option Tag)) → position p xs ≡ None → (k : ℕ) → k < length xs → p (get_or xs k None) ≡ false
fails-everywhere p xs none k below = fails_before_first p xs k None (past (position_or_len p xs) (length xs) k none below)
  where
    past : (first n k : ℕ) → cond (nat_lt first n) (Some first) None ≡ None → k < n → k < first
    past first n k none below = grind (arith, nat_tests)

pub position-set : {X : Type 0} (p : X → Bool) (xs : List X) (i : ℕ) (y d : X) → p y ≡ p (get_or xs i d) → position p (slice_set xs i y) ≡ position p xs
position-set p xs i y d same =
    ap (λ n. cond (nat_lt n (length (slice_set xs i y))) (Some n) None) (position_or_len-set p xs i y d same)
    ∙ ap (λ n. cond (nat_lt (position_or_len p xs) n) (Some (position_or_len p xs)) None) (length-set xs i y)

-- ---- the swap slot of a page

-- a test that doesn't pass where its passing is absurd
fails : (b : Bool) → (b ≡ true → ⊥) → b ≡ false
fails b never = elim b as (λ q. (q ≡ true → ⊥) → q ≡ false) [ true ↦ (λ h. absurd (h refl)) | false ↦ (λ h. refl) ] never

holds-other : (slot index other at : ℕ) (o : Option Tag) → holds_page slot index o ≡ true → (slot * MAX_MAPPING_PAGES + index ≢ other * MAX_MAPPING_PAGES + at) → holds_page other at o ≡ false
holds-other slot index other at o e apart =
    fails (holds_page other at o) (λ f.
    let same = holds-exact slot other index at o e f in
    apart (ap (λ n. n * MAX_MAPPING_PAGES + index) same.0 ∙ ap (λ n. other * MAX_MAPPING_PAGES + n) same.1))

holds-none : (slot index : ℕ) (o : Option Tag) → is_none o ≡ true → holds_page slot index o ≡ false
holds-none slot index None e = refl
holds-none slot index (Some tag) e = let bad : false ≡ true = e in absurd cc

-- ---- the table

no_tag : {A : Type 0} (n k : ℕ) → get_or {A = Option A} (replicate n None) k None ≡ None
no_tag n k = elim (cases_lt k n) [
  | inl below ↦ get_or-replicate n k None None below
  | inr above ↦ get_or_past (replicate n None) k None (rw length-replicate above)
]

pub IsTable-opening : (slots count : ℕ) → IsSwapIndex slots (replicate count None) (replicate (slots * MAX_MAPPING_PAGES) None)
IsTable-opening slots count = record {
  whole = length-replicate (slots * MAX_MAPPING_PAGES) None;
  at = λ slot index below within.
      no_tag (slots * MAX_MAPPING_PAGES) (slot * MAX_MAPPING_PAGES + index)
      ∙ sym (position-none (holds_page slot index) (replicate count None) None (λ k h. ap (holds_page slot index) (no_tag count k)));
  once = λ slot index number other a b. let bad : false ≡ true = ap (holds_page slot index) (sym (no_tag count number)) ∙ a in absurd cc;
}

-- the least free swap slot is assigned to a page that had none
pub IsTable-assigned : (slots : ℕ) (swap : List (Option Tag)) (table : List (Option ℕ)) (slot index number : ℕ) → slot < slots → index < MAX_MAPPING_PAGES → IsSwapIndex slots swap table
    → number < length swap → is_none (get_or swap number None) ≡ true → position (holds_page slot index) swap ≡ None
    → IsSwapIndex slots (slice_set swap number (Some (Anon slot index))) (slice_set table (slot * MAX_MAPPING_PAGES + index) (Some number))
IsTable-assigned slots swap table slot index number below within sound number_below free none = record {
  whole = length-set table place (Some number) ∙ sound.whole;
  at = λ s i s_below i_within. elim (cases_eq (s * MAX_MAPPING_PAGES + i) place) [
    | inl same ↦ mine s i s_below i_within same
    | inr apart ↦
        get_or-set_other table place (s * MAX_MAPPING_PAGES + i) (Some number) None apart
        ∙ sound.at s i s_below i_within
        ∙ sym (position-set (holds_page s i) swap number (Some tag) None
        (holds-other slot index s i (Some tag) (holds-itself slot index) (λ e. apart (sym e)) ∙ sym (holds-none s i (get_or swap number None) free)))
  ];
  once = λ s i a b has_a has_b. elim (cases_eq a number) [
    | inl is_a ↦ elim (cases_eq b number) [
      | inl is_b ↦ is_a ∙ sym is_b
      | inr not_b ↦ absurd (clash s i b not_b (ap (λ k. holds_page s i (get_or new k None)) (sym is_a) ∙ has_a) has_b)
    ]
    | inr not_a ↦ elim (cases_eq b number) [
      | inl is_b ↦ absurd (clash s i a not_a (ap (λ k. holds_page s i (get_or new k None)) (sym is_b) ∙ has_b) has_a)
      | inr not_b ↦ sound.once s i a b (old s i a not_a has_a) (old s i b not_b has_b)
    ]
  ];
}
  where
    tag : Tag
    tag = Anon slot index

    place : ℕ
    place = slot * MAX_MAPPING_PAGES + index

    new : List (Option Tag)
    new = slice_set swap number (Some tag)

    here : get_or new number None ≡ Some tag
    here = get_or-set_same swap number (Some tag) None number_below

    not_there : (k : ℕ) → k < length swap → holds_page slot index (get_or swap k None) ≡ false
    not_there k k_below = fails-everywhere (holds_page slot index) swap none k k_below

    nowhere : (k : ℕ) → holds_page slot index (get_or swap k None) ≡ false
    nowhere k = elim (cases_lt k (length swap)) [
      | inl k_below ↦ not_there k k_below
      | inr above ↦ ap (holds_page slot index) (get_or_past swap k None above)
    ]

    old : (s i k : ℕ) → k ≢ number → holds_page s i (get_or new k None) ≡ true → holds_page s i (get_or swap k None) ≡ true
    old s i k apart has = ap (holds_page s i) (sym (get_or-set_other swap number k (Some tag) None apart)) ∙ has

    clash : (s i k : ℕ) → k ≢ number → holds_page s i (get_or new number None) ≡ true → holds_page s i (get_or new k None) ≡ true → ⊥
    clash s i k apart mine has =
        let same = holds-exact slot s index i (Some tag) (holds-itself slot index) (ap (holds_page s i) (sym here) ∙ mine) in
        let there : holds_page slot index (get_or swap k None) ≡ true =
        ap (λ (q : ℕ). holds_page q index (get_or swap k None)) same.0 ∙ ap (λ (q : ℕ). holds_page s q (get_or swap k None)) same.1 ∙ old s i k apart has in
        let bad : false ≡ true = sym (nowhere k) ∙ there in cc

    mine : (s i : ℕ) → s < slots → i < MAX_MAPPING_PAGES → s * MAX_MAPPING_PAGES + i ≡ place
        → slice_index_or (slice_set table place (Some number)) (s * MAX_MAPPING_PAGES + i) None ≡ position (holds_page s i) new
    mine s i s_below i_within same =
        let one = slot_exact 0 s slot i index i_within within (omega (arith, same)) in
        ap (λ k. slice_index_or (slice_set table place (Some number)) k None) same
        ∙ get_or-set_same table place (Some number) None (omega (arith, sound.whole))
        ∙ sym (position-is (holds_page slot index) new number None (rw length-set number_below)
        (λ k k_below. ap (holds_page slot index) (get_or-set_other swap number k (Some tag) None (λ e. absurd (omega (arith, e, k_below)))) ∙ not_there k (omega arith))
        (ap (holds_page slot index) here ∙ holds-itself slot index))
        ∙ ap (λ (q : ℕ). position (holds_page q index) new) (sym one.0)
        ∙ ap (λ (q : ℕ). position (holds_page s q) new) (sym one.1)

-- the swap slot of a page is free
pub IsTable-released : (slots : ℕ) (swap : List (Option Tag)) (table : List (Option ℕ)) (slot index number : ℕ) → slot < slots → index < MAX_MAPPING_PAGES → IsSwapIndex slots swap table
    → position (holds_page slot index) swap ≡ Some number
    → IsSwapIndex slots (slice_set swap number None) (slice_set table (slot * MAX_MAPPING_PAGES + index) None)
IsTable-released slots swap table slot index number below within sound its = record {
  whole = length-set table place None ∙ sound.whole;
  at = λ s i s_below i_within. elim (cases_eq (s * MAX_MAPPING_PAGES + i) place) [
    | inl same ↦ mine s i s_below i_within same
    | inr apart ↦
        get_or-set_other table place (s * MAX_MAPPING_PAGES + i) None None apart
        ∙ sound.at s i s_below i_within
        ∙ sym (position-set (holds_page s i) swap number None None (sym (holds-other slot index s i (get_or swap number None) there.1 (λ e. apart (sym e)))))
  ];
  once = λ s i a b has_a has_b. sound.once s i a b (old s i a has_a) (old s i b has_b);
}
  where
    place : ℕ
    place = slot * MAX_MAPPING_PAGES + index

    there : (number < length swap) × (holds_page slot index (get_or swap number None) ≡ true)
    there = let k = position-Some (holds_page slot index) swap number None its in (k.0, k.1)

    new : List (Option Tag)
    new = slice_set swap number None

    here : get_or new number None ≡ None
    here = get_or-set_same swap number None None there.0

    old : (s i k : ℕ) → holds_page s i (get_or new k None) ≡ true → holds_page s i (get_or swap k None) ≡ true
    old s i k has = elim (cases_eq k number) [
      | inl e ↦ let bad : false ≡ true = ap (holds_page s i) (sym here) ∙ ap (λ q. holds_page s i (get_or new q None)) (sym e) ∙ has in absurd cc
      | inr apart ↦ ap (holds_page s i) (sym (get_or-set_other swap number k None None apart)) ∙ has
    ]

    gone : (k : ℕ) → holds_page slot index (get_or new k None) ≡ true → ⊥
    gone k has =
        let same = sound.once slot index k number (old slot index k has) there.1 in
        let bad : false ≡ true = ap (holds_page slot index) (sym here) ∙ ap (λ q. holds_page slot index (get_or new q None)) (sym same) ∙ has in cc

    mine : (s i : ℕ) → s < slots → i < MAX_MAPPING_PAGES → s * MAX_MAPPING_PAGES + i ≡ place
        → slice_index_or (slice_set table place None) (s * MAX_MAPPING_PAGES + i) None ≡ position (holds_page s i) new
    mine s i s_below i_within same =
        let one = slot_exact 0 s slot i index i_within within (omega (arith, same)) in
        ap (λ k. slice_index_or (slice_set table place None) k None) same
        ∙ get_or-set_same table place None None (omega (arith, sound.whole))
        ∙ sym (position-none (holds_page slot index) new None (λ k k_below. fails (holds_page slot index (get_or new k None)) (gone k)))
        ∙ ap (λ (q : ℕ). position (holds_page q index) new) (sym one.0)
        ∙ ap (λ (q : ℕ). position (holds_page s q) new) (sym one.1)
