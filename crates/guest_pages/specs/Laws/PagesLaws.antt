-- Laws of a page's info and of lists of distinct pages, for the crates that keep pages.
use Rattle.std.proofs.Common.{◌≡◌, ◌≢◌, ℕ, zero, suc, ◌+◌, ◌<◌, ◌≤◌, List, [], ◌∷◌, length, Bool, cond, eqb, true, false, All, Contains, slice_index_or, ◌⊎◌, inl, inr, ⊎_elim, refl, sym, subst, arith}
use Rattle.std.proofs.lemmas.List.{length-set, get_or-set_same, get_or-set_other}
use Rattle.std.proofs.lemmas.List.Elements.{All-head, All-contains, Contains-get_or}
use Rattle.std.proofs.lemmas.Bool.{eqb-true, eqb-false, cases_eq}
use Rattle.guest_pages.specs.declared.info.PageInfo.{PageInfo}
use Rattle.guest_pages.specs.PagesView.{PagesView, free_info, info_at, with_info, AreDistinct}

-- ---- one page's info

pub info_at-with_info_same : (pages : PagesView) (page : ℕ) (info : PageInfo) → page < length pages.infos → info_at (with_info pages page info) page ≡ info
unfolding with_info
info_at-with_info_same pages page info below = get_or-set_same pages.infos page info free_info below

pub info_at-with_info_other : (pages : PagesView) (page other : ℕ) (info : PageInfo) → other ≢ page → info_at (with_info pages page info) other ≡ info_at pages other
unfolding with_info
info_at-with_info_other pages page other info apart = get_or-set_other pages.infos page other info free_info apart

pub length-with_info : (pages : PagesView) (page : ℕ) (info : PageInfo) → length (with_info pages page info).infos ≡ length pages.infos
unfolding with_info
length-with_info pages page info = length-set pages.infos page info

-- ---- which pages a list contains

pub Contains-first : (page : ℕ) (pages : List ℕ) → Contains (page ∷ pages) page
Contains-first page pages = (0, omega arith, refl)

pub Contains-later : (page other : ℕ) (pages : List ℕ) → Contains pages other → Contains (page ∷ pages) other
Contains-later page other pages (k, below, at) = (suc k, omega arith, at)

pub Contains-cases : (page other : ℕ) (pages : List ℕ) → Contains (page ∷ pages) other → (page ≡ other) ⊎ Contains pages other
Contains-cases page other pages (zero, below, at) = inl at
Contains-cases page other pages (suc k, below, at) = inr (k, omega arith, at)

-- ---- distinct pages below a number are at most so many

-- the pages but for the first that is this one
abbrev without : ℕ → List ℕ → List ℕ
without page [] = []
without page (first ∷ pages) = cond (eqb first page) pages (first ∷ without page pages)

length-without : (page : ℕ) (pages : List ℕ) → length pages ≤ length (without page pages) + 1
length-without page [] = omega arith
length-without page (first ∷ pages) =
    let rest : length pages ≤ length (without page pages) + 1 = length-without page pages in
    elim (eqb first page) as (λ b. length (first ∷ pages) ≤ length (cond b pages (first ∷ without page pages)) + 1) [
      | true ↦ omega arith
      | false ↦ omega arith
    ]

was_there : (page other : ℕ) (pages : List ℕ) → Contains (without page pages) other → Contains pages other
was_there page other [] = λ there. there
was_there page other (first ∷ pages) =
    elim (eqb first page) as (λ b. Contains (cond b pages (first ∷ without page pages)) other → Contains (first ∷ pages) other) [
      | true ↦ (λ there. Contains-later first other pages there)
      | false ↦
          (λ there.
          ⊎_elim
          (λ same. subst (Contains (first ∷ pages)) same (Contains-first first pages))
          (λ later. Contains-later first other pages (was_there page other pages later))
          (Contains-cases first other (without page pages) there))
    ]

AreDistinct-without : (page : ℕ) (pages : List ℕ) → AreDistinct pages → AreDistinct (without page pages)
AreDistinct-without page [] apart = tt {0}
AreDistinct-without page (first ∷ pages) (new, apart) =
    elim (eqb first page) as (λ b. AreDistinct (cond b pages (first ∷ without page pages))) [
      | true ↦ apart
      | false ↦ (λ there. new (was_there page first pages there), AreDistinct-without page pages apart)
    ]

is_gone : (page : ℕ) (pages : List ℕ) → AreDistinct pages → Contains (without page pages) page → ⊥
is_gone page [] apart = λ there. absurd (omega (arith, there.1))
is_gone page (first ∷ pages) (new, apart) = by_test (eqb first page) refl (is_gone page pages apart)
  where
    by_test : (b : Bool) → eqb first page ≡ b → (Contains (without page pages) page → ⊥) → Contains (cond b pages (first ∷ without page pages)) page → ⊥
    by_test true same gone there = new (subst (Contains pages) (sym (eqb-true first page same)) there)
    by_test false other gone there = ⊎_elim (eqb-false first page other) gone (Contains-cases first page (without page pages) there)

below_without : (n : ℕ) (pages : List ℕ) → AreDistinct pages → All (λ page. page < suc n) pages → All (λ page. page < n) (without n pages)
below_without n pages apart below k d within =
    let there : Contains (without n pages) (slice_index_or (without n pages) k d) = Contains-get_or (without n pages) k d within in
    let less : slice_index_or (without n pages) k d < suc n = All-contains (λ page. page < suc n) pages _ below (was_there n _ pages there) in
    by_cases (cases_eq (slice_index_or (without n pages) k d) n) less there
  where
    by_cases : {x : ℕ} → (x ≡ n) ⊎ (x ≢ n) → x < suc n → Contains (without n pages) x → x < n
    by_cases (inl same) less there = absurd (is_gone n pages apart (subst (Contains (without n pages)) same there))
    by_cases (inr other) less there = omega arith

pub length-distinct : (n : ℕ) (pages : List ℕ) → AreDistinct pages → All (λ page. page < n) pages → length pages ≤ n
length-distinct zero [] apart below = omega arith
length-distinct zero (first ∷ pages) apart below = absurd (omega (arith, All-head (λ page. page < 0) first pages below))
length-distinct (suc n) pages apart below = omega (arith, length-without n pages, length-distinct n (without n pages) (AreDistinct-without n pages apart) (below_without n pages apart below))
