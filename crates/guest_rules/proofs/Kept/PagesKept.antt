-- The free stack and the index stay fit: where a free page gets a tag, where a page's tag goes, and where tags stay.
use Rattle.std.proofs.Common.{◌≡◌, ◌≢◌, ◌⊎◌, ◌<◌, ℕ, List, ◌∷◌, length, Contains, Some, None, ap, sym, ◌∙◌, inl, inr, subst}
use Rattle.std.proofs.lemmas.Bool.{cases_eq}
use Rattle.cmm_types.specs.declared.page.Tag.{Tag}
use Rattle.guest_pages.specs.declared.info.PageInfo.{PageInfo}
use Rattle.guest_pages.specs.PagesView.{PagesView, free_info, info_at, AreDistinct}
use Rattle.guest_pages.specs.Laws.PagesLaws.{Contains-first, Contains-later, Contains-cases}
use Rattle.guest_cache.specs.CacheView.{IsTag, page_of}
use Rattle.guest_rules.specs.declared.parts.Parts.{Parts}
use Rattle.guest_rules.specs.Fit.{PagesFit}
use Rattle.guest_rules.proofs.Kept.Changes.{InfoChange, IndexChange, IsTag-same, cases_tag}

-- a page without a tag is another than one with a tag
other_page : (pages : PagesView) (p page : ℕ) (tag : Tag) → (info_at pages page).tag ≡ Some tag → (info_at pages p).tag ≡ None → p ≢ page
other_page pages p page tag some none e = let bad : None ≡ Some tag = sym none ∙ ap (λ i. (info_at pages i).tag) e ∙ some in cc

-- the next free page gets a tag that no page has
pub PagesFit-begun : (old new : Parts) (page : ℕ) (rest : List ℕ) (info : PageInfo) (tag : Tag) → PagesFit old → old.pages.free ≡ page ∷ rest → new.pages.free ≡ rest
    → InfoChange old.pages new.pages page info
    → IndexChange old.cache new.cache tag (Some page) → info.tag ≡ Some tag → IsTag old.cache tag → page_of old.cache tag ≡ None → PagesFit new
PagesFit-begun old new page rest info tag f top popped change index tagged is none = record {
  once = rw popped once.1;
  free = λ p c.
      let c' : Contains rest p = rw popped at c in
      let was = f.free p (rw top (Contains-later page p rest c')) in
      let n : p ≢ page = λ e. once.0 (subst (λ x. Contains rest x) e c') in
      (rw change.size was.0, rw (change.others p n) was.1);
  stacked = λ p below t.
      let n : p ≢ page = other_page new.pages p page tag new_tag t in
      let was : Contains (page ∷ rest) p = rw top at (f.stacked p (rw change.size at below) (rw (change.others p n) at t)) in
      rw popped (tail p n (Contains-cases page p rest was));
  bare = λ p t. let n : p ≢ page = other_page new.pages p page tag new_tag t in change.others p n ∙ f.bare p (rw (change.others p n) at t);
  indexed = λ p t e. elim (cases_eq p page) [
    | inl z ↦
        let same : tag ≡ t = let both : Some tag ≡ Some t = sym new_tag ∙ ap (λ i. (info_at new.pages i).tag) (sym z) ∙ e in cc in
        subst (λ x. IsTag new.cache x × (page_of new.cache x ≡ Some p)) same (IsTag-same old.cache new.cache tag index.files index.slots is, index.here ∙ ap (λ i. Some i) (sym z))
    | inr n ↦
        let was = f.indexed p t (rw (change.others p n) at e) in
        let m : t ≢ tag = λ z. let bad : None ≡ Some p = sym none ∙ ap (λ x. page_of old.cache x) (sym z) ∙ was.1 in cc in
        (IsTag-same old.cache new.cache t index.files index.slots was.0, index.others t was.0 m ∙ was.1)
  ];
  found = λ p t is_t e.
      let was_tag = IsTag-same new.cache old.cache t (sym index.files) (sym index.slots) is_t in
      elim (cases_tag t tag) [
        | inl z ↦
            let same : page ≡ p = let both : Some page ≡ Some p = sym index.here ∙ ap (λ x. page_of new.cache x) (sym z) ∙ e in cc in
            let first = f.free page (rw top (Contains-first page rest)) in
            subst (λ q. (q < length new.pages.infos) × ((info_at new.pages q).tag ≡ Some t)) same (rw change.size first.0, new_tag ∙ ap (λ x. Some x) (sym z))
        | inr m ↦
            let was = f.found p t was_tag (sym (index.others t was_tag m) ∙ e) in
            let n : p ≢ page = λ z. let bad : None ≡ Some t = sym free_tag ∙ ap (λ i. (info_at old.pages i).tag) (sym z) ∙ was.1 in cc in
            (rw change.size was.0, rw (change.others p n) was.1)
      ];
}
  where
    once : AreDistinct (page ∷ rest)
    once = subst AreDistinct top f.once

    new_tag : (info_at new.pages page).tag ≡ Some tag
    new_tag = ap (λ (i : PageInfo). i.tag) change.here ∙ tagged

    free_tag : (info_at old.pages page).tag ≡ None
    free_tag = (f.free page (rw top (Contains-first page rest))).1

    tail : (p : ℕ) → p ≢ page → (page ≡ p) ⊎ Contains rest p → Contains rest p
    tail p n (inl e) = absurd (n (sym e))
    tail p n (inr c) = c

-- a page's tag goes, and the page is the next free one
pub PagesFit-freed : (old new : Parts) (page : ℕ) (tag : Tag) → PagesFit old → page < length old.pages.infos → (info_at old.pages page).tag ≡ Some tag → new.pages.free ≡ page ∷ old.pages.free
    → InfoChange old.pages new.pages page free_info → IndexChange old.cache new.cache tag None → PagesFit new
PagesFit-freed old new page tag f below tagged pushed change index = record {
  once = rw pushed (absent, f.once);
  free = λ p c. elim (Contains-cases page p old.pages.free (rw pushed at c)) [
    | inl z ↦ subst (λ q. (q < length new.pages.infos) × ((info_at new.pages q).tag ≡ None)) z (rw change.size below, new_tag)
    | inr h ↦ let n : p ≢ page = λ e. absent (subst (λ x. Contains old.pages.free x) e h) in let was = f.free p h in (rw change.size was.0, rw (change.others p n) was.1)
  ];
  stacked = λ p lt t. elim (cases_eq p page) [
    | inl z ↦ rw (pushed, z) (Contains-first page old.pages.free)
    | inr n ↦ rw pushed (Contains-later page p old.pages.free (f.stacked p (rw change.size at lt) (rw (change.others p n) at t)))
  ];
  bare = λ p t. elim (cases_eq p page) [
    | inl z ↦ rw z change.here
    | inr n ↦ change.others p n ∙ f.bare p (rw (change.others p n) at t)
  ];
  indexed = λ p t e.
      let n : p ≢ page = λ z. let bad : None ≡ Some t = sym new_tag ∙ ap (λ i. (info_at new.pages i).tag) (sym z) ∙ e in cc in
      let was = f.indexed p t (rw (change.others p n) at e) in
      let m : t ≢ tag = λ z. n (let both : Some p ≡ Some page = sym was.1 ∙ ap (λ x. page_of old.cache x) z ∙ (f.indexed page tag tagged).1 in cc) in
      (IsTag-same old.cache new.cache t index.files index.slots was.0, index.others t was.0 m ∙ was.1);
  found = λ p t is_t e.
      let was_tag = IsTag-same new.cache old.cache t (sym index.files) (sym index.slots) is_t in
      let m : t ≢ tag = λ z. let bad : None ≡ Some p = sym index.here ∙ ap (λ x. page_of new.cache x) (sym z) ∙ e in cc in
      let was = f.found p t was_tag (sym (index.others t was_tag m) ∙ e) in
      let n : p ≢ page = λ z. m (let both : Some t ≡ Some tag = sym was.1 ∙ ap (λ i. (info_at old.pages i).tag) z ∙ tagged in cc) in
      (rw change.size was.0, rw (change.others p n) was.1);
}
  where
    new_tag : (info_at new.pages page).tag ≡ None
    new_tag = ap (λ (i : PageInfo). i.tag) change.here

    absent : Contains old.pages.free page → ⊥
    absent c = let bad : None ≡ Some tag = sym (f.free page c).1 ∙ tagged in cc

-- a page keeps its tag
pub PagesFit-kept : (old new : Parts) (page : ℕ) (info : PageInfo) (tag : Tag) → PagesFit old → (info_at old.pages page).tag ≡ Some tag → info.tag ≡ Some tag → new.pages.free ≡ old.pages.free
    → InfoChange old.pages new.pages page info → new.cache ≡ old.cache → PagesFit new
PagesFit-kept old new page info tag f tagged kept free change cache = record {
  once = rw free f.once;
  free = λ p c. let was = f.free p (rw free at c) in (rw change.size was.0, tags p ∙ was.1);
  stacked = λ p below t. rw free (f.stacked p (rw change.size at below) (sym (tags p) ∙ t));
  bare = λ p t.
      let n : p ≢ page = other_page new.pages p page tag (ap (λ (i : PageInfo). i.tag) change.here ∙ kept) t in
      change.others p n ∙ f.bare p (rw (change.others p n) at t);
  indexed = λ p t e. rw cache (f.indexed p t (sym (tags p) ∙ e));
  found = λ p t is e. let was = f.found p t (rw cache at is) (rw cache at e) in (rw change.size was.0, tags p ∙ was.1);
}
  where
    tags : (p : ℕ) → (info_at new.pages p).tag ≡ (info_at old.pages p).tag
    tags p = elim (cases_eq p page) [
      | inl z ↦ ap (λ i. (info_at new.pages i).tag) z ∙ ap (λ (i : PageInfo). i.tag) change.here ∙ kept ∙ sym tagged ∙ ap (λ i. (info_at old.pages i).tag) (sym z)
      | inr n ↦ ap (λ (i : PageInfo). i.tag) (change.others p n)
    ]
