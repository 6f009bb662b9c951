-- The stack of free pages, whose next page is the last of its items.
use Rattle.std.proofs.Common.{◌≡◌, ℕ, zero, suc, ◌+◌, ◌<◌, List, [], ◌∷◌, ◌++◌, length, reverse, All, Contains, Option, Some, None, ap, sym, ◌∙◌, subst, arith, zero-add}
use Rattle.std.specs.List.{range_with_len}
use Rattle.std.specs.Option.{option_to_list}
use Rattle.std.proofs.lemmas.List.{reverse-append, length-reverse, append-nil, map-id}
use Rattle.std.proofs.lemmas.List.Elements.{All-cons, All-tail}
use Rattle.std.proofs.lemmas.List.FromFn.{get_or-range_with_len, length-range_with_len, map-range_with_len_more}
use Rattle.guest_pages.specs.PagesView.{AreDistinct}
use Rattle.guest_pages.specs.Laws.PagesLaws.{length-distinct}

pub reverse_push : (items : List ℕ) (page : ℕ) → reverse (items ++ page ∷ []) ≡ page ∷ reverse items
reverse_push items page = reverse-append items (page ∷ [])

-- ---- a page pushed

pub distinct_pushed : (items : List ℕ) (page : ℕ) → AreDistinct (reverse items) → (Contains (reverse items) page → ⊥) → AreDistinct (reverse (items ++ page ∷ []))
distinct_pushed items page apart new = subst AreDistinct (sym (reverse_push items page)) (new, apart)

pub below_pushed : (n : ℕ) (items : List ℕ) (page : ℕ) → All (λ p. p < n) (reverse items) → page < n → All (λ p. p < n) (reverse (items ++ page ∷ []))
below_pushed n items page below within = subst (All (λ p. p < n)) (sym (reverse_push items page)) (All-cons (λ p. p < n) page (reverse items) within below)

-- there is room for it
pub has_room : (n : ℕ) (items : List ℕ) (page : ℕ) → AreDistinct (reverse items) → All (λ p. p < n) (reverse items) → (Contains (reverse items) page → ⊥) → page < n → length items < n
has_room n items page apart below new within =
    omega (arith, length-reverse items, length-distinct n (page ∷ reverse items) (new, apart) (All-cons (λ p. p < n) page (reverse items) within below))

-- ---- a page popped

pub distinct_popped : (old new : List ℕ) (page : Option ℕ) → old ≡ new ++ option_to_list page → AreDistinct (reverse old) → AreDistinct (reverse new)
distinct_popped old new None was apart = subst (λ items. AreDistinct (reverse items)) (was ∙ append-nil new) apart
distinct_popped old new (Some page) was apart = (subst AreDistinct (ap reverse was ∙ reverse_push new page) apart).1

pub below_popped : (n : ℕ) (old new : List ℕ) (page : Option ℕ) → old ≡ new ++ option_to_list page → All (λ p. p < n) (reverse old) → All (λ p. p < n) (reverse new)
below_popped n old new None was below = subst (λ items. All (λ p. p < n) (reverse items)) (was ∙ append-nil new) below
below_popped n old new (Some page) was below = All-tail (λ p. p < n) page (reverse new) (subst (All (λ p. p < n)) (ap reverse was ∙ reverse_push new page) below)

-- ---- the pages in order, as they stand at opening

pub range_more : (n : ℕ) → range_with_len 0 (n + 1) ≡ range_with_len 0 n ++ n ∷ []
range_more n = sym (map-id (range_with_len 0 (n + 1))) ∙ map-range_with_len_more (λ k. k) 0 n n (zero-add n) ∙ ap (λ pages. pages ++ n ∷ []) (map-id (range_with_len 0 n))

pub distinct_range : (from n : ℕ) → AreDistinct (range_with_len from n)
distinct_range from zero = tt {0}
distinct_range from (suc n) = (earlier, distinct_range (from + 1) n)
  where
    earlier : Contains (range_with_len (from + 1) n) from → ⊥
    earlier (k, within, at) =
        let below : k < n = subst (λ m. k < m) (length-range_with_len (from + 1) n) within in
        absurd (omega (arith, sym (get_or-range_with_len (from + 1) n k from below) ∙ at))

pub below_range : (n : ℕ) → All (λ p. p < n) (range_with_len 0 n)
below_range n k d within =
    let below : k < n = subst (λ m. k < m) (length-range_with_len 0 n) within in
    omega (arith, get_or-range_with_len 0 n k d below)
