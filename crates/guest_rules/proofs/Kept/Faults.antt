-- Sums over pages, where a number changes at one page.
use Rattle.std.proofs.Common.{◌≢◌, ◌<◌, ◌≤◌, ◌+◌, ℕ, zero, suc, arith, inl, inr, subst, sym}
use Rattle.std.proofs.lemmas.Bool.{cases_eq}
use Rattle.cmm_types.specs.Sums.{sum_below}

-- at each page no more on the left than on the right
pub sum_below-le : (a b c e : ℕ → ℕ) (count : ℕ) → ((page : ℕ) → page < count → a page + b page ≤ c page + e page)
    → sum_below a count + sum_below b count ≤ sum_below c count + sum_below e count
sum_below-le a b c e zero each = omega arith
sum_below-le a b c e (suc count) each = omega (arith, sum_below-le a b c e count (λ page h. each page (omega arith)), each count (omega arith))

-- the same, where at one page the right is by so much more
pub sum_below-more : (a b c e : ℕ → ℕ) (more page count : ℕ) → page < count → ((i : ℕ) → i < count → i ≢ page → a i + b i ≤ c i + e i) → a page + b page + more ≤ c page + e page
    → sum_below a count + sum_below b count + more ≤ sum_below c count + sum_below e count
sum_below-more a b c e more page zero below others here = absurd (omega arith)
sum_below-more a b c e more page (suc count) below others here = elim (cases_eq page count) [
  | inl z ↦
      let at : a count + b count + more ≤ c count + e count = subst (λ i. a i + b i + more ≤ c i + e i) z here in
      omega (arith, sum_below-le a b c e count (λ i h. others i (omega arith) (λ y. absurd (omega arith))), at)
  | inr n ↦
      omega (arith, sum_below-more a b c e more page count (omega arith) (λ i h m. others i (omega arith) m) here, others count (omega arith) (λ y. n (sym y)))
]
