-- The entries of all mapping slots, and the chain of those that show a page.
use Rattle.std.specs.Prelude.{◌≡◌, ◌≢◌, ℕ, ◌<◌, List, length, Option, None, Some, slice_index_or, slice_set}
use Rattle.guest_maps.specs.declared.slot.Pte.{Pte}

-- how many pages there are to show, and the entry of each place
pub record EntriesView : Type 0 where
  pub pages : ℕ
  pub entries : List (Option Pte)

unfoldable pub with_pte : EntriesView → ℕ → Option Pte → EntriesView
with_pte view place pte = record view { entries = slice_set view.entries place pte }

abbrev pub page_shown : Option Pte → Option ℕ
page_shown None = None
page_shown (Some pte) = Some pte.page

-- From the first place of a page's chain each place leads to the next, and back. A place has a higher rank than the one before it,
-- so every place that shows the page is reached.
pub record AreChains (shown first next before : ℕ → Option ℕ) (rank : ℕ → ℕ) : Type 0 where
  pub follows : (k later : ℕ) → next k ≡ Some later → (shown k ≢ None) × (shown later ≡ shown k) × (before later ≡ Some k) × (rank k < rank later)
  pub precedes : (k earlier page : ℕ) → shown k ≡ Some page → before k ≡ Some earlier → next earlier ≡ Some k
  pub leads : (k page : ℕ) → shown k ≡ Some page → before k ≡ None → first page ≡ Some k
  pub starts : (page k : ℕ) → first page ≡ Some k → (shown k ≡ Some page) × (before k ≡ None)

-- the chains of lists
abbrev pub AreLinked : List (Option Pte) → List (Option ℕ) → List (Option ℕ) → List (Option ℕ) → (ℕ → ℕ) → Type 0
AreLinked entries first next before rank =
    AreChains (λ k. page_shown (slice_index_or entries k None)) (λ page. slice_index_or first page None) (λ k. slice_index_or next k None) (λ k. slice_index_or before k None) rank

pub record HasChains (entries : List (Option Pte)) (first next before : List (Option ℕ)) : Type 0 where
  pub next_whole : length next ≡ length entries
  pub before_whole : length before ≡ length entries
  pub in_range : (k page : ℕ) → page_shown (slice_index_or entries k None) ≡ Some page → page < length first
  pub linked : ∥ ((rank : ℕ → ℕ) × AreLinked entries first next before rank) ∥₁

-- a list with another value at a place, or none
abbrev pub set_at : List (Option ℕ) → Option ℕ → Option ℕ → List (Option ℕ)
set_at xs None x = xs
set_at xs (Some place) x = slice_set xs place x

-- the first places of the chains, where `after` follows `before` in a page's chain
abbrev pub first_with : List (Option ℕ) → ℕ → Option ℕ → Option ℕ → List (Option ℕ)
first_with first page None after = slice_set first page after
first_with first page (Some before) after = first
