-- The marks of the free swap slots: where each slot is free, where one is assigned or released, and the least free one.
use Rattle.std.specs.Prelude.{◌≡◌, refl, ℕ, zero, suc, ◌<◌, ◌≤◌, List, [], ◌∷◌, length, map, get_or, replicate, slice_set, Bool, true, false, Option, Some, None, is_none, IfSome, IfNone, position}
use Rattle.std.proofs.Common.{arith, ap, sym, ◌∙◌}
use Rattle.std.proofs.lemmas.List.{get_or-map, length-map, map-set}
use Rattle.cmm_types.specs.declared.page.Tag.{Tag}
use Rattle.marks.specs.Marking.{is_marked, NoneMarked}
use Rattle.guest_cache.proofs.Swaps.{position-is, position-none}

-- every slot is marked
pub all-marked : (free : List Bool) (count : ℕ) → length free ≡ count → ((k : ℕ) → k < count → is_marked free k ≡ true) → free ≡ replicate count true
all-marked [] zero size marked = refl
all-marked [] (suc count) size marked = absurd (omega (arith, size))
all-marked (mark ∷ free) zero size marked = absurd (omega (arith, size))
all-marked (mark ∷ free) (suc count) size marked =
    ap (λ b. b ∷ free) (marked 0 (omega arith)) ∙ ap (λ bs. true ∷ bs) (all-marked free count (omega (arith, size)) (λ k below. marked (suc k) (omega (arith, below))))

pub free-opening : (count : ℕ) → replicate count true ≡ map (is_none {T = Tag}) (replicate count None)
free-opening zero = refl
free-opening (suc count) = ap (λ bs. true ∷ bs) (free-opening count)

pub free-count : (swap : List (Option Tag)) (free : List Bool) → free ≡ map is_none swap → length free ≡ length swap
free-count swap free is = ap (λ (bs : List Bool). length bs) is ∙ length-map swap is_none

-- one slot gets another tag, or none
pub free-set : (swap : List (Option Tag)) (free : List Bool) (number : ℕ) (tag : Option Tag) → free ≡ map is_none swap → slice_set free number (is_none tag) ≡ map is_none (slice_set swap number tag)
free-set swap free number tag is = ap (λ bs. slice_set bs number (is_none tag)) is ∙ sym (map-set is_none swap number tag)

free-at : (swap : List (Option Tag)) (free : List Bool) (number : ℕ) → free ≡ map is_none swap → number < length swap → is_none (get_or swap number None) ≡ is_marked free number
free-at swap free number is below = sym (ap (λ bs. is_marked bs number) is ∙ get_or-map is_none swap number None false below)

-- the first marked slot is the least free one
pub least_free-marked : (swap : List (Option Tag)) (free : List Bool) (found : Option ℕ) → free ≡ map is_none swap → IfNone found (NoneMarked free 0 (length swap))
    → IfSome found (λ number. (0 ≤ number) × (number < length swap)) → IfSome found (λ number. is_marked free number ≡ true)
    → IfSome found (λ number. NoneMarked free 0 number) → found ≡ position is_none swap
least_free-marked swap free None is none within marked before =
    sym (position-none is_none swap None (λ k below. free-at swap free k is below ∙ none k (omega arith) below))
least_free-marked swap free (Some number) is none within marked before =
    sym (position-is is_none swap number None within.1 (λ k below. free-at swap free k is (omega (arith, below, within.1)) ∙ before k (omega arith) below)
    (free-at swap free number is within.1 ∙ marked))
