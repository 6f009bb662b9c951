-- What the spare count says of the frame words.
use Rattle.std.proofs.Common.{◌≡◌, ℕ, zero, suc, ◌+◌, ◌<◌, ◌≤◌, List, [], ◌∷◌, length, get_or, refl, arith}
use mathlib.Core.Option.{some}
use lib.ListN.{get_elem?}
use Rattle.page_arena.specs.FrameView.{RegionView}
use Rattle.cmm_types.specs.Sums.{sum_below}
use Rattle.frame_pool.specs.Totals.{total}
use Rattle.frame_pool.specs.PoolRule.{Homes, only, named_once, names, lent_once, lent, WordFits, SlotFits, PoolRule}
use Rattle.frame_pool.specs.declared.view.PoolView.{PoolView}
use Rattle.frame_pool.specs.declared.view.Named.{Named}
use Rattle.frame_pool.specs.declared.view.Named.TheVariants.{Idle, Taken, Lent, Pair, Spent}
use Rattle.cmm_types.specs.Laws.SumLaws.{sum_below-add, sum_below-none}
use Rattle.frame_pool.proofs.Sums.{total_le, below-only, below-gap}
use Rattle.frame_pool.proofs.Changes.{St}

-- how often the view names the word i without its slot
abbrev pub lent_as : ℕ → Named → ℕ
lent_as i Idle = 0
lent_as i (Taken k) = 0
lent_as i (Lent k) = only i k
lent_as i (Pair k l) = only i k + only i l
lent_as i Spent = 0

abbrev pub lends_word : ℕ → PoolView → ℕ
lends_word i v = lent_as i v.named

pub lent_is_named : (i : ℕ) (d : Named) → lent_as i d ≤ named_once i d
lent_is_named i Idle = omega arith
lent_is_named i (Taken k) = omega arith
lent_is_named i (Lent k) = omega arith
lent_is_named i (Pair k l) = omega arith
lent_is_named i Spent = omega arith

no_sum : (n : ℕ) → sum_below (λ _. 0) n ≡ 0
no_sum n = sum_below-none (λ _. 0) n (λ i below. refl)

-- who lends, lends words below n
lends_one : (homes : Homes) (n : ℕ) (d : Named) → SlotFits homes n d → sum_below (λ i. lent_as i d) n ≡ lent_once d
lends_one homes n Idle fits = no_sum n
lends_one homes n (Taken k) fits = no_sum n
lends_one homes n (Lent k) fits = (below-only k n).0 fits.0
lends_one homes n (Pair k l) fits = omega (arith, sum_below-add (λ i. only i k) (λ i. only i l) n, (below-only k n).0 fits.0.0, (below-only l n).0 fits.1.0)
lends_one homes n Spent fits = no_sum n

-- the frames lent, word by word
lent_words : (homes : Homes) (n : ℕ) (vs : List PoolView) → ((j : ℕ) (v : PoolView) → get_elem? vs j ≡ some v → SlotFits homes n v.named) → sum_below (λ i. total (lends_word i) vs) n ≡ total lent vs
lent_words homes n [] fits = no_sum n
lent_words homes n (v ∷ vs) fits =
    omega (arith, sum_below-add (λ i. lends_word i v) (λ i. total (lends_word i) vs) n, lends_one homes n v.named (fits 0 v refl), lent_words homes n vs (λ j u e. fits (suc j) u e))

pub named_most : (region : RegionView) (homes : Homes) (vs : List PoolView) (i x : ℕ) → WordFits region homes vs i x → total (names i) vs ≤ 1
named_most region homes vs i zero fits = omega (arith, fits.0)
named_most region homes vs i (suc zero) fits = omega (arith, fits)
named_most region homes vs i (suc (suc x)) fits = absurd fits

module _ (region : RegionView) (s : St) (r : PoolRule region s) where
  abbrev n : ℕ
  n = length s.homes

  -- where a frame isn't lent, the count isn't 0
  pub some_spare : (k : ℕ) → k < n → total (lends_word k) s.views ≡ 0 → 1 ≤ get_or s.words n 0
  some_spare k near none_lent =
      let words = lent_words s.homes n s.views (λ j v e. (r.each_view j v e).1) in
      let most : (i : ℕ) → i < n → total (lends_word i) s.views ≤ 1 = λ i below.
      omega (arith, total_le (lends_word i) (names i) (λ v. lent_is_named i v.named) s.views, named_most region s.homes s.views i (get_or s.words i 0) (r.each_word i below)) in
      omega (arith, (below-gap (λ i. total (lends_word i) s.views) n k most).0 near none_lent, words, r.spare)

  -- a word that is in isn't lent, so where the count is 0 every word is out
  in_spare : (k x : ℕ) → WordFits region s.homes s.views k x → get_or s.words n 0 ≡ 0 → k < n → x ≡ 1
  in_spare k zero fits empty near = absurd (omega (arith, empty, some_spare k near (omega (arith, total_le (lends_word k) (names k) (λ v. lent_is_named k v.named) s.views, fits.0))))
  in_spare k (suc zero) fits empty near = refl
  in_spare k (suc (suc x)) fits empty near = absurd fits

  pub all_out : get_or s.words n 0 ≡ 0 → (k : ℕ) → k < n → get_or s.words k 0 ≡ 1
  all_out empty k near = in_spare k (get_or s.words k 0) (r.each_word k near) empty near
