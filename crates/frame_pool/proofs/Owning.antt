-- A word that is out is named by one view, and one that is in by none.
use Rattle.std.proofs.Common.{◌≡◌, ℕ, zero, suc, ◌≢◌, List, [], ◌∷◌, get_or, refl, arith}
use mathlib.Core.Logic.{dite}
use native.Mathlib.Decide.{ℕ_discrete}
use mathlib.Core.Option.{some}
use lib.ListN.{get_elem?}
use Rattle.page_arena.specs.FrameView.{RegionView}
use Rattle.frame_pool.specs.Totals.{total}
use Rattle.frame_pool.specs.PoolRule.{Homes, names, HasFrame, WordFits, PoolRule}
use Rattle.frame_pool.specs.InOrOut.{InOrOut}
use Rattle.frame_pool.specs.declared.view.PoolView.{PoolView}
use Rattle.frame_pool.proofs.Sums.{term_le, terms_le}
use Rattle.frame_pool.proofs.Spare.{named_most}
use Rattle.frame_pool.proofs.Changes.{St}

-- where a sum is 1, a term is
one_of : {A : Type 0} (g : A → ℕ) (l : List A) → total g l ≡ 1 → (j : ℕ) × (a : A) × (get_elem? l j ≡ some a) × (g a ≡ 1)
one_of g [] sum = absurd (omega arith)
one_of g (x ∷ xs) sum = dite (ℕ_discrete (g x) 1)
    (λ here. (0, x, refl, here))
    (λ other. let rest = one_of g xs (omega arith) in (suc rest.0, rest.1, rest.2, rest.3))

module _ (region : RegionView) (homes : Homes) (views : List PoolView) (i : ℕ) where
  word_is : (x : ℕ) → WordFits region homes views i x → x ≢ 0 → x ≡ 1
  word_is zero fits out = absurd (out refl)
  word_is (suc zero) fits out = refl
  word_is (suc (suc x)) fits out = absurd fits

  has_home : (x : ℕ) → WordFits region homes views i x → x ≡ 0 → HasFrame region homes i
  has_home zero fits e = fits.1
  has_home (suc x) fits e = absurd (omega arith)

  none_names : (x : ℕ) → WordFits region homes views i x → x ≡ 0 → total (names i) views ≡ 0
  none_names zero fits e = fits.0
  none_names (suc x) fits e = absurd (omega arith)

  one_names : (x : ℕ) → WordFits region homes views i x → x ≡ 1 → total (names i) views ≡ 1
  one_names zero fits e = absurd (omega arith)
  one_names (suc zero) fits e = fits
  one_names (suc (suc x)) fits e = absurd fits

pub in_or_out : (region : RegionView) (s : St) → PoolRule region s → InOrOut region s
in_or_out region s r = record {
  words = λ i near out. word_is region s.homes s.views i (get_or s.words i 0) (r.each_word i near) out;
  home = λ i near e. has_home region s.homes s.views i (get_or s.words i 0) (r.each_word i near) e;
  unnamed = λ i near e j v at. omega (arith, term_le (names i) s.views j v at, none_names region s.homes s.views i (get_or s.words i 0) (r.each_word i near) e);
  named = λ i near e. one_of (names i) s.views (one_names region s.homes s.views i (get_or s.words i 0) (r.each_word i near) e);
  once = λ i j k v u near at there first second. dite (ℕ_discrete j k) (λ e. e)
      (λ ne. absurd (omega (arith, terms_le (names i) s.views k j u v ne there at, named_most region s.homes s.views i (get_or s.words i 0) (r.each_word i near), first, second)));
}
