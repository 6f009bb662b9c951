-- The pool as it begins.
use Rattle.std.proofs.Common.{◌≡◌, ℕ, zero, suc, ◌+◌, ◌<◌, List, [], ◌∷◌, ◌++◌, ◌∙◌, replicate, map, length, get_or, sym, refl, subst, ⊎_elim, arith, length-append, zero-add}
use Rattle.std.specs.Prelude.{Option, Some, All, IsSome}
use Rattle.std.proofs.lemmas.List.{length-map}
use mathlib.Core.Option.{some, some-ne-none}
use lib.ListN.{get_elem?, length-replicate}
use Rattle.atomic_table.specs.Table.{opening}
use Rattle.atomic_table.proofs.Lists.{at_snoc}
use Rattle.page_arena.specs.FrameView.{RegionView, FrameView, IsOf}
use Rattle.frame_pool.specs.PoolRule.{IsFrameOf, WordFits, NamedFits, PoolRule}
use Rattle.frame_pool.specs.Plays.{first_view}
use Rattle.frame_pool.specs.Seats.{AreNumbered}
use Rattle.frame_pool.specs.declared.view.PoolView.{PoolView}

zero_at : (n k i : ℕ) → i < n → get_or (replicate n 0 ++ k ∷ []) i 0 ≡ 0
zero_at zero k i near = absurd (omega arith)
zero_at (suc n) k zero near = refl
zero_at (suc n) k (suc i) near = zero_at n k i (omega arith)

last_at : (n k : ℕ) → get_or (replicate n 0 ++ k ∷ []) n 0 ≡ k
last_at zero k = refl
last_at (suc n) k = last_at n k

has_frame : (region : RegionView) (frames : List FrameView) (place i : ℕ) → All (IsOf region) frames → AreNumbered place frames → i < length frames
    → (f : FrameView) × (get_elem? (map some (map (λ (f : FrameView). Some f) frames)) i ≡ some (some (Some f))) × IsFrameOf region (place + i) f
has_frame region [] place i of numbers near = absurd (omega arith)
has_frame region (f ∷ fs) place zero of numbers near = (f, refl, (of 0 f (omega arith), numbers.0 ∙ omega arith))
has_frame region (f ∷ fs) place (suc i) of numbers near =
    let rest = has_frame region fs (place + 1) i (λ k d h. of (suc k) d (omega arith)) numbers.1 (omega arith) in
    (rest.0, rest.1, (rest.2.0, rest.2.1 ∙ omega arith))

pub opens : (region : RegionView) (frames : List FrameView) (n : ℕ) (ws : List ℕ) (xs : List (Option FrameView)) → n ≡ length frames → ws ≡ replicate n 0 ++ n ∷ [] → xs ≡ map (λ f. Some f) frames
    → All (IsOf region) frames → AreNumbered 0 frames → PoolRule region (opening ws xs (first_view region))
opens region frames n ws xs is words_are slots_are of numbers =
    subst (λ (l : List ℕ). PoolRule region (opening l xs (first_view region))) (sym words_are)
    (subst (λ (l : List (Option FrameView)). PoolRule region (opening (replicate n 0 ++ n ∷ []) l (first_view region))) (sym slots_are) (record {
      wide = omega (arith, length-append (replicate n 0) (n ∷ []), length-replicate {A = ℕ} n 0, size);
      spare = subst (λ (k : ℕ). get_or (replicate n 0 ++ n ∷ []) k 0 + (0 + 0) ≡ k) (sym size) (omega (arith, last_at n n));
      each_word = λ i near. let below : i < n = subst (λ (k : ℕ). i < k) size near in
          subst (WordFits region (map some (map (λ f. Some f) frames)) (first_view region ∷ []) i) (sym (zero_at n n i below))
          (refl, let f = has_frame region frames 0 i of numbers (omega arith) in (f.0, f.1, (f.2.0, f.2.1 ∙ zero-add i)));
      each_view = λ j v e. ⊎_elim (λ (t : get_elem? [] j ≡ some v). absurd (some-ne-none v (sym t)))
          (λ (t : first_view region ≡ v). subst (λ (u : PoolView). NamedFits region (map some (map (λ f. Some f) frames)) u.region u.named) t (refl, tt))
          (at_snoc [] (first_view region) v j e);
    })) where
      size : length (map some (map (λ (f : FrameView). Some f) frames)) ≡ n
      size = length-map (map (λ (f : FrameView). Some f) frames) some ∙ (length-map frames (λ (f : FrameView). Some f) ∙ sym is)

-- each slot of a pool that begins has its frame
pub all_full : (frames : List FrameView) → All IsSome (map (λ (f : FrameView). Some f) frames)
all_full [] k d near = absurd (omega arith)
all_full (f ∷ fs) zero d near = refl
all_full (f ∷ fs) (suc k) d near = all_full fs k d (omega arith)

pub same_frames : (fs gs : List FrameView) → map (λ (f : FrameView). Some f) fs ≡ map (λ (f : FrameView). Some f) gs → fs ≡ gs
same_frames [] [] e = refl
same_frames [] (g ∷ gs) e = absurd (cc)
same_frames (f ∷ fs) [] e = absurd (cc)
same_frames (f ∷ fs) (g ∷ gs) e =
    let head : f ≡ g = cc in
    let tail : map (λ (f : FrameView). Some f) fs ≡ map (λ (f : FrameView). Some f) gs = cc in
    λ k. head k ∷ same_frames fs gs tail k
