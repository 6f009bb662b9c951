-- The frames that a closed table has.
use Rattle.std.proofs.Common.{◌≡◌, ℕ, zero, suc, ◌+◌, ◌<◌, ◌≤◌, ◌≢◌, List, [], ◌∷◌, ◌++◌, ◌∙◌, map, length, get_or}
use Rattle.std.proofs.Common.{get_or-set_other, set, sym, refl, ap, subst, arith, append-nil, append_assoc, add-one, length-append}
use Rattle.std.specs.Prelude.{Option, Some, None, All, Bool, false}
use Rattle.std.specs.Mem.Slots.Ownership.{Filled}
use mathlib.Core.Logic.{dite}
use native.Mathlib.Decide.{ℕ_discrete}
use Rattle.std.proofs.lemmas.List.Elements.{All-append}
use Rattle.std.proofs.lemmas.List.{map-append}
use Rattle.std.proofs.lemmas.Option.{same_Some}
use mathlib.Core.Option.{some, some-injective, some-ne-none}
use lib.ListN.{get_elem?}
use Rattle.page_arena.specs.FrameView.{RegionView, FrameView, IsOf}
use Rattle.frame_pool.specs.PoolRule.{IsFrameOf, WordFits, PoolRule}
use Rattle.frame_pool.specs.Closing.{if_in, once_out, numbers_in, count_out}
use Rattle.frame_pool.proofs.Changes.{St}

-- the frame of a slot whose word is in
abbrev pub frame_if_in : ℕ → Option FrameView → List FrameView
frame_if_in zero None = []
frame_if_in zero (Some f) = f ∷ []
frame_if_in (suc w) x = []

abbrev pub frames_in : List ℕ → List (Option FrameView) → ℕ → List FrameView
frames_in words slots zero = []
frames_in words slots (suc n) = frames_in words slots n ++ frame_if_in (get_or words n 0) (get_or slots n None)

pub read : {A : Type 0} (l : List A) (i : ℕ) (a d : A) → get_elem? l i ≡ some a → get_or l i d ≡ a
read [] i a d e = absurd (some-ne-none a (sym e))
read (x ∷ xs) zero a d e = some-injective x a e
read (x ∷ xs) (suc i) a d e = read xs i a d e

pub count_most : (words : List ℕ) (n : ℕ) → count_out words n ≤ n
count_most words zero = omega arith
count_most words (suc n) = omega (arith, count_most words n, once (get_or words n 0)) where
  once : (w : ℕ) → once_out w ≤ 1
  once zero = omega arith
  once (suc w) = omega arith

-- a word is in or out
pub in_and_out : (words : List ℕ) (n : ℕ) → length (numbers_in words n) + count_out words n ≡ n
in_and_out words zero = refl
in_and_out words (suc n) = omega (arith, in_and_out words n, length-append (numbers_in words n) (if_in (get_or words n 0) n), one (get_or words n 0)) where
  one : (w : ℕ) → length (if_in w n) + once_out w ≡ 1
  one zero = refl
  one (suc w) = refl

pub none_some : {A : Type 0} (a : A) → None ≡ Some a → ⊥
none_some a e = absurd (cc)

-- one frame
of_one : (region : RegionView) (f : FrameView) → IsOf region f → All (IsOf region) (f ∷ [])
of_one region f of zero d h = of
of_one region f of (suc k) d h = absurd (omega arith)

-- the frame of one more word
one_more : (region : RegionView) (n : ℕ) (fs : List FrameView) (ns : List ℕ) → All (IsOf region) fs × (map (λ f. f.number) fs ≡ ns) → (w : ℕ) (x : Option FrameView)
    → (w ≡ 0 → (f : FrameView) × (x ≡ Some f) × IsFrameOf region n f) → All (IsOf region) (fs ++ frame_if_in w x) × (map (λ f. f.number) (fs ++ frame_if_in w x) ≡ ns ++ if_in w n)
one_more region n fs ns before zero None here = let bad : None ≡ Some (here refl).0 = (here refl).1 in absurd (cc)
one_more region n fs ns before zero (Some f) here =
    let is : f ≡ (here refl).0 = same_Some f (here refl).0 (here refl).1 in
    let of : IsOf region f = ap (λ (g : FrameView). g.region) is ∙ (here refl).2.0 in
    let number : f.number ≡ n = ap (λ (g : FrameView). g.number) is ∙ (here refl).2.1 in (
      All-append (IsOf region) fs (f ∷ []) before.0 (of_one region f of),
      map-append (λ (g : FrameView). g.number) fs (f ∷ []) ∙ (ap (λ (l : List ℕ). l ++ f.number ∷ []) before.1 ∙ ap (λ (k : ℕ). ns ++ k ∷ []) number),
    )
one_more region n fs ns before (suc w) x here = (
  subst (λ (l : List FrameView). All (IsOf region) l) (sym (append-nil fs)) before.0,
  ap (λ (l : List FrameView). map (λ f. f.number) l) (append-nil fs) ∙ (before.1 ∙ sym (append-nil ns)),
)

module _ (region : RegionView) (s : St) (r : PoolRule region s) (ws : List ℕ) (xs : List (Option FrameView)) (words : s.words ≡ ws)
    (slots : (k : ℕ) (y : Option FrameView) → get_elem? s.homes k ≡ some (some y) → get_elem? xs k ≡ some y) where
  here : (i w : ℕ) → WordFits region s.homes s.views i w → (w ≡ 0 → (f : FrameView) × (get_or xs i None ≡ Some f) × IsFrameOf region i f)
  here i zero fits e = (fits.1.0, read xs i (Some fits.1.0) None (slots i (Some fits.1.0) fits.1.1), fits.1.2)
  here i (suc w) fits e = absurd (omega arith)

  -- a word that is in has its frame
  pub frame_here : (i : ℕ) → i < length s.homes → get_or ws i 0 ≡ 0 → (f : FrameView) × (get_or xs i None ≡ Some f) × IsFrameOf region i f
  frame_here i near e = here i (get_or s.words i 0) (r.each_word i near) (ap (λ (l : List ℕ). get_or l i 0) words ∙ e)

  pub gathered : (n : ℕ) → n ≤ length s.homes → All (IsOf region) (frames_in ws xs n) × (map (λ f. f.number) (frames_in ws xs n) ≡ numbers_in ws n)
  gathered zero near = ((λ k d h. absurd (omega arith)), refl)
  gathered (suc n) near = one_more region n (frames_in ws xs n) (numbers_in ws n) (gathered n (omega arith)) (get_or ws n 0) (get_or xs n None) (frame_here n (omega arith))

module _ (ws : List ℕ) (xs : List (Option FrameView)) where
  pub next_in : (k : ℕ) → frames_in ws xs (k + 1) ≡ frames_in ws xs k ++ frame_if_in (get_or ws k 0) (get_or xs k None)
  next_in k = ap (frames_in ws xs) (add-one k)

  none_out : (w : ℕ) (x : Option FrameView) → w ≢ 0 → frame_if_in w x ≡ []
  none_out zero x out = absurd (out refl)
  none_out (suc w) x out = refl

  -- one more word is out
  pub out_step : (into all : List FrameView) (k w : ℕ) → get_elem? ws k ≡ some w → w ≢ 0 → all ≡ into ++ frames_in ws xs k → all ≡ into ++ frames_in ws xs (k + 1)
  out_step into all k w at out is =
      is ∙ ap (λ (l : List FrameView). into ++ l) (sym (next_in k ∙ (ap (λ (l : List FrameView). frames_in ws xs k ++ l)
      (none_out (get_or ws k 0) (get_or xs k None) (λ e. out (sym (read ws k w 0 at) ∙ e))) ∙ append-nil (frames_in ws xs k))))

  -- one more word is in
  pub in_step : (into all : List FrameView) (k w : ℕ) (f : FrameView) → get_elem? ws k ≡ some w → w ≡ 0 → get_elem? xs k ≡ some (Some f)
      → all ≡ into ++ frames_in ws xs k → all ++ f ∷ [] ≡ into ++ frames_in ws xs (k + 1)
  in_step into all k w f at is_in slot is =
      ap (λ (l : List FrameView). l ++ f ∷ []) is ∙ (append_assoc into (frames_in ws xs k) (f ∷ []) ∙ ap (λ (l : List FrameView). into ++ l) (sym (next_in k
      ∙ ap (λ (t : ℕ × Option FrameView). frames_in ws xs k ++ frame_if_in t.0 t.1) (λ i. ((read ws k w 0 at ∙ is_in) i, read xs k (Some f) None slot i)))))

once_of : (w : ℕ) → w ≢ 0 → once_out w ≡ 1
once_of zero out = absurd (out refl)
once_of (suc w) out = refl

pub count_more : (ws : List ℕ) (k w : ℕ) → get_elem? ws k ≡ some w → w ≢ 0 → count_out ws k + 1 ≡ count_out ws (k + 1)
count_more ws k w at out = omega (arith, ap (count_out ws) (add-one k), once_of (get_or ws k 0) (λ e. out (sym (read ws k w 0 at) ∙ e)))

pub count_same : (ws : List ℕ) (k w : ℕ) → get_elem? ws k ≡ some w → w ≡ 0 → count_out ws k ≡ count_out ws (k + 1)
count_same ws k w at is = omega (arith, ap (count_out ws) (add-one k), ap once_out (read ws k w 0 at ∙ is))

emptied : (fs : List Bool) (i : ℕ) → get_or (set fs i false) i false ≡ false
emptied [] i = refl
emptied (x ∷ xs) zero = refl
emptied (x ∷ xs) (suc i) = emptied xs i

pub full_next : (fs fs' : List Bool) (i n : ℕ) → fs' ≡ set fs i false → Filled fs i n → Filled fs' (i + 1) n
full_next fs fs' i n is full k from below = ap (λ (l : List Bool). get_or l k false) is ∙ (get_or-set_other fs i k false false (λ e. absurd (omega arith)) ∙ full k (omega arith) below)

pub taken_next : (fs fs' : List Bool) (i : ℕ) → fs' ≡ set fs i false → ((k : ℕ) → k < i → get_or fs k false ≡ false) → (k : ℕ) → k < i + 1 → get_or fs' k false ≡ false
taken_next fs fs' i is taken k below = ap (λ (l : List Bool). get_or l k false) is
    ∙ dite (ℕ_discrete k i) (λ e. ap (λ (j : ℕ). get_or (set fs i false) j false) e ∙ emptied fs i) (λ ne. get_or-set_other fs i k false false ne ∙ taken k (omega arith))
