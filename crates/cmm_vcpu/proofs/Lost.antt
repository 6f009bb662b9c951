-- The frames that a closed pool doesn't give back are those that its region lacks.
use Rattle.std.specs.Prelude.{◌≡◌, ◌<◌, ◌≤◌, ◌+◌, ◌==◌, ◌||◌, ℕ, zero, suc, List, [], ◌∷◌, ◌++◌, length, map, filter, not, Bool, true, false, cond, slice_index}
use Rattle.std.specs.List.{range_with_len, list_any}
use Rattle.std.proofs.Common.{refl, sym, ap, arith, subst, inl, inr, length-append, ◌∙◌}
use Rattle.std.proofs.lemmas.Bool.{cases_eq}
use Rattle.std.proofs.lemmas.List.Elements.{filter-append}
use Rattle.std.proofs.lemmas.List.Folds.{list_any-append}
use Rattle.page_arena.specs.FrameView.{RegionView, FrameView, has_number, missing}
use Rattle.frame_pool.specs.Seats.{PoolId, frame_count}
use Rattle.frame_pool.specs.Closing.{ClosesWith, if_in, once_out, numbers_in, count_out}
use Rattle.frame_pool.proofs.Ending.{count_most}
use Rattle.cmm_vcpu.specs.Closing.{CanClose, Loses}

abbrev among : List ℕ → ℕ → Bool
among numbers number = list_any (λ k. k == number) numbers

abbrev is_in : ℕ → Bool
is_in zero = true
is_in (suc w) = false

number_among : (frames : List FrameView) (number : ℕ) → has_number frames number ≡ among (map (λ f. f.number) frames) number
number_among [] number = refl
number_among (f ∷ fs) number = rw (number_among fs number) refl

other_number : (k number : ℕ) → k < number → (k == number) ≡ false
other_number k number below = grind (arith, below)

same_number : (number : ℕ) → (number == number) ≡ true
same_number number = grind arith

-- one word's number
one_other : (w k number : ℕ) → (k == number) ≡ false → among (if_in w k) number ≡ false
one_other zero k number other = rw other refl
one_other (suc w) k number other = refl

one_same : (w number : ℕ) → among (if_in w number) number ≡ is_in w
one_same zero number = rw (same_number number) refl
one_same (suc w) number = refl

among_more : (words : List ℕ) (n number : ℕ) → among (numbers_in words (suc n)) number ≡ (among (numbers_in words n) number || among (if_in (slice_index words n) n) number)
among_more words n number = list_any-append (λ k. k == number) (numbers_in words n) (if_in (slice_index words n) n)

-- no number from n on is among those below
none_above : (words : List ℕ) (n number : ℕ) → n ≤ number → among (numbers_in words n) number ≡ false
none_above words zero number le = refl
none_above words (suc n) number le =
    among_more words n number ∙ (rw (none_above words n number (omega (arith, le)), one_other (slice_index words n) n number (other_number n number (omega (arith, le)))) refl)

or_false : (b : Bool) → (b || false) ≡ b
or_false true = refl
or_false false = refl

other_above : (k number : ℕ) → number < k → (k == number) ≡ false
other_above k number above = grind (arith, above)

-- a number is among those whose words are in exactly where its word is
among_in : (words : List ℕ) (n number : ℕ) → number < n → among (numbers_in words n) number ≡ is_in (slice_index words number)
among_in words zero number below = absurd (omega (arith, below))
among_in words (suc n) number below = among_more words n number ∙ elim (cases_eq number n) [
  | inl here ↦ (rw (none_above words n number (omega (arith, here))) (ap (λ (k : ℕ). among (if_in (slice_index words k) k) number) (sym here) ∙ one_same (slice_index words number) number))
  | inr other ↦
      (rw (one_other (slice_index words n) n number (other_above n number (omega (arith, below, other))))
      (or_false (among (numbers_in words n) number) ∙ among_in words n number (omega (arith, below, other))))
]

range_more : (from n : ℕ) → range_with_len from (suc n) ≡ range_with_len from n ++ (from + n) ∷ []
range_more from zero = ap (λ k. k ∷ []) (omega arith)
range_more from (suc n) = ap (λ l. from ∷ l) (range_more (from + 1) n ∙ ap (λ k. range_with_len (from + 1) n ++ k ∷ []) (omega arith))

kept_one : (b : Bool) (w k : ℕ) → b ≡ not (is_in w) → length (cond b (k ∷ []) []) ≡ once_out w
kept_one b zero k is = rw is refl
kept_one b (suc w) k is = rw is refl

-- as many numbers pass as words are out
passing : (test : ℕ → Bool) (words : List ℕ) (n : ℕ) → ((i : ℕ) → i < n → test i ≡ not (is_in (slice_index words i))) → length (filter test (range_with_len 0 n)) ≡ count_out words n
passing test words zero same = refl
passing test words (suc n) same =
    ap (λ l. length (filter test l)) (range_more 0 n) ∙ ap length (filter-append test (range_with_len 0 n) ((0 + n) ∷ []))
    ∙ length-append (filter test (range_with_len 0 n)) (filter test ((0 + n) ∷ []))
    ∙ (rw (passing test words n (λ i lt. same i (omega (arith, lt))))
    (ap (λ k. count_out words n + length (filter test (k ∷ []))) (zero_more n)
    ∙ ap (λ k. count_out words n + k) (kept_one (test n) (slice_index words n) n (same n (omega arith)))))
  where
    zero_more : (n : ℕ) → 0 + n ≡ n
    zero_more n = omega arith

-- as many frames are missing as words are out
pub missing_out : (words : List ℕ) (frames : List FrameView) (n : ℕ) → map (λ f. f.number) frames ≡ numbers_in words n → length (missing n frames) ≡ count_out words n
missing_out words frames n numbers =
    passing (λ number. not (has_number frames number)) words n
    (λ i lt. ap not (number_among frames i ∙ ap (λ (l : List ℕ). among l i) numbers ∙ among_in words n i lt))

pub loses : (pool : PoolId) (region : RegionView) (free back : List FrameView) (room out lost : ℕ) → pool.region ≡ region → CanClose pool free room
    → ClosesWith pool.region (frame_count pool) free back out → lost ≡ length (missing region.count back) → Loses pool lost
loses pool region free back room out lost region_is can closed lacking = record {
  back = back;
  closed = subst (λ (k : ℕ). ClosesWith pool.region (frame_count pool) [] back k) (sym same) of_none;
  lacking = in_pool;
}
  where
    of_none : ClosesWith pool.region (frame_count pool) [] back out
    of_none = subst (λ (l : List FrameView). ClosesWith pool.region (frame_count pool) l back out) can.empty closed

    in_pool : lost ≡ length (missing pool.region.count back)
    in_pool = lacking ∙ ap (λ (r : RegionView). length (missing r.count back)) (sym region_is)

    same : lost ≡ out
    same =
        in_pool ∙ ap (λ (k : ℕ). length (missing k back)) can.whole
        ∙ missing_out of_none.state.words back (frame_count pool) (ap (λ (l : List FrameView). map (λ f. f.number) l) of_none.appended ∙ of_none.numbers) ∙ sym of_none.out_is

-- no more than there are
pub lost_few : (pool : PoolId) (lost : ℕ) → Loses pool lost → lost ≤ frame_count pool
lost_few pool lost loses = omega (arith, loses.closed.out_is, count_most loses.closed.state.words (frame_count pool))
