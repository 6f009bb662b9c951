-- Laws of marks and their counts.
use Rattle.std.specs.Prelude.{◌≡◌, ◌≢◌, refl, ℕ, zero, suc, ◌+◌, ◌-◌, ◌*◌, ◌<◌, ◌≤◌, List, length, Bool, true, false, replicate, slice_index_or, slice_set}
use Rattle.std.proofs.Common.{arith, ap, sym, subst, inl, inr, ◌∙◌, get_or-set_other, get_or-set_same}
use Rattle.std.proofs.Math.ListN.{length-set}
use Rattle.std.proofs.Math.Nat.{mul-le-mul_left}
use Rattle.std.proofs.lemmas.Bool.{cases_eq, cases_lt}
use Rattle.std.proofs.lemmas.List.{length-replicate}
use mathlib.Core.Bool.{beq}
use Rattle.marks.specs.Marking.{is_marked, NoneMarked, mark_code, marked_in, recounted, AreCounts}

-- where no place is marked
none-marked : (n k : ℕ) → is_marked (replicate n false) k ≡ false
none-marked zero k = refl
none-marked (suc n) zero = refl
none-marked (suc n) (suc k) = none-marked n k

none-counted : (n from places : ℕ) → marked_in (replicate places false) from n ≡ 0
none-counted zero from places = refl
none-counted (suc n) from places =
    let last : mark_code (is_marked (replicate places false) (from + n)) ≡ 0 = ap mark_code (none-marked places (from + n)) in
    omega (arith, none-counted n from places, last)

zeros-at : (n k : ℕ) → let found : ℕ = slice_index_or (replicate n 0) k 0 in found ≡ 0
zeros-at zero k = refl
zeros-at (suc n) zero = refl
zeros-at (suc n) (suc k) = zeros-at n k

pub opening-counts : (size places count : ℕ) → places < size * count → AreCounts size (replicate places false) (replicate count 0)
opening-counts size places count enough = record {
  all = rw (length-replicate places false, length-replicate {A = ℕ} count 0) enough;
  exact = λ block below. zeros-at count block ∙ sym (none-counted size (size * block) places);
}

pub marked-most : (marks : List Bool) (from n : ℕ) → marked_in marks from n ≤ n
marked-most marks from zero = omega arith
marked-most marks from (suc n) = omega (arith, marked-most marks from n, code-most (is_marked marks (from + n)))
  where
    code-most : (b : Bool) → mark_code b ≤ 1
    code-most true = omega arith
    code-most false = omega arith

-- no count is above its block's size
pub count-most : (size : ℕ) (marks : List Bool) (counts : List ℕ) (block most : ℕ) → AreCounts size marks counts → block < length counts → size ≤ most → slice_index_or counts block 0 ≤ most
count-most size marks counts block most sound inside enough = omega (arith, enough, sound.exact block inside, marked-most marks (size * block) size)

pub same-mark : (a b : Bool) → beq a b ≡ true → a ≡ b
same-mark true true h = refl
same-mark true false h = sym h
same-mark false true h = h
same-mark false false h = refl

pub other-mark : (a b : Bool) → beq a b ≡ false → a ≡ b → ⊥
other-mark true true h same = grind (arith, h)
other-mark true false h same = grind (arith, same)
other-mark false true h same = grind (arith, same)
other-mark false false h same = grind (arith, h)

-- another mark at a place that isn't among them
marked-outside : (marks : List Bool) (place : ℕ) (mark : Bool) (from n : ℕ) → ((k : ℕ) → k < n → from + k ≢ place) → marked_in (slice_set marks place mark) from n ≡ marked_in marks from n
marked-outside marks place mark from zero outside = refl
marked-outside marks place mark from (suc n) outside =
    let last : mark_code (is_marked (slice_set marks place mark) (from + n)) ≡ mark_code (is_marked marks (from + n)) =
    ap mark_code (get_or-set_other marks place (from + n) mark false (outside n (omega arith))) in
    omega (arith, last, marked-outside marks place mark from n (λ k below. outside k (omega (arith, below))))

-- and at one of them
marked-inside : (marks : List Bool) (place : ℕ) (mark : Bool) (from n i : ℕ) → place < length marks → place ≡ from + i → i < n →
    marked_in (slice_set marks place mark) from n + mark_code (is_marked marks place) ≡ marked_in marks from n + mark_code mark
marked-inside marks place mark from zero i below at inside = absurd (omega (arith, inside))
marked-inside marks place mark from (suc n) i below at inside = elim (cases_eq i n) [
  | inl e ↦
      let there : from + n ≡ place = omega (arith, e, at) in
      let last : mark_code (is_marked (slice_set marks place mark) (from + n)) ≡ mark_code mark =
      ap mark_code (ap (is_marked (slice_set marks place mark)) there ∙ get_or-set_same marks place mark false below) in
      let was : mark_code (is_marked marks (from + n)) ≡ mark_code (is_marked marks place) = ap (λ (k : ℕ). mark_code (is_marked marks k)) there in
      omega (arith, last, was, marked-outside marks place mark from n (λ k less same. omega (arith, less, same, there)))
  | inr other ↦
      let apart : from + n ≢ place = λ same. other (omega (arith, same, at)) in
      let last : mark_code (is_marked (slice_set marks place mark) (from + n)) ≡ mark_code (is_marked marks (from + n)) = ap mark_code (get_or-set_other marks place (from + n) mark false apart) in
      let less : i < n = omega (arith, inside, other) in
      omega (arith, last, marked-inside marks place mark from n i below at less)
]

-- a count of none
pub none-of-count : (marks : List Bool) (from n : ℕ) → marked_in marks from n ≡ 0 → (k : ℕ) → k < n → is_marked marks (from + k) ≡ false
none-of-count marks from zero none k below = absurd (omega (arith, below))
none-of-count marks from (suc n) none k below = elim (cases_eq k n) [
  | inl e ↦ rw e (unmarked (is_marked marks (from + n)) (omega (arith, none)))
  | inr other ↦ none-of-count marks from n (omega (arith, none)) k (omega (arith, below, other))
]
  where
    unmarked : (b : Bool) → mark_code b ≡ 0 → b ≡ false
    unmarked true h = absurd (omega (arith, h))
    unmarked false h = refl

same-block : (size b block k place : ℕ) → k < size → size * block ≤ place → place < size * block + size → size * b + k ≡ place → b ≡ block
same-block size b block k place small low high same = elim (cases_lt b block) [
  | inl less ↦
      let next : b + 1 ≤ block = omega (arith, less) in
      absurd (omega (arith, small, low, same, mul-le-mul_left size next))
  | inr more ↦ elim (cases_lt block b) [
    | inl less ↦
        let next : block + 1 ≤ b = omega (arith, less) in
        absurd (omega (arith, high, same, mul-le-mul_left size next))
    | inr most ↦ omega (arith, more, most)
  ]
]

-- the blocks' counts after another mark at a place of this block
pub counts_set : (size : ℕ) (marks : List Bool) (counts : List ℕ) (place block : ℕ) (mark : Bool) → AreCounts size marks counts → place < length marks →
    size * block ≤ place → place < size * block + size → block < length counts → (is_marked marks place ≡ mark → ⊥) →
    AreCounts size (slice_set marks place mark) (slice_set counts block (recounted (slice_index_or counts block 0) mark))
counts_set size marks counts place block mark sound below low high inside changed =
    let counted = recounted (slice_index_or counts block 0) mark in
    let here : size * block + (place - size * block) ≡ place = omega (arith, low) in
    let near : place - size * block < size = omega (arith, low, high) in
    let moved = marked-inside marks place mark (size * block) size (place - size * block) below (sym here) near in
    record {
      all = rw (length-set marks place mark, length-set counts block counted) sound.all;
      exact = λ b less. elim (cases_eq b block) [
        | inl e ↦
            rw (e, get_or-set_same counts block counted 0 inside)
            (recount mark (is_marked marks place) (slice_index_or counts block 0) (marked_in marks (size * block) size) _ changed (sound.exact block inside) moved)
        | inr other ↦
            rw (get_or-set_other counts block b counted 0 other)
            (sound.exact b (subst (λ n. b < n) (length-set counts block counted) less)
            ∙ sym (marked-outside marks place mark (size * b) size (λ k small same. other (same-block size b block k place small low high same))))
      ];
    }
  where
    recount : (mark was : Bool) (count before after : ℕ) → (was ≡ mark → ⊥) → count ≡ before → after + mark_code was ≡ before + mark_code mark → recounted count mark ≡ after
    recount true true count before after changed exact moved = absurd (changed refl)
    recount true false count before after changed exact moved = omega (arith, exact, moved)
    recount false true count before after changed exact moved = omega (arith, exact, moved)
    recount false false count before after changed exact moved = absurd (changed refl)

-- a block of which none is counted
pub none-block : (size : ℕ) (marks : List Bool) (counts : List ℕ) (place block : ℕ) → AreCounts size marks counts → size * block ≡ place → block < length counts →
    slice_index_or counts block 0 ≡ 0 → NoneMarked marks place (place + size)
none-block size marks counts place block sound at inside counted p low high =
    let none : marked_in marks (size * block) size ≡ 0 = sym (sound.exact block inside) ∙ counted in
    let there : size * block + (p - place) ≡ p = omega (arith, at, low) in
    let near : p - place < size = omega (arith, low, high) in
    subst (λ k. is_marked marks k ≡ false) there (none-of-count marks (size * block) size none (p - place) near)
