-- Each frame's number stays at one place, over each change.
use Rattle.std.specs.Prelude.{◌≡◌, ◌≢◌, refl, ℕ, zero, suc, ◌+◌, ◌-◌, ◌*◌, ◌<◌, ◌≤◌, List, ◌++◌, length, take, Bool, true, false}
use Rattle.std.specs.Prelude.{Option, Some, None, is_some, nat_lt, if◌then◌else◌, slice_get, slice_index_or, slice_set, replicate}
use Rattle.std.specs.List.{sum_by, range_with_len}
use Rattle.std.specs.Option.{option_to_list}
use Rattle.std.proofs.Common.{arith, ap, sym, inl, inr, ◌∙◌, get_or-set_other, get_or-set_same, zero-add}
use Rattle.std.proofs.Math.ListN.{length-set, get_or-eq_default}
use Rattle.std.proofs.lemmas.Bool.{cases_eq, cases_lt}
use Rattle.std.proofs.lemmas.List.{length-replicate, length-take-le, length-append, take_more}
use Rattle.std.proofs.Math.Seq.{take-length}
use Rattle.std.proofs.lemmas.List.Folds.{sum_by-replicate}
use Rattle.std.proofs.lemmas.List.Sums.{sum_by-set, sum_by-append, sum_by-cons, get_or-le-sum_by}
use Rattle.std.proofs.lemmas.Option.{slice_get_within, get_or_from_slice_get, slice_get-get_or}
use Rattle.essa_state.specs.declared.fields.Fields.{Fields}
use Rattle.essa_state.specs.StateWord.{is_resident, opening_word}
use Rattle.host_plain.specs.Numbering.{Numbering, number_at, renumbered, is_number, is_taken, opening_numbers}
use Rattle.host_plain.specs.MemoryState.{IsNumbering}

-- the number of a page's frame, as a list
times-list : (number : ℕ) (o : Option ℕ) → sum_by (is_number number) (option_to_list o) ≡ is_taken number o
times-list number None = refl
times-list number (Some other) = zero-add (is_number number other)

length-list : (o : Option ℕ) → length (option_to_list o) ≡ (if is_some o then 1 else 0)
length-list None = refl
length-list (Some other) = refl

last-some : (xs : List ℕ) → 0 < length xs → is_some (slice_get xs (length xs - 1)) ≡ true
last-some xs some = ap is_some (slice_get-get_or xs (length xs - 1) 0 (omega (arith, some)))

-- a list is all but its last, and its last
last-parts : (xs : List ℕ) → 0 < length xs → take (length xs - 1) xs ++ option_to_list (slice_get xs (length xs - 1)) ≡ xs
last-parts xs some =
    let last : length xs - 1 < length xs = omega (arith, some) in
    let whole : length xs - 1 + 1 ≡ length xs = omega (arith, some) in
    ap (λ (o : Option ℕ). take (length xs - 1) xs ++ option_to_list o) (slice_get-get_or xs (length xs - 1) 0 last)
    ∙ sym (take_more xs (length xs - 1) 0 last) ∙ ap (λ n. take n xs) whole ∙ take-length xs

abbrev at : List Fields → ℕ → Fields
at words place = slice_index_or words place opening_word

-- words that are resident where the others were
pub numbers_same : (frames : ℕ) (words new : List Fields) (n : Numbering) → length new ≡ length words → ((place : ℕ) → is_resident (at new place).content ≡ is_resident (at words place).content) →
    IsNumbering frames words n → IsNumbering frames new n
numbers_same frames words new n count same is = record {
  count = is.count ∙ sym count;
  resident = λ place. is.resident place ∙ sym (same place);
  once = is.once;
}

-- another word at a place
pub resident_set : (words : List Fields) (place : ℕ) (word : Fields) → is_resident word.content ≡ is_resident (at words place).content → place < length words →
    (k : ℕ) → is_resident (at (slice_set words place word) k).content ≡ is_resident (at words k).content
resident_set words place word same below k = elim (cases_eq k place) [
  | inl e ↦ rw (e, get_or-set_same words place word opening_word below) same
  | inr other ↦ ap (λ (w : Fields). is_resident w.content) (get_or-set_other words place k word opening_word other)
]

-- another number, or none, at the place of another word
changed : (words : List Fields) (taken : List (Option ℕ)) (place : ℕ) (word : Fields) (number : Option ℕ) → length taken ≡ length words → place < length words →
    is_some number ≡ is_resident word.content → ((k : ℕ) → is_some (slice_index_or taken k None) ≡ is_resident (at words k).content) →
    (k : ℕ) → is_some (slice_index_or (slice_set taken place number) k None) ≡ is_resident (at (slice_set words place word) k).content
changed words taken place word number count below same before k =
    let inside : place < length taken = omega (arith, below, count) in
    elim (cases_eq k place) [
      | inl e ↦ rw (e, get_or-set_same words place word opening_word below, get_or-set_same taken place number None inside) same
      | inr other ↦ rw (get_or-set_other words place k word opening_word other, get_or-set_other taken place k number None other) (before k)
    ]

-- the page at a place had a frame, or hadn't, and has one now, or hasn't; where it gets one, one is spare
pub renumbered_kept : (had has : Bool) (frames : ℕ) (words : List Fields) (n : Numbering) (place : ℕ) (word : Fields) → IsNumbering frames words n → place < length words →
    is_resident (at words place).content ≡ had → is_resident word.content ≡ has → (if has then 1 else 0) ≤ length n.spare + (if had then 1 else 0) →
    IsNumbering frames (slice_set words place word) (renumbered n place had has)
renumbered_kept true true frames words n place word is below was now room =
    numbers_same frames words (slice_set words place word) n (length-set words place word) (resident_set words place word (now ∙ sym was) below) is
renumbered_kept false false frames words n place word is below was now room =
    numbers_same frames words (slice_set words place word) n (length-set words place word) (resident_set words place word (now ∙ sym was) below) is
renumbered_kept true false frames words n place word is below was now room =
    let inside : place < length n.taken = omega (arith, below, is.count) in
    record {
      count = length-set n.taken place None ∙ is.count ∙ sym (length-set words place word);
      resident = changed words n.taken place word None is.count below (sym now) is.resident;
      once = λ number.
          omega (
            arith,
            is.once number,
            sum_by-set (is_taken number) n.taken place None None inside,
            times-list number (number_at n place),
            sum_by-append (is_number number) n.spare (option_to_list (number_at n place)),
          );
    }
renumbered_kept false true frames words n place word is below was now room =
    let inside : place < length n.taken = omega (arith, below, is.count) in
    let some : 0 < length n.spare = omega (arith, room) in
    let last : Option ℕ = slice_get n.spare (length n.spare - 1) in
    let none : (number : ℕ) → is_taken number (number_at n place) ≡ 0 = λ number. not-taken number (number_at n place) (is.resident place ∙ was) in
    record {
      count = length-set n.taken place last ∙ is.count ∙ sym (length-set words place word);
      resident = changed words n.taken place word last is.count below (last-some n.spare some ∙ sym now) is.resident;
      once = λ number.
          let parts : sum_by (is_number number) (take (length n.spare - 1) n.spare) + sum_by (is_number number) (option_to_list last) ≡ sum_by (is_number number) n.spare =
          sym (sum_by-append (is_number number) (take (length n.spare - 1) n.spare) (option_to_list last)) ∙ ap (sum_by (is_number number)) (last-parts n.spare some) in
          omega (arith, is.once number, sum_by-set (is_taken number) n.taken place last None inside, none number, times-list number last, parts);
    }
  where
    not-taken : (number : ℕ) (o : Option ℕ) → is_some o ≡ false → is_taken number o ≡ 0
    not-taken number None gone = refl
    not-taken number (Some other) gone = absurd (cc)

-- how many numbers are spare then
pub renumbered-spare : (had has : Bool) (n : Numbering) (place : ℕ) → is_some (number_at n place) ≡ had → (if has then 1 else 0) ≤ length n.spare + (if had then 1 else 0) →
    length (renumbered n place had has).spare + (if has then 1 else 0) ≡ length n.spare + (if had then 1 else 0)
renumbered-spare true true n place was room = refl
renumbered-spare false false n place was room = refl
renumbered-spare true false n place was room =
    let one : length (option_to_list (number_at n place)) ≡ 1 = length-list (number_at n place) ∙ ap (λ b. if b then 1 else 0) was in
    omega (arith, one, length-append n.spare (option_to_list (number_at n place)))
renumbered-spare false true n place was room =
    let fewer : length (take (length n.spare - 1) n.spare) ≡ length n.spare - 1 = length-take-le (length n.spare - 1) n.spare (omega arith) in
    omega (arith, fewer, room)

-- two elements that count
twice : {X : Type 0} (f : X → ℕ) (xs : List X) (i j : ℕ) (d e : X) → j ≢ i → i < length xs → j < length xs → f (slice_index_or xs i d) ≡ 1 → f (slice_index_or xs j d) ≡ 1 → f e ≡ 0 →
    2 ≤ sum_by f xs
twice f xs i j d e other first second one two none =
    let inside : j < length (slice_set xs i e) = rw (length-set xs i e) second in
    let still : f (slice_index_or (slice_set xs i e) j d) ≡ 1 = ap f (get_or-set_other xs i j e d other) ∙ two in
    omega (arith, sum_by-set f xs i e d first, one, none, still, get_or-le-sum_by f (slice_set xs i e) j d inside)

same-number : (number : ℕ) → is_number number number ≡ 1
same-number number = grind arith

taken-inside : (taken : List (Option ℕ)) (place number : ℕ) → slice_index_or taken place None ≡ Some number → place < length taken
taken-inside taken place number there = elim (cases_lt place (length taken)) [
  | inl inside ↦ inside
  | inr outside ↦ let bad : None ≡ Some number = sym (get_or-eq_default taken None outside) ∙ there in absurd (cc)
]

one-most : (number frames : ℕ) → (if nat_lt number frames then 1 else 0) ≤ 1
one-most number frames = grind arith

one-below : (number frames : ℕ) → 1 ≤ (if nat_lt number frames then 1 else 0) → number < frames
one-below number frames some = grind (arith, some)

-- no page has the frame of another, nor one that is free; and each page's frame is one of so many
pub record AreApart (frames : ℕ) (n : Numbering) : Type 0 where
  pub below : (place number : ℕ) → number_at n place ≡ Some number → number < frames
  pub pages : (place other number : ℕ) → number_at n place ≡ Some number → number_at n other ≡ Some number → place ≡ other
  pub free : (place k number : ℕ) → number_at n place ≡ Some number → slice_get n.spare k ≡ Some number → ⊥

pub are_apart : (frames : ℕ) (words : List Fields) (n : Numbering) → IsNumbering frames words n → AreApart frames n
are_apart frames words n is = record {
  below = λ place number there. one-below number frames (omega (arith, is.once number, taken-one place number there));
  pages = λ place other number first second. elim (cases_eq place other) [
    | inl same ↦ same
    | inr apart ↦
        let two : 2 ≤ sum_by (is_taken number) n.taken =
        twice (is_taken number) n.taken other place None None apart (taken-inside n.taken other number second) (taken-inside n.taken place number first) (counts number _ second)
        (counts number _ first) refl in
        absurd (omega (arith, two, is.once number, one-most number frames))
  ];
  free = λ place k number there spare. absurd (omega (arith, is.once number, one-most number frames, taken-one place number there, spare-one k number spare));
}
  where
    counts : (number : ℕ) (o : Option ℕ) → o ≡ Some number → is_taken number o ≡ 1
    counts number o there = ap (is_taken number) there ∙ same-number number

    taken-one : (place number : ℕ) → number_at n place ≡ Some number → 1 ≤ sum_by (is_taken number) n.taken
    taken-one place number there = omega (arith, counts number _ there, get_or-le-sum_by (is_taken number) n.taken place None (taken-inside n.taken place number there))

    spare-one : (k number : ℕ) → slice_get n.spare k ≡ Some number → 1 ≤ sum_by (is_number number) n.spare
    spare-one k number there =
        let here : is_number number (slice_index_or n.spare k 0) ≡ 1 = ap (is_number number) (get_or_from_slice_get n.spare k number 0 there) ∙ same-number number in
        omega (arith, here, get_or-le-sum_by (is_number number) n.spare k 0 (slice_get_within n.spare k number there))

-- as a memory is opened
none-at : (places k : ℕ) → is_some {T = ℕ} (slice_index_or (replicate places None) k None) ≡ false
none-at zero k = refl
none-at (suc places) zero = refl
none-at (suc places) (suc k) = none-at places k

numbers-once : (number from frames : ℕ) → sum_by (is_number number) (range_with_len from frames) ≡ (if nat_lt number from then 0 else if nat_lt number (from + frames) then 1 else 0)
numbers-once number from zero = grind arith
numbers-once number from (suc frames) =
    sum_by-cons (is_number number) from (range_with_len (from + 1) frames) ∙ ap (λ k. is_number number from + k) (numbers-once number (from + 1) frames) ∙ next number from frames
  where
    next : (number from frames : ℕ) →
        is_number number from + (if nat_lt number (from + 1) then 0 else if nat_lt number (from + 1 + frames) then 1 else 0)
        ≡ (if nat_lt number from then 0 else if nat_lt number (from + suc frames) then 1 else 0)
    next number from frames = grind arith

pub opening-numbering : (places frames : ℕ) (words : List Fields) → length words ≡ places → ((k : ℕ) → is_resident (at words k).content ≡ false)
    → IsNumbering frames words (opening_numbers places frames)
opening-numbering places frames words count absent = record {
  count = length-replicate {A = Option ℕ} places None ∙ sym count;
  resident = λ place. none-at places place ∙ sym (absent place);
  once = λ number.
      let none : sum_by (is_taken number) (replicate places None) ≡ places * 0 = sum_by-replicate (is_taken number) places None in
      let all : sum_by (is_number number) (range_with_len 0 frames) ≡ (if nat_lt number frames then 1 else 0) = numbers-once number 0 frames ∙ from-zero number frames in
      omega (arith, none, all);
}
  where
    from-zero : (number frames : ℕ) → ◌≡◌ {A = ℕ} (if nat_lt number 0 then 0 else if nat_lt number (0 + frames) then 1 else 0) (if nat_lt number frames then 1 else 0)
    from-zero number frames = grind arith
