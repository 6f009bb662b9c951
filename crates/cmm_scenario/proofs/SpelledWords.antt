-- A word, a number or bytes that are spelled behind a space read back, and leave the text after them.
use Rattle.std.proofs.Common.{◌≡◌, ◌<◌, ◌≤◌, ◌*◌, ◌/◌, ◌%◌, ◌^◌, inl, inr, ℕ, zero, suc, Bool, true, false, cond, List, [], ◌∷◌}
use Rattle.std.proofs.Common.{◌++◌, length, get_or, take, drop, slice_index, Some, None, Result, Ok, refl, ap, sym, ◌∙◌, arith, unwrap_or}
use Rattle.std.specs.Prelude.{◌&&◌, not, nat_eq, nat_lt, nat_le, position}
use Rattle.std.specs.List.{position_or_len}
use Rattle.std.specs.Str.{all_ascii_digits}
use Rattle.std.specs.Str.Parse.{digits_value}
use Rattle.std.specs.Char.{is_ascii_digit}
use Rattle.std.specs.Fmt.{decimal}
use Rattle.std.proofs.lemmas.Bool.{and_from, and_parts, cases_lt, le-ltb, lt-ltb, le-leb, ne_eqb}
use Rattle.std.proofs.lemmas.List.{length-append}
use Rattle.std.proofs.Math.Seq.{take-append_seam, drop-append_seam}
use Rattle.std.proofs.lemmas.Str.Parse.{numerals_by_value, tells_all_ascii_digits}
use Rattle.std.proofs.lemmas.Fmt.{digits_decimal, digits_value-decimal, decimal_nonempty, decimal_digit, first_decimal, length-decimal-le}
use Rattle.hex.specs.Hex.{encode_with, encode_lower, lower_digits, hex_digit_value, decode_of, IsBytes}
use Rattle.hex.proofs.HexLemmas.{length-encode_with, decode_of-encode_lower, IsDigits-lower_digits}
use Rattle.cmm_scenario.specs.declared.fault.Kind.TheVariants.{Text, Range}
use Rattle.cmm_scenario.specs.Outcome.{◌>>=◌, checked}
use Rattle.cmm_scenario.specs.Words.{is_space, leading_word, after_word, take_word, has_number_size, word_number, take_number, or_fault, word_bytes, take_bytes, within}
use Rattle.cmm_scenario.specs.Spelling.{spaced}
use Rattle.cmm_scenario.proofs.Digits.{digit_range}

-- a step that gives a value, and what follows
pub then_ok : {A B E : Type 0} (r : Result A E) (f : A → Result B E) (x : A) (y : Result B E) → r ≡ Ok x → f x ≡ y → (r >>= f) ≡ y
then_ok r f x y e h = rw e h

-- ---- words

abbrev pub no_space : List ℕ → Bool
no_space [] = true
no_space (c ∷ cs) = not (is_space c) && no_space cs

abbrev pub ends_word : List ℕ → Bool
ends_word [] = true
ends_word (c ∷ cs) = is_space c

pub ends_word-spaced : (words : List (List ℕ)) → ends_word (spaced words) ≡ true
ends_word-spaced [] = refl
ends_word-spaced (word ∷ words) = refl

space_place : (word rest : List ℕ) → no_space word ≡ true → ends_word rest ≡ true → position_or_len is_space (word ++ rest) ≡ length word
space_place [] [] plain ends = refl
space_place [] (c ∷ cs) plain ends = rw ends refl
space_place (c ∷ cs) rest plain ends =
    let here : not (is_space c) ≡ true = (and_parts (not (is_space c)) (no_space cs) plain).0 in
    let later = space_place cs rest (and_parts (not (is_space c)) (no_space cs) plain).1 ends in
    rw here (omega (arith, later))

chosen : (a b : ℕ) → a ≤ b → unwrap_or (cond (nat_lt a b) (Some a) None) b ≡ a
chosen a b le =
    elim (cases_lt a b) [
      | inl below ↦ rw (lt-ltb a b below) refl
      | inr past ↦ rw (le-ltb a b past) (omega arith)
    ]

word_end : (word rest : List ℕ) → no_space word ≡ true → ends_word rest ≡ true → unwrap_or (position is_space (word ++ rest)) (length (word ++ rest)) ≡ length word
word_end word rest plain ends =
    let place = space_place word rest plain ends in
    chosen (position_or_len is_space (word ++ rest)) (length (word ++ rest)) (omega (arith, length-append word rest, place)) ∙ place

pub first_word-append : (word rest : List ℕ) → no_space word ≡ true → ends_word rest ≡ true → leading_word (word ++ rest) ≡ word
unfolding leading_word
first_word-append word rest plain ends = ap (λ (k : ℕ). take k (word ++ rest)) (word_end word rest plain ends) ∙ take-append_seam word rest

pub after_word-append : (word rest : List ℕ) → no_space word ≡ true → ends_word rest ≡ true → after_word (word ++ rest) ≡ rest
unfolding after_word
after_word-append word rest plain ends = ap (λ (k : ℕ). drop k (word ++ rest)) (word_end word rest plain ends) ∙ drop-append_seam word rest

pub word_at-append : (word rest : List ℕ) → no_space word ≡ true → ends_word rest ≡ true → take_word (32 ∷ (word ++ rest)) ≡ Ok (word, rest)
unfolding take_word
word_at-append word rest plain ends =
    let first = first_word-append word rest plain ends in
    let after = after_word-append word rest plain ends in
    rw (first, after) refl

-- ---- numbers

no_space-digits : (ds : List ℕ) → all_ascii_digits ds ≡ true → no_space ds ≡ true
no_space-digits [] digits = refl
no_space-digits (d ∷ ds) digits =
    let range = digit_range d (and_parts (is_ascii_digit d) (all_ascii_digits ds) digits).0 in
    let other : nat_eq d 32 ≡ false = ne_eqb d 32 (λ e. omega (arith, range.0)) in
    let later = no_space-digits ds (and_parts (is_ascii_digit d) (all_ascii_digits ds) digits).1 in
    rw (other, later) refl

sized : (ds : List ℕ) → 0 < length ds → length ds ≤ 10 → 48 < get_or ds 0 0 → has_number_size ds ≡ true
sized [] some few first = absurd (omega arith)
sized (d ∷ []) some few first = refl
sized (d ∷ e ∷ ds) some few first =
    let other : nat_eq d 48 ≡ false = ne_eqb d 48 (λ h. omega arith) in
    let short : nat_le (length (e ∷ ds)) 9 ≡ true = le-leb (length (e ∷ ds)) 9 (omega arith) in
    rw (other, short) refl

decimal_sized : (n : ℕ) → n < 10 ^ 10 → has_number_size (decimal n) ≡ true
decimal_sized zero small = rw (decimal_digit 0 (omega arith)) refl
decimal_sized (suc n) small = sized (decimal (suc n)) (decimal_nonempty (suc n) (omega arith)) (length-decimal-le 10 (suc n) (omega arith) small (omega arith))
    (first_decimal (suc n) (omega arith) (omega arith))

decimal_digits : (n : ℕ) → n < 10 ^ 10 → all_ascii_digits (decimal n) ≡ true
decimal_digits n small = digits_decimal (numerals_by_value _ tells_all_ascii_digits) n (omega arith)

number_of-sized : (ds : List ℕ) → has_number_size ds ≡ true → all_ascii_digits ds ≡ true → word_number ds ≡ Ok (digits_value 10 ds)
unfolding word_number
number_of-sized ds size digits = rw (size, digits) refl

pub number_of-decimal : (n : ℕ) → n < 10 ^ 10 → word_number (decimal n) ≡ Ok n
number_of-decimal n small =
    number_of-sized (decimal n) (decimal_sized n small) (decimal_digits n small)
    ∙ ap Ok (digits_value-decimal (numerals_by_value _ tells_all_ascii_digits) n (omega arith))

number_at-append : (word rest : List ℕ) (n : ℕ) → no_space word ≡ true → ends_word rest ≡ true → word_number word ≡ Ok n → take_number (32 ∷ (word ++ rest)) ≡ Ok (n, rest)
unfolding take_number
number_at-append word rest n plain ends reads =
    then_ok _ _ (word, rest) _ (word_at-append word rest plain ends) (then_ok _ _ n _ reads refl)

-- a number below 10 to the 10th behind a space
pub number_at-spaced : (n : ℕ) (words : List (List ℕ)) → n < 10 ^ 10 → take_number (spaced (decimal n ∷ words)) ≡ Ok (n, spaced words)
number_at-spaced n words small = number_at-append (decimal n) (spaced words) n (no_space-digits (decimal n) (decimal_digits n small)) (ends_word-spaced words) (number_of-decimal n small)

-- ---- bytes

plain_digit : (d : ℕ) → d < 16 → nat_eq (slice_index lower_digits d) 32 ≡ false
plain_digit d small =
    ne_eqb (slice_index lower_digits d) 32 (λ e.
    let none : None ≡ Some d = ap hex_digit_value (sym e) ∙ IsDigits-lower_digits d small in
    cc)

no_space-encoded : (bytes : List ℕ) → IsBytes bytes → no_space (encode_with lower_digits bytes) ≡ true
unfolding encode_with
no_space-encoded [] h = refl
no_space-encoded (b ∷ bytes) h =
    let fits : b < 256 = h 0 in
    let high = plain_digit (b / 16) (omega arith) in
    let low = plain_digit (b % 16) (omega arith) in
    let later = no_space-encoded bytes (λ k. h (suc k)) in
    rw (high, low, later) refl

bytes_of-decodes : (digits bytes : List ℕ) → 1 ≤ length digits → length digits ≤ 128 → decode_of digits ≡ Ok bytes → word_bytes digits ≡ Ok bytes
unfolding word_bytes
bytes_of-decodes digits bytes some few decodes =
    let least = le-leb 1 (length digits) some in
    let most = le-leb (length digits) 128 few in
    rw (least, most) (ap (or_fault Text) decodes)

pub bytes_of-encoded : (bytes : List ℕ) → 1 ≤ length bytes → length bytes ≤ 64 → IsBytes bytes → word_bytes (encode_lower bytes) ≡ Ok bytes
bytes_of-encoded bytes some few h =
    let twice : length (encode_lower bytes) ≡ 2 * length bytes = length-encode_with lower_digits bytes in
    bytes_of-decodes (encode_lower bytes) bytes (omega arith) (omega arith) (decode_of-encode_lower bytes h)

bytes_at-append : (word rest bytes : List ℕ) → no_space word ≡ true → ends_word rest ≡ true → word_bytes word ≡ Ok bytes → take_bytes (32 ∷ (word ++ rest)) ≡ Ok (bytes, rest)
unfolding take_bytes
bytes_at-append word rest bytes plain ends reads =
    then_ok _ _ (word, rest) _ (word_at-append word rest plain ends) (then_ok _ _ bytes _ reads refl)

-- 1 to 64 bytes behind a space
pub bytes_at-spaced : (bytes : List ℕ) (words : List (List ℕ)) → 1 ≤ length bytes → length bytes ≤ 64 → IsBytes bytes → take_bytes (spaced (encode_lower bytes ∷ words)) ≡ Ok (bytes, spaced words)
bytes_at-spaced bytes words some few h = bytes_at-append (encode_lower bytes) (spaced words) bytes (no_space-encoded bytes h) (ends_word-spaced words) (bytes_of-encoded bytes some few h)

-- ---- ranges

pub checked-holds : {A E : Type 0} (b : Bool) (x : A) (e : E) → b ≡ true → checked b x e ≡ Ok x
checked-holds b x e h = rw h refl

pub within-is : (low high n : ℕ) → low ≤ n → n ≤ high → within low high n ≡ Ok n
unfolding within
within-is low high n least most = checked-holds (nat_le low n && nat_le n high) n Range (and_from (nat_le low n) (nat_le n high) (le-leb low n least) (le-leb n high most))
