-- Digits up to some place of a word.
use Rattle.std.proofs.Common.{◌≡◌, ℕ, zero, suc, ◌+◌, ◌-◌, ◌*◌, ◌^◌, ◌<◌, ◌≤◌, Bool, true, false, List, [], ◌∷◌, length, get_or, take, refl, sym, ◌∙◌, arith}
use Rattle.std.specs.Prelude.{◌&&◌, not, nat_eq, nat_le, nat_lt}
use Rattle.std.proofs.lemmas.Bool.{and_from, and_parts, leb-true, le-ltb, lt-ltb}
use Rattle.std.proofs.lemmas.List.{length-take}
use Rattle.cmm_scenario.specs.Words.{has_number_size}
use Rattle.std.specs.Char.{is_ascii_digit, digit_value}
use Rattle.std.specs.Str.{all_ascii_digits}
use Rattle.std.specs.Str.Parse.{digits_value}
use Rattle.std.proofs.lemmas.Str.Parse.{numerals_by_value, tells_all_ascii_digits, digits_value_short}
use Rattle.std.proofs.lemmas.Int.Digits.{digits_value_more}

second_fails : (a b : Bool) → b ≡ false → (a && b) ≡ false
second_fails true b p = p
second_fails false b p = refl

-- one more digit
pub all_ascii_digits-take : (ds : List ℕ) (i : ℕ) → i < length ds → all_ascii_digits (take i ds) ≡ true → is_ascii_digit (get_or ds i 0) ≡ true → all_ascii_digits (take (suc i) ds) ≡ true
all_ascii_digits-take [] i lt front here = absurd (omega arith)
all_ascii_digits-take (d ∷ ds) zero lt front here = and_from (is_ascii_digit d) true here refl
all_ascii_digits-take (d ∷ ds) (suc i) lt front here =
    and_from (is_ascii_digit d) (all_ascii_digits (take (suc i) ds)) (and_parts (is_ascii_digit d) (all_ascii_digits (take i ds)) front).0
    (all_ascii_digits-take ds i (omega arith) (and_parts (is_ascii_digit d) (all_ascii_digits (take i ds)) front).1 here)

-- a byte that is no digit
pub all_ascii_digits-fails : (ds : List ℕ) (i : ℕ) → i < length ds → is_ascii_digit (get_or ds i 0) ≡ false → all_ascii_digits ds ≡ false
all_ascii_digits-fails [] i lt here = absurd (omega arith)
all_ascii_digits-fails (d ∷ ds) zero lt here = rw here refl
all_ascii_digits-fails (d ∷ ds) (suc i) lt here = second_fails (is_ascii_digit d) (all_ascii_digits ds) (all_ascii_digits-fails ds i (omega arith) here)

pub digits_value_fits : (ds : List ℕ) → all_ascii_digits ds ≡ true → length ds ≤ 10 → digits_value 10 ds < 10 ^ 10
digits_value_fits ds digits short = digits_value_short (numerals_by_value _ tells_all_ascii_digits) ds 10 digits short

pub has_number_size-short : (ds : List ℕ) → has_number_size ds ≡ true → length ds ≤ 10
has_number_size-short [] sized = omega arith
has_number_size-short (d ∷ []) sized = omega arith
has_number_size-short (d ∷ e ∷ ds) sized =
    let few : length (e ∷ ds) ≤ 9 = leb-true _ _ (and_parts (not (nat_eq d 48)) (nat_le (length (e ∷ ds)) 9) sized).1 in
    omega arith

pub digit_range : (d : ℕ) → is_ascii_digit d ≡ true → (48 ≤ d) × (d ≤ 57)
digit_range d h = let parts = and_parts (nat_le 48 d) (nat_le d 57) h in (leb-true _ _ parts.0, leb-true _ _ parts.1)

-- the digits before some place
pub digits_value_front : (ds : List ℕ) (i : ℕ) → all_ascii_digits (take i ds) ≡ true → length ds ≤ 10 → digits_value 10 (take i ds) < 10 ^ 10
digits_value_front ds i digits short = digits_value_fits (take i ds) digits (omega (arith, length-take i ds))

worth_of : (d : ℕ) → 48 ≤ d → d ≤ 57 → digit_value d ≡ d - 48
worth_of d low high = let a : nat_lt d 48 ≡ false = le-ltb _ _ low in let b : nat_lt d 58 ≡ true = lt-ltb _ _ (omega arith) in rw (a, b) refl

pub digits_value_next : (ds : List ℕ) (i number digit : ℕ) → i < length ds → is_ascii_digit (get_or ds i 0) ≡ true → number ≡ digits_value 10 (take i ds) → digit ≡ get_or ds i 0 - 48
    → number * 10 + digit ≡ digits_value 10 (take (i + 1) ds)
digits_value_next ds i number digit lt here front last =
    let range = digit_range (get_or ds i 0) here in
    let worth : digit_value (get_or ds i 0) ≡ get_or ds i 0 - 48 = worth_of (get_or ds i 0) range.0 range.1 in
    sym (digits_value_more 10 ds i lt ∙ rw (worth, ← front, ← last) refl)
