-- Digits up to some place of a word, and when a word spells no number.
use Rattle.std.proofs.Common.{◌≡◌, ℕ, ◌+◌, ◌-◌, ◌*◌, ◌^◌, ◌<◌, ◌≤◌, Bool, true, false, List, None, Some, length, get_or, take, inl, inr, add-one, refl, sym, ap, subst, ◌∙◌, arith}
use Rattle.std.specs.Prelude.{◌&&◌, nat_lt}
use Rattle.std.proofs.lemmas.Bool.{cases_lt, le-ltb, lt-ltb, ltb-true}
use Rattle.std.proofs.lemmas.List.{take_all}
use Rattle.std.specs.Char.{is_ascii_digit}
use Rattle.std.specs.Str.{all_ascii_digits}
use Rattle.std.specs.Str.Parse.{digits_value}
use Rattle.std.proofs.lemmas.Str.Parse.{digits_value-take-le}
use Rattle.cmm_scenario.proofs.Digits.{all_ascii_digits-take, digits_value_next}
use Rattle.cmm_check.specs.Reading.{given, has_no_leading_zero, long_of}

second_fails : (a b c : Bool) → b ≡ false → (a && b && c) ≡ false
second_fails true true c h = cc
second_fails true false c h = refl
second_fails false true c h = cc
second_fails false false c h = refl

third_fails : (a b c : Bool) → c ≡ false → (a && b && c) ≡ false
third_fails true true c h = h
third_fails true false c h = refl
third_fails false true c h = refl
third_fails false false c h = refl

all_hold : (a b c : Bool) → a ≡ true → b ≡ true → c ≡ true → (a && b && c) ≡ true
all_hold true true true p q r = refl
all_hold true true false p q r = cc
all_hold true false c p q r = cc
all_hold false b c p q r = cc

not_given : {A : Type 0} (b : Bool) (x : A) → b ≡ false → given b x ≡ None
not_given true x h = cc
not_given false x h = refl

is_given : {A : Type 0} (b : Bool) (x : A) → b ≡ true → given b x ≡ Some x
is_given true x h = refl
is_given false x h = cc

pub long_of-other : (word : List ℕ) → all_ascii_digits word ≡ false → long_of word ≡ None
unfolding long_of
long_of-other word h = not_given _ _ (second_fails (has_no_leading_zero word) (all_ascii_digits word) (nat_lt (digits_value 10 word) (2 ^ 64)) h)

pub long_of-large : (word : List ℕ) (index : ℕ) → 2 ^ 64 ≤ digits_value 10 (take index word) → long_of word ≡ None
unfolding long_of
long_of-large word index large =
    let most = digits_value-take-le 10 word index (omega arith) in
    not_given _ _ (third_fails (has_no_leading_zero word) (all_ascii_digits word) (nat_lt (digits_value 10 word) (2 ^ 64)) (le-ltb (digits_value 10 word) (2 ^ 64) (omega (arith, most))))

pub long_of-is : (word : List ℕ) → has_no_leading_zero word ≡ true → all_ascii_digits word ≡ true → digits_value 10 word < 2 ^ 64 → long_of word ≡ Some (digits_value 10 word)
unfolding long_of
long_of-is word first digits small =
    let is_small : nat_lt (digits_value 10 word) (2 ^ 64) ≡ true = lt-ltb (digits_value 10 word) (2 ^ 64) small in
    is_given _ _ (all_hold (has_no_leading_zero word) (all_ascii_digits word) (nat_lt (digits_value 10 word) (2 ^ 64)) first digits is_small)

-- one more digit
pub record More (word : List ℕ) (index number : ℕ) : Type 0 where
  pub digits : all_ascii_digits (take (index + 1) word) ≡ true
  pub value : number ≡ digits_value 10 (take (index + 1) word)
  pub small : number < 2 ^ 64

given_small : (x y : ℕ) → given (nat_lt x (2 ^ 64)) x ≡ Some y → (x ≡ y) × (x < 2 ^ 64)
given_small x y h = at (nat_lt x (2 ^ 64)) refl h
  where
    at : (b : Bool) → nat_lt x (2 ^ 64) ≡ b → given b x ≡ Some y → (x ≡ y) × (x < 2 ^ 64)
    at true test same = (cc, ltb-true x (2 ^ 64) test)
    at false test same = cc same

pub one_more : (word : List ℕ) (index number next : ℕ) → index < length word → is_ascii_digit (get_or word index 0) ≡ true → all_ascii_digits (take index word) ≡ true
    → number ≡ digits_value 10 (take index word)
    → given (nat_lt (number * 10 + (get_or word index 0 - 48)) (2 ^ 64)) (number * 10 + (get_or word index 0 - 48)) ≡ Some next → More word index next
one_more word index number next within here front value e =
    let more = digits_value_next word index number (get_or word index 0 - 48) within here value refl in
    let same = given_small (number * 10 + (get_or word index 0 - 48)) next e in
    record { digits = rw add-one (all_ascii_digits-take word index within front here); value = sym same.0 ∙ more; small = subst (λ n. n < 2 ^ 64) same.0 same.1 }

not_below : (n : ℕ) → given (nat_lt n (2 ^ 64)) n ≡ None → 2 ^ 64 ≤ n
not_below n h =
    elim (cases_lt n (2 ^ 64)) [
      | inl below ↦ let test : nat_lt n (2 ^ 64) ≡ true = lt-ltb n (2 ^ 64) below in absurd (some_none n (sym (is_given (nat_lt n (2 ^ 64)) n test) ∙ h))
      | inr past ↦ past
    ]
  where
    some_none : (m : ℕ) → Some m ≡ None → ⊥
    some_none m e = cc

pub too_large : (word : List ℕ) (index number : ℕ) → index < length word → is_ascii_digit (get_or word index 0) ≡ true → number ≡ digits_value 10 (take index word)
    → given (nat_lt (number * 10 + (get_or word index 0 - 48)) (2 ^ 64)) (number * 10 + (get_or word index 0 - 48)) ≡ None → long_of word ≡ None
too_large word index number within here value e =
    let more = digits_value_next word index number (get_or word index 0 - 48) within here value refl in
    long_of-large word (index + 1) (rw (← more) (not_below (number * 10 + (get_or word index 0 - 48)) e))

pub whole_word : (word : List ℕ) (index number : ℕ) → length word ≤ index → has_no_leading_zero word ≡ true → all_ascii_digits (take index word) ≡ true → number ≡ digits_value 10 (take index word)
    → number < 2 ^ 64 → Some number ≡ long_of word
whole_word word index number past plain digits value small =
    let whole = take_all index word past in
    let all : all_ascii_digits word ≡ true = sym (ap all_ascii_digits whole) ∙ digits in
    let same : number ≡ digits_value 10 word = value ∙ ap (digits_value 10) whole in
    ap Some same ∙ sym (long_of-is word plain all (subst (λ n. n < 2 ^ 64) same small))
