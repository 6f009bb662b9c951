-- What is read is what was written: a cut, numbers, bytes and names, both ways.
use Rattle.std.proofs.Common.{◌≡◌, ◌∙◌, ℕ, zero, suc, ◌+◌, ◌^◌, ◌<◌, List, [], ◌∷◌, ◌++◌, Bool, true, false, cond, Option, Some, None, inl, inr, length, get_or, take}
use Rattle.std.proofs.Common.{drop, refl, sym, ap, subst, arith, length-append}
use Rattle.std.specs.Prelude.{◌&&◌, nat_eq, nat_lt, decimal, position}
use Rattle.std.specs.List.{AllByRecursion, position_or_len, before_first, after_first}
use Rattle.std.specs.Str.{bytes_eq, all_ascii_digits}
use Rattle.std.specs.Str.Parse.{digits_value}
use Rattle.std.proofs.Math.Seq.{take-append_seam, drop-append_seam}
use Rattle.std.proofs.lemmas.Bool.{and_parts, cases_eq, cases_lt, eqb-true, eq-eqb, ne_eqb, le-ltb, lt-ltb, ltb-true}
use Rattle.std.proofs.lemmas.List.{take-append-drop}
use Rattle.std.proofs.lemmas.List.Sums.{split_at_first, passes_at_first}
use Rattle.std.proofs.lemmas.Slice.Eq.{bytes_eq-Decides}
use Rattle.std.proofs.lemmas.Str.Parse.{numerals_by_value, tells_all_ascii_digits}
use Rattle.std.proofs.lemmas.Fmt.{digits_decimal, digits_value-decimal, decimal-digits_value, decimal_nonempty, first_decimal, decimal_digit}
use Rattle.std.proofs.lemmas.Option.{same_Some}
use Rattle.cmm_report.proofs.Splits.{IsFree, IsFree-decimal}
use Rattle.cmm_check.specs.Reading.{if_read, given, parts_at, cut, without_front, has_no_leading_zero, long_of, numeral_of, two_numbers, three_numbers, first_named}
use Rattle.cmm_check.proofs.Digits.{long_of-is}

-- ---- steps

pub then_some : {A B : Type 0} (o : Option A) (f : A → Option B) (x : A) (y : Option B) → o ≡ Some x → f x ≡ y → if_read o f ≡ y
then_some o f x y e h = rw e h

pub some_then : {A B : Type 0} (o : Option A) (f : A → Option B) (y : B) → if_read o f ≡ Some y → (x : A) × (o ≡ Some x) × (f x ≡ Some y)
some_then None f y h = cc h
some_then (Some x) f y h = (x, refl, h)

pub not_some : {A P : Type 0} (x : A) → None ≡ Some x → P
not_some x e = cc

pub given_holds : {A : Type 0} (b : Bool) (x y : A) → given b x ≡ Some y → (b ≡ true) × (x ≡ y)
given_holds true x y h = (refl, cc h)
given_holds false x y h = cc h

pub given_true : {A : Type 0} (b : Bool) (x : A) → b ≡ true → given b x ≡ Some x
given_true true x h = refl
given_true false x h = cc h

pub same_bytes : (a b : List ℕ) → bytes_eq a b ≡ true → a ≡ b
same_bytes a b h = (bytes_eq-Decides a b).0 h

pub bytes_same : (a b : List ℕ) → a ≡ b → bytes_eq a b ≡ true
bytes_same a b h = (bytes_eq-Decides a b).1 h

-- ---- cuts

abbrev is_byte : ℕ → ℕ → Bool
is_byte byte other = nat_eq other byte

stops : (byte : ℕ) (front rest : List ℕ) → IsFree byte front → position_or_len (is_byte byte) (front ++ (byte ∷ rest)) ≡ length front
stops byte [] rest free = let here : nat_eq byte byte ≡ true = eq-eqb byte byte refl in rw here refl
stops byte (c ∷ front) rest free =
    let other : nat_eq c byte ≡ false = ne_eqb c byte free.0 in
    let later = stops byte front rest free.1 in
    rw other (omega (arith, later))

placed : (byte : ℕ) (front rest : List ℕ) → IsFree byte front → position (is_byte byte) (front ++ (byte ∷ rest)) ≡ Some (length front)
placed byte front rest free =
    let at = stops byte front rest free in
    let within : nat_lt (length front) (length (front ++ (byte ∷ rest))) ≡ true = lt-ltb _ _ (omega (arith, length-append front (byte ∷ rest))) in
    rw at (rw within refl)

behind_byte : (byte : ℕ) (front rest : List ℕ) → drop (length front + 1) (front ++ (byte ∷ rest)) ≡ rest
behind_byte byte [] rest = refl
behind_byte byte (c ∷ front) rest = let e : suc (length front) + 1 ≡ suc (length front + 1) = omega arith in rw e (behind_byte byte front rest)

-- what stands before the first such byte
pub cut-append : (byte : ℕ) (front rest : List ℕ) → IsFree byte front → cut byte (front ++ (byte ∷ rest)) ≡ Some (front, rest)
unfolding cut
cut-append byte front rest free =
    let text = front ++ (byte ∷ rest) in
    let before : take (length front) text ≡ front = take-append_seam front (byte ∷ rest) in
    let after : drop (length front + 1) text ≡ rest = behind_byte byte front rest in
    then_some (position (is_byte byte) text) (λ at. Some (parts_at text at)) (length front) _ (placed byte front rest free)
    (ap (λ f. Some (f, drop (length front + 1) text)) before ∙ ap (λ r. Some (front, r)) after)

all_free : (byte : ℕ) (text : List ℕ) → IsFree byte text → position_or_len (is_byte byte) text ≡ length text
all_free byte [] free = refl
all_free byte (c ∷ text) free =
    let other : nat_eq c byte ≡ false = ne_eqb c byte free.0 in
    let later = all_free byte text free.1 in
    rw other (omega (arith, later))

pub cut-none : (byte : ℕ) (text : List ℕ) → IsFree byte text → cut byte text ≡ None
unfolding cut
cut-none byte text free =
    let at = all_free byte text free in
    let past : nat_lt (length text) (length text) ≡ false = le-ltb (length text) (length text) (omega arith) in
    rw at (rw past refl)

free_before : (byte : ℕ) (text : List ℕ) → IsFree byte (take (position_or_len (is_byte byte) text) text)
free_before byte [] = tt
free_before byte (c ∷ text) =
    elim (cases_eq c byte) [
      | inl same ↦ let here : nat_eq c byte ≡ true = eq-eqb c byte same in rw here tt
      | inr other ↦
          let here : nat_eq c byte ≡ false = ne_eqb c byte other in
          let e : 1 + position_or_len (is_byte byte) text ≡ suc (position_or_len (is_byte byte) text) = omega arith in
          rw here (rw e (other, free_before byte text))
    ]

pub record IsCut (byte : ℕ) (text front rest : List ℕ) : Type 0 where
  pub whole : text ≡ front ++ (byte ∷ rest)
  pub free : IsFree byte front

cut_at : (byte : ℕ) (text : List ℕ) → position_or_len (is_byte byte) text < length text → IsCut byte text (before_first (is_byte byte) text) (after_first (is_byte byte) text)
cut_at byte text within =
    let here : get_or text (position_or_len (is_byte byte) text) 0 ≡ byte = eqb-true _ _ (passes_at_first (is_byte byte) text 0 within) in
    record {
      whole = split_at_first (is_byte byte) text 0 within ∙ ap (λ c. before_first (is_byte byte) text ++ (c ∷ after_first (is_byte byte) text)) here;
      free = free_before byte text;
    }

found : (byte : ℕ) (text front rest : List ℕ) → position_or_len (is_byte byte) text < length text → parts_at text (position_or_len (is_byte byte) text) ≡ (front, rest) → IsCut byte text front rest
found byte text front rest within parts =
    let first : before_first (is_byte byte) text ≡ front = ap (λ (p : List ℕ × List ℕ). p.0) parts in
    let second : after_first (is_byte byte) text ≡ rest = ap (λ (p : List ℕ × List ℕ). p.1) parts in
    subst (λ f. IsCut byte text f rest) first (subst (λ r. IsCut byte text (before_first (is_byte byte) text) r) second (cut_at byte text within))

pub cut-parts : (byte : ℕ) (text front rest : List ℕ) → cut byte text ≡ Some (front, rest) → IsCut byte text front rest
unfolding cut
cut-parts byte text front rest e =
    elim (cases_lt (position_or_len (is_byte byte) text) (length text)) [
      | inl within ↦
          let test : nat_lt (position_or_len (is_byte byte) text) (length text) ≡ true = lt-ltb _ _ within in
          found byte text front rest within (same_Some _ _ (rw test at e))
      | inr past ↦
          let test : nat_lt (position_or_len (is_byte byte) text) (length text) ≡ false = le-ltb _ _ past in
          not_some _ (rw test at e)
    ]

-- ---- first bytes

pub without_front-append : (front rest : List ℕ) → without_front front (front ++ rest) ≡ Some rest
unfolding without_front
without_front-append front rest =
    let first : take (length front) (front ++ rest) ≡ front = take-append_seam front rest in
    let after : drop (length front) (front ++ rest) ≡ rest = drop-append_seam front rest in
    given_true (bytes_eq (take (length front) (front ++ rest)) front) (drop (length front) (front ++ rest)) (bytes_same _ _ first) ∙ ap Some after

pub without_front-is : (front text rest : List ℕ) → without_front front text ≡ Some rest → text ≡ front ++ rest
unfolding without_front
without_front-is front text rest e =
    let holds = given_holds (bytes_eq (take (length front) text) front) (drop (length front) text) rest e in
    sym (take-append-drop (length front) text) ∙ ap (λ f. f ++ drop (length front) text) (same_bytes (take (length front) text) front holds.0) ∙ ap (λ r. front ++ r) holds.1

-- ---- numbers

no_leading_zero : (ds : List ℕ) → 0 < length ds → 48 < get_or ds 0 0 → has_no_leading_zero ds ≡ true
no_leading_zero [] some first = absurd (omega arith)
no_leading_zero (d ∷ []) some first = refl
no_leading_zero (d ∷ e ∷ ds) some first = let other : nat_eq d 48 ≡ false = ne_eqb d 48 (λ h. omega arith) in rw other refl

plain_decimal : (n : ℕ) → n < 2 ^ 64 → has_no_leading_zero (decimal n) ≡ true
plain_decimal zero small = rw (decimal_digit 0 (omega arith)) refl
plain_decimal (suc n) small = no_leading_zero (decimal (suc n)) (decimal_nonempty (suc n) (omega arith)) (first_decimal (suc n) (omega arith) (omega arith))

decimal_value : (n : ℕ) → n < 2 ^ 64 → digits_value 10 (decimal n) ≡ n
decimal_value n small = digits_value-decimal (numerals_by_value _ tells_all_ascii_digits) n small

pub long_of-decimal : (n : ℕ) → n < 2 ^ 64 → long_of (decimal n) ≡ Some n
long_of-decimal n small =
    let value = decimal_value n small in
    long_of-is (decimal n) (plain_decimal n small) (digits_decimal (numerals_by_value _ tells_all_ascii_digits) n (omega arith)) (omega (arith, value)) ∙ ap Some value

single : (ds : List ℕ) → has_no_leading_zero ds ≡ true → get_or ds 0 0 ≡ 48 → length ds ≡ 1
single [] plain zero_first = cc
single (d ∷ []) plain zero_first = refl
single (d ∷ e ∷ ds) plain zero_first =
    let test : nat_eq d 48 ≡ true = eq-eqb d 48 zero_first in
    let bad : false ≡ true = rw test at plain in
    cc

some_digit : (ds : List ℕ) → has_no_leading_zero ds ≡ true → 0 < length ds
some_digit [] plain = cc
some_digit (d ∷ ds) plain = omega arith

pub long_of-read : (word : List ℕ) (n : ℕ) → long_of word ≡ Some n → (word ≡ decimal n) × (n < 2 ^ 64)
unfolding long_of
long_of-read word n e =
    let holds = given_holds (has_no_leading_zero word && all_ascii_digits word && nat_lt (digits_value 10 word) (2 ^ 64)) (digits_value 10 word) n e in
    let tests = and_parts (has_no_leading_zero word && all_ascii_digits word) (nat_lt (digits_value 10 word) (2 ^ 64)) holds.0 in
    let front = and_parts (has_no_leading_zero word) (all_ascii_digits word) tests.0 in
    let small : digits_value 10 word < 2 ^ 64 = ltb-true (digits_value 10 word) (2 ^ 64) tests.1 in
    let back = decimal-digits_value (numerals_by_value _ tells_all_ascii_digits) word front.1 (some_digit word front.0) (single word front.0) small in
    (sym back ∙ ap decimal holds.1, subst (λ m. m < 2 ^ 64) holds.1 small)

pub numeral_of-decimal : (n : ℕ) → n < 2 ^ 32 → numeral_of (decimal n) ≡ Some n
unfolding numeral_of
numeral_of-decimal n small = then_some (long_of (decimal n)) (λ m. given (nat_lt m (2 ^ 32)) m) n _ (long_of-decimal n (omega arith)) (given_true (nat_lt n (2 ^ 32)) n (lt-ltb n (2 ^ 32) small))

pub numeral_of-read : (word : List ℕ) (n : ℕ) → numeral_of word ≡ Some n → (word ≡ decimal n) × (n < 2 ^ 32)
unfolding numeral_of
numeral_of-read word n e =
    let step = some_then (long_of word) (λ m. given (nat_lt m (2 ^ 32)) m) n e in
    let holds = given_holds (nat_lt step.0 (2 ^ 32)) step.0 n step.2 in
    let small : step.0 < 2 ^ 32 = ltb-true step.0 (2 ^ 32) holds.0 in
    ((long_of-read word step.0 step.1).0 ∙ ap decimal holds.1, subst (λ m. m < 2 ^ 32) holds.1 small)

free_number : (n : ℕ) → IsFree 32 (decimal n)
free_number n = IsFree-decimal 32 (omega arith) n

pub two_numbers-text : (a b : ℕ) → a < 2 ^ 32 → b < 2 ^ 32 → two_numbers (decimal a ++ (32 ∷ decimal b)) ≡ Some (a, b)
unfolding two_numbers
two_numbers-text a b sa sb =
    then_some _ _ (decimal a, decimal b) _ (cut-append 32 (decimal a) (decimal b) (free_number a))
    (then_some _ _ a _ (numeral_of-decimal a sa) (then_some _ _ b _ (numeral_of-decimal b sb) refl))

pub record AreTwo (text : List ℕ) (a b : ℕ) : Type 0 where
  pub text_of : text ≡ decimal a ++ (32 ∷ decimal b)
  pub first : a < 2 ^ 32
  pub second : b < 2 ^ 32

pub two_numbers-read : (text : List ℕ) (a b : ℕ) → two_numbers text ≡ Some (a, b) → AreTwo text a b
unfolding two_numbers
two_numbers-read text a b e =
    let parts = some_then (cut 32 text) _ (a, b) e in
    let first = some_then (numeral_of parts.0.0) _ (a, b) parts.2 in
    let second = some_then (numeral_of parts.0.1) _ (a, b) first.2 in
    let whole = cut-parts 32 text parts.0.0 parts.0.1 parts.1 in
    let one = numeral_of-read parts.0.0 first.0 first.1 in
    let two = numeral_of-read parts.0.1 second.0 second.1 in
    let pair = same_Some _ _ second.2 in
    let x : first.0 ≡ a = ap (λ (p : ℕ × ℕ). p.0) pair in
    let y : second.0 ≡ b = ap (λ (p : ℕ × ℕ). p.1) pair in
    subst (λ m. AreTwo text m b) x
    (subst (λ m. AreTwo text first.0 m) y
    (record { text_of = whole.whole ∙ ap (λ t. t ++ (32 ∷ parts.0.1)) one.0 ∙ ap (λ t. decimal first.0 ++ (32 ∷ t)) two.0; first = one.1; second = two.1 }))

pub three_numbers-text : (a b c : ℕ) → a < 2 ^ 32 → b < 2 ^ 32 → c < 2 ^ 32 → three_numbers (decimal a ++ (32 ∷ (decimal b ++ (32 ∷ decimal c)))) ≡ Some (a, (b, c))
unfolding three_numbers
three_numbers-text a b c sa sb sc =
    then_some _ _ (decimal a, decimal b ++ (32 ∷ decimal c)) _ (cut-append 32 (decimal a) (decimal b ++ (32 ∷ decimal c)) (free_number a))
    (then_some _ _ a _ (numeral_of-decimal a sa) (then_some _ _ (b, c) _ (two_numbers-text b c sb sc) refl))

pub record AreThree (text : List ℕ) (a b c : ℕ) : Type 0 where
  pub text_of : text ≡ decimal a ++ (32 ∷ (decimal b ++ (32 ∷ decimal c)))
  pub first : a < 2 ^ 32
  pub second : b < 2 ^ 32
  pub third : c < 2 ^ 32

pub three_numbers-read : (text : List ℕ) (a b c : ℕ) → three_numbers text ≡ Some (a, (b, c)) → AreThree text a b c
unfolding three_numbers
three_numbers-read text a b c e =
    let parts = some_then (cut 32 text) _ (a, (b, c)) e in
    let first = some_then (numeral_of parts.0.0) _ (a, (b, c)) parts.2 in
    let others = some_then (two_numbers parts.0.1) _ (a, (b, c)) first.2 in
    let whole = cut-parts 32 text parts.0.0 parts.0.1 parts.1 in
    let one = numeral_of-read parts.0.0 first.0 first.1 in
    let all = same_Some _ _ others.2 in
    let x : first.0 ≡ a = ap (λ (p : ℕ × (ℕ × ℕ)). p.0) all in
    let rest = ap (λ (p : ℕ × (ℕ × ℕ)). p.1) all in
    let read : two_numbers parts.0.1 ≡ Some (b, c) = others.1 ∙ ap Some rest in
    let two = two_numbers-read parts.0.1 b c read in
    subst (λ m. AreThree text m b c) x
    (record { text_of = whole.whole ∙ ap (λ t. t ++ (32 ∷ parts.0.1)) one.0 ∙ ap (λ t. decimal first.0 ++ (32 ∷ t)) two.text_of; first = one.1; second = two.first; third = two.second })

-- ---- names

pub first_named-text : {A : Type 0} (text_of : A → List ℕ) (text : List ℕ) (xs : List A) (x : A) → first_named text_of text xs ≡ Some x → text ≡ text_of x
first_named-text text_of text [] x e = cc e
first_named-text {A} text_of text (y ∷ ys) x e = at (bytes_eq text (text_of y)) refl (first_named-text text_of text ys x) e
  where
    at : (b : Bool) → bytes_eq text (text_of y) ≡ b → (first_named text_of text ys ≡ Some x → text ≡ text_of x) → cond b (Some y) (first_named text_of text ys) ≡ Some x → text ≡ text_of x
    at true test more same = same_bytes text (text_of y) test ∙ ap text_of (same_Some y x same)
    at false test more later = more later

-- what holds of all names holds of the one that is found
pub first_named-all : {A : Type 0} (P : A → Type 0) (text_of : A → List ℕ) (text : List ℕ) (xs : List A) (x : A) → AllByRecursion P xs → first_named text_of text xs ≡ Some x → P x
first_named-all P text_of text [] x all e = cc e
first_named-all P text_of text (y ∷ ys) x all e = at (bytes_eq text (text_of y)) (first_named-all P text_of text ys x all.1) e
  where
    at : (b : Bool) → (first_named text_of text ys ≡ Some x → P x) → cond b (Some y) (first_named text_of text ys) ≡ Some x → P x
    at true more same = subst P (same_Some y x same) all.0
    at false more later = more later
