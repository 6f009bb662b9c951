-- What reading a line leaves to show.
use Rattle.std.proofs.Common.{◌≡◌, ◌∙◌, ◌<◌, ◌⊎◌, ◌&&◌, ◌^◌, ℕ, List, [], ◌∷◌, length, map, get_or, codes, Bool, true, false, not, nat_lt, Option, Some, None, Result, Ok}
use Rattle.std.proofs.Common.{Err, true≢false, lt-ltb, ltb-true, refl, sym, ap, subst, inl, inr, arith, All}
use Rattle.std.specs.Prelude.{if◌then◌else◌}
use Rattle.std.specs.List.{list_any}
use Rattle.std.specs.Str.{bytes_eq, all_ascii_digits}
use Rattle.std.specs.Str.Parse.{ParsesUnsigned, IsNumeral, digits_value, without_leading_plus}
use Rattle.std.proofs.lemmas.Str.Parse.{numerals_by_value, tells_all_ascii_digits, without_leading_plus_none}
use Rattle.std.specs.Result.{OkIff, result_ok}
use Rattle.std.proofs.lemmas.List.Folds.{list_any_at}
use Rattle.clap.proofs.WalkLemmas.{list_any-map, both}
use Rattle.cmm_line.specs.declared.line.Line.{Line}
use Rattle.cmm_line.specs.Words.{is_option}
use Rattle.cmm_line.specs.Line.{has_leading_zero, is_decimal, decimal_number, start_and_size, line_named, line_in, line_of}

-- no name has a line of these words
all_none : (a b c d e : Bool) → ◌≡◌ {A = Option Line} (if a then None else if b then None else if c then None else if d then None else if e then None else None) None
all_none true b c d e = refl
all_none false true c d e = refl
all_none false false true d e = refl
all_none false false false true e = refl
all_none false false false false true = refl
all_none false false false false false = refl

too_many : (name a b c : List ℕ) (rest : List (List ℕ)) → line_named name (a ∷ b ∷ c ∷ rest) ≡ None
unfolding line_named start_and_size
too_many name a b c rest = all_none (bytes_eq name (codes "replay")) (bytes_eq name (codes "run")) (bytes_eq name (codes "check")) (bytes_eq name (codes "gen")) (bytes_eq name (codes "demo"))

-- no words, or more than three, are no line
pub other_count : (words : List (List ℕ)) → (words ≡ []) ⊎ (3 < length words) → line_in words ≡ None
other_count [] count = refl
other_count (a ∷ []) count = absurd (elim count [ inl e ↦ (let bad : 1 ≡ 0 = ap length e in omega (arith, bad)) | inr long ↦ omega (arith, long) ])
other_count (a ∷ b ∷ []) count = absurd (elim count [ inl e ↦ (let bad : 2 ≡ 0 = ap length e in omega (arith, bad)) | inr long ↦ omega (arith, long) ])
other_count (a ∷ b ∷ c ∷ []) count = absurd (elim count [ inl e ↦ (let bad : 3 ≡ 0 = ap length e in omega (arith, bad)) | inr long ↦ omega (arith, long) ])
other_count (a ∷ b ∷ c ∷ d ∷ rest) count = too_many a b c d rest

pub no_line : (words : List (List ℕ)) → list_any is_option words ≡ false → line_in words ≡ None → None ≡ line_of words
unfolding line_of
no_line words plain none = rw plain (sym none)

pub option_line : (words : List (List ℕ)) → list_any is_option words ≡ true → None ≡ line_of words
unfolding line_of
option_line words option = rw option refl

pub named_line : (words : List (List ℕ)) (name : List ℕ) (rest : List (List ℕ)) (line : Option Line)
    → list_any is_option words ≡ false → words ≡ name ∷ rest → line ≡ line_named name rest → line ≡ line_of words
unfolding line_of
named_line words name rest line plain is named = rw plain (named ∙ sym (ap line_in is))

pub none_options : {X : Type 0} (f : X → List ℕ) (xs : List X) → list_any is_option (map f xs) ≡ false → All (λ x. is_option (f x) ≡ false) xs
none_options f xs none k d lt = go (is_option (f (get_or xs k d))) refl
  where
    go : (b : Bool) → is_option (f (get_or xs k d)) ≡ b → is_option (f (get_or xs k d)) ≡ false
    go false e = e
    go true e = absurd (true≢false (sym (list_any_at (λ x. is_option (f x)) xs k d lt e) ∙ list_any-map is_option f xs ∙ none))

-- ---- numbers

no_plus : (word : List ℕ) → all_ascii_digits word ≡ true → without_leading_plus word ≡ word
no_plus [] digits = without_leading_plus_none [] (λ e. omega (arith, e))
no_plus (c ∷ cs) digits = let range = tells_all_ascii_digits.parts c cs digits in without_leading_plus_none (c ∷ cs) (λ e. omega (arith, e, range.0))

as_decimal : {E : Type 0} (word : List ℕ) (r : Result ℕ E) → is_decimal word ≡ true → OkIff r (IsNumeral 10 word × (digits_value 10 word < 2 ^ 64)) (digits_value 10 word)
    → result_ok r ≡ decimal_number word
unfolding decimal_number
as_decimal word (Ok n) decimal reads = let small : nat_lt (digits_value 10 word) (2 ^ 64) ≡ true = lt-ltb _ _ reads.0.1 in rw (decimal, small) (ap Some reads.1)
as_decimal word (Err e) decimal fails = go (nat_lt (digits_value 10 word) (2 ^ 64)) refl
  where
    go : (b : Bool) → nat_lt (digits_value 10 word) (2 ^ 64) ≡ b → None ≡ (if is_decimal word && b then Some (digits_value 10 word) else None)
    go false small = rw decimal refl
    go true small =
        let parts = both (nat_lt 0 (length word)) (not (has_leading_zero word) && all_ascii_digits word) decimal in
        let digits = both (not (has_leading_zero word)) (all_ascii_digits word) parts.1 in
        absurd (fails ((ltb-true 0 (length word) parts.0, (numerals_by_value _ tells_all_ascii_digits).to word digits.1), ltb-true (digits_value 10 word) (2 ^ 64) small))

-- what `parse` reads of a word without a leading 0
pub parsed : {E : Type 0} (word : List ℕ) (r : Result ℕ E) → is_decimal word ≡ true → ParsesUnsigned 64 10 word r → result_ok r ≡ decimal_number word
parsed word r decimal reads =
    let parts = both (nat_lt 0 (length word)) (not (has_leading_zero word) && all_ascii_digits word) decimal in
    let digits = both (not (has_leading_zero word)) (all_ascii_digits word) parts.1 in
    as_decimal word r decimal (subst (λ w. OkIff r (IsNumeral 10 w × (digits_value 10 w < 2 ^ 64)) (digits_value 10 w)) (no_plus word digits.1) reads)
