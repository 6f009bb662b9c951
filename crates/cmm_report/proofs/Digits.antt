-- The digits in base 16 are those of the table that `hex` writes with.
use Rattle.std.proofs.Common.{◌≡◌, ℕ, zero, suc, ◌/◌, ◌%◌, ◌<◌, ◌==◌, Bool, true, false, ◌&&◌, inl, inr, List, [], ◌∷◌, slice_index, refl, sym, ap, arith}
use Rattle.std.proofs.lemmas.Bool.{and_parts, cases_lt, eqb-true}
use Rattle.hex.specs.Hex.{IsBytes, encode_lower, encode_with, lower_digits}
use Rattle.cmm_report.specs.Texts.{hex_digit, hex_text}

-- the test of one digit, which computes
abbrev is_digit : ℕ → Bool
is_digit d = slice_index lower_digits d == hex_digit d

-- the test of the first n digits
abbrev are_digits : ℕ → Bool
are_digits zero = true
are_digits (suc n) = is_digit n && are_digits n

are_digits-at : (n d : ℕ) → are_digits n ≡ true → d < n → is_digit d ≡ true
are_digits-at zero d h below = absurd (omega arith)
are_digits-at (suc n) d h below =
    let parts = and_parts (is_digit n) (are_digits n) h in
    elim (cases_lt d n) [
      | inl less ↦ are_digits-at n d parts.1 less
      | inr last ↦
          let e : d ≡ n = omega arith in
          rw e parts.0
    ]

digit_is : (d : ℕ) → d < 16 → slice_index lower_digits d ≡ hex_digit d
digit_is d below = eqb-true (slice_index lower_digits d) (hex_digit d) (are_digits-at 16 d refl below)

pub encoded-is : (bytes : List ℕ) → IsBytes bytes → encode_lower bytes ≡ hex_text bytes
unfolding encode_with
encoded-is [] fits = refl
encoded-is (b ∷ bytes) fits =
    let small : b < 256 = fits 0 in
    let high = digit_is (b / 16) (omega arith) in
    let low = digit_is (b % 16) (omega arith) in
    let rest = encoded-is bytes (λ k. fits (suc k)) in
    rw (high, low, rest) refl
