-- Bytes in hexadecimal: which bytes they give back, and that no line feed stands in them.
use Rattle.std.proofs.Common.{◌≡◌, ◌∙◌, ℕ, ◌/◌, ◌%◌, ◌<◌, ◌≤◌, List, [], ◌∷◌, get_or, refl, ap, arith}
use Rattle.std.proofs.lemmas.Bool.Decides.{nat_tests}
use Rattle.cmm_report.specs.Texts.{hex_digit, hex_text}
use Rattle.cmm_report.proofs.Splits.{head_same, tail_same, IsFree}

hex_digit-low : (n : ℕ) → 48 ≤ hex_digit n
hex_digit-low n = grind (arith, nat_tests)

hex_digit-same : (n m : ℕ) → hex_digit n ≡ hex_digit m → n ≡ m
hex_digit-same n m e = grind (arith, nat_tests)

pub IsFree-hex : (byte : ℕ) → byte < 48 → (bytes : List ℕ) → IsFree byte (hex_text bytes)
IsFree-hex byte low [] = tt
IsFree-hex byte low (b ∷ bytes) =
    ((λ same. absurd (omega (arith, hex_digit-low (b / 16), same))), ((λ same. absurd (omega (arith, hex_digit-low (b % 16), same))), IsFree-hex byte low bytes))

byte_same : (x y : ℕ) → hex_digit (x / 16) ≡ hex_digit (y / 16) → hex_digit (x % 16) ≡ hex_digit (y % 16) → x ≡ y
byte_same x y high low =
    let above : x / 16 ≡ y / 16 = hex_digit-same (x / 16) (y / 16) high in
    let below : x % 16 ≡ y % 16 = hex_digit-same (x % 16) (y % 16) low in
    omega arith

pub hex_text-same : (a b : List ℕ) → hex_text a ≡ hex_text b → a ≡ b
hex_text-same [] [] e = refl
hex_text-same [] (y ∷ b) e = absurd (omega (arith, hex_digit-low (y / 16), ap (λ l. get_or l 0 0) e))
hex_text-same (x ∷ a) [] e = absurd (omega (arith, hex_digit-low (x / 16), ap (λ l. get_or l 0 0) e))
hex_text-same (x ∷ a) (y ∷ b) e =
    let high = head_same (hex_digit (x / 16)) (hex_digit (y / 16)) (hex_digit (x % 16) ∷ hex_text a) (hex_digit (y % 16) ∷ hex_text b) e in
    let rest = tail_same (hex_digit (x / 16)) (hex_digit (y / 16)) (hex_digit (x % 16) ∷ hex_text a) (hex_digit (y % 16) ∷ hex_text b) e in
    let low = head_same (hex_digit (x % 16)) (hex_digit (y % 16)) (hex_text a) (hex_text b) rest in
    let more = tail_same (hex_digit (x % 16)) (hex_digit (y % 16)) (hex_text a) (hex_text b) rest in
    ap (λ z. z ∷ a) (byte_same x y high low) ∙ ap (λ t. y ∷ t) (hex_text-same a b more)
