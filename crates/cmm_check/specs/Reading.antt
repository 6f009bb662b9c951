-- How the words of a line are read: what stands before a byte, numbers, bytes, and names.
use Rattle.std.specs.Prelude.{ℕ, ◌+◌, ◌^◌, ◌==◌, ◌&&◌, Bool, true, false, not, nat_lt, nat_le, if◌then◌else◌, List, [], ◌∷◌, length, take, drop, Option, Some, None, Result, Ok, Err, position}
use Rattle.std.specs.List.{list_any}
use Rattle.std.specs.Char.{is_ascii_uppercase}
use Rattle.std.specs.Str.{bytes_eq, all_ascii_digits}
use Rattle.std.specs.Str.Parse.{digits_value}
use Rattle.hex.specs.Hex.{decode_of}
use Rattle.hex.specs.declared.error.FromHexError.{FromHexError}
use Rattle.cmm_types.specs.declared.bytes.TheConstants.{MAX_BYTES}

-- the second step, where the first one read something
abbrev pub if_read : {A B : Type 0} → Option A → (A → Option B) → Option B
if_read None f = None
if_read (Some x) f = f x

-- something, where a test holds
abbrev pub given : {A : Type 0} → Bool → A → Option A
given holds x = if holds then Some x else None

abbrev pub parts_at : List ℕ → ℕ → List ℕ × List ℕ
parts_at text at = (take at text, drop (at + 1) text)

-- the text before the first such byte, and the text behind it; nothing where there is no such byte
unfoldable pub cut : ℕ → List ℕ → Option (List ℕ × List ℕ)
cut byte text =
    if_read (position (λ other. other == byte) text) λ at.
    Some (parts_at text at)

-- the text behind these first bytes; nothing where it begins otherwise
unfoldable pub without_front : List ℕ → List ℕ → Option (List ℕ)
without_front front text = given (bytes_eq (take (length front) text) front) (drop (length front) text)

-- one byte or more, of which the first is a `0` only where it is the only one
abbrev pub has_no_leading_zero : List ℕ → Bool
has_no_leading_zero [] = false
has_no_leading_zero (digit ∷ []) = true
has_no_leading_zero (first ∷ digit ∷ digits) = not (first == 48)

-- the number that a word of digits without a leading zero spells, below 2 to the 64th
unfoldable pub long_of : List ℕ → Option ℕ
long_of word = given (has_no_leading_zero word && all_ascii_digits word && nat_lt (digits_value 10 word) (2 ^ 64)) (digits_value 10 word)

-- the same below 2 to the 32nd
unfoldable pub numeral_of : List ℕ → Option ℕ
numeral_of word =
    if_read (long_of word) λ number.
    given (nat_lt number (2 ^ 32)) number

-- two numbers and the space between them
unfoldable pub two_numbers : List ℕ → Option (ℕ × ℕ)
two_numbers text =
    if_read (cut 32 text) λ parts.
    if_read (numeral_of parts.0) λ first.
    if_read (numeral_of parts.1) λ second.
    Some (first, second)

-- three numbers, parted by spaces
unfoldable pub three_numbers : List ℕ → Option (ℕ × (ℕ × ℕ))
three_numbers text =
    if_read (cut 32 text) λ parts.
    if_read (numeral_of parts.0) λ first.
    if_read (two_numbers parts.1) λ others.
    Some (first, others)

abbrev pub decoded : Result (List ℕ) FromHexError → Option (List ℕ)
decoded (Ok bytes) = Some bytes
decoded (Err e) = None

-- 1 to 64 bytes in hexadecimal, in lower case
unfoldable pub hex_bytes : List ℕ → Option (List ℕ)
hex_bytes digits =
    if list_any is_ascii_uppercase digits then None
    else if nat_le 1 (length digits) && nat_le (length digits) (MAX_BYTES + MAX_BYTES) then decoded (decode_of digits)
    else None

-- the first of these that has this text
abbrev pub first_named : {A : Type 0} → (A → List ℕ) → List ℕ → List A → Option A
first_named text_of text [] = None
first_named text_of text (x ∷ xs) = if bytes_eq text (text_of x) then Some x else first_named text_of text xs
