-- The words of a command or an event, which single spaces part, and the numbers and bytes that they spell.
use Rattle.std.specs.Prelude.{ℕ, ◌*◌, ◌==◌, ◌&&◌, Bool, true, false, not, nat_le, if◌then◌else◌, List, [], ◌∷◌, length, take, drop, Result, Ok, Err, position, unwrap_or}
use Rattle.std.specs.Str.{all_ascii_digits}
use Rattle.std.specs.Str.Parse.{digits_value}
use Rattle.cmm_types.specs.declared.bytes.TheConstants.{MAX_BYTES}
use Rattle.hex.specs.Hex.{decode_of}
use Rattle.hex.specs.declared.error.FromHexError.{FromHexError}
use Rattle.cmm_scenario.specs.declared.fault.Kind.{Kind}
use Rattle.cmm_scenario.specs.declared.fault.Kind.TheVariants.{Text, Range}
use Rattle.cmm_scenario.specs.Outcome.{◌>>=◌, checked}

abbrev pub is_space : ℕ → Bool
is_space c = c == 32

-- the text up to its first space, and the text from there on
unfoldable pub leading_word : List ℕ → List ℕ
leading_word text = take (unwrap_or (position is_space text) (length text)) text

unfoldable pub after_word : List ℕ → List ℕ
after_word text = drop (unwrap_or (position is_space text) (length text)) text

-- The word behind a space, and the text after it. What stands after a word is empty or begins with a space.
unfoldable pub take_word : List ℕ → Result (List ℕ × List ℕ) Kind
take_word [] = Err Text
take_word (space ∷ text) = if is_space space then Ok (leading_word text, after_word text) else Err Text

-- one to ten bytes, of which the first is a 0 only where it is the only one
abbrev pub has_number_size : List ℕ → Bool
has_number_size [] = false
has_number_size (digit ∷ []) = true
has_number_size (first ∷ digit ∷ digits) = not (first == 48) && nat_le (length (digit ∷ digits)) 9

-- `0`, or at most ten digits without a leading 0
unfoldable pub word_number : List ℕ → Result ℕ Kind
word_number word = if has_number_size word then (if all_ascii_digits word then Ok (digits_value 10 word) else Err Text) else Err Text

-- a number, and the text after it
unfoldable pub take_number : List ℕ → Result (ℕ × List ℕ) Kind
take_number text = do
  word ← take_word text
  number ← word_number word.0
  Ok (number, word.1)

abbrev pub or_fault : {A : Type 0} → Kind → Result A FromHexError → Result A Kind
or_fault fault (Ok x) = Ok x
or_fault fault (Err e) = Err fault

-- 2 to 128 hexadecimal digits of either case, an even number
unfoldable pub word_bytes : List ℕ → Result (List ℕ) Kind
word_bytes digits = if nat_le 1 (length digits) && nat_le (length digits) (2 * MAX_BYTES) then or_fault Text (decode_of digits) else Err Text

-- bytes, and the text after them
unfoldable pub take_bytes : List ℕ → Result (List ℕ × List ℕ) Kind
take_bytes text = do
  word ← take_word text
  bytes ← word_bytes word.0
  Ok (bytes, word.1)

-- the text ends here
unfoldable pub take_end : List ℕ → Result (Unit {0}) Kind
take_end [] = Ok tt
take_end (c ∷ text) = Err Text

-- a number that lies in its range, both ends included
unfoldable pub within : ℕ → ℕ → ℕ → Result ℕ Kind
within low high n = checked (nat_le low n && nat_le n high) n Range
