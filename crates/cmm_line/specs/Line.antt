-- The command lines of the program.
use Rattle.std.specs.Prelude.{◌≤◌, ℕ, ◌^◌, ◌==◌, ◌&&◌, not, nat_le, nat_lt, Bool, false, if◌then◌else◌, List, [], ◌∷◌, length, codes, Option, Some, None, option_map, option_and_then}
use Rattle.std.specs.List.{list_any}
use Rattle.std.specs.Str.{bytes_eq, all_ascii_digits}
use Rattle.std.specs.Str.Parse.{digits_value}
use Rattle.cmm_line.specs.declared.line.Line.{Line}
use Rattle.cmm_line.specs.declared.line.Line.TheVariants.{Replay, Run, Check, Gen, Demo}
use Rattle.cmm_line.specs.Words.{is_option}

abbrev pub has_leading_zero : List ℕ → Bool
has_leading_zero [] = false
has_leading_zero (digit ∷ []) = false
has_leading_zero (first ∷ digit ∷ digits) = first == 48

-- `0`, or digits without a leading 0
abbrev pub is_decimal : List ℕ → Bool
is_decimal word = nat_lt 0 (length word) && (not (has_leading_zero word) && all_ascii_digits word)

-- the number that a word spells, below 2 to the 64th
unfoldable pub decimal_number : List ℕ → Option ℕ
decimal_number word = if is_decimal word && nat_lt (digits_value 10 word) (2 ^ 64) then Some (digits_value 10 word) else None

-- how many commands a scenario can be generated with
unfoldable pub size_of : List ℕ → Option ℕ
size_of word = option_and_then (λ size. if nat_le 8 size && nat_le size 20000 then Some size else None) (decimal_number word)

-- the number that a scenario is generated from, and how many commands it has
unfoldable pub start_and_size : List (List ℕ) → Option (ℕ × ℕ)
start_and_size [] = None
start_and_size (start ∷ []) = None
start_and_size (start ∷ size ∷ []) = option_and_then (λ from. option_map (λ count. (from, count)) (size_of size)) (decimal_number start)
start_and_size (start ∷ size ∷ word ∷ words) = None

-- no further word
abbrev pub no_more_words : Line → List (List ℕ) → Option Line
no_more_words line [] = Some line
no_more_words line (word ∷ words) = None

-- the line of a name and of the words after it
unfoldable pub line_named : List ℕ → List (List ℕ) → Option Line
line_named name words =
    if bytes_eq name (codes "replay") then no_more_words Replay words
    else if bytes_eq name (codes "run") then no_more_words Run words
    else if bytes_eq name (codes "check") then no_more_words Check words
    else if bytes_eq name (codes "gen") then option_map (λ p. Gen p.0 p.1) (start_and_size words)
    else if bytes_eq name (codes "demo") then option_map (λ p. Demo p.0 p.1) (start_and_size words)
    else None

abbrev pub line_in : List (List ℕ) → Option Line
line_in [] = None
line_in (name ∷ words) = line_named name words

-- the line that the words are; none of them begins with a hyphen
unfoldable pub line_of : List (List ℕ) → Option Line
line_of words = if list_any is_option words then None else line_in words

abbrev pub IsSize : ℕ → Type 0
IsSize size = (8 ≤ size) × (size ≤ 20000)

-- a scenario can be generated with so many commands
abbrev pub HasSize : Line → Type 0
HasSize Replay = Unit {0}
HasSize Run = Unit {0}
HasSize Check = Unit {0}
HasSize (Gen start size) = IsSize size
HasSize (Demo start size) = IsSize size

-- the first word is `run`
abbrev pub begins_run : List (List ℕ) → Bool
begins_run [] = false
begins_run (word ∷ words) = bytes_eq word (codes "run")

-- the line, where it is `run`
abbrev pub run_line : Option Line → Option Line
run_line None = None
run_line (Some Replay) = None
run_line (Some Run) = Some Run
run_line (Some Check) = None
run_line (Some (Gen start size)) = None
run_line (Some (Demo start size)) = None

-- the line, where it is another one than `run`
abbrev pub other_line : Option Line → Option Line
other_line None = None
other_line (Some Replay) = Some Replay
other_line (Some Run) = None
other_line (Some Check) = Some Check
other_line (Some (Gen start size)) = Some (Gen start size)
other_line (Some (Demo start size)) = Some (Demo start size)
