-- The words of a line, as the parser takes them.
use Rattle.std.specs.Prelude.{◌≡◌, ◌⊎◌, ◌<◌, ℕ, ◌==◌, List, [], ◌∷◌, ◌++◌, length, Bool, false, Option, Some, None}
use Rattle.std.specs.Borrow.{Bor}
use Rattle.cmm_line.specs.declared.words.Words.{Words}

-- a word that begins with a hyphen
abbrev pub is_option : List ℕ → Bool
is_option [] = false
is_option (c ∷ word) = c == 45

abbrev pub if_there : Option (Bor (List ℕ)) → List (List ℕ)
if_there None = []
if_there (Some word) = word.now ∷ []

-- the words behind the first
abbrev pub rest_of : Words → List (List ℕ)
rest_of read = if_there read.start ++ if_there read.size

-- the parser takes one to three words
abbrev pub Takes : List (List ℕ) → Option Words → Type 0
Takes words None = (words ≡ []) ⊎ (3 < length words)
Takes words (Some read) = words ≡ read.name.now ∷ rest_of read
