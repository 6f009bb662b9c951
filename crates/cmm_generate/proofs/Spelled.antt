-- The end of a text that is written word by word.
use Rattle.std.proofs.Common.{◌≡◌, ℕ, List, [], ◌++◌, append-nil}

pub text_end : (word : List ℕ) → word ++ [] ≡ word
text_end word = append-nil word
