use Rattle.std.proofs.Common.{List, ℕ, ◌≡◌, true, take, ◌<◌, ◌^◌}
use Rattle.std.specs.Str.{all_ascii_digits}
use Rattle.std.specs.Str.Parse.{digits_value}
use Rattle.cmm_check.proofs.reading.read_long.Given as goal

pub record Passed (word : List ℕ) (index number : ℕ) : Type 0 where
  pub digits : all_ascii_digits (take index word) ≡ true
  pub value : number ≡ digits_value 10 (take index word)
  pub small : number < 2 ^ 64

abbrev pub invariant-loop-digit : goal.invariant-loop-digit
invariant-loop-digit l = Passed l.word l.digit-index l.number
