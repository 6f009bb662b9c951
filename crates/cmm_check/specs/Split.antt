-- Where a report begins in a text that has a scenario before it.
use Rattle.std.specs.Prelude.{ℕ, ◌+◌, ◌<◌, ◌≡◌, List, ◌∷◌, take, drop, codes}

-- a line feed, and the first words of a report
abbrev pub mark : List ℕ
mark = 10 ∷ codes "cmm2-report "

-- the mark stands at this place
abbrev pub HasMark : List ℕ → ℕ → Type 0
HasMark input at = take 13 (drop at input) ≡ mark

-- a report begins behind the first line feed that its first words follow
pub record BeginsAt (input : List ℕ) (start : ℕ) : Type 0 where
  pub feed : ℕ
  pub after_feed : start ≡ feed + 1
  pub marked : HasMark input feed
  pub first : (k : ℕ) → k < feed → HasMark input k → ⊥
