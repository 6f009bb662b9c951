-- What is taken from a source: the bytes that its rest loses, where it tells its rest, and the count of bytes given.
use Rattle.std.specs.Prelude.{◌≡◌, ℕ, ◌+◌, ◌-◌, ◌^◌, ◌≤◌, ◌<◌, min, max, List, length, Option, Some, None}
use Rattle.std.specs.Io.KnownBytes.{Consumes}

-- the count of bytes given after n more; it stands still at 2^64 - 1
abbrev pub given_after : ℕ → ℕ → ℕ
given_after given n = max given (min (given + n) (2 ^ 64 - 1))

-- these are all bytes of the rest, where it is told
abbrev pub IsRest : Option (List ℕ) → List ℕ → Type 0
IsRest None bytes = Unit {0}
IsRest (Some rest) bytes = bytes ≡ rest

-- the rest has more bytes than this, where it is told
abbrev pub IsLonger : Option (List ℕ) → ℕ → Type 0
IsLonger None limit = Unit {0}
IsLonger (Some rest) limit = limit < length rest

module _ {S : Type 0} (rest : S → Option (List ℕ)) (given : S → ℕ) (old new : S) where
  -- these bytes were taken: the rest began with them and has lost them, where it is told, and as many more are counted
  pub record HasTaken (bytes : List ℕ) : Type 0 where
    pub lost : Consumes (rest old) (rest new) bytes
    pub counted : given new ≡ given_after (given old) (length bytes)

  -- so many bytes were taken
  abbrev pub HasTakenCount : ℕ → Type 0
  HasTakenCount count = (bytes : List ℕ) × (length bytes ≡ count) × HasTaken bytes

  -- at most so many bytes were taken
  abbrev pub HasTakenAtMost : ℕ → Type 0
  HasTakenAtMost most = (bytes : List ℕ) × (length bytes ≤ most) × HasTaken bytes
