-- Counts of faults: what a rise is, where a count stands still at the end of its type.
use Rattle.std.specs.Prelude.{ℕ, ◌+◌, ◌-◌, ◌^◌, ◌≤◌, min}

-- the next count; at 2^64 - 1 it stands still
abbrev pub raised : ℕ → ℕ
raised count = min (count + 1) (2 ^ 64 - 1)

-- a count has risen between two moments; one that stands at its end counts as risen
abbrev pub HasRisen : ℕ → ℕ → Type 0
HasRisen before after = raised before ≤ after
