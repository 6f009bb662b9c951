-- The source and the sink in memory.
use Rattle.std.specs.Prelude.{ℕ, ◌+◌, List, Bool, ◌||◌, nat_lt, length, min, Option, Some}
use Rattle.cmm_io.specs.FailurePlan.{FailurePlan, fails_next}

-- the bytes that are left, how many were given, how many a read gives at most, and which reads fail
pub record SourceState : Type 0 where
  pub rest : List ℕ
  pub given : ℕ
  pub piece : ℕ
  pub failures : FailurePlan

-- what it tells of its rest: all
abbrev pub told_rest : SourceState → Option (List ℕ)
told_rest source = Some source.rest

abbrev pub bytes_given : SourceState → ℕ
bytes_given source = source.given

-- how many bytes a read gives into a buffer of this size
abbrev pub read_length : SourceState → ℕ → ℕ
read_length source size = min size (min source.piece (length source.rest))

-- the bytes written, how many there may be in all, and which writes fail
pub record SinkState : Type 0 where
  pub written : List ℕ
  pub room : ℕ
  pub failures : FailurePlan

-- a write fails where it is planned, and where the piece doesn't fit the room left
abbrev pub write_fails : SinkState → List ℕ → Bool
write_fails sink piece = fails_next sink.failures || nat_lt sink.room (length sink.written + length piece)
