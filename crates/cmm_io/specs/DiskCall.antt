-- The calls of a disk, each with its answer.
use Rattle.std.specs.Prelude.{ℕ, List, Result}
use Rattle.cmm_io.specs.declared.failed.Failed.{Failed}

-- a read with its answer and the bytes that the buffer holds then; a write with its bytes and its answer
pub data DiskCall : Type 0 where
  Read : (block : ℕ) → Result Unit Failed → List ℕ → DiskCall
  Write : (block : ℕ) → List ℕ → Result Unit Failed → DiskCall
