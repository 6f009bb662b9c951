-- The calls of a pager, each with its answer.
use Rattle.std.specs.Prelude.{ℕ, List, Result}
use Rattle.cmm_io.specs.declared.failed.Failed.{Failed}

-- a put with the block before it, the bytes, its answer and the block after it; a get with its block, its answer
-- and the bytes that the buffer holds then
pub data PagerCall (B : Type 0) : Type 0 where
  Put : (before : B) → List ℕ → Result Unit Failed → (after : B) → PagerCall B
  Get : (block : B) → Result Unit Failed → List ℕ → PagerCall B
