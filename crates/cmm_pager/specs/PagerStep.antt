-- The pager in memory, and what each call does to it. Nothing is left free but the bytes of a get that failed.
use Rattle.std.specs.Prelude.{◌≡◌, ℕ, List, Option, Some, Ok, Err, true, false}
use Rattle.cmm_io.specs.FailurePlan.{FailurePlan, fails_next, after_next}
use Rattle.cmm_pager.specs.PagerCall.{PagerCall, Put, Get}

-- a block in memory tells the bytes that it keeps
abbrev pub block_tells : List ℕ → Option (List ℕ)
block_tells bytes = Some bytes

-- puts and gets are counted together, and a call fails exactly where it is planned; a failed put leaves its block
abbrev pub PagerStep : FailurePlan → PagerCall (List ℕ) → FailurePlan → Type 0
PagerStep p (Put before bytes (Ok done) after) q = (fails_next p ≡ false) × (after ≡ bytes) × (q ≡ after_next p)
PagerStep p (Put before bytes (Err failed) after) q = (fails_next p ≡ true) × (after ≡ before) × (q ≡ after_next p)
PagerStep p (Get block (Ok done) bytes) q = (fails_next p ≡ false) × (bytes ≡ block) × (q ≡ after_next p)
PagerStep p (Get block (Err failed) bytes) q = (fails_next p ≡ true) × (q ≡ after_next p)
