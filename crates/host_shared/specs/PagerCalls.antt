-- Calls of the pager that a storage makes.
use Rattle.std.specs.Prelude.{◌≡◌, ℕ, zero, suc, List, Result}
use Rattle.cmm_io.specs.FailurePlan.{FailurePlan, after_next}
use Rattle.cmm_io.specs.declared.failed.Failed.{Failed}
use Rattle.cmm_pager.specs.PagerCall.{PagerCall, Get}

-- the plan after so many calls
abbrev pub after_calls : ℕ → FailurePlan → FailurePlan
after_calls zero plan = plan
after_calls (suc n) plan = after_next (after_calls n plan)

-- the pager was called some number of times
abbrev pub PagerCalled : FailurePlan → FailurePlan → Type 0
PagerCalled before after = (calls : ℕ) × (after ≡ after_calls calls before)

-- one get, which was good or failed
module _ {P B : Type 0} (step : P → PagerCall B → P → Type 0) where
  abbrev pub GetsOnce : P → P → Type 0
  GetsOnce p q = (block : B) × (answer : Result Unit Failed) × (bytes : List ℕ) × step p (Get block answer bytes) q
