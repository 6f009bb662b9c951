-- Calls of a pager keep the count of planned failures, whatever numbers are planned.
use Rattle.std.specs.Prelude.{ℕ, zero, suc}
use Rattle.std.proofs.Common.{sym, subst}
use Rattle.cmm_io.specs.FailurePlan.{FailurePlan}
use Rattle.cmm_io.specs.Counted.{IsCounted}
use Rattle.cmm_io.proofs.Counted.{counted-next}
use Rattle.cmm_io.proofs.KeepsCount.{KeepsCount}
use Rattle.host_shared.specs.PagerCalls.{after_calls, PagerCalled}

count_calls : (calls : ℕ) (plan : FailurePlan) → KeepsCount plan (after_calls calls plan)
count_calls zero plan numbers few counted = counted
count_calls (suc calls) plan numbers few counted = counted-next numbers (after_calls calls plan) few (count_calls calls plan numbers few counted)

pub count_called : (before after : FailurePlan) → PagerCalled before after → KeepsCount before after
count_called before after (calls, is) numbers few counted = subst (IsCounted numbers) (sym is) (count_calls calls before numbers few counted)
