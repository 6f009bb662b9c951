-- Which calls fail: calls are numbered from 1, and fail where their number is planned.
use Rattle.std.specs.Prelude.{ℕ, List, Bool, ◌==◌, if◌then◌else◌}
use Rattle.std.specs.List.{list_any}
use Rattle.std.specs.Ordering.{nat_cmp}
use Rattle.std.specs.FinSet as set
use Rattle.cmm_io.specs.Faults.{raised}

-- how many calls were made, the numbers of those that are to fail, and how many failed
pub record FailurePlan : Type 0 where
  pub calls : ℕ
  pub planned : List ℕ
  pub faults : ℕ

-- these numbers, each once, in ascending order
abbrev pub in_order : List ℕ → List ℕ
in_order numbers = set.items (set.from_list {R = nat_cmp} numbers)

abbrev pub is_in : List ℕ → ℕ → Bool
is_in numbers call = list_any (λ number. number == call) numbers

-- no call was made yet
abbrev pub failure_plan_of : List ℕ → FailurePlan
failure_plan_of numbers = record { calls = 0; planned = in_order numbers; faults = 0 }

-- whether the next call's number is planned
abbrev pub fails_next : FailurePlan → Bool
fails_next plan = is_in plan.planned (raised plan.calls)

-- after one more call, which failed or didn't
abbrev pub after_call : FailurePlan → Bool → FailurePlan
after_call plan failed = record { calls = raised plan.calls; planned = plan.planned; faults = if failed then raised plan.faults else plan.faults }

-- after one more call, which failed exactly where it was planned
abbrev pub after_next : FailurePlan → FailurePlan
after_next plan = after_call plan (fails_next plan)
