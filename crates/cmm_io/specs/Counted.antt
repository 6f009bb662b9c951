-- That the calls which failed are planned ones, each counted once.
use Rattle.std.specs.Prelude.{◌≡◌, ℕ, ◌+◌, ◌-◌, ◌^◌, ◌≤◌, List, [], ◌∷◌, if◌then◌else◌, nat_le}
use Rattle.cmm_io.specs.FailurePlan.{FailurePlan, in_order, is_in}

-- how many different numbers these are
abbrev pub distinct : List ℕ → ℕ
distinct [] = 0
distinct (n ∷ ns) = if is_in ns n then distinct ns else distinct ns + 1

-- how many different ones of the planned numbers are those of calls that were made
abbrev pub reached : List ℕ → ℕ → ℕ
reached [] calls = 0
reached (n ∷ ns) calls = if is_in ns n then reached ns calls else if nat_le n calls then reached ns calls + 1 else reached ns calls

-- these numbers were planned, and at most those that the calls have reached have failed
pub record IsCounted (numbers : List ℕ) (plan : FailurePlan) : Type 0 where
  pub planned : plan.planned ≡ in_order numbers
  pub calls : plan.calls ≤ 2 ^ 64 - 1
  pub failed : plan.faults ≤ reached numbers plan.calls
