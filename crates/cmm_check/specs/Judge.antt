-- What an input of a scenario, a line feed and a report comes to.
use Rattle.std.specs.Prelude.{◌≡◌, ℕ, ◌-◌, nat_lt, List, take, drop, if◌then◌else◌, Option, Some, None, Result, Ok, Err}
use Rattle.cmm_types.specs.declared.plan.Scenario.{Scenario}
use Rattle.cmm_scenario.specs.declared.error.ScenarioError.{ScenarioError}
use Rattle.cmm_scenario.specs.declared.error.ScenarioError.TheVariants as errors
use Rattle.cmm_scenario.specs.Scenario.{scenario_of}
use Rattle.cmm_check.specs.declared.judging.TheConstants.{MAX_SCENARIO}
use Rattle.cmm_check.specs.declared.judging.InputError.{InputError}
use Rattle.cmm_check.specs.declared.judging.InputError.TheVariants.{NoReport, LongScenario, NotJson, Fault, NoMemory}
use Rattle.cmm_check.specs.declared.verdict.Verdict.{Verdict}
use Rattle.cmm_check.specs.declared.verdict.Verdict.TheVariants.{Accepted}
use Rattle.cmm_check.specs.Accepted.{LegalReport}
use Rattle.cmm_check.specs.Split.{BeginsAt}
use Rattle.cmm_check.specs.Verdict.{verdict_of}

-- where the report begins, if there is one
abbrev pub IsSplit : List ℕ → Option ℕ → Type 0
IsSplit input (Some start) = BeginsAt input start
IsSplit input None = (start : ℕ) → BeginsAt input start → ⊥

-- what stands before the report's line feed is read, and decides a refusal
abbrev pub judged_by : Result Scenario ScenarioError → List ℕ → Result Verdict InputError
judged_by (Ok plan) report = Ok (verdict_of plan report)
judged_by (Err errors.NotJson) report = Err NotJson
judged_by (Err (errors.Fault path kind)) report = Err (Fault path kind)
judged_by (Err errors.NoMemory) report = Err NoMemory

-- the refusals in their order, and else the verdict
abbrev pub judged : List ℕ → Option ℕ → Result Verdict InputError
judged input None = Err NoReport
judged input (Some start) =
    if nat_lt MAX_SCENARIO (start - 1) then Err LongScenario
    else judged_by (scenario_of (take (start - 1) input)) (drop start input)

-- the answer is this one, unless memory ran out
abbrev pub Judges : Result Verdict InputError → Result Verdict InputError → Type 0
Judges (Err NoMemory) wanted = Unit {0}
Judges result wanted = result ≡ wanted

-- the report in an input is legal for the scenario before it
pub record IsLegalInput (input : List ℕ) : Type 0 where
  pub start : ℕ
  pub begins : BeginsAt input start
  pub plan : Scenario
  pub read : scenario_of (take (start - 1) input) ≡ Ok plan
  pub legal : LegalReport plan (drop start input)

-- the answer on an input, by where its report begins; accepted is only what is legal
pub record IsJudged (input : List ℕ) (result : Result Verdict InputError) : Type 0 where
  pub start : Option ℕ
  pub split : IsSplit input start
  pub answer : Judges result (judged input start)
  pub legal : result ≡ Ok Accepted → IsLegalInput input
