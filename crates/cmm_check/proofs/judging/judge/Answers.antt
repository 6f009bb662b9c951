use Rattle.std.proofs.Common.{rules, arith, subst, length, length-drop, take_all, ◌≡◌, ℕ, ◌-◌, nat_lt, Bool, true, false, if◌then◌else◌, List, take, drop, Option, Some, None, Result, Ok, Err, refl, sym, ap, ◌∙◌}
use Rattle.std.proofs.lemmas.Option.{same_Some}
use Rattle.std.specs.Result.{result_ok}
use Rattle.std.specs.Prelude.{IfNone}
use Rattle.cmm_types.specs.declared.plan.Scenario.{Scenario}
use Rattle.cmm_scenario.specs.declared.error.ScenarioError.{ScenarioError}
use Rattle.cmm_scenario.specs.declared.error.ScenarioError.TheVariants.{NotJson, Fault, NoMemory}
use Rattle.cmm_scenario.specs.Scenario.{scenario_of}
use Rattle.cmm_check.specs.declared.judging.TheConstants.{MAX_SCENARIO}
use Rattle.cmm_check.specs.declared.judging.InputError.{InputError}
use Rattle.cmm_check.specs.declared.judging.InputError.TheVariants.{LongScenario}
use Rattle.cmm_check.specs.declared.verdict.Verdict.{Verdict}
use Rattle.cmm_check.specs.declared.verdict.Verdict.TheVariants.{Accepted}
use Rattle.cmm_check.specs.Split.{BeginsAt}
use Rattle.cmm_check.specs.Verdict.{verdict_of}
use Rattle.cmm_check.specs.Judge.{IsSplit, judged_by, judged, Judges, IsLegalInput, IsJudged}
use Rattle.cmm_check.proofs.AcceptedLaws.{accepted_is_legal}
use Rattle.cmm_check.proofs.judging.judge.Goals as goal

no_report : (input : List ℕ) (o : Option ℕ) → ((start : ℕ) → o ≡ Some start → ⊥) → IfNone o ((start : ℕ) → BeginsAt input start → ⊥) → IsSplit input None
no_report input None not none = none
no_report input (Some start) not none = absurd (not start refl)

-- an answer other than the want of memory is the wanted one
wanted_accepted : (result wanted : Result Verdict InputError) → Judges result wanted → result ≡ Ok Accepted → wanted ≡ Ok Accepted
wanted_accepted (Ok verdict) wanted is e = sym is ∙ e
wanted_accepted (Err error) wanted is e = cc e

-- what is judged legal was read, and is
judged-legal : (input : List ℕ) (start : Option ℕ) → IsSplit input start → judged input start ≡ Ok Accepted → IsLegalInput input
judged-legal input None split e = cc e
judged-legal input (Some start) begins e = long (nat_lt MAX_SCENARIO (start - 1)) e
  where
    report : List ℕ
    report = drop start input

    read : (scenario : Result Scenario ScenarioError) → scenario_of (take (start - 1) input) ≡ scenario → judged_by scenario report ≡ Ok Accepted → IsLegalInput input
    read (Ok plan) is h = record { start = start; begins = begins; plan = plan; read = is; legal = accepted_is_legal plan report (same_Some (verdict_of plan report) Accepted (ap result_ok h)) }
    read (Err NotJson) is h = cc h
    read (Err (Fault path kind)) is h = cc h
    read (Err NoMemory) is h = cc h

    long : (b : Bool) → (if b then Err LongScenario else judged_by (scenario_of (take (start - 1) input)) report) ≡ Ok Accepted → IsLegalInput input
    long true h = cc h
    long false h = read (scenario_of (take (start - 1) input)) refl h

is_judged : (input : List ℕ) (result : Result Verdict InputError) (start : Option ℕ) → IsSplit input start → Judges result (judged input start) → IsJudged input result
is_judged input result start split answer =
    record { start = start; split = split; answer = answer; legal = λ e. judged-legal input start split (wanted_accepted result (judged input start) answer e) }

pub returns-in_default : goal.returns-in_default
returns-in_default c = is_judged c.args.input.now _ None (no_report c.args.input.now c.split.result c.in_default.not-Some c.split.ensures.none) refl

pub returns : goal.returns
returns c =
    let split : IsSplit c.args.input.now (Some c.in-Some.start) = c.in-Some.ensures.some in
    let input : List ℕ = c.args.input.now in
    let start : ℕ = c.in-Some.start in
    let short : nat_lt MAX_SCENARIO (start - 1) ≡ false = search rules in
    let whole : take (length input - start) (drop start input) ≡ drop start input = take_all (length input - start) (drop start input) (omega (arith, length-drop start input)) in
    let answer : Judges c.judge_report.result (judged input (Some start)) =
    rw short (subst (λ report. Judges c.judge_report.result (judged_by (scenario_of (take (start - 1) input)) report)) whole c.judge_report.ensures) in
    is_judged c.args.input.now c.judge_report.result (Some c.in-Some.start) split answer
