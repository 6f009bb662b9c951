-- What the program answers to its words and its input, what it reads of the input, and what it writes.
use Rattle.std.specs.Prelude.{◌≡◌, ◌⊎◌, ℕ, ◌+◌, ◌<◌, ◌≤◌, List, ◌++◌, length, take, codes, false, Option, Result, Ok, Err, IfSome}
use Rattle.std.specs.Io.KnownBytes.{Appends, IsAtEnd}
use Rattle.cmm_types.specs.declared.plan.Scenario.{Scenario}
use Rattle.cmm_io.specs.Faults.{raised}
use Rattle.cmm_io.specs.SourceBytes.{HasTaken, HasTakenAtMost}
use Rattle.cmm_io.specs.SinkBytes.{AppendsFront}
use Rattle.cmm_scenario.specs.declared.error.ScenarioError.{ScenarioError}
use Rattle.cmm_scenario.specs.declared.error.ScenarioError.TheVariants as errors
use Rattle.cmm_scenario.specs.Scenario.{scenario_of}
use Rattle.cmm_generate.specs.Generated.{generated}
use Rattle.cmm_generate.specs.Text.{scenario_text}
use Rattle.cmm_report.specs.Report.{report_of}
use Rattle.cmm_check.specs.declared.judging.TheConstants.{MAX_CHECKED, MAX_SCENARIO}
use Rattle.cmm_check.specs.declared.judging.InputError.{InputError}
use Rattle.cmm_check.specs.declared.judging.InputError.TheVariants as input_errors
use Rattle.cmm_check.specs.declared.verdict.Verdict.{Verdict}
use Rattle.cmm_check.specs.declared.verdict.Verdict.TheVariants as verdicts
use Rattle.cmm_check.specs.Verdict.{verdict_of}
use Rattle.cmm_check.specs.Judge.{IsJudged}
use Rattle.cmm_check.specs.VerdictLine.{verdict_line}
use Rattle.cmm_world.specs.Run.{run_of}
use Rattle.cmm_world.specs.Headline.{IsLegalRun}
use Rattle.cmm2_cli.specs.declared.input.Input.{Input}
use Rattle.cmm2_cli.specs.declared.input.Input.TheVariants.{Scenario as ScenarioInput, Report}
use Rattle.cmm2_cli.specs.declared.refusal.Refusal.TheVariants.{Long, NoReport, NotJson}
use Rattle.cmm2_cli.specs.declared.status.Status.{Status}
use Rattle.cmm2_cli.specs.declared.status.Status.TheVariants.{Done, ScenarioRefused, ReadFault, WriteFault, NoMemory, Rejected}
use Rattle.cmm2_cli.specs.Status.{verdict_status}
use Rattle.cmm2_cli.specs.Refusal.{refusal_text, fault_text}
use Rattle.cmm2_cli.specs.Reports.{reports_of}
use Rattle.cmm2_cli.specs.Demo.{demo_text}

-- the text of the scenario that is generated from a number, and a line feed
abbrev pub generated_text : (start size : ℕ) → List ℕ
generated_text start size = scenario_text (generated start size) ++ codes "\n"

module _ {K : Type 0} (faults : K → ℕ) (written : K → Option (List ℕ)) (old new : K) where
  -- the whole text was written behind what was written before
  pub record WroteAll (text : List ℕ) (wanted result : Status) : Type 0 where
    pub status : result ≡ wanted
    pub whole : Appends (written old) (written new) text
    pub no_fault : faults new ≡ faults old

  -- a write failed behind a front of the text
  pub record WroteFront (text : List ℕ) (result : Status) : Type 0 where
    pub status : result ≡ WriteFault
    pub front : AppendsFront (written old) (written new) text
    pub fault : faults new ≡ raised (faults old)

  -- the text was written and the program ends with this status, unless the sink failed
  abbrev pub Answers : List ℕ → Status → Status → Type 0
  Answers text wanted result = WroteAll text wanted result ⊎ WroteFront text result

  -- the program ends with this status, and has written nothing
  pub record WroteNothing (wanted result : Status) : Type 0 where
    pub status : result ≡ wanted
    pub same : new ≡ old

  -- the report is that of the run of the plan: the answers to its events, and of each guest the journal, the discards and the faults. Each
  -- journal is legal, no step of the run discards a page that its guest needs, and no more commands fail than calls are planned to; and `check`
  -- accepts that report
  pub record Plays (plan : Scenario) (result : Status) : Type 0 where
    pub report : Answers (report_of false (run_of plan).0 (reports_of (run_of plan).1)) Done result
    pub run : IsLegalRun plan
    pub accepted : verdict_of plan (report_of false (run_of plan).0 (reports_of (run_of plan).1)) ≡ verdicts.Accepted

  -- the line of totals is that of the run of the scenario that is generated from a number, which is legal
  pub record Demonstrates (start size : ℕ) (result : Status) : Type 0 where
    pub summary : Answers (demo_text start size) Done result
    pub run : IsLegalRun (generated start size)

  -- what the bytes mean is a plan, which has its answer, or decides the line of a refusal
  abbrev pub AnswersReading : (Planned : Scenario → Status → Type 0) → Result Scenario ScenarioError → Status → Type 0
  AnswersReading Planned (Ok plan) result = Planned plan result
  AnswersReading Planned (Err errors.NotJson) result = Answers (refusal_text NotJson) ScenarioRefused result
  AnswersReading Planned (Err (errors.Fault path kind)) result = Answers (fault_text path kind) ScenarioRefused result
  AnswersReading Planned (Err errors.NoMemory) result = ⊥

  -- a scenario is read, and its plan has its answer
  abbrev pub AnswersScenario : (Planned : Scenario → Status → Type 0) → List ℕ → Status → Type 0
  AnswersScenario Planned bytes result = AnswersReading Planned (scenario_of bytes) result ⊎ WroteNothing NoMemory result

  -- a verdict is told, and the status is its own; and each refusal has its line
  abbrev pub AnswersJudged : Result Verdict InputError → Status → Type 0
  AnswersJudged (Ok verdict) result = Answers (verdict_line verdict) (verdict_status verdict) result
  AnswersJudged (Err input_errors.NoReport) result = Answers (refusal_text NoReport) ScenarioRefused result
  AnswersJudged (Err input_errors.LongScenario) result = Answers (refusal_text Long) ScenarioRefused result
  AnswersJudged (Err input_errors.NotJson) result = Answers (refusal_text NotJson) ScenarioRefused result
  AnswersJudged (Err (input_errors.Fault path kind)) result = Answers (fault_text path kind) ScenarioRefused result
  AnswersJudged (Err input_errors.NoMemory) result = WroteNothing NoMemory result

  -- a scenario, a line feed and a report are judged
  pub record AnswersReport (bytes : List ℕ) (result : Status) : Type 0 where
    pub judgement : Result Verdict InputError
    pub is : IsJudged bytes judgement
    pub answer : AnswersJudged judgement result

  -- an input within the limit has the answer that its bytes mean
  abbrev pub AnswersBytes : Input → List ℕ → Status → Type 0
  AnswersBytes ScenarioInput bytes result = AnswersScenario Plays bytes result
  AnswersBytes Report bytes result = AnswersReport bytes result

-- the most bytes of an input
abbrev pub limit_of : Input → ℕ
limit_of ScenarioInput = MAX_SCENARIO
limit_of Report = MAX_CHECKED

-- the bytes of an input that the program takes: of one that is longer than the limit, one more than the limit
abbrev pub taken_of : (limit : ℕ) → List ℕ → List ℕ
taken_of limit bytes = take (limit + 1) bytes

-- an input within the limit is answered by what it means
module _ {S : Type 0} (rest : S → Option (List ℕ)) (given : S → ℕ) (before after : S) {K : Type 0} (faults : K → ℕ) (written : K → Option (List ℕ)) (old new : K)
    (limit : ℕ) (Meant : List ℕ → Status → Type 0) where
  -- an input that is longer than the limit is refused
  pub record RefusesLong (bytes : List ℕ) (result : Status) : Type 0 where
    pub long : limit < length bytes
    pub taken : HasTaken rest given before after (taken_of limit bytes)
    pub answer : Answers faults written old new (refusal_text Long) ScenarioRefused result

  -- another one is read whole
  pub record AnswersWhole (bytes : List ℕ) (result : Status) : Type 0 where
    pub short : length bytes ≤ limit
    pub taken : HasTaken rest given before after (taken_of limit bytes)
    pub answer : Meant bytes result

  -- memory ran out before all of it was read
  pub record ReadsNoMore (result : Status) : Type 0 where
    pub taken : HasTakenAtMost rest given before after (limit + 1)
    pub answer : WroteNothing faults written old new NoMemory result

  abbrev pub AnswersInput : List ℕ → Status → Type 0
  AnswersInput bytes result = RefusesLong bytes result ⊎ AnswersWhole bytes result ⊎ ReadsNoMore result

  -- a read failed, or this is the answer to some input, of which these bytes were taken
  abbrev pub AnswersSome : Status → Type 0
  AnswersSome result = (result ≡ ReadFault) ⊎ ((bytes : List ℕ) × AnswersInput bytes result)

  -- Unless a read failed, the input has its answer, where the source tells its bytes; all of it is read, or one byte more than the limit. Before
  -- a read that failed no more was read than an input may have. Also where the source doesn't tell its bytes, the answer is one to some
  -- input, of which as many bytes were read
  pub record ReadsInput (result : Status) : Type 0 where
    pub answer : IfSome (rest before) (λ bytes. (result ≡ ReadFault) ⊎ AnswersInput bytes result)
    pub whole : (result ≡ Done) ⊎ (result ≡ Rejected) → IsAtEnd (rest after)
    pub fault_within : result ≡ ReadFault → HasTakenAtMost rest given before after limit
    pub some_input : AnswersSome result
