-- What stands of every call of the program, by the line that its words are.
use Rattle.std.specs.Prelude.{◌≡◌, ◌≢◌, ◌⊎◌, ℕ, List, Bool, true, false, Option, Some, None}
use Rattle.cmm_io.specs.Faults.{raised}
use Rattle.cmm_line.specs.declared.line.Line.{Line}
use Rattle.cmm_line.specs.declared.line.Line.TheVariants.{Replay, Run, Check, Gen, Demo}
use Rattle.cmm_check.specs.declared.judging.TheConstants.{MAX_SCENARIO}
use Rattle.cmm2_cli.specs.declared.input.Input.{Input}
use Rattle.cmm2_cli.specs.declared.input.Input.TheVariants.{Scenario, Report}
use Rattle.cmm2_cli.specs.declared.refusal.Refusal.TheVariants.{Words}
use Rattle.cmm2_cli.specs.declared.status.Status.{Status}
use Rattle.cmm2_cli.specs.declared.status.Status.TheVariants.{Done, Usage, ReadFault, WriteFault, NoMemory, Rejected}
use Rattle.cmm2_cli.specs.Refusal.{refusal_text}
use Rattle.cmm2_cli.specs.Outcome.{Answers, WroteNothing, Demonstrates, AnswersScenario, AnswersBytes, ReadsInput, limit_of, generated_text}
use Rattle.cmm2_cli.specs.Running.{Runs}

-- the lines that read an input
abbrev pub reads_input : Option Line → Bool
reads_input None = false
reads_input (Some Replay) = true
reads_input (Some Run) = true
reads_input (Some Check) = true
reads_input (Some (Gen start size)) = false
reads_input (Some (Demo start size)) = false

module _ {S : Type 0} (source_faults : S → ℕ) (rest : S → Option (List ℕ)) (given : S → ℕ) (before after : S)
    {K : Type 0} (faults : K → ℕ) (written : K → Option (List ℕ)) (old new : K) where
  -- a scenario is played, or a report judged
  abbrev pub ServesInput : Input → Status → Type 0
  ServesInput input result = ReadsInput rest given before after faults written old new (limit_of input) (AnswersBytes faults written old new input) result

  -- a scenario is run
  abbrev pub ServesRun : Status → Type 0
  ServesRun result = ReadsInput rest given before after faults written old new MAX_SCENARIO (AnswersScenario faults written old new (Runs faults written old new)) result

  -- each line has its answer, and words that are none are refused. Where memory runs out, nothing is written
  abbrev pub AnswersLine : Option Line → Status → Type 0
  AnswersLine None result = Answers faults written old new (refusal_text Words) Usage result ⊎ WroteNothing faults written old new NoMemory result
  AnswersLine (Some Replay) result = ServesInput Scenario result
  AnswersLine (Some Run) result = ServesRun result
  AnswersLine (Some Check) result = ServesInput Report result
  AnswersLine (Some (Gen start size)) result =
      Answers faults written old new (generated_text start size) Done result ⊎ WroteNothing faults written old new NoMemory result
  AnswersLine (Some (Demo start size)) result = Demonstrates faults written old new start size result ⊎ WroteNothing faults written old new NoMemory result

  -- The line has its answer. Words are refused only where they are no line, only a report is rejected, and nothing is read but by a line that
  -- reads an input. One read failed exactly where the status says so, and one write likewise; after a read that failed, and where memory ran
  -- out, nothing is written
  pub record IsCall (line : Option Line) (result : Status) : Type 0 where
    pub answer : AnswersLine line result
    pub usage : result ≡ Usage → line ≡ None
    pub rejected : result ≡ Rejected → line ≡ Some Check
    pub unread : reads_input line ≡ false → after ≡ before
    pub read_fault : result ≡ ReadFault → (source_faults after ≡ raised (source_faults before)) × (new ≡ old)
    pub no_read_fault : result ≢ ReadFault → source_faults after ≡ source_faults before
    pub write_fault : result ≡ WriteFault → faults new ≡ raised (faults old)
    pub no_write_fault : result ≢ WriteFault → faults new ≡ faults old
    pub no_memory : result ≡ NoMemory → new ≡ old
