-- What a call has done where memory ran out before it knew its line.
use Rattle.std.specs.Prelude.{◌≡◌, ◌⊎◌, ℕ, List, [], Option, Some, None, refl}
use Rattle.std.proofs.Common.{inl, inr, arith}
use Rattle.cmm_line.specs.declared.line.Line.{Line}
use Rattle.cmm_line.specs.declared.line.Line.TheVariants.{Replay, Run, Check, Gen, Demo}
use Rattle.cmm_check.specs.declared.judging.TheConstants.{MAX_SCENARIO}
use Rattle.cmm2_cli.specs.declared.input.Input.TheVariants.{Scenario, Report}
use Rattle.cmm2_cli.specs.declared.status.Status.{Status}
use Rattle.cmm2_cli.specs.declared.status.Status.TheVariants.{Done, Usage, ReadFault, WriteFault, NoMemory, Rejected}
use Rattle.cmm2_cli.specs.Outcome.{WroteNothing, AnswersScenario, AnswersBytes, ReadsInput, limit_of}
use Rattle.cmm2_cli.specs.Running.{Runs}
use Rattle.cmm2_cli.specs.Calls.{AnswersLine, IsCall}
use Rattle.cmm2_cli.proofs.Taken.{none_answer, nothing_lost}

not_usage : NoMemory ≡ Usage → ⊥
not_usage e = cc

not_rejected : NoMemory ≡ Rejected → ⊥
not_rejected e = cc

not_read_fault : NoMemory ≡ ReadFault → ⊥
not_read_fault e = cc

not_write_fault : NoMemory ≡ WriteFault → ⊥
not_write_fault e = cc

not_done : (NoMemory ≡ Done) ⊎ (NoMemory ≡ Rejected) → ⊥
not_done (inl e) = cc
not_done (inr e) = not_rejected e

module _ {S : Type 0} (source_faults : S → ℕ) (rest : S → Option (List ℕ)) (given : S → ℕ) (src : S)
    {K : Type 0} (faults : K → ℕ) (written : K → Option (List ℕ)) (out : K) where
  nothing : WroteNothing faults written out out NoMemory NoMemory
  nothing = record { status = refl; same = refl }

  no_input : (limit : ℕ) (Meant : List ℕ → Status → Type 0) → ReadsInput rest given src src faults written out out limit Meant NoMemory
  no_input limit Meant = record {
    answer = none_answer rest given src faults written out limit Meant NoMemory refl;
    whole = λ e. absurd (not_done e);
    fault_within = λ e. absurd (not_read_fault e);
    some_input = inr (
      [],
      inr (inr (record {
        taken = ([], omega arith, record { lost = nothing_lost (rest src); counted = omega arith });
        answer = nothing;
      })),
    );
  }

  no_line : (line : Option Line) → AnswersLine source_faults rest given src src faults written out out line NoMemory
  no_line None = inr nothing
  no_line (Some Replay) = no_input (limit_of Scenario) (AnswersBytes faults written out out Scenario)
  no_line (Some Run) = no_input MAX_SCENARIO (AnswersScenario faults written out out (Runs faults written out out))
  no_line (Some Check) = no_input (limit_of Report) (AnswersBytes faults written out out Report)
  no_line (Some (Gen start size)) = inr nothing
  no_line (Some (Demo start size)) = inr nothing

  pub no_call : (line : Option Line) → IsCall source_faults rest given src src faults written out out line NoMemory
  no_call line = record {
    answer = no_line line;
    usage = λ e. absurd (not_usage e);
    rejected = λ e. absurd (not_rejected e);
    unread = λ _. refl;
    read_fault = λ e. absurd (not_read_fault e);
    no_read_fault = λ _. refl;
    write_fault = λ e. absurd (not_write_fault e);
    no_write_fault = λ _. refl;
    no_memory = λ _. refl;
  }
