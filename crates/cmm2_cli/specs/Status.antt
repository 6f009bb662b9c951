-- The exit status of the program.
use Rattle.std.specs.Prelude.{ℕ, Bool, true, false}
use Rattle.cmm_check.specs.declared.verdict.Verdict.{Verdict}
use Rattle.cmm_check.specs.declared.verdict.Verdict.TheVariants as verdicts
use Rattle.cmm2_cli.specs.declared.status.Status.{Status}
use Rattle.cmm2_cli.specs.declared.status.Status.TheVariants.{Done, Usage, ScenarioRefused, ReadFault, WriteFault, NoMemory, Rejected}

abbrev pub code_of : Status → ℕ
code_of Done = 0
code_of Usage = 1
code_of ScenarioRefused = 2
code_of ReadFault = 3
code_of WriteFault = 4
code_of NoMemory = 5
code_of Rejected = 6

-- the program ended with its text written whole: the answer, or the line of a refusal
abbrev pub has_written : Status → Bool
has_written Done = true
has_written Usage = true
has_written ScenarioRefused = true
has_written ReadFault = false
has_written WriteFault = false
has_written NoMemory = false
has_written Rejected = true

-- how the program ends behind the line of a verdict
abbrev pub verdict_status : Verdict → Status
verdict_status verdicts.Accepted = Done
verdict_status (verdicts.Rejected line) = Rejected
