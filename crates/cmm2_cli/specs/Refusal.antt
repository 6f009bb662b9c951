-- The line and the status of each refusal.
use Rattle.std.specs.Prelude.{ℕ, List, ◌++◌, codes}
use Rattle.cmm_scenario.specs.declared.fault.Kind.{Kind}
use Rattle.cmm_scenario.specs.declared.fault.Kind.TheVariants.{Missing, Unknown, Type_, Range, Text, Hex, Total}
use Rattle.cmm2_cli.specs.declared.refusal.Refusal.{Refusal}
use Rattle.cmm2_cli.specs.declared.refusal.Refusal.TheVariants.{Words, Long, NoReport, NotJson}
use Rattle.cmm2_cli.specs.declared.status.Status.{Status}
use Rattle.cmm2_cli.specs.declared.status.Status.TheVariants.{Usage, ScenarioRefused}

abbrev pub refusal_text : Refusal → List ℕ
refusal_text Words = codes "refused words\n"
refusal_text Long = codes "refused long\n"
refusal_text NoReport = codes "refused report\n"
refusal_text NotJson = codes "refused json\n"

abbrev pub refusal_status : Refusal → Status
refusal_status Words = Usage
refusal_status Long = ScenarioRefused
refusal_status NoReport = ScenarioRefused
refusal_status NotJson = ScenarioRefused

abbrev pub kind_end : Kind → List ℕ
kind_end Missing = codes " missing\n"
kind_end Unknown = codes " unknown\n"
kind_end Type_ = codes " type\n"
kind_end Range = codes " range\n"
kind_end Text = codes " text\n"
kind_end Hex = codes " hex\n"
kind_end Total = codes " total\n"

-- the line on a scenario's first fault: its path, and what is wrong there
abbrev pub fault_text : List ℕ → Kind → List ℕ
fault_text path kind = codes "refused " ++ path ++ kind_end kind
