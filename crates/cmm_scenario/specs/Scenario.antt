-- What bytes mean as a scenario: a plan, or why they are none.
use Rattle.std.specs.Prelude.{ℕ, if◌then◌else◌, List, Option, Some, None, Result, Err}
use Rattle.std.specs.Str.{is_utf8}
use Rattle.serde_json.specs.Data.{Data}
use Rattle.serde_json.specs.Read.{read}
use Rattle.cmm_types.specs.declared.plan.Scenario.{Scenario}
use Rattle.cmm_scenario.specs.declared.error.ScenarioError.{ScenarioError}
use Rattle.cmm_scenario.specs.declared.error.ScenarioError.TheVariants.{NotJson}
use Rattle.cmm_scenario.specs.Faults.{at_root}
use Rattle.cmm_scenario.specs.Plans.{whole_plan_of}

-- the tree of a JSON text that nests at most 127 deep
unfoldable pub tree_of : List ℕ → Option Data
tree_of bytes = if is_utf8 bytes then read bytes else None

abbrev pub scenario_of_tree : Option Data → Result Scenario ScenarioError
scenario_of_tree None = Err NotJson
scenario_of_tree (Some tree) = at_root (whole_plan_of tree)

unfoldable pub scenario_of : List ℕ → Result Scenario ScenarioError
scenario_of bytes = scenario_of_tree (tree_of bytes)
