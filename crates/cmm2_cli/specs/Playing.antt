-- A world that has played a plan's schedule.
use Rattle.std.specs.Prelude.{◌≡◌}
use Rattle.cmm_types.specs.declared.plan.Scenario.{Scenario}
use Rattle.cmm_world.specs.WorldView.{WorldView}
use Rattle.cmm_world.specs.WorldFit.{WorldFit}
use Rattle.cmm_world.specs.Run.{run_of}
use Rattle.cmm_world.specs.Headline.{IsLegalRun}

-- its answers and its state are those of the plan's run, which is legal
pub record HasPlayed (plan : Scenario) (v : WorldView) : Type 0 where
  pub answers : v.answers ≡ (run_of plan).0
  pub state : v.state ≡ (run_of plan).1
  pub legal : IsLegalRun plan
  pub fit : WorldFit v.state
