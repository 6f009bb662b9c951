-- What stands of every run: the headline.
use Rattle.std.specs.Prelude.{◌≡◌, ◌<◌, ◌≤◌, ℕ, length}
use Rattle.cmm_types.specs.declared.plan.Scenario.{Scenario}
use Rattle.cmm_flat.specs.Legal.{Legal}
use Rattle.guest_rules.specs.FailsAsPlanned.{FailsAsPlanned}
use Rattle.cmm_world.specs.WorldState.{guest_at, opening_world}
use Rattle.cmm_world.specs.WorldView.{plans_of, discards_of}
use Rattle.cmm_world.specs.Run.{run_of}
use Rattle.cmm_world.specs.Steps.{IsStepByStep, TakesNoneAgain, AtEach}
use Rattle.cmm_world.specs.Reached.{ReachesPages}
use Rattle.cmm_world.specs.Lacking.{LacksRightly}

-- each guest's journal is one legal history of the flat machine, each command once and in its processor's order; each event is its single
-- steps, none of which discards a page that the guest needs; no turn has to be taken again; each load and store that was answered had reached
-- its page; each command that failed for the want of a page was of a guest that had none; the faults counted are at most the discards; and no
-- more commands failed for the disk or the pager than calls of them were planned to
pub record IsLegalRun (plan : Scenario) : Type 0 where
  pub plans : plans_of (run_of plan).1 ≡ plan.guests
  pub legal : (guest : ℕ) → guest < length plan.guests → Legal (guest_at (run_of plan).1 guest).plan (guest_at (run_of plan).1 guest).journal
  pub steps : AtEach IsStepByStep (opening_world plan) plan.schedule
  pub again : AtEach TakesNoneAgain (opening_world plan) plan.schedule
  pub reached : AtEach ReachesPages (opening_world plan) plan.schedule
  pub lacks : AtEach LacksRightly (opening_world plan) plan.schedule
  pub faults : (guest : ℕ) → guest < length plan.guests → (guest_at (run_of plan).1 guest).parts.faults ≤ discards_of (run_of plan).1 guest
  pub failures : (guest : ℕ) → guest < length plan.guests → FailsAsPlanned (guest_at (run_of plan).1 guest).plan (guest_at (run_of plan).1 guest).journal
