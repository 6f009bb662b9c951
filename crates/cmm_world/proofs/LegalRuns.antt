-- A world that played a plan's schedule shows that the plan's run is legal.
use Rattle.std.specs.Prelude.{◌≡◌, List, [], ◌∷◌, length, map}
use Rattle.std.proofs.Common.{refl, sym, ap, subst, arith, ◌∙◌}
use Rattle.std.proofs.lemmas.List.{length-map}
use Rattle.cmm_types.specs.declared.event.Event.{Event}
use Rattle.cmm_types.specs.declared.plan.GuestPlan.{GuestPlan}
use Rattle.cmm_types.specs.declared.plan.Scenario.{Scenario}
use Rattle.cmm_io.specs.FailurePlan.{FailurePlan}
use Rattle.cmm_io.specs.DiskState.{DiskState}
use Rattle.cmm_flat.specs.Legal.{Legal}
use Rattle.guest_rules.specs.GuestState.{GuestState, opening_guest}
use Rattle.guest_rules.specs.FailsAsPlanned.{FailsAsPlanned}
use Rattle.guest_rules.proofs.Causes.FailuresKept.{fails_as_planned}
use Rattle.cmm_world.specs.WorldState.{WorldState, opening_world}
use Rattle.cmm_world.specs.WorldView.{WorldView, opening_view, plans_of}
use Rattle.cmm_world.specs.WorldFit.{WorldFit, KeepsWorld}
use Rattle.cmm_world.specs.Failures.{AreCounted, WorldCounted}
use Rattle.cmm_world.specs.Run.{world_after, run_of}
use Rattle.cmm_world.specs.Steps.{IsStepByStep, TakesNoneAgain, AtEach}
use Rattle.cmm_world.specs.Reached.{ReachesPages}
use Rattle.cmm_world.specs.Lacking.{LacksRightly}
use Rattle.cmm_world.specs.Headline.{IsLegalRun}
use Rattle.cmm_world.proofs.Discards.{faults_few}

opening_plans : (guests : List GuestPlan) → map (λ (g : GuestState). g.plan) (map opening_guest guests) ≡ guests
opening_plans [] = refl
opening_plans (guest ∷ guests) = ap (λ gs. guest ∷ gs) (opening_plans guests)

-- the guests of a world before its first event have the plans
pub plans_opening : (plan : Scenario) → plans_of (opening_world plan) ≡ plan.guests
unfolding opening_world
plans_opening plan = opening_plans plan.guests

-- no more commands failed than calls, and no more calls than were planned to
counted_planned : (g : GuestState) (d : DiskState) (pager : FailurePlan) → Legal g.plan g.journal → AreCounted g d pager → FailsAsPlanned g.plan g.journal
counted_planned g d pager legal counted =
    fails_as_planned g.plan g.journal d.failures pager legal counted.by_disk (omega (arith, counted.by_pager)) counted.disk_calls counted.pager_calls

-- a world that played the schedule, kept what it must, and did each event as its single steps
legal_run : (plan : Scenario) (v : WorldView) → v.state ≡ (run_of plan).1 → KeepsWorld (opening_view plan) v → AtEach IsStepByStep (opening_world plan) plan.schedule
    → AtEach TakesNoneAgain (opening_world plan) plan.schedule → AtEach ReachesPages (opening_world plan) plan.schedule → AtEach LacksRightly (opening_world plan) plan.schedule → IsLegalRun plan
unfolding opening_world
legal_run plan v state keeps steps again reached lacks =
    let x = (run_of plan).1 in
    let plans : plans_of x ≡ plan.guests = ap plans_of (sym state) ∙ keeps.plans ∙ opening_plans plan.guests in
    let fit : WorldFit x = subst WorldFit state keeps.fit in
    let failures : WorldCounted x = subst WorldCounted state keeps.failures in
    let count : length x.guests ≡ length plan.guests = sym (length-map x.guests (λ g. g.plan)) ∙ ap length plans in
    record {
      plans = plans;
      legal = λ guest below. (fit guest (rw count below)).journal.legal;
      steps = steps;
      again = again;
      reached = reached;
      lacks = lacks;
      faults = λ guest below. faults_few x guest fit (rw count below);
      failures = λ guest below. counted_planned _ _ _ (fit guest (rw count below)).journal.legal (failures guest (rw count below));
    }

-- a fact of each event of a plan's schedule, from its opening on
from_opening : (plan : Scenario) (v : WorldView) (events : List Event) (P : WorldState → Event → Type 0) → v ≡ opening_view plan → events ≡ plan.schedule → AtEach P v.state events
    → AtEach P (opening_world plan) plan.schedule
from_opening plan v events P opening schedule each =
    subst (AtEach P (opening_world plan)) schedule (subst (λ (q : WorldView). AtEach P q.state events) opening each)

-- the same, as a replay leaves it
pub legal_replay : (plan : Scenario) (v x : WorldView) (events : List Event) → v ≡ opening_view plan → events ≡ plan.schedule → x.state ≡ world_after v.state events → KeepsWorld v x
    → AtEach IsStepByStep v.state events → AtEach TakesNoneAgain v.state events → AtEach ReachesPages v.state events → AtEach LacksRightly v.state events → IsLegalRun plan
legal_replay plan v x events opening schedule state keeps steps again reached lacks =
    legal_run plan x (state ∙ ap (λ (q : WorldView). world_after q.state events) opening ∙ ap (world_after (opening_world plan)) schedule)
    (subst (λ (q : WorldView). KeepsWorld q x) opening keeps)
    (from_opening plan v events IsStepByStep opening schedule steps)
    (from_opening plan v events TakesNoneAgain opening schedule again)
    (from_opening plan v events ReachesPages opening schedule reached)
    (from_opening plan v events LacksRightly opening schedule lacks)
