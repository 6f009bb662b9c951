use Rattle.std.proofs.Common.{◌≡◌, ◌∙◌, [], drop, ap, subst, sym}
use Rattle.std.proofs.lemmas.List.{drop_all}
use Rattle.cmm_types.specs.declared.event.Event.{Event}
use Rattle.cmm_world.specs.WorldState.{WorldState}
use Rattle.cmm_world.specs.Run.{world_after}
use Rattle.cmm_world.specs.Steps.{IsStepByStep, TakesNoneAgain, AtEach}
use Rattle.cmm_world.specs.Reached.{ReachesPages}
use Rattle.cmm_world.specs.Lacking.{LacksRightly}
use Rattle.cmm_world.proofs.LegalRuns.{legal_replay}
use Rattle.cmm_world.proofs.world.World.replay.Goals as goal

-- no event is left
none_left : (c : goal.After-loop-event) → drop c.loop-event.event-index c.args.events.now ≡ []
none_left c = drop_all c.loop-event.event-index c.args.events.now c.loop-event-test.false

-- so a fact stands of each that is
each_left : (c : goal.After-loop-event) (P : WorldState → Event → Type 0) → AtEach P c.loop-event.self.state (drop c.loop-event.event-index c.args.events.now)
each_left c P = subst (AtEach P c.loop-event.self.state) (sym (none_left c)) (tt {0})

pub returns-clause-legal : goal.returns-clause-legal
returns-clause-legal c plan opening schedule =
    let left = c.loop-event.invariant in
    legal_replay plan c.args.self.now c.loop-event.self c.args.events.now opening schedule (sym (ap (world_after c.loop-event.self.state) (none_left c)) ∙ left.rest) left.kept
    (left.steps (each_left c IsStepByStep)) (left.again (each_left c TakesNoneAgain)) (left.reached (each_left c ReachesPages)) (left.lacks (each_left c LacksRightly))
