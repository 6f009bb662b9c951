use Rattle.std.proofs.Common.{◌≡◌, ◌++◌, ◌+◌, length, drop}
use Rattle.cmm_world.specs.WorldFit.{KeepsWorld}
use Rattle.cmm_world.specs.Run.{answers_of, world_after}
use Rattle.cmm_world.specs.Steps.{IsStepByStep, TakesNoneAgain, AtEach}
use Rattle.cmm_world.specs.Caused.{IsCaused}
use Rattle.cmm_world.specs.Reached.{ReachesPages}
use Rattle.cmm_world.specs.Lacking.{LacksRightly}
use Rattle.cmm_world.proofs.world.World.replay.Given as goal

-- the answers so far and those of what is left are those of all
abbrev pub invariant-loop-event : goal.invariant-loop-event
invariant-loop-event l = record {
  told : l.self.answers ++ answers_of l.self.state (drop l.event-index l.events) ≡ l.fn.self.answers ++ answers_of l.fn.self.state l.events;
  rest : world_after l.self.state (drop l.event-index l.events) ≡ world_after l.fn.self.state l.events;
  steps : AtEach IsStepByStep l.self.state (drop l.event-index l.events) → AtEach IsStepByStep l.fn.self.state l.events;
  causes : AtEach IsCaused l.self.state (drop l.event-index l.events) → AtEach IsCaused l.fn.self.state l.events;
  again : AtEach TakesNoneAgain l.self.state (drop l.event-index l.events) → AtEach TakesNoneAgain l.fn.self.state l.events;
  reached : AtEach ReachesPages l.self.state (drop l.event-index l.events) → AtEach ReachesPages l.fn.self.state l.events;
  lacks : AtEach LacksRightly l.self.state (drop l.event-index l.events) → AtEach LacksRightly l.fn.self.state l.events;
  kept : KeepsWorld l.fn.self l.self;
  answered : length l.self.answers ≡ length l.fn.self.answers + l.event-index;
}
