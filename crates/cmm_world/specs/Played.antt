-- What playing one event does to a world.
use Rattle.std.specs.Prelude.{◌≡◌}
use Rattle.cmm_types.specs.declared.event.Event.{Event}
use Rattle.cmm_types.specs.declared.event.Answer.{Answer}
use Rattle.cmm_world.specs.WorldView.{WorldView}
use Rattle.cmm_world.specs.WorldFit.{KeepsWorld}
use Rattle.cmm_world.specs.Run.{world_step}
use Rattle.cmm_world.specs.Steps.{IsStepByStep, TakesNoneAgain}
use Rattle.cmm_world.specs.Caused.{IsCaused}
use Rattle.cmm_world.specs.Reached.{ReachesPages}
use Rattle.cmm_world.specs.Lacking.{LacksRightly}

-- the step determines the answer and the world after it. It is nothing but its single steps, none of which discards wrongly; its turns answered
-- for their causes, and none has to be taken again; a load or a store that it answered has reached its page; a command fails for the want of a
-- page only where its guest has none; and the world keeps what it must, but not the answer
pub record PlaysEvent (v : WorldView) (event : Event) (answer : Answer) (x : WorldView) : Type 0 where
  pub step : (answer, x.state) ≡ world_step v.state event
  pub steps : IsStepByStep v.state event
  pub causes : IsCaused v.state event
  pub again : TakesNoneAgain v.state event
  pub reached : ReachesPages v.state event
  pub lacks : LacksRightly v.state event
  pub kept : KeepsWorld v x
  pub answers : x.answers ≡ v.answers
