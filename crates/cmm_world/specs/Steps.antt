-- An event as single steps, and that none of them discards wrongly. The turns of a processor that goes on alone are steps of their own.
use Rattle.std.specs.Prelude.{◌≡◌, ◌≢◌, ◌⊎◌, ◌<◌, ℕ, ◌+◌, ◌-◌, ◌++◌, List, [], ◌∷◌, length, replicate, true}
use Rattle.cmm_types.specs.declared.event.Event.{Event}
use Rattle.cmm_types.specs.declared.event.Event.TheVariants.{Cpu, Alone, Host, Reclaim}
use Rattle.cmm_types.specs.declared.event.Answer.{Answer}
use Rattle.cmm_types.specs.declared.event.Answer.TheVariants.{Turn, Alone as AloneAnswer, HostDone, HostRefused, HostPaging, Reclaimed}
use Rattle.cmm_types.specs.declared.turn.Turn.TheVariants.{Moved, Finished as TurnFinished, Waits as TurnWaits, Again, Idle as TurnIdle}
use Rattle.cmm_types.specs.declared.turn.Why.{Why}
use Rattle.cmm_types.specs.declared.turn.Alone.{Alone as AloneOutcome}
use Rattle.cmm_types.specs.declared.turn.Alone.TheVariants.{Finished, Waits, Idle}
use Rattle.essa_state.specs.PageValue.{is_lost, may_lose}
use Rattle.host_plain.specs.HostState.{pages_of, value_of}
use Rattle.cmm_world.specs.WorldState.{WorldState}
use Rattle.cmm_world.specs.Run.{alone_step, world_step, answers_of, world_after}

-- a page of a guest becomes discarded only where it was volatile, or potentially volatile and unchanged
abbrev pub NoWrongDiscards : WorldState → WorldState → Type 0
NoWrongDiscards w x = (guest page : ℕ) → guest < length w.guests → page < pages_of w.host guest → is_lost (value_of x.host guest page).contents ≡ true
    → (is_lost (value_of w.host guest page).contents ≡ true) ⊎ (may_lose (value_of w.host guest page).usage (value_of w.host guest page).changed ≡ true)

-- how many turns a processor took that went on alone, with the last, which didn't move
abbrev pub turns_taken : AloneOutcome → ℕ
turns_taken (Finished turns) = turns
turns_taken (Waits turns page owner) = turns + 1
turns_taken Idle = 1

-- the single steps of an event
abbrev pub steps_of : WorldState → Event → List Event
steps_of w (Cpu guest cpu) = Cpu guest cpu ∷ []
steps_of w (Alone guest cpu) = replicate (turns_taken (alone_step w guest cpu).0) (Cpu guest cpu)
steps_of w (Host guest page action) = Host guest page action ∷ []
steps_of w (Reclaim count) = Reclaim count ∷ []

-- the answers of an event's single steps: of a processor that goes on alone each turn moved but the last
abbrev pub step_answers : Answer → List Answer
step_answers (Turn turn) = Turn turn ∷ []
step_answers (AloneAnswer (Finished turns)) = replicate (turns - 1) (Turn Moved) ++ Turn TurnFinished ∷ []
step_answers (AloneAnswer (Waits turns page owner)) = replicate turns (Turn Moved) ++ Turn (TurnWaits page owner) ∷ []
step_answers (AloneAnswer Idle) = Turn TurnIdle ∷ []
step_answers HostDone = HostDone ∷ []
step_answers (HostRefused why) = HostRefused why ∷ []
step_answers HostPaging = HostPaging ∷ []
step_answers (Reclaimed count paging) = Reclaimed count paging ∷ []

-- none of these steps, one after the other, discards a page wrongly
abbrev pub NoStepDiscardsWrongly : WorldState → List Event → Type 0
NoStepDiscardsWrongly w [] = Unit {0}
NoStepDiscardsWrongly w (step ∷ steps) = NoWrongDiscards w (world_step w step).1 × NoStepDiscardsWrongly (world_step w step).1 steps

-- an event is nothing but its single steps, one after the other: they lead to the world after it, with these answers, and none discards wrongly
pub record IsStepByStep (w : WorldState) (event : Event) : Type 0 where
  pub answers : answers_of w (steps_of w event) ≡ step_answers (world_step w event).0
  pub world : world_after w (steps_of w event) ≡ (world_step w event).1
  pub discards : NoStepDiscardsWrongly w (steps_of w event)

-- an event isn't answered by a turn that has to be taken again
abbrev pub TakesNoneAgain : WorldState → Event → Type 0
TakesNoneAgain w event = (why : Why) → (world_step w event).0 ≢ Turn (Again why)

-- a fact of each event of a schedule, and of the world before it
abbrev pub AtEach : (WorldState → Event → Type 0) → WorldState → List Event → Type 0
AtEach P w [] = Unit {0}
AtEach P w (event ∷ events) = P w event × AtEach P (world_step w event).1 events
