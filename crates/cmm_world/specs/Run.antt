-- A step of the world, and the run of a plan. The step determines everything, so a plan has one run.
use Rattle.std.specs.Prelude.{ℕ, zero, suc, ◌+◌, List, [], ◌∷◌, Result, Ok, Err, slice_set}
use Rattle.cmm_types.specs.declared.event.Event.{Event}
use Rattle.cmm_types.specs.declared.event.Event.TheVariants.{Cpu, Alone, Host, Reclaim}
use Rattle.cmm_types.specs.declared.event.Answer.{Answer}
use Rattle.cmm_types.specs.declared.event.Answer.TheVariants.{Turn, Alone as AloneAnswer, HostDone, HostRefused, HostPaging, Reclaimed}
use Rattle.cmm_types.specs.declared.turn.Turn.{Turn as TurnOutcome}
use Rattle.cmm_types.specs.declared.turn.Turn.TheVariants.{Moved, Finished, Waits, Again, Idle}
use Rattle.cmm_types.specs.declared.turn.Alone.{Alone as AloneOutcome}
use Rattle.cmm_types.specs.declared.turn.Alone.TheVariants.{Finished as AloneFinished, Waits as AloneWaits, Idle as AloneIdle}
use Rattle.cmm_types.specs.declared.plan.Scenario.{Scenario}
use Rattle.cmm_io.specs.DiskState.{DiskState}
use Rattle.host_plain.specs.declared.moves.ApplyError.{ApplyError}
use Rattle.host_plain.specs.declared.moves.ApplyError.TheVariants.{Refused, Paging}
use Rattle.host_plain.specs.HostState.{HostState, served, move_of, after_move, reclaim_of, after_reclaim}
use Rattle.guest_rules.specs.GuestState.{GuestState}
use Rattle.guest_rules.specs.Turns.{turn}
use Rattle.guest_rules.specs.Alone.{most_turns}
use Rattle.cmm_world.specs.WorldState.{WorldState, guest_at, disk_at, opening_world}
use Rattle.cmm_world.specs.Exec.{exec}

-- a guest's turn: its answer, and the world after it
abbrev pub turned : WorldState → ℕ → (GuestState × TurnOutcome) × HostState × DiskState → TurnOutcome × WorldState
turned w guest out =
    (out.0.1, record { guests = slice_set w.guests guest out.0.0; disks = slice_set w.disks guest out.2; host = out.1 })

-- one turn of a processor
abbrev pub turn_step : WorldState → (guest cpu : ℕ) → TurnOutcome × WorldState
turn_step w guest cpu = turned w guest (exec (turn (guest_at w guest) cpu) (served w.host guest) (disk_at w guest))

-- a turn of a processor that goes on alone, after so many that moved: where it moved, the next follows, and else it was the last. On one thread
-- no turn has to be taken again
abbrev pub turns_on : (next : WorldState → AloneOutcome × WorldState) → (turns : ℕ) → TurnOutcome → WorldState → AloneOutcome × WorldState
turns_on next turns Moved w = next w
turns_on next turns Finished w = (AloneFinished (turns + 1), w)
turns_on next turns (Waits page owner) w = (AloneWaits turns page owner, w)
turns_on next turns (Again why) w = (AloneIdle, w)
turns_on next turns Idle w = (AloneIdle, w)

-- the turns of a processor up to the first that doesn't move, and at most `left`, after so many that moved
abbrev pub turns_after : (left turns : ℕ) → WorldState → (guest cpu : ℕ) → AloneOutcome × WorldState
turns_after zero turns w guest cpu = (AloneIdle, w)
turns_after (suc left) turns w guest cpu =
    turns_on (λ x. turns_after left (turns + 1) x guest cpu) turns (turn_step w guest cpu).0 (turn_step w guest cpu).1

-- a processor goes on alone. No command takes more turns than these, so one of them doesn't move
abbrev pub alone_step : WorldState → (guest cpu : ℕ) → AloneOutcome × WorldState
alone_step w guest cpu = turns_after most_turns 0 w guest cpu

abbrev pub applied_answer : Result Unit ApplyError → Answer
applied_answer (Ok made) = HostDone
applied_answer (Err (Refused why)) = HostRefused why
applied_answer (Err Paging) = HostPaging

unfoldable pub world_step : WorldState → Event → Answer × WorldState
world_step w (Cpu guest cpu) = (Turn (turn_step w guest cpu).0, (turn_step w guest cpu).1)
world_step w (Alone guest cpu) = (AloneAnswer (alone_step w guest cpu).0, (alone_step w guest cpu).1)
world_step w (Host guest page action) = (applied_answer (move_of w.host guest page action).answer, record w { host = after_move w.host guest page action })
world_step w (Reclaim count) = (Reclaimed (reclaim_of w.host count).count (reclaim_of w.host count).paging, record w { host = after_reclaim w.host count })

-- the answers of a schedule, and the world after it
abbrev pub answers_of : WorldState → List Event → List Answer
answers_of w [] = []
answers_of w (event ∷ events) = (world_step w event).0 ∷ answers_of (world_step w event).1 events

abbrev pub world_after : WorldState → List Event → WorldState
world_after w [] = w
world_after w (event ∷ events) = world_after (world_step w event).1 events

-- the run of a plan: the answers to its schedule, and the world after it
abbrev pub run_of : Scenario → List Answer × WorldState
run_of plan = (answers_of (opening_world plan) plan.schedule, world_after (opening_world plan) plan.schedule)
