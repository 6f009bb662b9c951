-- Why the turns of an event answered as they did.
use Rattle.std.specs.Prelude.{ℕ}
use Rattle.cmm_types.specs.declared.event.Event.{Event}
use Rattle.cmm_types.specs.declared.event.Event.TheVariants.{Cpu, Alone, Host, Reclaim}
use Rattle.cmm_types.specs.declared.turn.Turn.{Turn}
use Rattle.cmm_types.specs.declared.turn.Alone.{Alone as AloneOutcome}
use Rattle.cmm_io.specs.DiskState.{disk_view}
use Rattle.guest_rules.specs.Cause.{TurnCause, AloneCause}
use Rattle.cmm_world.specs.WorldState.{WorldState, guest_at, disk_at}
use Rattle.cmm_world.specs.WorldFit.{view_of}
use Rattle.cmm_world.specs.Run.{turn_step, alone_step}

-- a processor's turn, which led from one world to another, answered so for its cause
abbrev pub TurnIsCaused : (w x : WorldState) → (guest cpu : ℕ) → Turn → Type 0
TurnIsCaused w x guest cpu turn =
    TurnCause (guest_at w guest) (view_of w guest) (disk_view (disk_at w guest)) cpu turn (guest_at x guest) (view_of x guest) (disk_view (disk_at x guest))

-- and so did a processor that went on alone
abbrev pub AloneIsCaused : (w x : WorldState) → (guest cpu : ℕ) → AloneOutcome → Type 0
AloneIsCaused w x guest cpu outcome =
    AloneCause (guest_at w guest) (view_of w guest) (disk_view (disk_at w guest)) cpu outcome (guest_at x guest) (view_of x guest) (disk_view (disk_at x guest))

-- so it is of an event. The host's own moves have no turn
abbrev pub IsCaused : WorldState → Event → Type 0
IsCaused w (Cpu guest cpu) = TurnIsCaused w (turn_step w guest cpu).1 guest cpu (turn_step w guest cpu).0
IsCaused w (Alone guest cpu) = AloneIsCaused w (alone_step w guest cpu).1 guest cpu (alone_step w guest cpu).0
IsCaused w (Host guest page action) = Unit {0}
IsCaused w (Reclaim count) = Unit {0}
