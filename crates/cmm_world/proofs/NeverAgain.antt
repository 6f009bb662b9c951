-- On one thread no turn has to be taken again.
use Rattle.std.specs.Prelude.{◌≡◌, ℕ, Bool, true, false, Result, Ok, Err}
use Rattle.std.proofs.Common.{refl, sym, subst, ◌∙◌}
use Rattle.cmm_types.specs.declared.event.Event.{Event}
use Rattle.cmm_types.specs.declared.event.Event.TheVariants.{Cpu, Alone, Host, Reclaim}
use Rattle.cmm_types.specs.declared.event.Answer.{Answer}
use Rattle.cmm_types.specs.declared.event.Answer.TheVariants.{Turn as TurnAnswer, Alone as AloneAnswer, HostDone, HostRefused, HostPaging, Reclaimed}
use Rattle.cmm_types.specs.declared.turn.Turn.{Turn}
use Rattle.cmm_types.specs.declared.turn.Turn.TheVariants.{Again}
use Rattle.cmm_types.specs.declared.turn.Why.{Why}
use Rattle.cmm_types.specs.declared.turn.Alone.{Alone as AloneOutcome}
use Rattle.cmm_io.specs.DiskView.{DiskView}
use Rattle.cmm_storage.specs.StorageView.{StorageView}
use Rattle.host_plain.specs.declared.moves.ApplyError.{ApplyError}
use Rattle.host_plain.specs.declared.moves.ApplyError.TheVariants.{Refused, Paging}
use Rattle.guest_rules.specs.GuestState.{GuestState}
use Rattle.guest_rules.specs.Cause.{TurnCause, AnswerCause}
use Rattle.cmm_world.specs.WorldState.{WorldState}
use Rattle.cmm_world.specs.Run.{turn_step, alone_step, applied_answer, world_step}
use Rattle.cmm_world.specs.Steps.{TakesNoneAgain}
use Rattle.cmm_world.specs.Caused.{IsCaused}

-- a turn over a storage that never misses
quiet_turn : (g h : GuestState) (v w : StorageView) (d e : DiskView) (cpu : ℕ) (t : Turn) (why : Why) → v.quiet ≡ true → TurnCause g v d cpu t h w e → t ≡ Again why → ⊥
quiet_turn g h v w d e cpu t why quiet cause again =
    let answer : AnswerCause g v d cpu (Again why) h w e = subst (λ q. AnswerCause g v d cpu q h w e) again cause.answer in
    let bad : true ≡ false = sym quiet ∙ answer.2.not_quiet in
    cc

-- which answers are a turn's
turn_in : (t u : Turn) → ◌≡◌ {A = Answer} (TurnAnswer t) (TurnAnswer u) → t ≡ u
turn_in t u same = cc

no_turn-alone : (a : AloneOutcome) (t : Turn) → ◌≡◌ {A = Answer} (AloneAnswer a) (TurnAnswer t) → ⊥
no_turn-alone a t same = cc

no_turn-applied : (made : Result Unit ApplyError) (t : Turn) → ◌≡◌ {A = Answer} (applied_answer made) (TurnAnswer t) → ⊥
no_turn-applied (Ok done) t same = cc
no_turn-applied (Err (Refused why)) t same = cc
no_turn-applied (Err Paging) t same = cc

no_turn-reclaimed : (count : ℕ) (paging : Bool) (t : Turn) → ◌≡◌ {A = Answer} (Reclaimed count paging) (TurnAnswer t) → ⊥
no_turn-reclaimed count paging t same = cc

-- so an event whose turns answered for their causes is answered by none that has to be taken again
pub never_again : (w : WorldState) (event : Event) → IsCaused w event → TakesNoneAgain w event
unfolding world_step
never_again w (Cpu guest cpu) caused why same = quiet_turn _ _ _ _ _ _ cpu (turn_step w guest cpu).0 why refl caused (turn_in (turn_step w guest cpu).0 (Again why) same)
never_again w (Alone guest cpu) caused why same = no_turn-alone (alone_step w guest cpu).0 (Again why) same
never_again w (Host guest page action) caused why same = no_turn-applied _ (Again why) same
never_again w (Reclaim count) caused why same = no_turn-reclaimed _ _ (Again why) same
