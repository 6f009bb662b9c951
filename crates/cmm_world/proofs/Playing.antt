-- A world in which every guest fits, and what an event made of it.
use Rattle.std.specs.Prelude.{◌≡◌, ◌<◌, ℕ, List, [], ◌∷◌, length, Result, Ok, Err}
use Rattle.std.proofs.Common.{refl, sym, ap, subst, ◌∙◌}
use Rattle.cmm_types.specs.declared.event.Event.{Event}
use Rattle.cmm_types.specs.declared.event.Event.TheVariants.{Cpu, Alone}
use Rattle.cmm_types.specs.declared.event.Answer.{Answer}
use Rattle.cmm_types.specs.declared.event.Answer.TheVariants.{Turn as TurnAnswer, Alone as AloneAnswer}
use Rattle.cmm_types.specs.declared.turn.Turn.{Turn}
use Rattle.cmm_types.specs.declared.turn.Alone.{Alone as AloneOutcome}
use Rattle.cmm_io.specs.DiskState.{DiskState}
use Rattle.host_plain.specs.declared.moves.ApplyError.{ApplyError}
use Rattle.host_plain.specs.declared.moves.ApplyError.TheVariants.{Refused, Paging}
use Rattle.host_plain.specs.HostState.{HostState}
use Rattle.guest_rules.specs.GuestState.{GuestState}
use Rattle.cmm_world.specs.WorldState.{WorldState}
use Rattle.cmm_world.specs.WorldView.{WorldView, plans_of}
use Rattle.cmm_world.specs.WorldFit.{IsWorld}
use Rattle.cmm_world.specs.Run.{applied_answer, world_step, answers_of, world_after}
use Rattle.cmm_world.specs.Steps.{NoWrongDiscards, NoStepDiscardsWrongly, IsStepByStep, steps_of, step_answers}
use Rattle.cmm_world.specs.Caused.{TurnIsCaused, IsCaused}
use Rattle.cmm_world.specs.Reached.{HasReached}
use Rattle.cmm_world.specs.Lacking.{LacksPages}
use Rattle.cmm_world.specs.Played.{PlaysEvent}
use Rattle.cmm_world.proofs.Events.{plans_kept}
use Rattle.cmm_world.proofs.Kept.{MovesKeep, kept_moves}
use Rattle.cmm_world.proofs.NeverAgain.{never_again}
use Rattle.cmm_world.proofs.TurnRuns.{AfterTurn, HasReached-none, LacksPages-none, discards_moves, with_turn}
use Rattle.cmm_world.proofs.AloneRuns.{AfterAlone, step_turn}

-- a world with what it keeps
abbrev pub seen_as : WorldState → List Answer → ℕ → WorldView
seen_as w answers events = record { state = w; answers = answers; events = events }

-- an event that is one step
single_step : (w : WorldState) (event : Event) (a : Answer) (x : WorldState) → world_step w event ≡ (a, x) → steps_of w event ≡ event ∷ [] → step_answers a ≡ a ∷ [] → NoWrongDiscards w x
    → IsStepByStep w event
single_step w event a x step one answer rightly = record {
  answers = ap (answers_of w) one ∙ subst (λ (q : Answer × WorldState). q.0 ∷ [] ≡ step_answers q.0) (sym step) (sym answer);
  world = ap (world_after w) one;
  discards = subst (NoStepDiscardsWrongly w) (sym one) (subst (λ (q : Answer × WorldState). NoWrongDiscards w q.1) (sym step) rightly, tt);
}

pub plays : (w : WorldState) (answers : List Answer) (events : ℕ) (event : Event) (a : Answer) (x : WorldState) → world_step w event ≡ (a, x) → IsStepByStep w event → IsCaused w event
    → HasReached w x → LacksPages w x → plans_of x ≡ plans_of w → IsWorld x
    → PlaysEvent (seen_as w answers events) event a (seen_as x answers events)
plays w answers events event a x step steps causes reached lacks plans world = record {
  step = sym step;
  steps = steps;
  causes = causes;
  again = never_again w event causes;
  reached = subst (λ (q : Answer × WorldState). HasReached w q.1) (sym step) reached;
  lacks = subst (λ (q : Answer × WorldState). LacksPages w q.1) (sym step) lacks;
  kept = record { plans = plans; room = refl; fit = world.fit; failures = world.failures };
  answers = refl;
}

pub plays_turn : (w : WorldState) (answers : List Answer) (events : ℕ) (guest cpu : ℕ) (h : GuestState) (r : Turn) (k : HostState) (e : DiskState) → guest < length w.guests
    → AfterTurn w guest cpu h r k e
    → PlaysEvent (seen_as w answers events) (Cpu guest cpu) (TurnAnswer r) (seen_as (with_turn w guest h k e) answers events)
plays_turn w answers events guest cpu h r k e below after =
    let x = with_turn w guest h k e in
    let step = step_turn w guest cpu r x after.step in
    plays w answers events (Cpu guest cpu) (TurnAnswer r) x step (single_step w (Cpu guest cpu) (TurnAnswer r) x step refl refl after.discards)
    (subst (λ (q : Turn × WorldState). TurnIsCaused w q.1 guest cpu q.0) (sym after.step) after.caused) after.reached after.lacks
    (plans_kept w.guests guest h below after.plan) after.world

pub plays_alone : (w : WorldState) (answers : List Answer) (events : ℕ) (guest cpu : ℕ) (h : GuestState) (a : AloneOutcome) (k : HostState) (e : DiskState) → guest < length w.guests
    → AfterAlone w guest cpu h a k e
    → PlaysEvent (seen_as w answers events) (Alone guest cpu) (AloneAnswer a) (seen_as (with_turn w guest h k e) answers events)
plays_alone w answers events guest cpu h a k e below after =
    plays w answers events (Alone guest cpu) (AloneAnswer a) (with_turn w guest h k e) (sym after.step) after.steps after.caused after.reached after.lacks
    (plans_kept w.guests guest h below after.plan) after.world

pub move_answered : (made : Result Unit ApplyError) → step_answers (applied_answer made) ≡ applied_answer made ∷ []
move_answered (Ok done) = refl
move_answered (Err (Refused why)) = refl
move_answered (Err Paging) = refl

-- a move of the host's own, or its reclaiming
pub plays_moves : (w : WorldState) (answers : List Answer) (events : ℕ) (event : Event) (a : Answer) (k : HostState) → world_step w event ≡ (a, record w { host = k })
    → steps_of w event ≡ event ∷ [] → step_answers a ≡ a ∷ [] → IsCaused w event
    → IsWorld w → MovesKeep w.host k → PlaysEvent (seen_as w answers events) event a (seen_as (record w { host = k }) answers events)
plays_moves w answers events event a k step one answer causes world keeps =
    let x : WorldState = record w { host = k } in
    plays w answers events event a x step (single_step w event a x step one answer (discards_moves w k keeps)) causes (HasReached-none w x (λ guest. refl))
    (LacksPages-none w x (λ guest. refl)) refl (kept_moves w k world keeps)
