-- A processor that goes on alone on the plain host takes turn after turn, each a step of the world.
use Rattle.std.specs.Prelude.{◌≡◌, ◌⊎◌, ◌<◌, ℕ, zero, suc, ◌+◌, ◌-◌, ◌++◌, List, [], ◌∷◌, length, replicate, slice_set, Option, None}
use Rattle.std.proofs.Common.{refl, sym, ap, inl, inr, arith, subst, ◌∙◌, length-set, get_or-set_same}
use Rattle.std.proofs.lemmas.List.{set-set, set-get_or}
use Rattle.cmm_types.specs.declared.plan.GuestPlan.{GuestPlan}
use Rattle.cmm_types.specs.declared.command.Op.{Op}
use Rattle.cmm_types.specs.declared.turn.Turn.{Turn}
use Rattle.cmm_types.specs.declared.turn.Turn.TheVariants.{Moved, Finished, Waits, Again, Idle}
use Rattle.cmm_types.specs.declared.turn.Alone.{Alone as AloneOutcome}
use Rattle.cmm_types.specs.declared.turn.Alone.TheVariants.{Finished as AloneFinished, Waits as AloneWaits, Idle as AloneIdle}
use Rattle.cmm_types.specs.declared.event.Answer.{Answer}
use Rattle.cmm_types.specs.declared.event.Answer.TheVariants.{Turn as TurnAnswer, Alone as AloneAnswer}
use Rattle.cmm_types.specs.declared.event.Event.{Event}
use Rattle.cmm_types.specs.declared.event.Event.TheVariants.{Cpu, Alone}
use Rattle.cmm_flat.specs.Legal.{command_of}
use Rattle.cmm_io.specs.DiskCall.{DiskCall}
use Rattle.cmm_io.specs.DiskState.{DiskState, DiskStep, disk_view, opened}
use Rattle.cmm_io.specs.DiskView.{DiskView, DiskFollows}
use Rattle.cmm_storage.specs.StorageCall.{StorageCall}
use Rattle.cmm_storage.specs.StorageView.{StorageView, Follows}
use Rattle.cmm_storage.specs.Program.{Does}
use Rattle.cmm_storage.specs.Views.{does_seen, page_called}
use Rattle.host_plain.specs.HostState.{HostState, HostStep, Leaves, host_view, served}
use Rattle.guest_rules.specs.GuestState.{GuestState, opening_guest, processor_at}
use Rattle.guest_rules.specs.Turns.{turn, turn_on}
use Rattle.guest_rules.specs.Alone.{alone, alone_within, alone_after, most_turns}
use Rattle.guest_rules.specs.Fit.{Fit}
use Rattle.guest_rules.specs.Cause.{AloneCause}
use Rattle.guest_rules.proofs.TurnLaws.{Causes-alone}
use Rattle.guest_core.proofs.AloneRuns.{stopped_at, finished_at, waits_at}
use Rattle.cmm_types.specs.NoPlan.{no_plan}
use Rattle.cmm_world.specs.WorldState.{WorldState, guest_at, disk_at}
use Rattle.cmm_world.specs.WorldFit.{IsWorld}
use Rattle.cmm_world.specs.Run.{turned, turn_step, turns_on, turns_after, alone_step, world_step, answers_of, world_after}
use Rattle.cmm_world.specs.Exec.{exec}
use Rattle.cmm_world.specs.Steps.{NoWrongDiscards, NoStepDiscardsWrongly, IsStepByStep, turns_taken, step_answers}
use Rattle.cmm_world.specs.Caused.{AloneIsCaused, IsCaused}
use Rattle.cmm_world.specs.Reached.{HasReached}
use Rattle.cmm_world.specs.Lacking.{LacksPages}
use Rattle.cmm_world.proofs.Kept.{KeepsOthers}
use Rattle.cmm_world.proofs.Unbound.{halfway}
use Rattle.cmm_world.proofs.TurnRuns.{AfterTurn, Grows, Grows-same, Grows-trans, HasReached-none, HasReached-then, LacksPages-none, LacksPages-then}
use Rattle.cmm_world.proofs.TurnRuns.{after_turn, between_worlds, run_keeps, with_turn, served_same}

-- so many turns of a processor, as events
abbrev pub turns_of : (guest cpu count : ℕ) → List Event
turns_of guest cpu count = replicate count (Cpu guest cpu)

-- some turns that moved, and a last one, with which they stop
pub record Stops (turns : ℕ) (w : WorldState) (guest cpu : ℕ) (a : AloneOutcome) (x : WorldState) : Type 0 where
  pub moved : ℕ
  pub last : Turn
  pub answers : answers_of w (turns_of guest cpu (suc moved)) ≡ replicate moved (TurnAnswer Moved) ++ TurnAnswer last ∷ []
  pub world : world_after w (turns_of guest cpu (suc moved)) ≡ x
  pub discards : NoStepDiscardsWrongly w (turns_of guest cpu (suc moved))
  pub answer : a ≡ stopped_at (turns + moved) last

-- what at most `left` turns, after so many that moved, leave of the world. They all moved where they don't stop
pub record AfterTurns (left turns : ℕ) (w : WorldState) (guest cpu : ℕ) (h : GuestState) (a : AloneOutcome) (k : HostState) (e : DiskState) : Type 0 where
  pub steps : turns_after left turns w guest cpu ≡ (a, with_turn w guest h k e)
  pub world : IsWorld (with_turn w guest h k e)
  pub reached : HasReached w (with_turn w guest h k e)
  pub lacks : LacksPages w (with_turn w guest h k e)
  pub grows : Grows w (with_turn w guest h k e)
  pub plan : h.plan ≡ (guest_at w guest).plan
  pub stops : (a ≡ AloneIdle) ⊎ Stops turns w guest cpu a (with_turn w guest h k e)

-- a world whose guest is put back
with_turn-same : (w : WorldState) (guest : ℕ) (h : GuestState) (k : HostState) (e : DiskState) → h ≡ guest_at w guest → k ≡ w.host → e ≡ disk_at w guest → with_turn w guest h k e ≡ w
with_turn-same w guest h k e is_guest is_host is_disk =
    let guests : slice_set w.guests guest h ≡ w.guests = ap (slice_set w.guests guest) is_guest ∙ set-get_or w.guests guest (opening_guest no_plan) in
    let disks : slice_set w.disks guest e ≡ w.disks = ap (slice_set w.disks guest) is_disk ∙ set-get_or w.disks guest (opened [] 0 []) in
    λ i. record { guests = guests i; disks = disks i; host = is_host i }

-- one turn after another
with_turn-twice : (w : WorldState) (guest : ℕ) (g h : GuestState) (j k : HostState) (d e : DiskState) → with_turn (with_turn w guest g j d) guest h k e ≡ with_turn w guest h k e
with_turn-twice w guest g h j k d e =
    let guests : slice_set (slice_set w.guests guest g) guest h ≡ slice_set w.guests guest h = set-set w.guests guest g h in
    let disks : slice_set (slice_set w.disks guest d) guest e ≡ slice_set w.disks guest e = set-set w.disks guest d e in
    λ i. record { guests = guests i; disks = disks i; host = k }

-- a turn as an event
pub step_turn : (w : WorldState) (guest cpu : ℕ) (r : Turn) (x : WorldState) → turn_step w guest cpu ≡ (r, x) → ◌≡◌ {A = Answer × WorldState} (world_step w (Cpu guest cpu)) (TurnAnswer r, x)
unfolding world_step
step_turn w guest cpu r x step = ap (λ (q : Turn × WorldState). let out : Answer × WorldState = (TurnAnswer q.0, q.1) in out) step

-- no turn is left
after_none : (turns : ℕ) (w : WorldState) (guest cpu : ℕ) (h : GuestState) (a : AloneOutcome) (k : HostState) (e : DiskState) → IsWorld w → h ≡ guest_at w guest → a ≡ AloneIdle → k ≡ w.host
    → e ≡ disk_at w guest
    → AfterTurns zero turns w guest cpu h a k e
after_none turns w guest cpu h a k e world is_guest idle is_host is_disk =
    let same : with_turn w guest h k e ≡ w = with_turn-same w guest h k e is_guest is_host is_disk in
    record {
      steps = λ i. (sym idle i, sym same i);
      world = subst IsWorld (sym same) world;
      reached = subst (HasReached w) (sym same) (HasReached-none w w (λ guest. refl));
      lacks = subst (LacksPages w) (sym same) (LacksPages-none w w (λ guest. refl));
      grows = subst (Grows w) (sym same) (Grows-same w w (λ guest. refl));
      plan = ap (λ (g : GuestState). g.plan) is_guest;
      stops = inl idle;
    }

-- the turn didn't move
after_stop : (left turns : ℕ) (w : WorldState) (guest cpu : ℕ) (h : GuestState) (r : Turn) (a : AloneOutcome) (k : HostState) (e : DiskState)
    → ((next : WorldState → AloneOutcome × WorldState) (x : WorldState) → turns_on next turns r x ≡ (stopped_at turns r, x)) → a ≡ stopped_at turns r → AfterTurn w guest cpu h r k e
    → AfterTurns (suc left) turns w guest cpu h a k e
after_stop left turns w guest cpu h r a k e on answer next =
    let x = with_turn w guest h k e in
    let event = step_turn w guest cpu r x next.step in
    record {
      steps = ap (λ (q : Turn × WorldState). turns_on (λ x. turns_after left (turns + 1) x guest cpu) turns q.0 q.1) next.step ∙ on _ x ∙ (λ i. (sym answer i, x));
      world = next.world;
      reached = next.reached;
      lacks = next.lacks;
      grows = next.grows;
      plan = next.plan;
      stops = inr (record {
        moved = zero;
        last = r;
        answers = ap (λ (q : Answer × WorldState). q.0 ∷ []) event;
        world = ap (λ (q : Answer × WorldState). q.1) event;
        discards = (subst (λ (q : Answer × WorldState). NoWrongDiscards w q.1) (sym event) next.discards, tt);
        answer = answer ∙ ap (λ n. stopped_at n r) (let n : turns ≡ turns + 0 = omega arith in n);
      });
    }

-- a turn moved, and others followed
more_stops : (turns : ℕ) (w m : WorldState) (guest cpu : ℕ) (a : AloneOutcome) (x : WorldState) → world_step w (Cpu guest cpu) ≡ (TurnAnswer Moved, m) → NoWrongDiscards w m
    → Stops (turns + 1) m guest cpu a x → Stops turns w guest cpu a x
more_stops turns w m guest cpu a x event rightly s = record {
  moved = suc s.moved;
  last = s.last;
  answers = ap (λ (q : Answer × WorldState). q.0 ∷ answers_of q.1 (turns_of guest cpu (suc s.moved))) event ∙ ap (λ list. TurnAnswer Moved ∷ list) s.answers;
  world = ap (λ (q : Answer × WorldState). world_after q.1 (turns_of guest cpu (suc s.moved))) event ∙ s.world;
  discards = subst (λ (q : Answer × WorldState). NoWrongDiscards w q.1 × NoStepDiscardsWrongly q.1 (turns_of guest cpu (suc s.moved))) (sym event) (rightly, s.discards);
  answer = s.answer ∙ ap (λ n. stopped_at n s.last) (let n : turns + 1 + s.moved ≡ turns + suc s.moved = omega arith in n);
}

after_more : (left turns : ℕ) (w : WorldState) (guest cpu : ℕ) (g h : GuestState) (a : AloneOutcome) (j k : HostState) (d e : DiskState) → guest < length w.guests
    → AfterTurn w guest cpu g Moved j d → AfterTurns left (turns + 1) (with_turn w guest g j d) guest cpu h a k e → AfterTurns (suc left) turns w guest cpu h a k e
after_more left turns w guest cpu g h a j k d e below next rest =
    let m = with_turn w guest g j d in
    let same : with_turn m guest h k e ≡ with_turn w guest h k e = with_turn-twice w guest g h j k d e in
    record {
      steps = ap (λ (q : Turn × WorldState). turns_on (λ x. turns_after left (turns + 1) x guest cpu) turns q.0 q.1) next.step ∙ rest.steps ∙ (λ i. (a, same i));
      world = subst IsWorld same rest.world;
      reached = HasReached-then w m (with_turn w guest h k e) (next.moved refl) (subst (Grows m) same rest.grows) (subst (HasReached m) same rest.reached);
      lacks = LacksPages-then w m (with_turn w guest h k e) (next.moved refl) (subst (Grows m) same rest.grows) (subst (LacksPages m) same rest.lacks);
      grows = Grows-trans w m (with_turn w guest h k e) next.grows (subst (Grows m) same rest.grows);
      plan = rest.plan ∙ ap (λ (g : GuestState). g.plan) (get_or-set_same w.guests guest g (opening_guest no_plan) below) ∙ next.plan;
      stops = elim rest.stops [
        | inl idle ↦ inl idle
        | inr s ↦ inr (more_stops turns w m guest cpu a (with_turn w guest h k e) (step_turn w guest cpu Moved m next.step) next.discards (subst (Stops (turns + 1) m guest cpu a) same s))
      ];
    }

-- the same, where nothing was done behind the last turn
same_turns : (left turns : ℕ) (w : WorldState) (guest cpu : ℕ) (g h : GuestState) (a : AloneOutcome) (j k : HostState) (d e : DiskState) → h ≡ g → k ≡ j → e ≡ d
    → AfterTurns left turns w guest cpu g a j d → AfterTurns left turns w guest cpu h a k e
same_turns left turns w guest cpu g h a j k d e is_guest is_host is_disk after =
    subst (λ q. AfterTurns left turns w guest cpu q a k e) (sym is_guest)
    (subst (λ q. AfterTurns left turns w guest cpu g a q e) (sym is_host) (subst (λ q. AfterTurns left turns w guest cpu g a j q) (sym is_disk) after))

-- an answer spelled by as many turns as it tells of
pub record IsSpelled (w : WorldState) (guest cpu : ℕ) (a : AloneOutcome) (x : WorldState) : Type 0 where
  pub answers : answers_of w (turns_of guest cpu (turns_taken a)) ≡ step_answers (AloneAnswer a)
  pub world : world_after w (turns_of guest cpu (turns_taken a)) ≡ x
  pub discards : NoStepDiscardsWrongly w (turns_of guest cpu (turns_taken a))

step_by_step : (w : WorldState) (guest cpu : ℕ) (a : AloneOutcome) (x : WorldState) → alone_step w guest cpu ≡ (a, x) → IsSpelled w guest cpu a x → IsStepByStep w (Alone guest cpu)
unfolding world_step
step_by_step w guest cpu a x step s = record {
  answers = subst (λ (q : AloneOutcome × WorldState). answers_of w (turns_of guest cpu (turns_taken q.0)) ≡ step_answers (AloneAnswer q.0)) (sym step) s.answers;
  world = subst (λ (q : AloneOutcome × WorldState). world_after w (turns_of guest cpu (turns_taken q.0)) ≡ q.1) (sym step) s.world;
  discards = subst (λ (q : AloneOutcome × WorldState). NoStepDiscardsWrongly w (turns_of guest cpu (turns_taken q.0))) (sym step) s.discards;
}

-- where the turns stop because the command is finished
spelled_finished : (n : ℕ) (w : WorldState) (guest cpu : ℕ) (x : WorldState) → Stops 0 w guest cpu (AloneFinished n) x → IsSpelled w guest cpu (AloneFinished n) x
spelled_finished n w guest cpu x s =
    let its = finished_at n (0 + s.moved) s.last s.answer in
    let count : suc s.moved ≡ n = omega (arith, its.1) in
    let moved : s.moved ≡ suc s.moved - 1 = omega arith in
    record {
      answers = subst (λ k. answers_of w (turns_of guest cpu k) ≡ replicate (k - 1) (TurnAnswer Moved) ++ TurnAnswer Finished ∷ []) count
          (s.answers ∙ ap (λ (r : Turn). replicate s.moved (TurnAnswer Moved) ++ TurnAnswer r ∷ []) its.0 ∙ ap (λ k. replicate k (TurnAnswer Moved) ++ TurnAnswer Finished ∷ []) moved);
      world = subst (λ k. world_after w (turns_of guest cpu k) ≡ x) count s.world;
      discards = subst (λ k. NoStepDiscardsWrongly w (turns_of guest cpu k)) count s.discards;
    }

-- or because another processor has the page locked
spelled_waits : (n page owner : ℕ) (w : WorldState) (guest cpu : ℕ) (x : WorldState) → Stops 0 w guest cpu (AloneWaits n page owner) x → IsSpelled w guest cpu (AloneWaits n page owner) x
spelled_waits n page owner w guest cpu x s =
    let its = waits_at n page owner (0 + s.moved) s.last s.answer in
    let count : suc s.moved ≡ n + 1 = omega (arith, its.1) in
    let moved : s.moved ≡ n = omega (arith, its.1) in
    record {
      answers = subst (λ k. answers_of w (turns_of guest cpu k) ≡ replicate n (TurnAnswer Moved) ++ TurnAnswer (Waits page owner) ∷ []) count
          (s.answers ∙ ap (λ (r : Turn). replicate s.moved (TurnAnswer Moved) ++ TurnAnswer r ∷ []) its.0 ∙ ap (λ k. replicate k (TurnAnswer Moved) ++ TurnAnswer (Waits page owner) ∷ []) moved);
      world = subst (λ k. world_after w (turns_of guest cpu k) ≡ x) count s.world;
      discards = subst (λ k. NoStepDiscardsWrongly w (turns_of guest cpu k)) count s.discards;
    }

-- a processor without a command does nothing
abbrev idle_world : WorldState → (guest : ℕ) → WorldState
idle_world w guest = with_turn w guest (guest_at w guest) (served w.host guest) (disk_at w guest)

idle_turn : (w : WorldState) (guest cpu : ℕ) → command_of (guest_at w guest).plan cpu (processor_at (guest_at w guest) cpu).place ≡ None → turn_step w guest cpu ≡ (Idle, idle_world w guest)
unfolding turn
idle_turn w guest cpu none = ap (λ (c : Option Op). turned w guest (exec (turn_on (guest_at w guest) cpu c) (served w.host guest) (disk_at w guest))) none

idle_alone : (left : ℕ) (w : WorldState) (guest cpu : ℕ) → (left ≡ zero → ⊥) → turn_step w guest cpu ≡ (Idle, idle_world w guest) → turns_after left 0 w guest cpu ≡ (AloneIdle, idle_world w guest)
idle_alone zero w guest cpu some step = absurd (some refl)
idle_alone (suc left) w guest cpu some step = ap (λ (q : Turn × WorldState). turns_on (λ x. turns_after left (0 + 1) x guest cpu) 0 q.0 q.1) step

spelled_idle : (w : WorldState) (guest cpu : ℕ) → turn_step w guest cpu ≡ (Idle, idle_world w guest) → IsSpelled w guest cpu AloneIdle (idle_world w guest)
spelled_idle w guest cpu step =
    let event = step_turn w guest cpu Idle (idle_world w guest) step in
    let rightly : NoWrongDiscards w (idle_world w guest) = λ i page lt below lost. inl lost in
    record {
      answers = ap (λ (q : Answer × WorldState). q.0 ∷ []) event;
      world = ap (λ (q : Answer × WorldState). q.1) event;
      discards = (subst (λ (q : Answer × WorldState). NoWrongDiscards w q.1) (sym event) rightly, tt);
    }

some_turns : most_turns ≡ zero → ⊥
unfolding most_turns
some_turns none = omega (arith, none)

-- whatever the turns of a processor that went on alone answered, its answer spells them
spelled : (v y : StorageView) (d e : DiskView) (w : WorldState) (guest cpu : ℕ) (h : GuestState) (a : AloneOutcome) (x : WorldState) → AloneCause (guest_at w guest) v d cpu a h y e
    → alone_step w guest cpu ≡ (a, x) → (a ≡ AloneIdle) ⊎ Stops 0 w guest cpu a x → IsSpelled w guest cpu a x
spelled v y d e w guest cpu h (AloneFinished turns) x cause step (inl idle) = let bad : AloneFinished turns ≡ AloneIdle = idle in absurd cc
spelled v y d e w guest cpu h (AloneFinished turns) x cause step (inr s) = spelled_finished turns w guest cpu x s
spelled v y d e w guest cpu h (AloneWaits turns page owner) x cause step (inl idle) = let bad : AloneWaits turns page owner ≡ AloneIdle = idle in absurd cc
spelled v y d e w guest cpu h (AloneWaits turns page owner) x cause step (inr s) = spelled_waits turns page owner w guest cpu x s
spelled v y d e w guest cpu h AloneIdle x cause step stops =
    let turn_is = idle_turn w guest cpu cause.cause.answer.3 in
    let world : idle_world w guest ≡ x = ap (λ (q : AloneOutcome × WorldState). q.1) (sym (idle_alone most_turns w guest cpu some_turns turn_is) ∙ step) in
    subst (IsSpelled w guest cpu AloneIdle) world (spelled_idle w guest cpu turn_is)

-- what the turns of a processor that goes on alone leave of the world
pub record AfterAlone (w : WorldState) (guest cpu : ℕ) (h : GuestState) (a : AloneOutcome) (k : HostState) (e : DiskState) : Type 0 where
  pub step : ◌≡◌ {A = Answer × WorldState} (AloneAnswer a, with_turn w guest h k e) (world_step w (Alone guest cpu))
  pub world : IsWorld (with_turn w guest h k e)
  pub steps : IsStepByStep w (Alone guest cpu)
  pub caused : IsCaused w (Alone guest cpu)
  pub reached : HasReached w (with_turn w guest h k e)
  pub lacks : LacksPages w (with_turn w guest h k e)
  pub plan : h.plan ≡ (guest_at w guest).plan

module _ {S D : Type 0} (ss : S → StorageCall → S → Type 0) (ds : D → DiskCall → D → Type 0) (sv : S → HostState) (dv : D → DiskState)
    (sm : (s : S) (call : StorageCall) (t : S) → ss s call t → HostStep (sv s) call (sv t))
    (dm : (d : D) (call : DiskCall) (e : D) → ds d call e → DiskStep (dv d) call (dv e))
    (sf : (s : S) (call : StorageCall) (t : S) → ss s call t → Follows (host_view (sv s)) call (host_view (sv t)))
    (df : (d : D) (call : DiskCall) (e : D) → ds d call e → DiskFollows (disk_view (dv d)) call (disk_view (dv e)))
    (sl : (s : S) (call : StorageCall) (t : S) → ss s call t → Leaves (sv s) (page_called call) (sv t)) where
  -- what follows the turn
  follow : (left turns : ℕ) (w : WorldState) (guest cpu : ℕ) (g h : GuestState) (r : Turn) (a : AloneOutcome) (m : S) (n : D) (t : S) (e : D) → guest < length w.guests
      → (Does ss ds (alone_within left (turns + 1) g cpu) m n (h, a) t e → AfterTurns left (turns + 1) (with_turn w guest g (sv m) (dv n)) guest cpu h a (sv t) (dv e))
      → Does ss ds (alone_after (λ g. alone_within left (turns + 1) g cpu) turns g r) m n (h, a) t e → AfterTurn w guest cpu g r (sv m) (dv n)
      → AfterTurns (suc left) turns w guest cpu h a (sv t) (dv e)
  follow left turns w guest cpu g h Moved a m n t e below more run next = after_more left turns w guest cpu g h a (sv m) (sv t) (dv n) (dv e) below next (more run)
  follow left turns w guest cpu g h Finished a m n t e below more (ea, es, ed) next =
      same_turns (suc left) turns w guest cpu g h a (sv m) (sv t) (dv n) (dv e) (ap (λ (q : GuestState × AloneOutcome). q.0) ea) (ap sv es) (ap dv ed)
      (after_stop left turns w guest cpu g Finished a (sv m) (dv n) (λ next x. refl) (ap (λ (q : GuestState × AloneOutcome). q.1) ea) next)
  follow left turns w guest cpu g h (Waits page owner) a m n t e below more (ea, es, ed) next =
      same_turns (suc left) turns w guest cpu g h a (sv m) (sv t) (dv n) (dv e) (ap (λ (q : GuestState × AloneOutcome). q.0) ea) (ap sv es) (ap dv ed)
      (after_stop left turns w guest cpu g (Waits page owner) a (sv m) (dv n) (λ next x. refl) (ap (λ (q : GuestState × AloneOutcome). q.1) ea) next)
  follow left turns w guest cpu g h (Again why) a m n t e below more (ea, es, ed) next =
      same_turns (suc left) turns w guest cpu g h a (sv m) (sv t) (dv n) (dv e) (ap (λ (q : GuestState × AloneOutcome). q.0) ea) (ap sv es) (ap dv ed)
      (after_stop left turns w guest cpu g (Again why) a (sv m) (dv n) (λ next x. refl) (ap (λ (q : GuestState × AloneOutcome). q.1) ea) next)
  follow left turns w guest cpu g h Idle a m n t e below more (ea, es, ed) next =
      same_turns (suc left) turns w guest cpu g h a (sv m) (sv t) (dv n) (dv e) (ap (λ (q : GuestState × AloneOutcome). q.0) ea) (ap sv es) (ap dv ed)
      (after_stop left turns w guest cpu g Idle a (sv m) (dv n) (λ next x. refl) (ap (λ (q : GuestState × AloneOutcome). q.1) ea) next)

  pub after_turns : (left turns : ℕ) (w : WorldState) (guest cpu : ℕ) (s : S) (d : D) (h : GuestState) (a : AloneOutcome) (t : S) (e : D) → IsWorld w → guest < length w.guests
      → sv s ≡ served w.host guest → dv d ≡ disk_at w guest → cpu < length (guest_at w guest).processors → (left ≡ zero → served w.host guest ≡ w.host)
      → Does ss ds (alone_within left turns (guest_at w guest) cpu) s d (h, a) t e → AfterTurns left turns w guest cpu h a (sv t) (dv e)
  after_turns zero turns w guest cpu s d h a t e world below is_host is_disk has_cpu serves (ea, es, ed) =
      after_none turns w guest cpu h a (sv t) (dv e) world (ap (λ (q : GuestState × AloneOutcome). q.0) ea) (ap (λ (q : GuestState × AloneOutcome). q.1) ea)
      (ap sv es ∙ is_host ∙ serves refl) (ap dv ed ∙ is_disk)
  after_turns (suc left) turns w guest cpu s d h a t e world below is_host is_disk has_cpu serves run =
      let x = halfway ss ds (turn (guest_at w guest) cpu) (λ went. alone_after (λ g. alone_within left (turns + 1) g cpu) turns went.0 went.1) s d (h, a) t e run in
      let next = after_turn ss ds sv dv sm dm sf df sl w guest cpu s d x.answer.0 x.answer.1 x.storage x.disk world below is_host is_disk has_cpu x.first in
      let w1 = with_turn w guest x.answer.0 (sv x.storage) (dv x.disk) in
      let here : guest_at w1 guest ≡ x.answer.0 = get_or-set_same w.guests guest x.answer.0 (opening_guest no_plan) below in
      let disk : dv x.disk ≡ disk_at w1 guest = sym (get_or-set_same w.disks guest (dv x.disk) (opened [] 0 []) (rw world.disks below)) in
      let host : served w1.host guest ≡ w1.host = served_same (sv x.storage) guest next.serves in
      let below' : guest < length w1.guests = rw length-set below in
      let count : length (guest_at w1 guest).processors ≡ length (guest_at w guest).processors =
      (next.world.fit guest below').sizes.processors ∙ ap (λ (q : GuestPlan). length q.cpus) (ap (λ (q : GuestState). q.plan) here ∙ next.plan) ∙ sym (world.fit guest below).sizes.processors in
      follow left turns w guest cpu x.answer.0 h x.answer.1 a x.storage x.disk t e below
      (λ rest. after_turns left (turns + 1) w1 guest cpu x.storage x.disk h a t e next.world below' (sym host) disk (rw count has_cpu) (λ none. host)
      (subst (λ g. Does ss ds (alone_within left (turns + 1) g cpu) x.storage x.disk (h, a) t e) (sym here) rest))
      x.second next

  pub after_alone : (w : WorldState) (guest cpu : ℕ) (s : S) (d : D) (h : GuestState) (a : AloneOutcome) (t : S) (e : D) → IsWorld w → guest < length w.guests
      → sv s ≡ served w.host guest → dv d ≡ disk_at w guest → cpu < length (guest_at w guest).processors
      → Does ss ds (alone (guest_at w guest) cpu) s d (h, a) t e → AfterAlone w guest cpu h a (sv t) (dv e)
  unfolding world_step
  after_alone w guest cpu s d h a t e world below is_host is_disk has_cpu run =
      let x = after_turns most_turns 0 w guest cpu s d h a t e world below is_host is_disk has_cpu (λ none. absurd (some_turns none)) run in
      let fit : Fit (guest_at w guest) (host_view (sv s)) (disk_view (dv d)) = rw (is_host, is_disk) (world.fit guest below) in
      let ran = does_seen ss ds (λ q. host_view (sv q)) (λ q. disk_view (dv q)) sf df (alone (guest_at w guest) cpu) s d (h, a) t e run in
      let cause = Causes-alone (guest_at w guest) cpu _ _ h a _ _ refl fit has_cpu ran in
      let kept : KeepsOthers (sv s) (sv t) = run_keeps ss ds sv dv sm dm sf df sl (alone (guest_at w guest) cpu) s d (h, a) t e run in
      let serves : (sv t).guest ≡ guest = kept.serves ∙ ap (λ (q : HostState). q.guest) is_host in
      let caused : AloneIsCaused w (with_turn w guest h (sv t) (dv e)) guest cpu a =
      between_worlds (λ p v b q y c. AloneCause p v b cpu a q y c) w guest (sv s) (sv t) (dv d) (dv e) h below (rw world.disks below) is_host is_disk serves cause in
      record {
        step = sym (ap (λ (q : AloneOutcome × WorldState). let out : Answer × WorldState = (AloneAnswer q.0, q.1) in out) x.steps);
        world = x.world;
        steps = step_by_step w guest cpu a (with_turn w guest h (sv t) (dv e)) x.steps (spelled _ _ _ _ w guest cpu h a (with_turn w guest h (sv t) (dv e)) cause x.steps x.stops);
        caused = subst (λ (q : AloneOutcome × WorldState). AloneIsCaused w q.1 guest cpu q.0) (sym x.steps) caused;
        reached = x.reached;
        lacks = x.lacks;
        plan = x.plan;
      }
