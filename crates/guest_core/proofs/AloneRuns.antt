-- The runs of a processor's turns, one turn after another.
use Rattle.std.proofs.Common.{◌≡◌, ◌<◌, ◌≤◌, ◌+◌, ◌-◌, ◌*◌, ℕ, suc, length, refl, ap, sym, subst, ◌∙◌, arith}
use Rattle.cmm_types.specs.declared.plan.TheConstants.{MAX_FILE_PAGES}
use Rattle.cmm_types.specs.declared.turn.Turn.{Turn}
use Rattle.cmm_types.specs.declared.turn.Turn.TheVariants.{Moved, Finished, Waits, Again, Idle}
use Rattle.cmm_types.specs.declared.turn.Alone.{Alone}
use Rattle.cmm_types.specs.declared.turn.Alone.TheVariants.{Finished as AloneFinished, Waits as AloneWaits, Idle as AloneIdle}
use Rattle.cmm_io.specs.DiskCall.{DiskCall}
use Rattle.cmm_io.specs.DiskView.{DiskView}
use Rattle.cmm_storage.specs.StorageCall.{StorageCall}
use Rattle.cmm_storage.specs.StorageView.{StorageView}
use Rattle.cmm_storage.specs.Program.{Program, done, Does}
use Rattle.cmm_storage.specs.Runs.{does_bind}
use Rattle.guest_rules.specs.GuestState.{GuestState}
use Rattle.guest_rules.specs.Turns.{turn}
use Rattle.guest_rules.specs.Alone.{most_turns, alone, alone_after, alone_within}
use Rattle.guest_rules.specs.Fit.{Fit}

-- what is answered where the turns stop, after so many that moved
abbrev pub stopped_at : ℕ → Turn → Alone
stopped_at turns Moved = AloneIdle
stopped_at turns Finished = AloneFinished (turns + 1)
stopped_at turns (Waits page owner) = AloneWaits turns page owner
stopped_at turns (Again why) = AloneIdle
stopped_at turns Idle = AloneIdle

pub finished_at : (n m : ℕ) (t : Turn) → AloneFinished n ≡ stopped_at m t → (t ≡ Finished) × (n ≡ m + 1)
finished_at n m Moved same = let bad : AloneFinished n ≡ AloneIdle = same in absurd cc
finished_at n m Finished same = let its : AloneFinished n ≡ AloneFinished (m + 1) = same in (refl, cc)
finished_at n m (Waits page owner) same = let bad : AloneFinished n ≡ AloneWaits m page owner = same in absurd cc
finished_at n m (Again why) same = let bad : AloneFinished n ≡ AloneIdle = same in absurd cc
finished_at n m Idle same = let bad : AloneFinished n ≡ AloneIdle = same in absurd cc

pub waits_at : (n page owner m : ℕ) (t : Turn) → AloneWaits n page owner ≡ stopped_at m t → (t ≡ Waits page owner) × (n ≡ m)
waits_at n page owner m Moved same = let bad : AloneWaits n page owner ≡ AloneIdle = same in absurd cc
waits_at n page owner m Finished same = let bad : AloneWaits n page owner ≡ AloneFinished (m + 1) = same in absurd cc
waits_at n page owner m (Waits at by) same = let its : AloneWaits n page owner ≡ AloneWaits m at by = same in (let t : Waits at by ≡ Waits page owner = cc in t, cc)
waits_at n page owner m (Again why) same = let bad : AloneWaits n page owner ≡ AloneIdle = same in absurd cc
waits_at n page owner m Idle same = let bad : AloneWaits n page owner ≡ AloneIdle = same in absurd cc

-- the code counts as many turns
pub turns-below : (turns : ℕ) → turns < 12 + 3 * MAX_FILE_PAGES → turns < most_turns
unfolding most_turns
turns-below turns h = omega (arith, h)

pub turns-past : (turns : ℕ) → 12 + 3 * MAX_FILE_PAGES ≤ turns → most_turns ≤ turns
unfolding most_turns
turns-past turns h = omega (arith, h)

-- what follows a turn
abbrev pub follows_turn : ℕ → ℕ → ℕ → GuestState → Turn → Program (GuestState × Alone)
follows_turn left turns cpu h t = alone_after (λ q. alone_within left (turns + 1) q cpu) turns h t

module _ {S D : Type 0} (ss : S → StorageCall → S → Type 0) (ds : D → DiskCall → D → Type 0) where
  one_turn : (left turns cpu : ℕ) (g h : GuestState) (t : Turn) (s m s' : S) (d e d' : D) (b : GuestState × Alone)
      → Does ss ds (turn g cpu) s d (h, t) m e → Does ss ds (follows_turn left turns cpu h t) m e b s' d' → Does ss ds (alone_within (suc left) turns g cpu) s d b s' d'
  one_turn left turns cpu g h t s m s' d e d' b run next =
      does_bind ss ds (turn g cpu) (λ went. follows_turn left turns cpu went.0 went.1) s d (h, t) m e b s' d' run next

  -- before the first turn all of them are left
  pub begins : (cpu : ℕ) (g : GuestState) (s s' : S) (d d' : D) (b : GuestState × Alone) → Does ss ds (alone_within (most_turns - 0) 0 g cpu) s d b s' d' → Does ss ds (alone g cpu) s d b s' d'
  begins cpu g s s' d d' b run =
      let left : most_turns - 0 ≡ most_turns = omega arith in
      subst (λ n. Does ss ds (alone_within n 0 g cpu) s d b s' d') left run

  -- a turn that moved, and the turns after it
  pub moved_on : (turns cpu : ℕ) (g h : GuestState) (t : Turn) (s m s' : S) (d e d' : D) (b : GuestState × Alone)
      → turns < most_turns → Does ss ds (turn g cpu) s d (h, t) m e → t ≡ Moved
      → Does ss ds (alone_within (most_turns - (turns + 1)) (turns + 1) h cpu) m e b s' d' → Does ss ds (alone_within (most_turns - turns) turns g cpu) s d b s' d'
  moved_on turns cpu g h t s m s' d e d' b below run moved next =
      let left : suc (most_turns - (turns + 1)) ≡ most_turns - turns = omega arith in
      subst (λ n. Does ss ds (alone_within n turns g cpu) s d b s' d') left
      (one_turn (most_turns - (turns + 1)) turns cpu g h t s m s' d e d' b run (subst (λ x. Does ss ds (follows_turn (most_turns - (turns + 1)) turns cpu h x) m e b s' d') (sym moved) next))

  -- the last turn
  pub stopped : (turns cpu : ℕ) (g h : GuestState) (t x : Turn) (a : Alone) (s m : S) (d e : D)
      → turns < most_turns → Does ss ds (turn g cpu) s d (h, t) m e → t ≡ x
      → follows_turn (most_turns - (turns + 1)) turns cpu h x ≡ done (h, a) → Does ss ds (alone_within (most_turns - turns) turns g cpu) s d (h, a) m e
  stopped turns cpu g h t x a s m d e below run is stops =
      let left : suc (most_turns - (turns + 1)) ≡ most_turns - turns = omega arith in
      subst (λ n. Does ss ds (alone_within n turns g cpu) s d (h, a) m e) left
      (one_turn (most_turns - (turns + 1)) turns cpu g h t s m m d e e (h, a) run
      (subst (λ p. Does ss ds p m e (h, a) m e) (sym (ap (follows_turn (most_turns - (turns + 1)) turns cpu h) is ∙ stops)) (refl, refl, refl)))

  -- no turn is left
  pub ran_out : (turns cpu : ℕ) (g : GuestState) (s : S) (d : D) → most_turns ≤ turns → Does ss ds (alone_within (most_turns - turns) turns g cpu) s d (g, AloneIdle) s d
  ran_out turns cpu g s d all =
      let left : 0 ≡ most_turns - turns = omega arith in
      subst (λ n. Does ss ds (alone_within n turns g cpu) s d (g, AloneIdle) s d) left (refl, refl, refl)

-- the processor is still there after a turn
pub still_there : (g h : GuestState) (v w : StorageView) (d e : DiskView) (cpu : ℕ) → Fit g v d → Fit h w e → h.plan ≡ g.plan → cpu < length g.processors → cpu < length h.processors
still_there g h v w d e cpu f f' plan below =
    subst (λ n. cpu < n) (f.sizes.processors ∙ ap (λ p. length p.cpus) (sym plan) ∙ sym f'.sizes.processors) below
