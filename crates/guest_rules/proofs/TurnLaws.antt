-- Laws of a guest's turns: what stands between any two of them.
use Rattle.std.specs.Prelude.{◌≡◌, ◌<◌, ℕ, length, true}
use Rattle.cmm_types.specs.declared.turn.Turn.{Turn}
use Rattle.cmm_types.specs.declared.turn.Alone.{Alone}
use Rattle.cmm_io.specs.DiskView.{DiskView}
use Rattle.cmm_flat.specs.Legal.{flat_of}
use Rattle.cmm_storage.specs.StorageView.{StorageView}
use Rattle.cmm_storage.specs.Views.{Seen}
use Rattle.guest_rules.specs.GuestState.{GuestState}
use Rattle.guest_rules.specs.Turns.{turn}
use Rattle.guest_rules.specs.Alone.{alone}
use Rattle.guest_rules.specs.Fit.{Fit}
use Rattle.guest_rules.specs.Cause.{TurnCause, AloneCause, NoWrongDiscard}
use Rattle.guest_rules.proofs.Causes.TurnCauses.{turn_causes}
use Rattle.guest_rules.proofs.Causes.Summary.{turn_summary}
use Rattle.guest_rules.proofs.Bound.Bound.{alone_causes}
use Rattle.guest_rules.proofs.Cases.Inversion.{turn_case}
use Rattle.guest_rules.proofs.Fit.FitTurn.{fit_turn}

-- g and h the guest before and after, cpu the processor, v and w its storage before and after, d and e its disk before and after, t the turn
module _ (g : GuestState) (cpu : ℕ) (v : StorageView) (d : DiskView) (h : GuestState) (t : Turn) (w : StorageView) (e : DiskView) where
  -- every turn keeps fit
  pub Fit-turn : Fit g v d → cpu < length g.processors → Seen {A = GuestState × Turn} (turn g cpu) v d (h, t) w e → Fit h w e
  Fit-turn f below run = fit_turn g cpu v d h t w e f (turn_case (flat_of g.plan g.journal) g v w d e cpu h t f below run)

  -- every turn answers for a cause
  pub Causes-turn : Fit g v d → cpu < length g.processors → Seen {A = GuestState × Turn} (turn g cpu) v d (h, t) w e → TurnCause g v d cpu t h w e
  Causes-turn f below run = turn_causes g v w d e cpu h t f below run (turn_case (flat_of g.plan g.journal) g v w d e cpu h t f below run)

  -- no turn discards a page that may not be discarded
  pub Discards-turn : Fit g v d → cpu < length g.processors → Seen {A = GuestState × Turn} (turn g cpu) v d (h, t) w e → NoWrongDiscard v w
  Discards-turn f below run = (turn_summary g v w d e cpu h t (turn_case (flat_of g.plan g.journal) g v w d e cpu h t f below run)).discards

  -- no turn changes the plan
  pub plan-turn : Fit g v d → cpu < length g.processors → Seen {A = GuestState × Turn} (turn g cpu) v d (h, t) w e → h.plan ≡ g.plan
  plan-turn f below run = (turn_summary g v w d e cpu h t (turn_case (flat_of g.plan g.journal) g v w d e cpu h t f below run)).plan

-- a processor that goes on alone over a storage that never misses stops within the turns that its command may take, and for a cause
pub Causes-alone : (g : GuestState) (cpu : ℕ) (v : StorageView) (d : DiskView) (h : GuestState) (a : Alone) (w : StorageView) (e : DiskView)
    → v.quiet ≡ true → Fit g v d → cpu < length g.processors → Seen {A = GuestState × Alone} (alone g cpu) v d (h, a) w e → AloneCause g v d cpu a h w e
Causes-alone g cpu v d h a w e quiet f below run = alone_causes (λ g v w d e cpu h t. Fit-turn g cpu v d h t w e) g h v w d e cpu a quiet f below run
