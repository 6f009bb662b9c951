-- A turn over a bound storage leaves a kernel of the same words and the same pool.
use Rattle.std.specs.Prelude.{◌≡◌, ◌<◌, ◌≤◌, ℕ, length, List}
use Rattle.std.proofs.Common.{sym, ap, subst, ◌∙◌}
use Rattle.cmm_types.specs.declared.turn.Turn.{Turn}
use Rattle.cmm_types.specs.declared.plan.GuestPlan.{GuestPlan}
use Rattle.cmm_io.specs.DiskCall.{DiskCall}
use Rattle.cmm_io.specs.DiskState.{DiskState, DiskStep, disk_view}
use Rattle.cmm_io.specs.DiskView.{DiskFollows}
use Rattle.cmm_io.specs.Counted.{IsCounted}
use Rattle.essa_state.specs.declared.fields.Fields.{Fields}
use Rattle.cmm_storage.specs.StorageCall.{StorageCall}
use Rattle.cmm_storage.specs.Program.{Does}
use Rattle.cmm_storage.specs.Views.{Seen, does_seen}
use Rattle.state_words.specs.SeatView.{WordsView}
use Rattle.frame_pool.specs.Seats.{PoolId}
use Rattle.host_shared.specs.Binding.{StorageState, BoundStep, IsBoundTo, storage_view}
use Rattle.host_shared.specs.Served.{storage_of, bound_words, bound_pool}
use Rattle.host_shared.specs.declared.bound.Bound.{Bound}
use Rattle.guest_rules.specs.GuestState.{GuestState}
use Rattle.guest_rules.specs.Turns.{turn}
use Rattle.guest_rules.proofs.TurnLaws.{Fit-turn, plan-turn}
use Rattle.guest_rules.proofs.Causes.FailuresKept.{Failures-turn}
use Rattle.cmm_vcpu.specs.KernelState.{KernelState, IsKernel, Fits, CanBind, words_in, words_of, own_words, pool_of}
use Rattle.cmm_storage.specs.Laws.CarriedLaws.{carried}
use Rattle.cmm_io.proofs.KeepsCount.{KeepsCount, count_same, count_then, count_disk}
use Rattle.cmm_vcpu.proofs.Counts.{count_called}

-- the step relations of the bound storage and of the disk in memory
abbrev pub bound_step : Bound → StorageCall → Bound → Type 0
bound_step b call c = BoundStep (storage_of b) call (storage_of c) × (c.storage.ghost_name ≡ b.storage.ghost_name) × (bound_words c ≡ bound_words b) × (bound_pool c ≡ bound_pool b)

abbrev pub disk_step : DiskState → DiskCall → DiskState → Type 0
disk_step d call e = DiskStep d call e × DiskFollows (disk_view d) call (disk_view e)

-- what every call keeps: which storage was lent, which words and which pool it is bound to, and the counts of planned failures
pub record TurnKeeps (b : Bound) (d : DiskState) (c : Bound) (e : DiskState) : Type 0 where
  pub lent : c.storage.ghost_name ≡ b.storage.ghost_name
  pub words : bound_words c ≡ bound_words b
  pub own : (storage_of c).seat.words ≡ (storage_of b).seat.words
  pub pool : bound_pool c ≡ bound_pool b
  pub pager : KeepsCount (storage_of b).pager (storage_of c).pager
  pub calls : KeepsCount d.failures e.failures

keeps_same : (b : Bound) (d : DiskState) (c : Bound) (e : DiskState) → c ≡ b → e ≡ d → TurnKeeps b d c e
keeps_same b d c e same same_disk = record {
  lent = ap (λ (q : Bound). q.storage.ghost_name) same;
  words = ap bound_words same;
  own = ap (λ (q : Bound). (storage_of q).seat.words) same;
  pool = ap bound_pool same;
  pager = count_same _ _ (ap (λ q. (storage_of q).pager) same);
  calls = count_same _ _ (ap (λ (q : DiskState). q.failures) same_disk);
}

keeps_then : (b : Bound) (d : DiskState) (m : Bound) (y : DiskState) (c : Bound) (e : DiskState) → TurnKeeps b d m y → TurnKeeps m y c e → TurnKeeps b d c e
keeps_then b d m y c e first second = record {
  lent = second.lent ∙ first.lent;
  words = second.words ∙ first.words;
  own = second.own ∙ first.own;
  pool = second.pool ∙ first.pool;
  pager = count_then _ _ _ first.pager second.pager;
  calls = count_then _ _ _ first.calls second.calls;
}

keeps_called : (b : Bound) (d : DiskState) (call : StorageCall) (c : Bound) → bound_step b call c → TurnKeeps b d c d
keeps_called b d call c step = record {
  lent = step.1;
  words = step.2;
  own = step.0.stays.words;
  pool = step.3;
  pager = count_called _ _ step.0.stays.pager;
  calls = λ numbers few counted. counted;
}

keeps_moved : (b : Bound) (d : DiskState) (call : DiskCall) (e : DiskState) → disk_step d call e → TurnKeeps b d b e
keeps_moved b d call e step = record {
  lent = λ i. b.storage.ghost_name;
  words = λ i. bound_words b;
  own = λ i. (storage_of b).seat.words;
  pool = λ i. bound_pool b;
  pager = λ numbers few counted. counted;
  calls = count_disk d call e step.0;
}

pub turn_keeps : (g : GuestState) (cpu : ℕ) (b : Bound) (d : DiskState) (h : GuestState) (r : Turn) (c : Bound) (e : DiskState)
    → Does bound_step disk_step (turn g cpu) b d (h, r) c e → TurnKeeps b d c e
turn_keeps g cpu b d h r c e run = carried bound_step disk_step TurnKeeps keeps_same keeps_then keeps_called keeps_moved (turn g cpu) b d (h, r) c e run

-- and its plan stays
plan_kept : (g : GuestState) (cpu : ℕ) (b : Bound) (d : DiskState) (h : GuestState) (r : Turn) (c : Bound) (e : DiskState)
    → Fits g (storage_view (storage_of b)) (disk_view d) (storage_of b).pager d.failures → cpu < length g.processors
    → Does bound_step disk_step (turn g cpu) b d (h, r) c e → h.plan ≡ g.plan
plan_kept g cpu b d h r c e fits below run =
    let ran : Seen {A = GuestState × Turn} (turn g cpu) (storage_view (storage_of b)) (disk_view d) (h, r) (storage_view (storage_of c)) (disk_view e) =
    does_seen bound_step disk_step (λ s. storage_view (storage_of s)) disk_view (λ s call t step. step.0.follows) (λ d call e step. step.1) (turn g cpu) b d (h, r) c e run in
    plan-turn g cpu _ _ h r _ _ fits.fit below ran

-- a guest that took its turn fits what the storage and the disk have become
pub fits_turn : (g : GuestState) (cpu : ℕ) (b : Bound) (d : DiskState) (h : GuestState) (r : Turn) (c : Bound) (e : DiskState)
    → Fits g (storage_view (storage_of b)) (disk_view d) (storage_of b).pager d.failures → cpu < length g.processors
    → Does bound_step disk_step (turn g cpu) b d (h, r) c e → Fits h (storage_view (storage_of c)) (disk_view e) (storage_of c).pager e.failures
fits_turn g cpu b d h r c e fits below run =
    let ran : Seen {A = GuestState × Turn} (turn g cpu) (storage_view (storage_of b)) (disk_view d) (h, r) (storage_view (storage_of c)) (disk_view e) =
    does_seen bound_step disk_step (λ s. storage_view (storage_of s)) disk_view (λ s call t step. step.0.follows) (λ d call e step. step.1) (turn g cpu) b d (h, r) c e run in
    let plan : h.plan ≡ g.plan = plan_kept g cpu b d h r c e fits below run in
    let range = fits.fit.sizes.range in
    let kept = turn_keeps g cpu b d h r c e run in
    record {
      fit = Fit-turn g cpu _ _ h r _ _ fits.fit below ran;
      failures = Failures-turn g cpu _ _ h r _ _ fits.fit below ran fits.failures;
      disk_calls = subst (λ (p : GuestPlan). IsCounted p.disk_fail e.failures) (sym plan) (kept.calls g.plan.disk_fail range.disk_fail.most fits.disk_calls);
      pager_calls = subst (λ (p : GuestPlan). IsCounted p.pager_fail (storage_of c).pager) (sym plan) (kept.pager g.plan.pager_fail range.pager_fail.most fits.pager_calls);
    }

-- what is bound to some words and a pool has the seats of these
pub can_bind : (words : List WordsView) (pool : PoolId) (s : StorageState) → IsBoundTo words pool s → CanBind s
can_bind words pool s bound = subst (λ ws. IsBoundTo ws s.pool.pool s) (sym bound.can.seats_are) (subst (λ p. IsBoundTo words p s) (sym bound.can.of_pool) bound)

-- the kernel with what a turn left
abbrev pub turned : GuestState → Bound → DiskState → List Fields → KernelState
turned h c e looked = record { guest = h; disk = e; storage = storage_of c; looked = looked }

pub record AfterTurn (k : KernelState) (h : GuestState) (c : Bound) (e : DiskState) : Type 0 where
  pub kernel : IsKernel (turned h c e k.looked)
  pub plan : h.plan ≡ k.guest.plan
  pub words : words_of (turned h c e k.looked) ≡ words_of k
  pub own : (storage_of c).seat.words ≡ own_words k
  pub pool : pool_of (turned h c e k.looked) ≡ pool_of k

pub after_turn : (k : KernelState) (cpu : ℕ) (b : Bound) (h : GuestState) (r : Turn) (c : Bound) (e : DiskState) → IsKernel k → storage_of b ≡ k.storage
    → IsBoundTo (bound_words b) (bound_pool b) (storage_of b) → IsBoundTo (bound_words c) (bound_pool c) (storage_of c)
    → cpu < length k.guest.processors → Does bound_step disk_step (turn k.guest cpu) b k.disk (h, r) c e → AfterTurn k h c e
after_turn k cpu b h r c e kernel is before_bound after_bound below run =
    let before : Fits k.guest (storage_view (storage_of b)) (disk_view k.disk) (storage_of b).pager k.disk.failures =
    subst (λ (s : StorageState). Fits k.guest (storage_view s) (disk_view k.disk) s.pager k.disk.failures) (sym is) kernel.fits in
    let kept = turn_keeps k.guest cpu b k.disk h r c e run in
    let fits = fits_turn k.guest cpu b k.disk h r c e before below run in
    let plan : h.plan ≡ k.guest.plan = plan_kept k.guest cpu b k.disk h r c e before below run in
    record {
      kernel = record {
        fits = fits;
        bound = can_bind (bound_words c) (bound_pool c) (storage_of c) after_bound;
        looked_few = subst (λ (p : GuestPlan). length k.looked ≤ p.pages) (sym plan) kernel.looked_few;
      };
      plan = plan;
      words = after_bound.can.seats_are ∙ kept.words ∙ sym before_bound.can.seats_are ∙ ap words_in is;
      own = kept.own ∙ ap (λ (s : StorageState). s.seat.words) is;
      pool = after_bound.can.of_pool ∙ kept.pool ∙ sym before_bound.can.of_pool ∙ ap (λ (s : StorageState). s.pool.pool) is;
    }
