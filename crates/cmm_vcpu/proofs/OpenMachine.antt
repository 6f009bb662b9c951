-- A machine before it runs is one, of the plan's guests.
use Rattle.std.specs.Prelude.{◌≡◌, ◌<◌, ◌+◌, ℕ, List, length, None, All, slice_index_or}
use Rattle.std.proofs.Common.{sym, ap, subst, arith, ◌∙◌}
use Rattle.std.proofs.lemmas.List.{get_or_default, length-map}
use Rattle.cmm_types.specs.declared.plan.GuestPlan.{GuestPlan}
use Rattle.cmm_types.specs.declared.plan.Scenario.{Scenario}
use Rattle.cmm_types.specs.InRange.{ScenarioInRange}
use Rattle.state_words.specs.SeatView.{WordsView, Seated}
use Rattle.frame_pool.specs.Seats.{PoolId}
use Rattle.cmm_vcpu.specs.Machines.{GroupState, MachineState, IsMachine, IsReady, IsOfPlan, no_group}
use Rattle.cmm_types.specs.NoPlan.{no_plan}
use Rattle.cmm_vcpu.specs.Opening.{CanSeat, AreTables, AreOpen, IsGuestGroup}
use Rattle.cmm_vcpu.proofs.OpenGroups.{can_reclaim}

pub opened_machine : (plan : Scenario) (m : MachineState) → ScenarioInRange plan → AreOpen plan m.pool m.words m.hosts m.groups → m.seat.pool ≡ m.pool → m.pool.region ≡ m.region
    → m.guests ≡ length plan.guests → IsMachine m × IsOfPlan plan m
opened_machine plan m range made of_pool region_is guests = (
  record {
    few = omega (arith, guests, range.guests.few);
    there = omega (arith, guests, made.count);
    few_groups = omega (arith, made.count, range.guests.few, range.reclaimers);
    few_pages = made.can.few_pages;
    ready = λ i lt. made.ready i no_group lt;
    kernels = λ i lt. (of_plan i lt).there;
    tables = omega (arith, guests, made.tables);
    owned = λ i lt. (of_plan i lt).own;
    seated = can_reclaim m.words m.pool m.hosts m.hosts m.seat made.can made.can.hosts_are made.idle of_pool;
    region_is = region_is;
  },
  record { count = guests; plans = λ i lt. (of_plan i lt).plan_is },
)
  where
    of_plan : (i : ℕ) → i < m.guests → IsGuestGroup (slice_index_or plan.guests i no_plan) m.words m.pool i (slice_index_or m.groups i no_group)
    of_plan i lt = made.each i (omega (arith, lt, guests))

-- as many words as plans
pub words_size : (plans : List GuestPlan) (pool : PoolId) (words : List WordsView) (guests hosts : List Seated) → AreTables plans pool words guests hosts → length words ≡ length plans
words_size plans pool words guests hosts tables =
    sym (length-map words (λ (w : WordsView). w.pages)) ∙ ap (λ (l : List ℕ). length l) tables.pages ∙ length-map plans (λ (p : GuestPlan). p.pages)

-- all guests' groups are ready
pub all_ready : (plans : List GuestPlan) (words : List WordsView) (pool : PoolId) (groups : List GroupState) → length groups ≡ length plans
    → ((i : ℕ) → i < length plans → IsGuestGroup (slice_index_or plans i no_plan) words pool i (slice_index_or groups i no_group)) → All (IsReady words pool) groups
all_ready plans words pool groups size each = λ i d lt.
    subst (λ (g : GroupState). IsReady words pool g) (get_or_default groups i no_group d lt) (each i (omega (arith, lt, size))).ready

-- the groups of the plan's guests, and behind them those of the reclaimers, over equal lists
pub are_open : (plan : Scenario) (plans : List GuestPlan) (words mid ws : List WordsView) (pool : PoolId) (hosts : List Seated) (first groups : List GroupState) → plans ≡ plan.guests
    → ws ≡ mid → mid ≡ words → CanSeat pool ws hosts → All (λ (s : Seated). s.view.held ≡ None) hosts → length words ≡ length plans → length first ≡ length plans
    → ((i : ℕ) → i < length plans → IsGuestGroup (slice_index_or plans i no_plan) words pool i (slice_index_or first i no_group))
    → ((i : ℕ) → i < length first → slice_index_or groups i no_group ≡ slice_index_or first i no_group) → length groups ≡ length first + plan.reclaimers → All (IsReady mid pool) groups
    → AreOpen plan pool ws hosts groups
are_open plan plans words mid ws pool hosts first groups same_plans same_words same_mid can idle tables size each kept count ready = record {
  can = can;
  idle = idle;
  tables = ap (λ (l : List WordsView). length l) (same_words ∙ same_mid) ∙ tables ∙ guests;
  count = omega (arith, count, size, guests);
  ready = subst (λ (q : List WordsView). All (IsReady q pool) groups) (sym same_words) ready;
  each = λ i lt. subst (λ (l : List GuestPlan). IsGuestGroup (slice_index_or l i no_plan) ws pool i (slice_index_or groups i no_group)) same_plans
      (subst (λ (q : List WordsView). IsGuestGroup (slice_index_or plans i no_plan) q pool i (slice_index_or groups i no_group)) (sym (same_words ∙ same_mid)) (at i (omega (arith, lt, guests))));
}
  where
    guests : length plans ≡ length plan.guests
    guests = ap (λ (l : List GuestPlan). length l) same_plans

    at : (i : ℕ) → i < length plans → IsGuestGroup (slice_index_or plans i no_plan) words pool i (slice_index_or groups i no_group)
    at i lt = subst (λ (g : GroupState). IsGuestGroup (slice_index_or plans i no_plan) words pool i g) (sym (kept i (omega (arith, lt, size)))) (each i lt)
