-- The words of all guests and the groups over them before the first turn.
use Rattle.std.specs.Prelude.{◌≡◌, ◌+◌, ◌<◌, ◌^◌, ℕ, List, length, map, Some, None, All, is_some, true, slice_get, slice_index_or}
use Rattle.std.specs.List.{sum_by}
use Rattle.cmm_types.specs.declared.plan.GuestPlan.{GuestPlan}
use Rattle.cmm_types.specs.declared.plan.Scenario.{Scenario}
use Rattle.cmm_types.specs.NoPlan.{no_plan}
use Rattle.state_words.specs.SeatView.{WordsView, Seated, IsGuestSeat, guest_first}
use Rattle.frame_pool.specs.Seats.{PoolId}
use Rattle.cmm_vcpu.specs.KernelState.{own_words}
use Rattle.cmm_vcpu.specs.Machines.{GroupState, IsReady, kernel_in, no_group}

-- the seat of a guest before its first step
abbrev pub IsFirstSeat : Seated → Type 0
IsFirstSeat s = IsGuestSeat s × (s.view ≡ guest_first s.words.pages s.words.house)

-- each guest's words have the plan's pages and the pool for their house, with a seat of the guest and an idle one of the host
pub record AreTables (plans : List GuestPlan) (pool : PoolId) (words : List WordsView) (guests hosts : List Seated) : Type 0 where
  pub pages : map (λ (w : WordsView). w.pages) words ≡ map (λ (p : GuestPlan). p.pages) plans
  pub housed : All (λ (w : WordsView). w.house ≡ pool.table) words
  pub guests_are : map (λ (s : Seated). s.words) guests ≡ words
  pub first : All IsFirstSeat guests
  pub hosts_are : map (λ (s : Seated). s.words) hosts ≡ words
  pub idle : All (λ (s : Seated). s.view.held ≡ None) hosts

-- seats can be made from these of the host: one at each guest's words, which holds no page; all words have the pool for their house
pub record CanSeat (pool : PoolId) (words : List WordsView) (hosts : List Seated) : Type 0 where
  pub hosts_are : map (λ (s : Seated). s.words) hosts ≡ words
  pub housed : All (λ (w : WordsView). w.house ≡ pool.table) words
  pub few_pages : sum_by (λ (w : WordsView). w.pages) words < 2 ^ 32

-- the group of the guest of this number and plan before its first turn
pub record IsGuestGroup (plan : GuestPlan) (words : List WordsView) (pool : PoolId) (number : ℕ) (g : GroupState) : Type 0 where
  pub ready : IsReady words pool g
  pub there : is_some g.kernel ≡ true
  pub plan_is : (kernel_in g.kernel).guest.plan ≡ plan
  pub own : slice_get words number ≡ Some (own_words (kernel_in g.kernel))

-- what the guests and reclaimers of a scenario have over this pool before they run: words with idle seats of the host, the groups of the guests,
-- and behind them those of the reclaimers
pub record AreOpen (plan : Scenario) (pool : PoolId) (words : List WordsView) (hosts : List Seated) (groups : List GroupState) : Type 0 where
  pub can : CanSeat pool words hosts
  pub idle : All (λ (s : Seated). s.view.held ≡ None) hosts
  pub tables : length words ≡ length plan.guests
  pub count : length groups ≡ length plan.guests + plan.reclaimers
  pub ready : All (IsReady words pool) groups
  pub each : (i : ℕ) → i < length plan.guests → IsGuestGroup (slice_index_or plan.guests i no_plan) words pool i (slice_index_or groups i no_group)
