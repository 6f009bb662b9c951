-- A machine: the groups of threads, one for each guest and behind them one for each reclaimer.
use Rattle.std.specs.Prelude.{◌≡◌, ℕ, ◌^◌, ◌<◌, ◌≤◌, List, [], length, map, is_some, true, Option, Some, None, slice_get, slice_index_or}
use Rattle.std.specs.List.{sum_by}
use Rattle.cmm_types.specs.declared.plan.Scenario.{Scenario}
use Rattle.cmm_types.specs.declared.plan.TheConstants.{MAX_GUESTS}
use Rattle.essa_state.specs.declared.fields.Fields.{Fields}
use Rattle.cmm_io.specs.FailurePlan.{FailurePlan, failure_plan_of}
use Rattle.state_words.specs.SeatView.{WordsView, Seated, words_at, no_view}
use Rattle.page_arena.specs.FrameView.{RegionView}
use Rattle.frame_pool.specs.Seats.{PoolId, PoolSeatView}
use Rattle.host_shared.specs.Binding.{StorageState}
use Rattle.host_shared.specs.Reclaiming.{CanReclaim}
use Rattle.cmm_types.specs.NoPlan.{no_plan, plan_at}
use Rattle.cmm_vcpu.specs.Names.{no_pool, no_table}
use Rattle.cmm_vcpu.specs.KernelState.{KernelState, HasRun, words_of, own_words, pool_of, opening_kernel}
use Rattle.cmm_vcpu.specs.LastLooks.{AreLastLooks, FaultsFew, HasLooked}

-- a seat at each guest's words, the reclaimer's own pager, and a seat at the pool
pub record ReclaimerState : Type 0 where
  pub seats : List Seated
  pub pager : FailurePlan
  pub pool : PoolSeatView

-- a guest's group has a kernel, and a reclaimer's none. There is a place for each processor's thread
pub record GroupState : Type 0 where
  pub kernel : Option KernelState
  pub reclaimer : Option ReclaimerState
  pub cpus : List ℕ

-- `hosts` and `seat` are seats at the words and at the pool that no thread uses, and `region` is that of the pool's frames
pub record MachineState : Type 0 where
  pub groups : List GroupState
  pub words : List WordsView
  pub pool : PoolId
  pub guests : ℕ
  pub hosts : List Seated
  pub seat : PoolSeatView
  pub region : RegionView

-- the kernel is of these words and this pool, and there is a thread for each processor at most
pub record IsReadyKernel (words : List WordsView) (pool : PoolId) (threads : ℕ) (k : KernelState) : Type 0 where
  pub words_are : words_of k ≡ words
  pub pool_is : pool_of k ≡ pool
  pub threads_few : threads ≤ length k.guest.plan.cpus

abbrev pub KernelReady : List WordsView → PoolId → (threads : ℕ) → Option KernelState → Type 0
KernelReady words pool threads None = Unit {0}
KernelReady words pool threads (Some k) = IsReadyKernel words pool threads k

abbrev pub ReclaimerReady : List WordsView → PoolId → Option ReclaimerState → Type 0
ReclaimerReady words pool None = Unit {0}
ReclaimerReady words pool (Some r) = CanReclaim words pool r.seats r.pool

-- what a group has is of these words and this pool
pub record IsReady (words : List WordsView) (pool : PoolId) (g : GroupState) : Type 0 where
  pub kernel : KernelReady words pool (length g.cpus) g.kernel
  pub reclaimer : ReclaimerReady words pool g.reclaimer

-- the kernel of a group that has run, and the one before: of the same plan, the same words and the same pool
abbrev pub KernelEnded : Option KernelState → Option KernelState → Type 0
KernelEnded None after = after ≡ None
KernelEnded (Some k) None = ⊥
KernelEnded (Some k) (Some l) = HasRun k.guest.plan l × (words_of l ≡ words_of k) × (own_words l ≡ own_words k) × (pool_of l ≡ pool_of k)

-- the seats of a reclaimer that has run are of the same words and the same pool, and hold no page
abbrev pub ReclaimerEnded : Option ReclaimerState → Option ReclaimerState → Type 0
ReclaimerEnded None after = after ≡ None
ReclaimerEnded (Some r) None = ⊥
ReclaimerEnded (Some r) (Some s) = CanReclaim (map (λ q. q.words) r.seats) r.pool.pool s.seats s.pool

-- the group has run: its kernel's processors are done
pub record HasEnded (g h : GroupState) : Type 0 where
  pub cpus : length h.cpus ≡ length g.cpus
  pub kernel : KernelEnded g.kernel h.kernel
  pub reclaimer : ReclaimerEnded g.reclaimer h.reclaimer

-- the same once each page's word was looked at
abbrev pub KernelLooked : Option KernelState → Option KernelState → Type 0
KernelLooked None after = after ≡ None
KernelLooked (Some k) None = ⊥
KernelLooked (Some k) (Some l) = HasLooked k l

pub record GroupLooked (g h : GroupState) : Type 0 where
  pub cpus : h.cpus ≡ g.cpus
  pub kernel : KernelLooked g.kernel h.kernel
  pub reclaimer : h.reclaimer ≡ g.reclaimer

-- the words that were found in the last loads of all pages are kept
pub record HasLastLooks (k : KernelState) : Type 0 where
  pub looks : AreLastLooks k k.looked
  pub faults : FaultsFew k k.looked

abbrev pub KernelLooks : Option KernelState → Type 0
KernelLooks None = Unit {0}
KernelLooks (Some k) = HasLastLooks k

-- the group has run, and then each page's word was looked at
pub record GroupOver (g h : GroupState) : Type 0 where
  pub ended : HasEnded g h
  pub looks : KernelLooks h.kernel

abbrev pub no_group : GroupState
no_group = record { kernel = None; reclaimer = None; cpus = [] }

-- what stands for the kernel where there is none
abbrev pub no_storage : StorageState
no_storage = record {
  guest = 0;
  seat = record { words = words_at no_table no_table; view = no_view };
  hosts = [];
  pool = record { pool = no_pool; dry = 0; taken = 0; given = 0 };
  pager = failure_plan_of [];
  held = None;
  no_frames = 0;
}

abbrev pub no_kernel : KernelState
no_kernel = opening_kernel no_plan no_storage

abbrev pub kernel_in : Option KernelState → KernelState
kernel_in None = no_kernel
kernel_in (Some k) = k

abbrev pub group_at : MachineState → ℕ → GroupState
group_at m i = slice_index_or m.groups i no_group

abbrev pub kernel_at : MachineState → ℕ → KernelState
kernel_at m guest = kernel_in (group_at m guest).kernel

-- the words of a guest that its last loads found
abbrev pub looked_at : MachineState → ℕ → List Fields
looked_at m guest = (kernel_at m guest).looked

-- what the type of a machine keeps. The first groups are those of the guests
pub record IsMachine (m : MachineState) : Type 0 where
  pub few : m.guests ≤ MAX_GUESTS
  pub there : m.guests ≤ length m.groups
  pub few_groups : length m.groups < 2 ^ 32
  pub few_pages : sum_by (λ (w : WordsView). w.pages) m.words < 2 ^ 32
  pub ready : (i : ℕ) → i < length m.groups → IsReady m.words m.pool (group_at m i)
  pub kernels : (i : ℕ) → i < m.guests → is_some (group_at m i).kernel ≡ true
  pub tables : length m.words ≡ m.guests
  pub owned : (i : ℕ) → i < m.guests → slice_get m.words i ≡ Some (own_words (kernel_at m i))
  pub seated : CanReclaim m.words m.pool m.hosts m.seat
  pub region_is : m.pool.region ≡ m.region

-- the machine has the plan's guests
pub record IsOfPlan (plan : Scenario) (m : MachineState) : Type 0 where
  pub count : m.guests ≡ length plan.guests
  pub plans : (guest : ℕ) → guest < m.guests → (kernel_at m guest).guest.plan ≡ plan_at plan guest

-- every guest's processors are done, and its kernel is of the same plan as before. Its words are those that the last loads of its seat found, one
-- for each page, in the pages' order, and they count at least as many discards as the guest handled
pub record AllHaveRun (m n : MachineState) : Type 0 where
  pub count : n.guests ≡ m.guests
  pub each : (guest : ℕ) → guest < m.guests → HasRun (kernel_at m guest).guest.plan (kernel_at n guest)
  pub looks : (guest : ℕ) → guest < m.guests → AreLastLooks (kernel_at n guest) (looked_at n guest)
  pub faults : (guest : ℕ) → guest < m.guests → (kernel_at n guest).guest.parts.faults ≤ sum_by (λ (word : Fields). word.count) (looked_at n guest)
