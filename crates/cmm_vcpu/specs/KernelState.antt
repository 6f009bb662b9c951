-- A kernel: a guest, its disk and its pages over shared words; what its type keeps, and what stands once its processors are done.
use Rattle.std.specs.Prelude.{◌≡◌, ℕ, ◌<◌, ◌≤◌, List, [], length, map, None}
use Rattle.cmm_types.specs.declared.plan.GuestPlan.{GuestPlan}
use Rattle.cmm_flat.specs.Legal.{Complete, command_of}
use Rattle.essa_state.specs.declared.fields.Fields.{Fields}
use Rattle.cmm_io.specs.FailurePlan.{FailurePlan, failure_plan_of}
use Rattle.cmm_io.specs.Counted.{IsCounted}
use Rattle.cmm_io.specs.DiskState.{DiskState, disk_view, opened}
use Rattle.cmm_io.specs.DiskView.{DiskView}
use Rattle.cmm_storage.specs.StorageView.{StorageView}
use Rattle.state_words.specs.SeatView.{WordsView, guest_first}
use Rattle.frame_pool.specs.Seats.{PoolId}
use Rattle.host_shared.specs.Binding.{StorageState, IsBoundTo, storage_view}
use Rattle.guest_rules.specs.GuestState.{GuestState, processor_at, opening_guest}
use Rattle.guest_rules.specs.Fit.{Fit}
use Rattle.guest_rules.specs.Failures.{FailuresFit}
use Rattle.guest_rules.specs.FailsAsPlanned.{FailsAsPlanned}

-- `looked` has the words that the last loads of all pages found, once its processors are done
pub record KernelState : Type 0 where
  pub guest : GuestState
  pub disk : DiskState
  pub storage : StorageState
  pub looked : List Fields

-- what the guest knows of its pages
abbrev pub pages_seen : KernelState → StorageView
pages_seen k = storage_view k.storage

abbrev pub disk_seen : KernelState → DiskView
disk_seen k = disk_view k.disk

-- the words of all guests, by the host's seats, and the pool
abbrev pub words_in : StorageState → List WordsView
words_in s = map (λ h. h.words) s.hosts

abbrev pub words_of : KernelState → List WordsView
words_of k = words_in k.storage

abbrev pub pool_of : KernelState → PoolId
pool_of k = k.storage.pool.pool

-- the words of its own guest
abbrev pub own_words : KernelState → WordsView
own_words k = k.storage.seat.words

-- a guest fits its pages and its disk, no more commands failed than calls, and no more calls than planned numbers were reached
pub record Fits (g : GuestState) (v : StorageView) (d : DiskView) (pager calls : FailurePlan) : Type 0 where
  pub fit : Fit g v d
  pub failures : FailuresFit g v d
  pub disk_calls : IsCounted g.plan.disk_fail calls
  pub pager_calls : IsCounted g.plan.pager_fail pager

-- the storage can be bound to the words and the pool of its seats
abbrev pub CanBind : StorageState → Type 0
CanBind s = IsBoundTo (words_in s) s.pool.pool s

-- what the type of a kernel keeps
pub record IsKernel (k : KernelState) : Type 0 where
  pub fits : Fits k.guest (pages_seen k) (disk_seen k) k.storage.pager k.disk.failures
  pub bound : CanBind k.storage
  pub looked_few : length k.looked ≤ k.guest.plan.pages

-- a storage of the plan's pages before its first call
pub record IsOpening (plan : GuestPlan) (s : StorageState) : Type 0 where
  pub pages : s.seat.words.pages ≡ plan.pages
  pub view : s.seat.view ≡ guest_first plan.pages s.seat.words.house
  pub none_held : s.held ≡ None
  pub pager : s.pager ≡ failure_plan_of plan.pager_fail
  pub bound : CanBind s

-- a kernel of this plan before its first turn
abbrev pub opening_kernel : GuestPlan → StorageState → KernelState
opening_kernel plan storage = record { guest = opening_guest plan; disk = opened plan.files plan.swap plan.disk_fail; storage = storage; looked = [] }

-- a processor has no command left
abbrev pub IsDone : GuestState → ℕ → Type 0
IsDone g cpu = command_of g.plan cpu (processor_at g cpu).place ≡ None

abbrev pub AllDone : GuestState → Type 0
AllDone g = (cpu : ℕ) → cpu < length g.plan.cpus → IsDone g cpu

-- what stands of a kernel of this plan once its processors are done
pub record HasRun (plan : GuestPlan) (k : KernelState) : Type 0 where
  pub plan_is : k.guest.plan ≡ plan
  pub kernel : IsKernel k
  pub complete : Complete plan k.guest.journal
  pub failures : FailsAsPlanned plan k.guest.journal
