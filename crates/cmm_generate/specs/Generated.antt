-- The scenario that is generated from a number: all draws in their order.
use Rattle.std.specs.Prelude.{ℕ, suc, ◌+◌, ◌*◌, ◌/◌, ◌%◌, ◌==◌, ◌&&◌, nat_lt, nat_le, true, if◌then◌else◌, List, [], ◌∷◌, ◌++◌}
use Rattle.cmm_types.specs.declared.command.Op.{Op}
use Rattle.cmm_types.specs.declared.page.TheConstants.{PAGE}
use Rattle.cmm_types.specs.declared.command.Op.TheVariants.{Read, Write, Sync, MapFile, MapAnon, Load, Store}
use Rattle.cmm_types.specs.declared.page.Move.TheVariants.{Discard}
use Rattle.cmm_types.specs.declared.event.Event.{Event}
use Rattle.cmm_types.specs.declared.event.Event.TheVariants.{Alone, Host, Reclaim}
use Rattle.cmm_types.specs.declared.plan.FilePlan.{FilePlan}
use Rattle.cmm_types.specs.declared.plan.CpuPlan.{CpuPlan}
use Rattle.cmm_types.specs.declared.plan.GuestPlan.{GuestPlan}
use Rattle.cmm_types.specs.declared.plan.Scenario.{Scenario}
use Rattle.cmm_generate.specs.Draws.{Draw, give, ◌>>=◌, below, in_turn, single, times}

-- ---- files

unfoldable pub file : Draw FilePlan
file = do
  head ← times 16 (below 256)
  give (record { pages = 8; head = head })

abbrev pub files : Draw (List FilePlan)
files = times 5 file

-- ---- commands

-- an offset in eight pages, at least 64 bytes before the end of its page
unfoldable pub place : Draw ℕ
place = do
  page ← below 8
  off ← below 4033
  give (PAGE * page + off)

-- 1 to 64
unfoldable pub count : Draw ℕ
count = do
  more ← below 64
  give (1 + more)

-- one to eight bytes
unfoldable pub some_bytes : Draw (List ℕ)
some_bytes = do
  more ← below 8
  times (1 + more) (below 256)

unfoldable pub read : Draw Op
read = do
  from ← below 5
  off ← place
  len ← count
  give (Read from off len)

unfoldable pub write : Draw Op
write = do
  to ← below 5
  off ← place
  bytes ← some_bytes
  give (Write to off bytes)

unfoldable pub sync : Draw Op
sync = do
  which ← below 5
  give (Sync which)

unfoldable pub load : ℕ → Draw Op
load map = do
  off ← place
  len ← count
  give (Load map off len)

unfoldable pub store : ℕ → Draw Op
store map = do
  off ← place
  bytes ← some_bytes
  give (Store map off bytes)

-- a command of one of ten kinds
unfoldable pub of_kind : ℕ → Draw Op
of_kind kind =
    if nat_le kind 1 then read
    else if kind == 2 then write
    else if kind == 3 then sync
    else if nat_le kind 5 then load 0
    else if kind == 6 then store 0
    else if kind == 7 then load 1
    else store 1

-- the guest and the processor of command j, in turn
abbrev pub guest_in_turn : ℕ → ℕ
guest_in_turn j = j % 4 / 2

abbrev pub cpu_in_turn : ℕ → ℕ
cpu_in_turn j = j % 2

-- command j: each processor maps a file first and memory of its own next
unfoldable pub command : ℕ → Draw Op
command j =
    if nat_lt j 4 then give (MapFile 0 (cpu_in_turn j) 0 8 true)
    else if nat_lt j 8 then give (MapAnon 1 8)
    else (do
      kind ← below 10
      of_kind kind)

-- so many commands
abbrev pub commands : ℕ → Draw (List Op)
commands size = in_turn (λ j. single (command j)) size

-- a processor's commands among all from command j on
abbrev pub commands_of : (guest cpu j : ℕ) → List Op → List Op
commands_of guest cpu j [] = []
commands_of guest cpu j (op ∷ ops) =
    if guest_in_turn j == guest && cpu_in_turn j == cpu then op ∷ commands_of guest cpu (suc j) ops else commands_of guest cpu (suc j) ops

-- ---- events

-- after each eighth command a page is discarded
unfoldable pub discards_after : ℕ → Draw (List Event)
discards_after j =
    if j % 8 == 7 then (do
      guest ← below 2
      page ← below 64
      give (Host guest page Discard ∷ []))
    else give []

-- after each sixteenth command four frames are reclaimed
abbrev pub reclaims_after : ℕ → List Event
reclaims_after j = if j % 16 == 15 then Reclaim 4 ∷ [] else []

-- the events of command j
unfoldable pub events : ℕ → Draw (List Event)
events j = do
  discards ← discards_after j
  give (Alone (guest_in_turn j) (cpu_in_turn j) ∷ (discards ++ reclaims_after j))

-- the events of so many commands
abbrev pub schedule : ℕ → Draw (List Event)
schedule size = in_turn events size

-- ---- the whole

abbrev pub cpu_plan : (guest cpu : ℕ) → List Op → CpuPlan
cpu_plan guest cpu ops = record { process = cpu; commands = commands_of guest cpu 0 ops }

abbrev pub guest_plan : ℕ → List FilePlan → List Op → GuestPlan
guest_plan guest its_files ops =
    record { pages = 64; swap = 64; files = its_files; disk_fail = []; pager_fail = []; cpus = cpu_plan guest 0 ops ∷ cpu_plan guest 1 ops ∷ [] }

-- two guests, and no planned failing call
abbrev pub scenario : (first second : List FilePlan) → List Op → List Event → Scenario
scenario first second ops its_schedule =
    record { frames = 48; reclaimers = 2; pager_fail = []; guests = guest_plan 0 first ops ∷ guest_plan 1 second ops ∷ []; schedule = its_schedule }

unfoldable pub plan : ℕ → Draw Scenario
plan size = do
  first ← files
  second ← files
  ops ← commands size
  its_schedule ← schedule size
  give (scenario first second ops its_schedule)

-- the scenario of so many commands that is generated from a number
unfoldable pub generated : (start size : ℕ) → Scenario
generated start size = (plan size start).value
