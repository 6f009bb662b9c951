-- Which commands, events and plans are within the ranges of the scenario format.
use Rattle.std.specs.Prelude.{ℕ, ◌+◌, ◌*◌, ◌%◌, ◌^◌, ◌<◌, ◌≤◌, ◌≡◌, List, length, sum_by, slice_get, All, Some}
use Rattle.cmm_types.specs.declared.page.TheConstants.{PAGE}
use Rattle.cmm_types.specs.declared.bytes.TheConstants.{MAX_BYTES}
use Rattle.cmm_types.specs.declared.command.TheConstants.{MAX_FILES, MAX_MAPPING_NUMBERS, MAX_MAPPING_PAGES, MAX_OFFSETS}
use Rattle.cmm_types.specs.declared.event.TheConstants.{MAX_RECLAIM}
use Rattle.cmm_types.specs.declared.plan.TheConstants.{MAX_GUESTS, MAX_CPUS, MAX_PROCESSES, MAX_RECLAIMERS, MAX_GUEST_PAGES}
use Rattle.cmm_types.specs.declared.plan.TheConstants.{MAX_TOTAL_PAGES, MAX_FRAMES, MAX_TOTAL_BLOCKS, MAX_FILE_PAGES, MAX_COMMANDS, MAX_EVENTS, MAX_FAILS}
use Rattle.cmm_types.specs.declared.command.Op.{Op}
use Rattle.cmm_types.specs.declared.command.Op.TheVariants.{Read, Write, Sync, MapFile, MapAnon, Unmap, Load, Store, Pin, Unpin}
use Rattle.cmm_types.specs.declared.event.Event.{Event}
use Rattle.cmm_types.specs.declared.event.Event.TheVariants.{Cpu, Alone, Host, Reclaim}
use Rattle.cmm_types.specs.declared.plan.FilePlan.{FilePlan}
use Rattle.cmm_types.specs.declared.plan.CpuPlan.{CpuPlan}
use Rattle.cmm_types.specs.declared.plan.GuestPlan.{GuestPlan}
use Rattle.cmm_types.specs.declared.plan.Scenario.{Scenario}

-- 1 to 64 bytes from off on, which all lie in one page
pub record IsPiece (off len : ℕ) : Type 0 where
  pub start : off < MAX_OFFSETS
  pub some : 1 ≤ len
  pub most : len ≤ MAX_BYTES
  pub within_page : off % PAGE + len ≤ PAGE

-- count pages from first on, of a file or of a mapping
pub record ArePages (first count : ℕ) : Type 0 where
  pub start : first < MAX_MAPPING_PAGES
  pub some : 1 ≤ count
  pub most : count ≤ MAX_MAPPING_PAGES

abbrev pub OpInRange : Op → Type 0
OpInRange (Read file off len) = (file < MAX_FILES) × IsPiece off len
OpInRange (Write file off bytes) = (file < MAX_FILES) × IsPiece off (length bytes)
OpInRange (Sync file) = file < MAX_FILES
OpInRange (MapFile map file first count writable) = (map < MAX_MAPPING_NUMBERS) × (file < MAX_FILES) × ArePages first count
OpInRange (MapAnon map count) = (map < MAX_MAPPING_NUMBERS) × ArePages 0 count
OpInRange (Unmap map) = map < MAX_MAPPING_NUMBERS
OpInRange (Load map off len) = (map < MAX_MAPPING_NUMBERS) × IsPiece off len
OpInRange (Store map off bytes) = (map < MAX_MAPPING_NUMBERS) × IsPiece off (length bytes)
OpInRange (Pin map page) = (map < MAX_MAPPING_NUMBERS) × (page < MAX_MAPPING_PAGES)
OpInRange (Unpin map page) = (map < MAX_MAPPING_NUMBERS) × (page < MAX_MAPPING_PAGES)

-- 1 to 1,024 pages, and no more bytes in the head than they hold
pub record FileInRange (plan : FilePlan) : Type 0 where
  pub some : 1 ≤ plan.pages
  pub most : plan.pages ≤ MAX_FILE_PAGES
  pub head : length plan.head ≤ PAGE * plan.pages

pub record CpuInRange (plan : CpuPlan) : Type 0 where
  pub process : plan.process < MAX_PROCESSES
  pub few : length plan.commands ≤ MAX_COMMANDS
  pub commands : All OpInRange plan.commands

-- at most 1,000 numbers of calls, which count from 1
pub record FailsInRange (numbers : List ℕ) : Type 0 where
  pub few : length numbers ≤ MAX_FAILS
  pub from_one : All (λ n. 1 ≤ n) numbers
  pub most : All (λ n. n < 2 ^ 32) numbers

-- at most 64 files
pub record FilesInRange (files : List FilePlan) : Type 0 where
  pub few : length files ≤ MAX_FILES
  pub each : All FileInRange files

-- 1 to 8 processors
pub record CpusInRange (cpus : List CpuPlan) : Type 0 where
  pub some : 1 ≤ length cpus
  pub few : length cpus ≤ MAX_CPUS
  pub each : All CpuInRange cpus

pub record GuestInRange (plan : GuestPlan) : Type 0 where
  pub some_page : 1 ≤ plan.pages
  pub pages : plan.pages ≤ MAX_GUEST_PAGES
  pub swap : plan.swap ≤ MAX_TOTAL_BLOCKS
  pub files : FilesInRange plan.files
  pub disk_fail : FailsInRange plan.disk_fail
  pub pager_fail : FailsInRange plan.pager_fail
  pub cpus : CpusInRange plan.cpus

-- the pages of all files
abbrev pub file_pages_of : List FilePlan → ℕ
file_pages_of files = sum_by (λ file. file.pages) files

-- the blocks of a guest's disk: its file pages, and behind them its swap slots
abbrev pub blocks_of : GuestPlan → ℕ
blocks_of guest = file_pages_of guest.files + guest.swap

-- the pages of all guests
abbrev pub guest_pages_of : List GuestPlan → ℕ
guest_pages_of guests = sum_by (λ guest. guest.pages) guests

-- the blocks of all guests
abbrev pub guest_blocks_of : List GuestPlan → ℕ
guest_blocks_of guests = sum_by blocks_of guests

-- 1 to 16 guests, within the totals
pub record GuestsInRange (guests : List GuestPlan) : Type 0 where
  pub some : 1 ≤ length guests
  pub few : length guests ≤ MAX_GUESTS
  pub each : All GuestInRange guests
  pub pages_in_all : guest_pages_of guests ≤ MAX_TOTAL_PAGES
  pub blocks_in_all : guest_blocks_of guests ≤ MAX_TOTAL_BLOCKS

-- a guest's number, and something that this guest has
abbrev pub GuestHas : List GuestPlan → ℕ → (GuestPlan → Type 0) → Type 0
GuestHas guests number Has = (guest : GuestPlan) × (slice_get guests number ≡ Some guest) × Has guest

abbrev pub EventInRange : List GuestPlan → Event → Type 0
EventInRange guests (Cpu guest cpu) = GuestHas guests guest (λ plan. cpu < length plan.cpus)
EventInRange guests (Alone guest cpu) = GuestHas guests guest (λ plan. cpu < length plan.cpus)
EventInRange guests (Host guest page action) = GuestHas guests guest (λ plan. page < plan.pages)
EventInRange guests (Reclaim count) = (1 ≤ count) × (count ≤ MAX_RECLAIM)

-- a scenario within all ranges and totals
pub record ScenarioInRange (plan : Scenario) : Type 0 where
  pub some_frame : 1 ≤ plan.frames
  pub frames : plan.frames ≤ MAX_FRAMES
  pub reclaimers : plan.reclaimers ≤ MAX_RECLAIMERS
  pub pager_fail : FailsInRange plan.pager_fail
  pub guests : GuestsInRange plan.guests
  pub few_events : length plan.schedule ≤ MAX_EVENTS
  pub schedule : All (EventInRange plan.guests) plan.schedule
