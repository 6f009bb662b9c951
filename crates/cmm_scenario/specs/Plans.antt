-- The walk through the tree of a scenario: each object's keys in order, each with everything below it before the next.
use Rattle.std.specs.Prelude.{ℕ, ◌*◌, ◌-◌, ◌^◌, ◌&&◌, nat_le, List, [], ◌∷◌, length, codes, Result, Ok}
use Rattle.std.specs.Option.{ok_or}
use Rattle.hex.specs.Hex.{decode_of}
use Rattle.serde_json.specs.Data.{Data}
use Rattle.serde_json.specs.Find.{as_str}
use Rattle.cmm_types.specs.declared.page.TheConstants.{PAGE}
use Rattle.cmm_types.specs.declared.command.Op.{Op}
use Rattle.cmm_types.specs.declared.event.Event.{Event}
use Rattle.cmm_types.specs.declared.command.TheConstants.{MAX_FILES}
use Rattle.cmm_types.specs.declared.plan.TheConstants.{MAX_GUESTS, MAX_CPUS, MAX_PROCESSES, MAX_RECLAIMERS, MAX_GUEST_PAGES}
use Rattle.cmm_types.specs.declared.plan.TheConstants.{MAX_TOTAL_PAGES, MAX_FRAMES, MAX_TOTAL_BLOCKS, MAX_FILE_PAGES, MAX_COMMANDS, MAX_EVENTS, MAX_FAILS}
use Rattle.cmm_types.specs.declared.plan.FilePlan.{FilePlan}
use Rattle.cmm_types.specs.declared.plan.CpuPlan.{CpuPlan}
use Rattle.cmm_types.specs.declared.plan.GuestPlan.{GuestPlan}
use Rattle.cmm_types.specs.declared.plan.Scenario.{Scenario}
use Rattle.cmm_types.specs.InRange.{guest_pages_of, guest_blocks_of}
use Rattle.cmm_scenario.specs.declared.fault.Kind.{Kind}
use Rattle.cmm_scenario.specs.declared.fault.Kind.TheVariants.{Type_, Range, Hex, Total}
use Rattle.cmm_scenario.specs.declared.error.ScenarioError.{ScenarioError}
use Rattle.cmm_scenario.specs.Outcome.{◌>>=◌, checked}
use Rattle.cmm_scenario.specs.Words.{or_fault}
use Rattle.cmm_scenario.specs.Commands.{op_of}
use Rattle.cmm_scenario.specs.Events.{event_of}
use Rattle.cmm_scenario.specs.Faults.{here, inside}
use Rattle.cmm_scenario.specs.Tree.{number, known_keys, member_of, member_or, list_of}

abbrev pub text_of : Data → Result (List ℕ) Kind
text_of tree = ok_or (as_str tree) Type_

-- the bytes of an even number of hexadecimal digits, no more than so many pages hold
unfoldable pub head_of : ℕ → Data → Result (List ℕ) Kind
head_of pages tree = do
  digits ← text_of tree
  bytes ← or_fault Hex (decode_of digits)
  checked (nat_le (length bytes) (PAGE * pages)) bytes Range

unfoldable pub file_of : Data → Result FilePlan ScenarioError
file_of tree = do
  _ ← here (known_keys (codes "pages" ∷ codes "head" ∷ []) tree)
  pages ← member_of (codes "pages") (number 1 MAX_FILE_PAGES) tree
  head ← member_of (codes "head") (λ d. here (head_of pages d)) tree
  Ok (record { pages = pages; head = head })

unfoldable pub cpu_command_of : Data → Result Op Kind
cpu_command_of tree = do
  text ← text_of tree
  op_of text

unfoldable pub cpu_plan_of : Data → Result CpuPlan ScenarioError
cpu_plan_of tree = do
  _ ← here (known_keys (codes "process" ∷ codes "commands" ∷ []) tree)
  process ← member_of (codes "process") (number 0 (MAX_PROCESSES - 1)) tree
  commands ← member_of (codes "commands") (list_of 0 MAX_COMMANDS (λ d. here (cpu_command_of d))) tree
  Ok (record { process = process; commands = commands })

-- the numbers of calls that fail, from 1
abbrev pub fails_of : Data → Result (List ℕ) ScenarioError
fails_of = list_of 0 MAX_FAILS (number 1 (2 ^ 32 - 1))

abbrev pub guest_keys : List (List ℕ)
guest_keys = codes "pages" ∷ codes "swap" ∷ codes "files" ∷ codes "disk_fail" ∷ codes "pager_fail" ∷ codes "cpus" ∷ []

unfoldable pub guest_of : Data → Result GuestPlan ScenarioError
guest_of tree = do
  _ ← here (known_keys guest_keys tree)
  pages ← member_of (codes "pages") (number 1 MAX_GUEST_PAGES) tree
  swap ← member_of (codes "swap") (number 0 MAX_TOTAL_BLOCKS) tree
  files ← member_of (codes "files") (list_of 0 MAX_FILES file_of) tree
  disk_fail ← member_or (codes "disk_fail") [] fails_of tree
  pager_fail ← member_or (codes "pager_fail") [] fails_of tree
  cpus ← member_of (codes "cpus") (list_of 1 MAX_CPUS cpu_plan_of) tree
  Ok (record { pages = pages; swap = swap; files = files; disk_fail = disk_fail; pager_fail = pager_fail; cpus = cpus })

-- the guests, where they have no more pages and no more blocks in all than a machine has
unfoldable pub totals_of : List GuestPlan → Result (Unit {0}) Kind
totals_of guests = checked (nat_le (guest_pages_of guests) MAX_TOTAL_PAGES && nat_le (guest_blocks_of guests) MAX_TOTAL_BLOCKS) tt Total

unfoldable pub schedule_event_of : List GuestPlan → Data → Result Event Kind
schedule_event_of guests tree = do
  text ← text_of tree
  event_of guests text

abbrev pub scenario_keys : List (List ℕ)
scenario_keys = codes "version" ∷ codes "frames" ∷ codes "pager_fail" ∷ codes "reclaimers" ∷ codes "guests" ∷ codes "schedule" ∷ []

-- the guests, and then their totals
unfoldable pub guests_of : Data → Result (List GuestPlan) ScenarioError
guests_of tree = do
  guests ← member_of (codes "guests") (list_of 1 MAX_GUESTS guest_of) tree
  _ ← inside (codes "guests") (here (totals_of guests))
  Ok guests

unfoldable pub schedule_of : List GuestPlan → Data → Result (List Event) ScenarioError
schedule_of guests tree = member_or (codes "schedule") [] (list_of 0 MAX_EVENTS (λ d. here (schedule_event_of guests d))) tree

unfoldable pub whole_plan_of : Data → Result Scenario ScenarioError
whole_plan_of tree = do
  _ ← here (known_keys scenario_keys tree)
  _ ← member_of (codes "version") (number 1 1) tree
  frames ← member_of (codes "frames") (number 1 MAX_FRAMES) tree
  pager_fail ← member_or (codes "pager_fail") [] fails_of tree
  reclaimers ← member_or (codes "reclaimers") 0 (number 0 MAX_RECLAIMERS) tree
  guests ← guests_of tree
  schedule ← schedule_of guests tree
  Ok (record { frames = frames; reclaimers = reclaimers; pager_fail = pager_fail; guests = guests; schedule = schedule })
