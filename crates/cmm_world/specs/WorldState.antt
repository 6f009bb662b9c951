-- A world: its guests, their disks, and the host that has their pages; and how it opens.
use Rattle.std.specs.Prelude.{ℕ, List, [], map, replicate, slice_index_or}
use Rattle.cmm_types.specs.declared.plan.GuestPlan.{GuestPlan}
use Rattle.cmm_types.specs.declared.plan.Scenario.{Scenario}
use Rattle.cmm_types.specs.InRange.{guest_pages_of}
use Rattle.cmm_types.specs.NoPlan.{no_plan}
use Rattle.cmm_io.specs.FailurePlan.{failure_plan_of}
use Rattle.cmm_io.specs.DiskState.{DiskState, opened, opening_disk}
use Rattle.cmm_types.specs.Bytes.{zero_page}
use Rattle.host_plain.specs.HostState.{HostState, host_opening}
use Rattle.guest_rules.specs.GuestState.{GuestState, opening_guest}

pub record WorldState : Type 0 where
  pub guests : List GuestState
  pub disks : List DiskState
  pub host : HostState

abbrev pub guest_at : WorldState → ℕ → GuestState
guest_at w guest = slice_index_or w.guests guest (opening_guest no_plan)

abbrev pub disk_at : WorldState → ℕ → DiskState
disk_at w guest = slice_index_or w.disks guest (opened [] 0 [])

-- one block of the paging store a page, each of zeros; a pager for each guest and one for the host's own moves
abbrev pub opening_host : Scenario → HostState
opening_host plan =
    host_opening (map (λ guest. guest.pages) plan.guests) plan.frames (replicate (guest_pages_of plan.guests) zero_page)
    (map (λ guest. failure_plan_of guest.pager_fail) plan.guests) (failure_plan_of plan.pager_fail)

unfoldable pub opening_world : Scenario → WorldState
opening_world plan = record { guests = map opening_guest plan.guests; disks = map opening_disk plan.guests; host = opening_host plan }
