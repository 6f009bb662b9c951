-- A guest's failed commands, the failed calls of its disk and its pager, and the numbers that were planned for them.
use Rattle.std.specs.Prelude.{ℕ, ◌<◌, ◌≤◌, length}
use Rattle.cmm_io.specs.FailurePlan.{FailurePlan}
use Rattle.cmm_io.specs.Counted.{IsCounted}
use Rattle.cmm_io.specs.DiskState.{DiskState}
use Rattle.host_plain.specs.HostState.{pager_of}
use Rattle.host_plain.specs.Keeping.{faults_of}
use Rattle.guest_rules.specs.GuestState.{GuestState}
use Rattle.guest_rules.specs.Failures.{disk_failures, paging_failures}
use Rattle.cmm_world.specs.WorldState.{WorldState, guest_at, disk_at}

-- at most as many entries failed as calls did, and at most as many calls as different numbers of the plan were reached
pub record AreCounted (g : GuestState) (d : DiskState) (pager : FailurePlan) : Type 0 where
  pub by_disk : disk_failures g.journal ≤ d.failures.faults
  pub by_pager : paging_failures g.journal ≤ faults_of pager
  pub disk_calls : IsCounted g.plan.disk_fail d.failures
  pub pager_calls : IsCounted g.plan.pager_fail pager

-- so it is for each guest
abbrev pub WorldCounted : WorldState → Type 0
WorldCounted w = (guest : ℕ) → guest < length w.guests → AreCounted (guest_at w guest) (disk_at w guest) (pager_of w.host guest)
