use Rattle.std.proofs.Common.{◌≡◌, map, take}
use Rattle.cmm_io.specs.DiskState.{opening_disk}
use Rattle.cmm_world.proofs.open.open_disks.Given as goal

-- the disks of the plans so far
abbrev pub invariant-loop-plan : goal.invariant-loop-plan
invariant-loop-plan l = l.disks.items ≡ map opening_disk (take l.plan-index l.plans)
