-- What the plan says of the command at a place.
use Rattle.std.proofs.Common.{◌≡◌, ◌<◌, ◌≤◌, arith, ℕ, Option, Some, None, slice_get, refl}
use Rattle.std.proofs.lemmas.Option.{slice_get_within}
use Rattle.cmm_types.specs.declared.command.Op.{Op}
use Rattle.cmm_types.specs.declared.plan.TheConstants.{MAX_COMMANDS, MAX_PROCESSES}
use Rattle.cmm_types.specs.declared.plan.CpuPlan.{CpuPlan}
use Rattle.cmm_types.specs.declared.plan.GuestPlan.{GuestPlan}
use Rattle.cmm_types.specs.InRange.{CpuInRange, GuestInRange}
use Rattle.cmm_flat.specs.Legal.{command_of, process_of}
use Rattle.cmm_flat.specs.Laws.CountLaws.{commanded}
use Rattle.cmm_flat.specs.Laws.CommandLaws.{element}
use Rattle.guest_rules.specs.Fit.{command_count}

pub command-below : (plan : GuestPlan) (cpu k : ℕ) (op : Op) → command_of plan cpu k ≡ Some op → k < command_count plan cpu
command-below plan cpu k op e =
    let at = commanded plan cpu k op e in
    rw (at.there, command_count) (slice_get_within at.its.commands k op at.command)

-- a processor has at most so many commands
pub command_count-le : (plan : GuestPlan) (cpu : ℕ) → GuestInRange plan → command_count plan cpu ≤ MAX_COMMANDS
command_count-le plan cpu range = of (slice_get plan.cpus cpu) refl
  where
    of : (o : Option CpuPlan) → slice_get plan.cpus cpu ≡ o → command_count plan cpu ≤ MAX_COMMANDS
    of None e = rw (e, command_count) (omega arith)
    of (Some its) e = rw (e, command_count) (element CpuInRange plan.cpus cpu its range.cpus.each e).few

-- and its process is one of the guest's
pub process_of-below : (plan : GuestPlan) (cpu : ℕ) → GuestInRange plan → process_of plan cpu < MAX_PROCESSES
process_of-below plan cpu range = of (slice_get plan.cpus cpu) refl
  where
    of : (o : Option CpuPlan) → slice_get plan.cpus cpu ≡ o → process_of plan cpu < MAX_PROCESSES
    of None e = rw (e, process_of) (omega arith)
    of (Some its) e = rw (e, process_of) (element CpuInRange plan.cpus cpu its range.cpus.each e).process
