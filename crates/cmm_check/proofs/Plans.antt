-- What a plan says of the processor and the number of a command.
use Rattle.std.proofs.Common.{◌≡◌, ◌+◌, ◌^◌, ◌<◌, arith, ℕ, Some, length}
use Rattle.std.proofs.lemmas.Option.{slice_get_within}
use Rattle.cmm_types.specs.declared.command.Op.{Op}
use Rattle.cmm_types.specs.declared.plan.GuestPlan.{GuestPlan}
use Rattle.cmm_types.specs.InRange.{CpuInRange, GuestInRange}
use Rattle.cmm_flat.specs.Legal.{command_of}
use Rattle.cmm_flat.specs.Laws.CountLaws.{commanded}
use Rattle.cmm_flat.specs.Laws.CommandLaws.{element}

pub processor_there : (plan : GuestPlan) (cpu k : ℕ) (op : Op) → command_of plan cpu k ≡ Some op → cpu < length plan.cpus
processor_there plan cpu k op e = let at = commanded plan cpu k op e in slice_get_within plan.cpus cpu at.its at.there

-- a command's number is below 10,000
pub number_small : (plan : GuestPlan) (cpu k : ℕ) (op : Op) → GuestInRange plan → command_of plan cpu k ≡ Some op → k + 1 < 2 ^ 32
number_small plan cpu k op range e =
    let at = commanded plan cpu k op e in
    let few = (element CpuInRange plan.cpus cpu at.its range.cpus.each at.there).few in
    let below = slice_get_within at.its.commands k op at.command in
    omega arith
