use Rattle.std.proofs.Common.{◌≡◌, map, take}
use Rattle.cmm_flat.specs.State.{opening_file}
use Rattle.cmm_flat.proofs.flat.Flat.open.Given as goal

abbrev pub invariant-loop-plan : goal.invariant-loop-plan
invariant-loop-plan l = l.files.items ≡ map opening_file (take l.plan-index l.plans)
