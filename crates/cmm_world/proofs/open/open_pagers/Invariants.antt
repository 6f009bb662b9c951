use Rattle.std.proofs.Common.{◌≡◌, map, take}
use Rattle.cmm_types.specs.declared.plan.GuestPlan.{GuestPlan}
use Rattle.cmm_io.specs.FailurePlan.{failure_plan_of}
use Rattle.cmm_world.proofs.open.open_pagers.Given as goal

-- the pagers of the plans so far
abbrev pub invariant-loop-plan : goal.invariant-loop-plan
invariant-loop-plan l = l.pagers.items ≡ map (λ (guest : GuestPlan). failure_plan_of guest.pager_fail) (take l.plan-index l.plans)
