use Rattle.std.proofs.Common.{◌≡◌, map, take}
use Rattle.cmm_types.specs.declared.plan.GuestPlan.{GuestPlan}
use Rattle.cmm_world.proofs.open.page_counts.Given as goal

-- the pages of the plans so far
abbrev pub invariant-loop-plan : goal.invariant-loop-plan
invariant-loop-plan l = l.counts.items ≡ map (λ (guest : GuestPlan). guest.pages) (take l.plan-index l.plans)
