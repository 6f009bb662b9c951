use Rattle.std.proofs.Common.{◌≡◌, take}
use Rattle.cmm_types.specs.InRange.{guest_pages_of}
use Rattle.cmm_world.proofs.open.pages_in_all.Given as goal

-- the pages of the plans so far
abbrev pub invariant-loop-plan : goal.invariant-loop-plan
invariant-loop-plan l = l.pages ≡ guest_pages_of (take l.plan-index l.plans)
