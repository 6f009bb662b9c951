use Rattle.std.proofs.Common.{◌≡◌, map, take}
use Rattle.guest_rules.specs.GuestState.{opening_guest}
use Rattle.cmm_world.proofs.open.open_guests.Given as goal

-- the guests of the plans so far
abbrev pub invariant-loop-plan : goal.invariant-loop-plan
invariant-loop-plan l = l.guests.items ≡ map opening_guest (take l.plan-index l.plans)
