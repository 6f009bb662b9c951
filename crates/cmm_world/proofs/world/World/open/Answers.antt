use Rattle.std.proofs.Common.{◌≡◌, ◌∙◌, [], ap, subst, sym, length, map}
use Rattle.guest_rules.specs.GuestState.{opening_guest}
use Rattle.cmm_io.specs.DiskState.{opening_disk}
use Rattle.cmm_world.specs.WorldState.{WorldState, opening_world}
use Rattle.cmm_world.specs.WorldFit.{IsWorld}
use Rattle.cmm_world.specs.WorldView.{plans_of}
use Rattle.cmm_world.proofs.OpeningWorld.{opening_fits, opening_parts}
use Rattle.cmm_world.proofs.LegalRuns.{plans_opening}
use Rattle.cmm_world.proofs.world.World.open.Goals as goal

abbrev opened : goal.In_ok-host → WorldState
opened c = record { guests = c.in_ok-guests.guests.items; disks = c.in_ok-disks.disks.items; host = c.in_ok-host.host }

state : (c : goal.In_ok-host) → opened c ≡ opening_world c.args.plan.now
state c =
    opening_parts c.args.plan.now c.in_ok-guests.guests.items c.in_ok-disks.disks.items c.in_ok-host.host
    (c.in_ok-guests.ensures ∙ ap (map opening_guest) c.as_slice.ensures)
    (c.in_ok-disks.ensures ∙ ap (map opening_disk) c.as_slice-2.ensures)
    c.in_ok-host.ensures

world : (c : goal.In_ok-host) → IsWorld (opened c)
world c = subst IsWorld (sym (state c)) (opening_fits c.args.plan.now c.requires)

pub invariant_of-result : goal.invariant_of-result
invariant_of-result c = (world c, c.in_ok-answers.ensures.capacity)

pub returns-clause-opening : goal.returns-clause-opening
returns-clause-opening c =
    let events : c.len-events.result ≡ length c.args.plan.now.schedule = c.len-events.ensures in
    let answers : c.in_ok-answers.answers.items ≡ [] = c.in_ok-answers.ensures.items in
    λ i. record { state = state c i; answers = answers i; events = events i }

pub returns-clause-plans : goal.returns-clause-plans
returns-clause-plans c = ap plans_of (state c) ∙ plans_opening c.args.plan.now

pub returns-clause-fit : goal.returns-clause-fit
returns-clause-fit c = (world c).fit

pub returns-clause-failures : goal.returns-clause-failures
returns-clause-failures c = (world c).failures
