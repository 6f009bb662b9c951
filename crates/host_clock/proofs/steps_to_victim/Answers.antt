use Rattle.std.proofs.Common.{true, false, Some}
use Rattle.host_clock.proofs.Cycle.{victim_found, place_candidate}
use Rattle.host_clock.proofs.steps_to_victim.Goals as goal

pub returns-in-Some-clause-found : goal.returns-in-Some-clause-found
returns-in-Some-clause-found c = rw (← c.in-Some.ensures.first) at (victim_found c.args.words.now c.args.hand)

pub returns-in-None-clause-found : goal.returns-in-None-clause-found
returns-in-None-clause-found c =
    rw c.steps_to_takeable-in-None.ensures.first (rw (← c.in-None.ensures.first) at (victim_found c.args.words.now c.args.hand))

pub returns-in-Some-clause-candidate : goal.returns-in-Some-clause-candidate
returns-in-Some-clause-candidate c = place_candidate false c.args.words.now c.args.hand (Some c.in-Some.steps) c.requires c.in-Some.ensures.near c.in-Some.ensures.first

pub returns-in-None-clause-candidate : goal.returns-in-None-clause-candidate
returns-in-None-clause-candidate c =
    place_candidate true c.args.words.now c.args.hand c.steps_to_takeable-in-None.result c.requires c.steps_to_takeable-in-None.ensures.near c.steps_to_takeable-in-None.ensures.first
