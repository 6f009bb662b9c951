use Rattle.std.proofs.Common.{refl, arith, take, position, Some, None}
use Rattle.host_clock.specs.Victim.{is_takeable}
use Rattle.host_clock.proofs.Cycle.{cycle_place}
use Rattle.host_clock.proofs.steps_to_takeable.Goals as goal

pub returns-in_err-steps-in-None-clause-first : goal.returns-in_err-steps-in-None-clause-first
returns-in_err-steps-in-None-clause-first c =
    rw c.from_residual.ensures (cycle_place (is_takeable c.args.in_need) c.args.words.now c.args.hand None None (omega arith) c.in-None.ensures.first c.in_err-steps-in-None.ensures.first)

pub returns-in-Some-clause-first : goal.returns-in-Some-clause-first
returns-in-Some-clause-first c =
    cycle_place (is_takeable c.args.in_need) c.args.words.now c.args.hand (Some c.in-Some.steps) (position (is_takeable c.args.in_need) (take c.args.hand c.args.words.now))
    (omega arith) c.in-Some.ensures.first refl

pub returns-in_ok-steps-in-None-clause-first : goal.returns-in_ok-steps-in-None-clause-first
returns-in_ok-steps-in-None-clause-first c =
    cycle_place (is_takeable c.args.in_need) c.args.words.now c.args.hand None (Some c.in_ok-steps-in-None.steps) (omega arith) c.in-None.ensures.first c.in_ok-steps-in-None.ensures.first
