use Rattle.std.proofs.Common.{Some, sym, subst}
use Rattle.cmm_scenario.specs.Borrowed.{view}
use Rattle.cmm_scenario.specs.Faults.{Fails}
use Rattle.cmm_scenario.specs.Plans.{whole_plan_of}
use Rattle.cmm_scenario.specs.Scenario.{scenario_of}
use Rattle.cmm_scenario.proofs.Meanings.{scenario_of-tree_of, Fails-refusal}
use Rattle.cmm_scenario.proofs.GivenPlans.{answer-in_range}
use Rattle.cmm_scenario.proofs.scenario.read_scenario.Goals as goal

pub returns-in-Ok-clause-exact : goal.returns-in-Ok-clause-exact
returns-in-Ok-clause-exact c =
    rw (scenario_of-tree_of c.args.bytes.now (Some (view c.in-Ok.tree)) c.in-Ok.ensures.ok) (c.at_root.ensures (whole_plan_of (view c.in-Ok.tree)) c.plan.ensures)

pub returns-in-Ok-clause-in_range : goal.returns-in-Ok-clause-in_range
returns-in-Ok-clause-in_range c =
    answer-in_range c.at_root.result c.args.bytes.now
    (rw (scenario_of-tree_of c.args.bytes.now (Some (view c.in-Ok.tree)) c.in-Ok.ensures.ok) (c.at_root.ensures (whole_plan_of (view c.in-Ok.tree)) c.plan.ensures))

pub returns-clause-exact : goal.returns-clause-exact
returns-clause-exact c = subst (λ e. Fails e (scenario_of c.args.bytes.now)) (sym c.refusal.ensures) (Fails-refusal c.args.bytes.now c.in-Err.e c.in-Err.ensures.refused)
