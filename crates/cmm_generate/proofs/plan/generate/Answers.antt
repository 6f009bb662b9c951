use Rattle.std.proofs.Common.{◌≡◌, ◌∙◌, sym, ap, subst, IfOk, Result, Ok, Err}
use Rattle.std.specs.declared.alloc.AllocError.{AllocError}
use Rattle.cmm_types.specs.declared.plan.Scenario.{Scenario}
use Rattle.cmm_types.specs.InRange.{ScenarioInRange}
use Rattle.cmm_generate.specs.Generated.{scenario, generated}
use Rattle.cmm_generate.specs.Writes.{WritesScenario}
use Rattle.cmm_generate.proofs.InRange.{generated_in_range, generated_writes}
use Rattle.cmm_generate.proofs.Loops.{drawn_in_turn}
use Rattle.cmm_generate.proofs.plan.generate.Goals as goal

-- a plan that is another one has what that one has
is_that : (result : Result Scenario AllocError) (P : Scenario → Type 0) (that : Scenario) → P that → IfOk result (λ plan. plan ≡ that) → IfOk result P
is_that (Ok plan) P that p is = subst P (sym is) p
is_that (Err e) P that p is = tt

pub returns-clause-generated : goal.returns-clause-generated
returns-clause-generated c =
    is_that c.scenario.result (λ plan. plan ≡ generated c.args.start c.args.size) _
    (ap (λ ops. scenario c.in_ok-first.first c.in_ok-second.second ops c.in_ok-schedule.schedule.items) c.as_slice.ensures.value
    ∙ drawn_in_turn c.args.start c.args.size _ _ _ _ c.in_ok-first.first c.in_ok-second.second c.in_ok-ops.ops.items c.in_ok-schedule.schedule.items
    c.in_ok-first.ensures c.in_ok-second.ensures c.in_ok-ops.ensures c.in_ok-schedule.ensures)
    c.scenario.ensures

pub returns-clause-in_range : goal.returns-clause-in_range
returns-clause-in_range c =
    is_that c.scenario.result ScenarioInRange (generated c.args.start c.args.size) (generated_in_range c.args.start c.args.size c.requires.1) (returns-clause-generated c)

pub returns-clause-bytes : goal.returns-clause-bytes
returns-clause-bytes c =
    is_that c.scenario.result WritesScenario (generated c.args.start c.args.size) (generated_writes c.args.start c.args.size) (returns-clause-generated c)
