-- The plan of a guest, and what stands for that of a guest that isn't there.
use Rattle.std.specs.Prelude.{[], ℕ, slice_index_or}
use Rattle.cmm_types.specs.declared.plan.GuestPlan.{GuestPlan}
use Rattle.cmm_types.specs.declared.plan.Scenario.{Scenario}

abbrev pub no_plan : GuestPlan
no_plan = record { pages = 0; swap = 0; files = []; disk_fail = []; pager_fail = []; cpus = [] }

abbrev pub plan_at : Scenario → ℕ → GuestPlan
plan_at plan guest = slice_index_or plan.guests guest no_plan
