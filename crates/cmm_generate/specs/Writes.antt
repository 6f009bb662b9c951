-- What a scenario writes is bytes: the heads of its files, and what its commands write.
use Rattle.std.specs.Prelude.{All}
use Rattle.hex.specs.Hex.{IsBytes}
use Rattle.cmm_types.specs.declared.plan.GuestPlan.{GuestPlan}
use Rattle.cmm_types.specs.declared.plan.Scenario.{Scenario}
use Rattle.cmm_scenario.specs.Spelling.{WritesBytes}

abbrev pub WritesGuest : GuestPlan → Type 0
WritesGuest plan = All (λ file. IsBytes file.head) plan.files × All (λ cpu. All WritesBytes cpu.commands) plan.cpus

abbrev pub WritesScenario : Scenario → Type 0
WritesScenario plan = All WritesGuest plan.guests
