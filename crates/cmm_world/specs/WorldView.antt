-- What contracts see of a world: its state, the answers that it kept, and what can be read of it.
use Rattle.std.specs.Prelude.{ℕ, List, [], map, length, sum_by}
use Rattle.cmm_types.specs.declared.event.Answer.{Answer}
use Rattle.cmm_types.specs.declared.plan.GuestPlan.{GuestPlan}
use Rattle.cmm_types.specs.declared.plan.Scenario.{Scenario}
use Rattle.essa_state.specs.declared.fields.Fields.{Fields}
use Rattle.host_plain.specs.HostState.{guest_words}
use Rattle.cmm_world.specs.WorldState.{WorldState, opening_world}

-- the state, the answers kept so far, and how many there is room for: one for each event of the schedule
pub record WorldView : Type 0 where
  pub state : WorldState
  pub answers : List Answer
  pub events : ℕ

abbrev pub opening_view : Scenario → WorldView
opening_view plan = record { state = opening_world plan; answers = []; events = length plan.schedule }

abbrev pub plans_of : WorldState → List GuestPlan
plans_of w = map (λ guest. guest.plan) w.guests

-- the words of a guest's pages
abbrev pub world_words : WorldState → ℕ → List Fields
world_words w guest = guest_words w.host guest

-- how often a page of a guest was discarded
abbrev pub discards_of : WorldState → ℕ → ℕ
discards_of w guest = sum_by (λ word. word.count) (world_words w guest)
