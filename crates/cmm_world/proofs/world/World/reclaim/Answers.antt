use Rattle.std.proofs.Common.{◌≡◌, [], ◌∷◌, ap, subst, refl}
use Rattle.host_plain.specs.HostState.{HostState}
use Rattle.cmm_world.specs.WorldState.{WorldState}
use Rattle.cmm_world.specs.WorldView.{WorldView}
use Rattle.cmm_types.specs.declared.event.Event.{Event}
use Rattle.cmm_types.specs.declared.event.Event.TheVariants.{Reclaim}
use Rattle.cmm_types.specs.declared.event.Answer.TheVariants.{Reclaimed}
use Rattle.cmm_types.specs.declared.event.Answer.{Answer}
use Rattle.cmm_world.specs.Run.{world_step}
use Rattle.cmm_world.proofs.Kept.{MovesKeep, kept_moves}
use Rattle.cmm_world.specs.Steps.{step_answers}
use Rattle.cmm_world.specs.Played.{PlaysEvent}
use Rattle.cmm_world.proofs.Playing.{plays_moves, seen_as}
use Rattle.cmm_world.proofs.world.World.reclaim.Goals as goal

abbrev inside : (c : goal.After-reclaim-reclaimed) → WorldState
inside c = record { guests = c.self.inside.guests.items; disks = c.self.inside.disks.items; host = c.self.inside.host }

moves : (c : goal.After-reclaim-reclaimed) → MovesKeep (inside c).host c.reclaim-reclaimed.new.self
moves c = record {
  starts = ap (λ (h : HostState). h.starts) c.reclaim-reclaimed.ensures.host;
  pagers = ap (λ (h : HostState). h.pagers) c.reclaim-reclaimed.ensures.host;
  held = ap (λ (h : HostState). h.held) c.reclaim-reclaimed.ensures.host;
  pages = c.reclaim-reclaimed.ensures.pages;
}

pub invariant_of-self : goal.invariant_of-self
invariant_of-self c = (kept_moves (inside c) c.reclaim-reclaimed.new.self c.self.invariant.0 (moves c), c.self.invariant.1)

abbrev event : (c : goal.After-reclaim-reclaimed) → Event
event c = Reclaim c.args.count

abbrev answer : (c : goal.After-reclaim-reclaimed) → Answer
answer c = Reclaimed c.reclaim-reclaimed.result.count c.reclaim-reclaimed.result.paging

-- the world after it
abbrev made : (c : goal.After-reclaim-reclaimed) → WorldState
made c = record (inside c) { host = c.reclaim-reclaimed.new.self }

step : (c : goal.After-reclaim-reclaimed) → ◌≡◌ {A = Answer × WorldState} (world_step (inside c) (event c)) (answer c, made c)
unfolding world_step
step c = rw (c.reclaim-reclaimed.ensures.count, c.reclaim-reclaimed.ensures.paging, c.reclaim-reclaimed.ensures.host) refl

pub returns : goal.returns
returns c =
    let answers = c.self.inside.answers.items in
    let events = c.self.inside.events in
    let one : step_answers (answer c) ≡ answer c ∷ [] = refl in
    subst (λ (v : WorldView). PlaysEvent v (event c) (answer c) (seen_as (made c) answers events)) c.self.view_is
    (plays_moves (inside c) answers events (event c) (answer c) c.reclaim-reclaimed.new.self (step c) refl one (tt {0}) c.self.invariant.0 (moves c))
