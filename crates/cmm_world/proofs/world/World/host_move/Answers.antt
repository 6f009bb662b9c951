use Rattle.std.proofs.Common.{◌≡◌, [], ◌∷◌, sym, ap, subst, refl}
use Rattle.host_plain.specs.HostState.{HostState}
use Rattle.cmm_types.specs.declared.event.Event.{Event}
use Rattle.cmm_types.specs.declared.event.Event.TheVariants.{Host}
use Rattle.cmm_types.specs.InRange.{EventInRange}
use Rattle.cmm_world.specs.WorldState.{WorldState}
use Rattle.cmm_world.specs.WorldView.{WorldView, plans_of}
use Rattle.cmm_types.specs.declared.event.Answer.{Answer}
use Rattle.cmm_world.specs.Run.{world_step}
use Rattle.cmm_world.proofs.Events.{page_there}
use Rattle.cmm_world.proofs.Kept.{MovesKeep, kept_moves}
use Rattle.cmm_world.specs.Steps.{step_answers}
use Rattle.cmm_world.specs.Played.{PlaysEvent}
use Rattle.cmm_world.proofs.Playing.{plays_moves, move_answered, seen_as}
use Rattle.cmm_world.proofs.world.World.host_move.Goals as goal

pub apply-requires-clause-page : goal.apply-requires-clause-page
apply-requires-clause-page c =
    let range = subst (λ (v : WorldView). EventInRange (plans_of v.state) (Host c.args.guest c.args.page c.args.action)) (sym c.self.view_is) c.requires in
    page_there _ c.args.guest c.args.page c.self.invariant.0 range

abbrev inside : (c : goal.After-applied_answer) → WorldState
inside c = record { guests = c.self.inside.guests.items; disks = c.self.inside.disks.items; host = c.self.inside.host }

moves : (c : goal.After-applied_answer) → MovesKeep (inside c).host c.apply.new.self
moves c = record {
  starts = ap (λ (h : HostState). h.starts) c.apply.ensures.host;
  pagers = ap (λ (h : HostState). h.pagers) c.apply.ensures.host;
  held = ap (λ (h : HostState). h.held) c.apply.ensures.host;
  pages = c.apply.ensures.pages;
}

pub invariant_of-self : goal.invariant_of-self
invariant_of-self c = (kept_moves (inside c) c.apply.new.self c.self.invariant.0 (moves c), c.self.invariant.1)

abbrev event : (c : goal.After-applied_answer) → Event
event c = Host c.args.guest c.args.page c.args.action

abbrev answer : (c : goal.After-applied_answer) → Answer
answer c = c.applied_answer.result

-- the world after it
abbrev made : (c : goal.After-applied_answer) → WorldState
made c = record (inside c) { host = c.apply.new.self }

step : (c : goal.After-applied_answer) → ◌≡◌ {A = Answer × WorldState} (world_step (inside c) (event c)) (answer c, made c)
unfolding world_step
step c = rw (c.applied_answer.ensures, c.apply.ensures.answer, c.apply.ensures.host) refl

pub returns : goal.returns
returns c =
    let answers = c.self.inside.answers.items in
    let events = c.self.inside.events in
    let one : step_answers (answer c) ≡ answer c ∷ [] = subst (λ a. step_answers a ≡ a ∷ []) (sym c.applied_answer.ensures) (move_answered c.apply.result) in
    subst (λ (v : WorldView). PlaysEvent v (event c) (answer c) (seen_as (made c) answers events)) c.self.view_is
    (plays_moves (inside c) answers events (event c) (answer c) c.apply.new.self (step c) refl one (tt {0}) c.self.invariant.0 (moves c))
