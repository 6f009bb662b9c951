use Rattle.std.proofs.Common.{◌≡◌, ◌<◌, [], length, sym, ap, subst, ◌∙◌}
use Rattle.std.proofs.lemmas.List.{get_or_default}
use Rattle.cmm_types.specs.declared.event.Event.TheVariants.{Cpu}
use Rattle.cmm_types.specs.InRange.{EventInRange}
use Rattle.cmm_io.specs.DiskState.{disk_view, opened}
use Rattle.host_plain.specs.HostState.{host_view}
use Rattle.guest_rules.specs.GuestState.{opening_guest}
use Rattle.guest_rules.specs.Fit.{Fit}
use Rattle.cmm_types.specs.NoPlan.{no_plan}
use Rattle.cmm_world.specs.WorldState.{WorldState, guest_at, disk_at}
use Rattle.cmm_world.specs.WorldView.{WorldView, plans_of}
use Rattle.cmm_world.proofs.Events.{cpu_there}
use Rattle.cmm_types.specs.declared.event.Answer.TheVariants.{Turn}
use Rattle.cmm_storage.specs.Program.{Does}
use Rattle.guest_rules.specs.Turns.{turn}
use Rattle.cmm_world.specs.Played.{PlaysEvent}
use Rattle.cmm_storage.specs.Laws.CarriedLaws.{storage_carried}
use Rattle.cmm_world.proofs.HostSteps.{host_step, disk_step}
use Rattle.cmm_world.proofs.TurnRuns.{AfterTurn, after_turn, with_turn}
use Rattle.cmm_world.proofs.Playing.{plays_turn, seen_as}
use Rattle.cmm_world.proofs.world.World.turn.Goals as goal

abbrev before : (c : goal.After-index_mut-2) → WorldState
before c = record { guests = c.self.inside.guests.items; disks = c.self.inside.disks.items; host = c.self.inside.host }

there : (c : goal.After-index_mut-2) → (c.args.guest < length c.self.inside.guests.items) × (c.args.cpu < length (guest_at (before c) c.args.guest).processors)
there c =
    cpu_there (before c) c.args.guest c.args.cpu c.self.invariant.0
    (subst (λ (v : WorldView). EventInRange (plans_of v.state) (Cpu c.args.guest c.args.cpu)) (sym c.self.view_is) c.requires)

its_guest : (c : goal.After-index_mut-2) → c.index_mut.result.now ≡ guest_at (before c) c.args.guest
its_guest c = c.index_mut.ensures.value ∙ get_or_default c.self.inside.guests.items c.args.guest c.index_mut.result.now (opening_guest no_plan) (there c).0

its_disk : (c : goal.After-index_mut-2) → c.index_mut-2.result.now ≡ disk_at (before c) c.args.guest
its_disk c = c.index_mut-2.ensures.value ∙ get_or_default c.self.inside.disks.items c.args.guest c.index_mut-2.result.now (opened [] 0 []) (rw c.self.invariant.0.disks (there c).0)

pub step-requires-clause-cpu : goal.step-requires-clause-cpu
step-requires-clause-cpu c = rw (its_guest c) (there c).1

pub step-requires-clause-fit : goal.step-requires-clause-fit
step-requires-clause-fit c =
    subst (λ g. Fit g (host_view c.view-pages.result.host.now) (disk_view c.index_mut-2.result.now)) (sym (its_guest c))
    (subst (λ d. Fit (guest_at (before c) c.args.guest) (host_view c.view-pages.result.host.now) (disk_view d)) (sym (its_disk c))
    (subst (λ h. Fit (guest_at (before c) c.args.guest) (host_view h) (disk_view (disk_at (before c) c.args.guest))) (sym c.view-pages.ensures.served)
    (c.self.invariant.0.fit c.args.guest (there c).0)))

pub shape_of-self-inside : goal.shape_of-self-inside
shape_of-self-inside c =
    sym c.view-pages.ensures.same
    ∙ sym (storage_carried host_step disk_step (λ s t. t.host.ghost_name ≡ s.host.ghost_name) (λ s t same. ap (λ q. q.host.ghost_name) same) (λ s m t first second. second ∙ first) (λ s call t q. q.3)
    _ _ _ _ _ _ c.step.ensures.row)

abbrev inside : (c : goal.After-self-2-1) → WorldState
inside c = record { guests = c.self.inside.guests.items; disks = c.self.inside.disks.items; host = c.self.inside.host }

named_there : (c : goal.After-self-2-1) → (c.args.guest < length c.self.inside.guests.items) × (c.args.cpu < length (guest_at (inside c) c.args.guest).processors)
named_there c =
    cpu_there (inside c) c.args.guest c.args.cpu c.self.invariant.0
    (subst (λ (v : WorldView). EventInRange (plans_of v.state) (Cpu c.args.guest c.args.cpu)) (sym c.self.view_is) c.requires)

after : (c : goal.After-self-2-1) → AfterTurn (inside c) c.args.guest c.args.cpu c.step.new.self c.step.result c.step.new.st.host.now c.step.new.disk
after c =
    let guest : c.index_mut.result.now ≡ guest_at (inside c) c.args.guest =
    c.index_mut.ensures.value ∙ get_or_default c.self.inside.guests.items c.args.guest c.index_mut.result.now (opening_guest no_plan) (named_there c).0 in
    let disk : c.index_mut-2.result.now ≡ disk_at (inside c) c.args.guest =
    c.index_mut-2.ensures.value ∙ get_or_default c.self.inside.disks.items c.args.guest c.index_mut-2.result.now (opened [] 0 []) (rw c.self.invariant.0.disks (named_there c).0) in
    after_turn host_step disk_step (λ v. v.host.now) (λ d. d) (λ s call t q. q.0) (λ d call e q. q.0) (λ s call t q. q.1) (λ d call e q. q.1) (λ s call t q. q.2)
    (inside c) c.args.guest c.args.cpu c.view-pages.result c.index_mut-2.result.now
    c.step.new.self c.step.result c.step.new.st c.step.new.disk c.self.invariant.0 (named_there c).0 c.view-pages.ensures.served disk (named_there c).1
    (subst (λ g. Does host_step disk_step (turn g c.args.cpu) c.view-pages.result c.index_mut-2.result.now (c.step.new.self, c.step.result) c.step.new.st c.step.new.disk) guest c.step.ensures.row)

pub invariant_of-self : goal.invariant_of-self
invariant_of-self c = ((after c).world, c.self.invariant.1)

-- the world after it
abbrev made : (c : goal.After-self-2-1) → WorldState
made c = with_turn (inside c) c.args.guest c.step.new.self c.step.new.st.host.now c.step.new.disk

pub returns : goal.returns
returns c =
    let event = Cpu c.args.guest c.args.cpu in
    let answers = c.self.inside.answers.items in
    let events = c.self.inside.events in
    subst (λ (v : WorldView). PlaysEvent v event (Turn c.step.result) (seen_as (made c) answers events)) c.self.view_is
    (plays_turn (inside c) answers events c.args.guest c.args.cpu c.step.new.self c.step.result c.step.new.st.host.now c.step.new.disk (named_there c).0 (after c))
