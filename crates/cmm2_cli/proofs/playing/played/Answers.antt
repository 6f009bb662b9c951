use Rattle.std.proofs.Common.{◌≡◌, ◌++◌, List, All, ap, subst, sym, ◌∙◌}
use Rattle.cmm_types.specs.declared.event.Event.{Event}
use Rattle.cmm_types.specs.InRange.{EventInRange}
use Rattle.cmm_world.specs.WorldState.{opening_world}
use Rattle.cmm_world.specs.WorldView.{WorldView, plans_of}
use Rattle.cmm_world.specs.Run.{answers_of, world_after, run_of}
use Rattle.cmm2_cli.proofs.playing.played.Goals as goal

pub replay-requires-clause-range : goal.replay-requires-clause-range
replay-requires-clause-range c =
    subst (λ (es : List Event). All (EventInRange (plans_of c.in_ok-world.world.state)) es) (sym c.as_slice.ensures)
    (subst (λ ps. All (EventInRange ps) c.args.plan.now.schedule) (sym c.in_ok-world.ensures.plans) c.requires.schedule)

pub returns : goal.returns
returns c =
    let plan = c.args.plan.now in
    let answers : c.replay.new.self.answers ≡ (run_of plan).0 =
    c.replay.ensures.answers ∙ ap (λ (v : WorldView). v.answers ++ answers_of v.state c.as_slice.result.now) c.in_ok-world.ensures.opening ∙ ap (answers_of (opening_world plan)) c.as_slice.ensures in
    let state : c.replay.new.self.state ≡ (run_of plan).1 =
    c.replay.ensures.state ∙ ap (λ (v : WorldView). world_after v.state c.as_slice.result.now) c.in_ok-world.ensures.opening ∙ ap (world_after (opening_world plan)) c.as_slice.ensures in
    record { answers = answers; state = state; legal = c.replay.ensures.legal plan c.in_ok-world.ensures.opening c.as_slice.ensures; fit = c.replay.ensures.kept.fit }
