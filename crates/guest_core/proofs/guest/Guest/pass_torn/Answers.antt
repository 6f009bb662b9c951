use Rattle.std.proofs.Common.{refl, sym, ◌∙◌}
use Rattle.guest_core.proofs.Teardown.{bare, past-last, past-next, pair}
use Rattle.guest_core.proofs.guest.Guest.pass_torn.Goals as goal

pub place-requires : goal.place-requires
place-requires c = c.requires.torn.below

pub end_teardown-requires-clause-entries : goal.end_teardown-requires-clause-entries
end_teardown-requires-clause-entries c = bare c.args.self.now.parts.maps c.args.slot c.args.index c.requires.torn (sym c.place.ensures ∙ c.in-None.is)

pub returns-in-None : goal.returns-in-None
returns-in-None c = record {
  row = past-last c.args.self.now c.args.cpu c.args.slot c.args.index (sym c.place.ensures ∙ c.in-None.is) ∙ pair _ _ _ _ c.end_teardown.ensures.freed c.end_teardown.ensures.finished;
}

pub returns-in-Some : goal.returns-in-Some
returns-in-Some c = record { row = past-next c.args.self.now c.args.cpu c.args.slot c.args.index _ (sym c.place.ensures ∙ c.in-Some.is) ∙ pair _ _ _ _ c.set_phase.ensures refl }
