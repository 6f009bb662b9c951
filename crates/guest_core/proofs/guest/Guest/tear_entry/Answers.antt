use Rattle.std.proofs.Common.{ap, ◌∙◌}
use Rattle.guest_maps.specs.MapsView.{slot_at}
use Rattle.guest_rules.specs.Turns.{mapping_pages, teardown_entry}
use Rattle.guest_rules.proofs.Ready.ReadyCalls.{tearing-below, tearing-clears}
use Rattle.guest_core.proofs.OtherTurns.{same_run}
use Rattle.guest_core.proofs.Teardown.{off-bare, torn_to, tearing-next, run-bare}
use Rattle.guest_core.proofs.guest.Guest.tear_entry.Goals as goal

pub pass_torn-requires-clause-goes_on : goal.pass_torn-requires-clause-goes_on
pass_torn-requires-clause-goes_on g c = record { there = c.requires.cpu; next = tearing-next c.args.self.now _ _ c.args.cpu c.args.slot c.args.index c.requires.fit.1 c.requires.tears }

pub pass_torn-requires-clause-index : goal.pass_torn-requires-clause-index
pass_torn-requires-clause-index g c = tearing-below c.args.self.now _ _ c.args.cpu c.args.slot c.args.index c.requires.fit.1 c.requires.tears

pub pass_torn-requires-clause-torn : goal.pass_torn-requires-clause-torn
pass_torn-requires-clause-torn g c =
    torn_to c.args.self.now _ c.requires.fit.0 c.args.cpu c.args.slot c.args.index c.args.self.now.parts.maps c.requires.fit.1 c.requires.tears
    (off-bare c.args.self.now.parts.maps c.args.slot c.args.index (c.requires.entry ∙ c.in-None.is))

pub clear_turn-requires-clause-goes_on : goal.clear_turn-requires-clause-goes_on
clear_turn-requires-clause-goes_on g c = record { there = c.requires.cpu; next = tearing-next c.args.self.now _ _ c.args.cpu c.args.slot c.args.index c.requires.fit.1 c.requires.tears }

pub clear_turn-requires-clause-index : goal.clear_turn-requires-clause-index
clear_turn-requires-clause-index g c = tearing-below c.args.self.now _ _ c.args.cpu c.args.slot c.args.index c.requires.fit.1 c.requires.tears

pub clear_turn-requires-clause-entry : goal.clear_turn-requires-clause-entry
clear_turn-requires-clause-entry g c = c.requires.entry ∙ c.in-Some.is

pub clear_turn-requires-clause-clears : goal.clear_turn-requires-clause-clears
clear_turn-requires-clause-clears g c =
    tearing-clears c.args.self.now _ c.requires.fit.0 c.args.cpu c.args.slot c.args.index c.in-Some.pte c.requires.fit.1 c.requires.tears (c.requires.entry ∙ c.in-Some.is)

pub returns-in-None : goal.returns-in-None
returns-in-None g c =
    record {
      row = same_run g.St.Storage.step c.args.st.now c.args.st.now c.pass_torn.new.self c.pass_torn.result _ _
          (ap (teardown_entry c.args.self.now c.args.cpu c.args.slot c.args.index (mapping_pages (slot_at c.args.self.now.parts.maps c.args.slot))) c.in-None.is)
          (run-bare g.St.Storage.step c.args.st.now c.args.self.now c.pass_torn.new.self c.pass_torn.result c.args.cpu c.args.slot c.args.index _ c.pass_torn.ensures.row);
    }

pub returns-in-Some : goal.returns-in-Some
returns-in-Some g c =
    record {
      row = same_run g.St.Storage.step c.args.st.now c.clear_turn.new.st c.clear_turn.new.self c.clear_turn.result _ _
          (ap (teardown_entry c.args.self.now c.args.cpu c.args.slot c.args.index (mapping_pages (slot_at c.args.self.now.parts.maps c.args.slot))) c.in-Some.is) c.clear_turn.ensures.row;
    }
