use Rattle.std.proofs.Common.{ap, sym, ◌∙◌}
use Rattle.guest_rules.specs.Turns.{start_at}
use Rattle.guest_core.proofs.Spots.{seen-spot, spot-there}
use Rattle.guest_core.proofs.OtherTurns.{same_run}
use Rattle.guest_core.proofs.guest.Guest.start_place.Goals as goal

pub spot-there-requires-clause-there : goal.spot-there-requires-clause-there
spot-there-requires-clause-there g c = spot-there c.args.self.now.parts.maps c.args.slot c.args.index c.requires.reaches.place

pub start_tagged-requires-clause-starts : goal.start_tagged-requires-clause-starts
start_tagged-requires-clause-starts g c = c.requires.reaches.starts

pub start_tagged-requires-clause-wants : goal.start_tagged-requires-clause-wants
start_tagged-requires-clause-wants g c =
    c.requires.reaches.wants ∙ sym c.requires.reaches.shown ∙ (seen-spot c.args.self.now.parts.maps c.args.slot c.args.index c.spot-there.result c.spot-there.ensures).tag

pub returns : goal.returns
returns g c =
    let shown = (seen-spot c.args.self.now.parts.maps c.args.slot c.args.index c.spot-there.result c.spot-there.ensures).tag in
    record {
      row = same_run g.St.Storage.step c.args.st.now c.start_tagged.new.st c.start_tagged.new.self c.start_tagged.result _ _
          (ap (start_at c.args.self.now c.args.cpu c.args.op.now) shown) c.start_tagged.ensures.row;
    }
