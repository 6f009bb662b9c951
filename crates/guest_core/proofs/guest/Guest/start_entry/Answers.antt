use Rattle.std.proofs.Common.{◌/◌, ap, sym, ◌∙◌}
use Rattle.cmm_types.specs.declared.page.TheConstants.{PAGE}
use Rattle.guest_maps.specs.MapsView.{entry_at}
use Rattle.guest_rules.proofs.Ready.ReadyCalls.{reached-place}
use Rattle.guest_core.specs.Between.{serving}
use Rattle.guest_core.proofs.Spots.{seen-spot, spot-there}
use Rattle.guest_core.proofs.OtherTurns.{same_run, entry-served, entry-unserved, served-entry}
use Rattle.guest_core.proofs.guest.Guest.start_entry.Goals as goal

pub spot-there-requires-clause-there : goal.spot-there-requires-clause-there
spot-there-requires-clause-there g c =
    spot-there c.args.self.now.parts.maps c.args.slot (c.args.off / PAGE) (reached-place c.args.self.now c.args.cpu c.args.op.now c.args.writes c.args.slot c.args.off c.requires.reaches)

pub start_tagged-requires-clause-starts : goal.start_tagged-requires-clause-starts
start_tagged-requires-clause-starts g c = c.requires.reaches.starts

pub start_tagged-requires-clause-wants : goal.start_tagged-requires-clause-wants
start_tagged-requires-clause-wants g c =
    let seen = seen-spot c.args.self.now.parts.maps c.args.slot (c.args.off / PAGE) c.spot-there.result c.spot-there.ensures in
    c.requires.reaches.wants ∙ sym c.requires.reaches.shown ∙ seen.tag

pub hit_turn-requires-clause-hits : goal.hit_turn-requires-clause-hits
hit_turn-requires-clause-hits g c =
    let seen = seen-spot c.args.self.now.parts.maps c.args.slot (c.args.off / PAGE) c.spot-there.result c.spot-there.ensures in
    let serves = ap (serving c.args.writes) seen.pte ∙ sym c.serving.ensures ∙ c.in-Some.is in
    let its = served-entry c.args.writes (entry_at c.args.self.now.parts.maps c.args.slot (c.args.off / PAGE)) c.in-Some.page serves in
    record { writes = c.args.writes; slot = c.args.slot; off = c.args.off; writable = its.0; reaches = c.requires.reaches; entry = its.1; serves = its.2 }

pub returns-in-None : goal.returns-in-None
returns-in-None g c =
    let seen = seen-spot c.args.self.now.parts.maps c.args.slot (c.args.off / PAGE) c.spot-there.result c.spot-there.ensures in
    let none = ap (serving c.args.writes) seen.pte ∙ sym c.serving.ensures ∙ c.in-None.is in
    record {
      row = same_run g.St.Storage.step c.args.st.now c.start_tagged.new.st c.start_tagged.new.self c.start_tagged.result _ _
          (entry-unserved c.args.self.now c.args.cpu c.args.op.now c.args.slot (c.args.off / PAGE) c.args.writes _ _ seen.tag none) c.start_tagged.ensures.row;
    }

pub returns-in-Some : goal.returns-in-Some
returns-in-Some g c =
    let seen = seen-spot c.args.self.now.parts.maps c.args.slot (c.args.off / PAGE) c.spot-there.result c.spot-there.ensures in
    let serves = ap (serving c.args.writes) seen.pte ∙ sym c.serving.ensures ∙ c.in-Some.is in
    record {
      row = same_run g.St.Storage.step c.args.st.now c.hit_turn.new.st c.hit_turn.new.self c.hit_turn.result _ _
          (entry-served c.args.self.now c.args.cpu c.args.op.now c.args.slot (c.args.off / PAGE) c.args.writes _ _ serves) c.hit_turn.ensures.row;
    }
