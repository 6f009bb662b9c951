use Rattle.std.proofs.Common.{Some, ap, ◌∙◌}
use Rattle.cmm_types.specs.declared.page.Tag.{Tag}
use Rattle.guest_maps.specs.MapsView.{slot_at}
use Rattle.guest_rules.specs.Turns.{mapping_pages, teardown_entry}
use Rattle.guest_rules.proofs.Kept.SlotsKept.{slot-below}
use Rattle.guest_rules.proofs.Ready.ReadyCalls.{tearing-place}
use Rattle.guest_core.proofs.OtherTurns.{same_run}
use Rattle.guest_core.proofs.Spots.{seen-spot, spot-there}
use Rattle.guest_core.proofs.Teardown.{tears-file, tears-own}
use Rattle.guest_core.proofs.guest.Guest.teardown_turn.Goals as goal

pub spot-there-requires-clause-slot : goal.spot-there-requires-clause-slot
spot-there-requires-clause-slot g c =
    let k = c.requires.fit.1.teardowns.tearing c.args.cpu c.args.slot c.args.index c.requires.phase in
    slot-below c.args.self.now.parts.maps c.args.slot k.mapping k.at

pub spot-there-requires-clause-there : goal.spot-there-requires-clause-there
spot-there-requires-clause-there g c =
    let k = c.requires.fit.1.teardowns.tearing c.args.cpu c.args.slot c.args.index c.requires.phase in
    spot-there c.args.self.now.parts.maps c.args.slot c.args.index (tearing-place c.args.self.now c.args.cpu c.args.slot c.args.index k)

pub tear_entry-requires-clause-tears : goal.tear_entry-requires-clause-tears
tear_entry-requires-clause-tears g c = c.requires.fit.1.teardowns.tearing c.args.cpu c.args.slot c.args.index c.requires.phase

pub tear_entry-requires-clause-entry : goal.tear_entry-requires-clause-entry
tear_entry-requires-clause-entry g c = (seen-spot c.args.self.now.parts.maps c.args.slot c.args.index c.spot-there.result c.spot-there.ensures).pte

pub tear_own-requires-clause-tears : goal.tear_own-requires-clause-tears
tear_own-requires-clause-tears g c = c.requires.fit.1.teardowns.tearing c.args.cpu c.args.slot c.args.index c.requires.phase

pub tear_own-requires-clause-own : goal.tear_own-requires-clause-own
tear_own-requires-clause-own g c =
    let k = c.requires.fit.1.teardowns.tearing c.args.cpu c.args.slot c.args.index c.requires.phase in
    let seen = seen-spot c.args.self.now.parts.maps c.args.slot c.args.index c.spot-there.result c.spot-there.ensures in
    (tears-own c.args.self.now c.args.cpu c.args.slot c.args.index _ _ k (seen.tag ∙ ap (λ (t : Tag). Some t) c.in-Anon.is)).1

pub returns-in-File : goal.returns-in-File
returns-in-File g c =
    let k = c.requires.fit.1.teardowns.tearing c.args.cpu c.args.slot c.args.index c.requires.phase in
    let seen = seen-spot c.args.self.now.parts.maps c.args.slot c.args.index c.spot-there.result c.spot-there.ensures in
    record {
      row = same_run g.St.Storage.step c.args.st.now c.tear_entry.new.st c.tear_entry.new.self c.tear_entry.result _ _
          (tears-file c.args.self.now c.args.cpu c.args.slot c.args.index _ _ k (seen.tag ∙ ap (λ (t : Tag). Some t) c.in-File.is)
          ∙ ap (teardown_entry c.args.self.now c.args.cpu c.args.slot c.args.index (mapping_pages (slot_at c.args.self.now.parts.maps c.args.slot))) seen.pte)
          c.tear_entry.ensures.row;
    }

pub returns-in-Anon : goal.returns-in-Anon
returns-in-Anon g c =
    let k = c.requires.fit.1.teardowns.tearing c.args.cpu c.args.slot c.args.index c.requires.phase in
    let seen = seen-spot c.args.self.now.parts.maps c.args.slot c.args.index c.spot-there.result c.spot-there.ensures in
    record {
      row = same_run g.St.Storage.step c.args.st.now c.tear_own.new.st c.tear_own.new.self c.tear_own.result _ _
          (tears-own c.args.self.now c.args.cpu c.args.slot c.args.index _ _ k (seen.tag ∙ ap (λ (t : Tag). Some t) c.in-Anon.is)).0 c.tear_own.ensures.row;
    }
