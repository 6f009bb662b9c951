use Rattle.guest_core.proofs.Teardown.{past-released, torn-released}
use Rattle.guest_core.proofs.guest.Guest.tear_bare.Goals as goal

pub pass_torn-requires-clause-torn : goal.pass_torn-requires-clause-torn
pass_torn-requires-clause-torn c = torn-released c.args.self.now _ c.release.new.parts c.args.slot c.args.index c.self.view_is c.release.ensures c.requires.torn

pub returns : goal.returns
returns c = record {
  row = past-released c.args.self.now _ c.pass_torn.new.self c.release.new.parts c.pass_torn.result c.args.cpu c.args.slot c.args.index c.self.view_is c.release.ensures c.pass_torn.ensures.row;
}
