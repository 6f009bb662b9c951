use Rattle.json.specs.Value.{value_view}
use Rattle.cmm_scenario.proofs.DataOf.{get-view}
use Rattle.cmm_scenario.proofs.borrowed.get.Goals as goal

pub returns : goal.returns
returns c = get-view c.args.key.now c.get.result (value_view c.args.object.now) c.get.ensures
