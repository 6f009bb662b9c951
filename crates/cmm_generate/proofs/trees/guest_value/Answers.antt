use Rattle.std.proofs.Common.{◌∙◌, ap}
use Rattle.serde_json.specs.Data.{object}
use Rattle.serde_json.proofs.Views.{view-Object}
use Rattle.cmm_generate.proofs.PutInTurn.{guest_value}
use Rattle.cmm_generate.proofs.trees.guest_value.Goals as goal

pub returns : goal.returns
returns c = view-Object _ ∙ ap object c.in_ok-members.ensures ∙ guest_value c.args.plan.now
