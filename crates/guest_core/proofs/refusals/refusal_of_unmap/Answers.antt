use Rattle.std.proofs.Common.{sym, ◌∙◌}
use Rattle.guest_rules.proofs.Fit.StepResolved.{found-below}
use Rattle.guest_core.proofs.refusals.refusal_of_unmap.Goals as goal

pub any_pinned-requires : goal.any_pinned-requires
any_pinned-requires c = found-below c.args.maps.now c.args.process c.args.map c.in-Some.slot (sym c.find.ensures ∙ c.in-Some.is)
