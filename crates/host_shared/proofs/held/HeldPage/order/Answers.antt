use Rattle.host_shared.proofs.Holds.{ordered_held}
use Rattle.host_shared.proofs.held.HeldPage.order.Goals as goal

pub returns-clause-sound : goal.returns-clause-sound
returns-clause-sound c =
    ordered_held c.self.inside.page c.self.inside.word c.apply_order-word.result.0 c.self.inside.body c.self.inside.touched c.args.code c.apply_order-word.ensures.word c.self.invariant

pub invariant_of-self : goal.invariant_of-self
invariant_of-self c =
    ordered_held c.self.inside.page c.self.inside.word c.apply_order-word.result.0 c.self.inside.body c.self.inside.touched c.args.code c.apply_order-word.ensures.word c.self.invariant
