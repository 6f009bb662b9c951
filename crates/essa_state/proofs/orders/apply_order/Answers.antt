use Rattle.std.proofs.Common.{◌≡◌}
use Rattle.essa_state.specs.Orders.{after_order}
use Rattle.essa_state.specs.Laws.WordLaws.{ordered-permitted}
use Rattle.essa_state.specs.Laws.PageValueLaws.{ordered-value}
use Rattle.essa_state.proofs.orders.apply_order.Goals as goal

pub new-requires : goal.new-requires
new-requires c = rw c.after_order.ensures (ordered-permitted c.fields-fields.result c.args.code c.fields-fields.ensures.permitted)

pub returns-clause-value : goal.returns-clause-value
returns-clause-value c body =
    let word : c.new.result ≡ after_order c.args.word c.args.code = cc in
    rw word (ordered-value c.args.word body c.args.code)
