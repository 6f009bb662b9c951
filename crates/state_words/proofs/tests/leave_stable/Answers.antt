use Rattle.std.proofs.Common.{[], None, subst, sym}
use Rattle.essa_state.specs.declared.orders.Order.TheVariants.{SetStable}
use Rattle.essa_state.specs.PageBody.{Body}
use Rattle.state_words.specs.SeatView.{Hold}
use Rattle.state_words.specs.Accesses.{Leads}
use Rattle.state_words.specs.Laws.AccessLaws.{ForSome-held, Leads-same, Leads-ordered}
use Rattle.state_words.proofs.tests.leave_stable.Goals as goal

pub release-requires-clause-leads : goal.release-requires-clause-leads
release-requires-clause-leads c =
    let empty : Body = record { frame = None; block = [] } in
    let found : Hold = record { page = c.args.page; word = c.args.word; body = empty } in
    ForSome-held (λ h. Leads h.word h.body c.apply_order-stable.result.0 empty) _ found c.requires.held
    (subst (λ q. Leads c.args.word empty q empty) (sym c.apply_order-stable.ensures.word) (Leads-ordered c.args.word empty SetStable c.args.word empty (Leads-same c.args.word empty)))
