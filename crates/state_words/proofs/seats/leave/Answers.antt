use Rattle.std.proofs.Common.{rules, refl, sym, ap, ◌∙◌}
use Rattle.state_words.specs.SeatView.{Left}
use Rattle.state_words.proofs.Releasing.{guest_release_allows}
use Rattle.state_words.proofs.Claimed.{loaded, released_by, values_of}
use Rattle.state_words.proofs.seats.leave.Goals as goal

pub store-requires : goal.store-requires
store-requires g c =
    let h = c.requires.held.0 in
    let at = loaded g.B.Body.body g.B.Body.house c.args.page c.args.seat.now.me c.exchange.new.seat.me c.args.seat.now.me.0 c.args.body refl c.requires.held.1 (search rules) in
    let vs = values_of c.args.seat.now.me.0.role c.requires.guest in (
      search rules,
      c.requires.page,
      guest_release_allows g.B.Body.body g.B.Body.house _ _ _ c.args.page c.raw.result c.exchange.new.seat.me h.hold vs.values c.args.word c.args.body
          (ap (λ m. m.0.held) at ∙ h.held) h.of_page (ap (λ m. m.0.role) at ∙ vs.is) (ap (λ m. m.1) at) (search rules) (search rules) (c.requires.leads h.hold h.held)
          (c.requires.housed ∙ sym (ap (λ m. m.0.house) at)),
    )

pub returns-clause-view : goal.returns-clause-view
returns-clause-view g c =
    let at = loaded g.B.Body.body g.B.Body.house c.args.page c.args.seat.now.me c.exchange.new.seat.me c.args.seat.now.me.0 c.args.body refl c.requires.held.1 (search rules) in
    released_by g.B.Body.body g.B.Body.house c.args.page c.raw.result (Left c.args.page) c.exchange.new.seat.me c.store.new.seat.me c.args.seat.now.me.0 c.args.body c.args.word
    at (search rules) c.store.ensures.2
