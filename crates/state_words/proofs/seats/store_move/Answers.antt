use Rattle.std.proofs.Common.{◌≡◌, rules, refl, sym, ap, ◌∙◌, subst}
use Rattle.state_words.specs.SeatView.{Moved}
use Rattle.state_words.specs.Steps.{IsAllowedOn, IsMovedBody, word_after}
use Rattle.state_words.specs.Plays.{Releases}
use Rattle.state_words.proofs.Releasing.{host_release_allows}
use Rattle.state_words.proofs.Claimed.{loaded, released_by}
use Rattle.state_words.proofs.seats.store_move.Goals as goal

pub store-requires : goal.store-requires
store-requires g c =
    let h = c.requires.held.0 in
    let at = loaded g.B.Body.body g.B.Body.house c.args.page c.args.seat.now.me c.exchange.new.seat.me c.args.seat.now.me.0 c.args.body refl c.requires.held.1 (search rules) in
    let same = sym c.requires.action in (
      search rules,
      c.requires.page,
      host_release_allows g.B.Body.body g.B.Body.house _ _ _ c.args.page c.raw.result c.exchange.new.seat.me h.hold g.A.MoveOf.action c.args.word c.args.body
          (ap (λ m. m.0.held) at ∙ h.held) h.of_page (ap (λ m. m.0.role) at ∙ c.requires.host) (ap (λ m. m.1) at) (search rules) (search rules)
          (subst (λ q. IsAllowedOn q h.hold.word) same (c.requires.allowed h.hold h.held))
          (subst (λ q. c.args.word ≡ word_after q h.hold.word) same (c.requires.word h.hold h.held))
          (subst (λ q. IsMovedBody q h.hold (g.B.Body.body c.args.body)) same (c.requires.body h.hold h.held))
          (c.requires.housed ∙ sym (ap (λ m. m.0.house) at)),
    )

pub returns-clause-view : goal.returns-clause-view
returns-clause-view g c =
    let at = loaded g.B.Body.body g.B.Body.house c.args.page c.args.seat.now.me c.exchange.new.seat.me c.args.seat.now.me.0 c.args.body refl c.requires.held.1 (search rules) in
    released_by g.B.Body.body g.B.Body.house c.args.page c.raw.result (Moved c.args.page c.args.action) c.exchange.new.seat.me c.store.new.seat.me c.args.seat.now.me.0 c.args.body c.args.word
    at (search rules)
    (subst (λ q. Releases g.B.Body.body c.args.page (Moved c.args.page q) c.raw.result c.exchange.new.seat.me c.store.new.seat.me) c.requires.action c.store.ensures.2)
