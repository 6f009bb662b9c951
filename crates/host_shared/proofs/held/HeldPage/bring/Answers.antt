use Rattle.std.specs.Prelude.{◌≡◌, true, is_some}
use Rattle.std.proofs.Common.{ap, sym, subst, ◌∙◌}
use Rattle.essa_state.specs.PageBody.{Body}
use Rattle.essa_state.specs.StateWord.{is_preserved}
use Rattle.host_shared.specs.Bodies.{lent_body}
use Rattle.host_shared.specs.Holding.{HeldState, IsTouched}
use Rattle.host_shared.specs.contracts.held.HeldPage.{the_view}
use Rattle.host_shared.proofs.Holds.{held_at, preserved_body, touches, touched_held}
use Rattle.host_shared.proofs.held.HeldPage.bring.Goals as goal

pub returns-in-Ok-clause-touched : goal.returns-in-Ok-clause-touched
returns-in-Ok-clause-touched c =
    let h : HeldState = the_view c.self.inside in
    let preserved : is_preserved h.word.content ≡ true = subst (λ (q : HeldState). is_preserved q.word.content ≡ true) (sym c.self.view_is) c.requires.preserved in
    let made = c.in-Ok.ensures in (
      subst (λ (q : HeldState). IsTouched q (held_at h.page c.used-self-inside.result c.bring.new.self true)) c.self.view_is
          (touches h c.used-self-inside.result c.bring.new.self c.used-self-inside.ensures (made.body ∙ sym (preserved_body h.word.content (lent_body h.parts) preserved)) made.pool),
      touched_held h.page h.word c.used-self-inside.result c.bring.new.self c.used-self-inside.ensures (ap (λ (b : Body). is_some b.frame) made.body) made.whole,
    )

pub invariant_of-self-in-Ok : goal.invariant_of-self-in-Ok
invariant_of-self-in-Ok c =
    touched_held c.self.inside.page c.self.inside.word c.used-self-inside.result c.bring.new.self c.used-self-inside.ensures
    (ap (λ (b : Body). is_some b.frame) c.in-Ok.ensures.body) c.in-Ok.ensures.whole
