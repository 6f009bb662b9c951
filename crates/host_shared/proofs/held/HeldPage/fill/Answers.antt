use Rattle.std.specs.Prelude.{◌≡◌, true, is_some}
use Rattle.std.proofs.Common.{ap, sym, subst, ◌∙◌}
use Rattle.essa_state.specs.PageBody.{Body}
use Rattle.essa_state.specs.StateWord.{is_zero}
use Rattle.host_shared.specs.Bodies.{lent_body}
use Rattle.host_shared.specs.Holding.{HeldState, IsTouched}
use Rattle.host_shared.specs.contracts.held.HeldPage.{the_view}
use Rattle.host_shared.proofs.Holds.{held_at, zero_body, touches, touched_held}
use Rattle.host_shared.proofs.held.HeldPage.fill.Goals as goal

pub returns-clause-touched : goal.returns-clause-touched
returns-clause-touched c =
    let h : HeldState = the_view c.self.inside in
    let zero : is_zero h.word.content ≡ true = subst (λ (q : HeldState). is_zero q.word.content ≡ true) (sym c.self.view_is) c.requires.zero in
    subst (λ (q : HeldState). IsTouched q (held_at h.page c.used-self-inside.result c.fill.new.self true)) c.self.view_is
    (touches h c.used-self-inside.result c.fill.new.self c.used-self-inside.ensures (c.fill.ensures.body ∙ sym (zero_body h.word.content (lent_body h.parts) zero)) c.fill.ensures.pool)

pub returns-clause-sound : goal.returns-clause-sound
returns-clause-sound c =
    touched_held c.self.inside.page c.self.inside.word c.used-self-inside.result c.fill.new.self c.used-self-inside.ensures
    (ap (λ (b : Body). is_some b.frame) c.fill.ensures.body) c.fill.ensures.whole

pub invariant_of-self : goal.invariant_of-self
invariant_of-self c =
    touched_held c.self.inside.page c.self.inside.word c.used-self-inside.result c.fill.new.self c.used-self-inside.ensures
    (ap (λ (b : Body). is_some b.frame) c.fill.ensures.body) c.fill.ensures.whole
