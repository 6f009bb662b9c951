use Rattle.std.specs.Prelude.{◌≡◌, true, refl}
use Rattle.std.proofs.Common.{sym, subst, ◌∙◌}
use Rattle.essa_state.specs.StateWord.{is_resident}
use Rattle.host_shared.specs.Bodies.{lent_body}
use Rattle.host_shared.specs.Holding.{HeldState, IsTouched}
use Rattle.host_shared.specs.contracts.held.HeldPage.{the_view}
use Rattle.host_shared.proofs.Holds.{held_at, resident_body, touches, touched_held}
use Rattle.host_shared.proofs.held.HeldPage.touch.Goals as goal

pub returns-clause-touched : goal.returns-clause-touched
returns-clause-touched c =
    let h : HeldState = the_view c.self.inside in
    let resident : is_resident h.word.content ≡ true = subst (λ (q : HeldState). is_resident q.word.content ≡ true) (sym c.self.view_is) c.requires in
    subst (λ (q : HeldState). IsTouched q (held_at h.page c.used-self-inside.result h.parts true)) c.self.view_is
    (touches h c.used-self-inside.result h.parts c.used-self-inside.ensures (sym (resident_body h.word.content (lent_body h.parts) resident)) refl)

pub returns-clause-sound : goal.returns-clause-sound
returns-clause-sound c =
    let h : HeldState = the_view c.self.inside in
    let resident : is_resident h.word.content ≡ true = subst (λ (q : HeldState). is_resident q.word.content ≡ true) (sym c.self.view_is) c.requires in
    touched_held h.page h.word c.used-self-inside.result h.parts c.used-self-inside.ensures (c.self.invariant.fits ∙ resident) c.self.invariant.whole

pub invariant_of-self : goal.invariant_of-self
invariant_of-self c =
    let h : HeldState = the_view c.self.inside in
    let resident : is_resident h.word.content ≡ true = subst (λ (q : HeldState). is_resident q.word.content ≡ true) (sym c.self.view_is) c.requires in
    touched_held h.page h.word c.used-self-inside.result h.parts c.used-self-inside.ensures (c.self.invariant.fits ∙ resident) c.self.invariant.whole
