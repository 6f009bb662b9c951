use Rattle.std.specs.Prelude.{◌≡◌, true}
use Rattle.std.proofs.Common.{rules, sym, subst}
use Rattle.host_shared.specs.Holding.{HeldState, IsHeldPage}
use Rattle.host_shared.specs.contracts.held.HeldPage.{the_view}
use Rattle.host_shared.proofs.Holds.{held_at, stored_held}
use Rattle.host_shared.proofs.held.HeldPage.store.Goals as goal

pub returns-clause-sound : goal.returns-clause-sound
returns-clause-sound c =
    let h : HeldState = the_view c.self.inside in
    let touched : h.touched ≡ true = subst (λ (q : HeldState). q.touched ≡ true) (sym c.self.view_is) c.requires.touched in
    let sound : IsHeldPage (held_at h.page h.word h.parts true) = subst (λ t. IsHeldPage (held_at h.page h.word h.parts t)) touched c.self.invariant in
    subst (λ t. IsHeldPage (held_at h.page c.new-self-inside.result c.store.new.self t)) (sym touched)
    (stored_held h.page h.word c.new-self-inside.result h.parts c.store.new.self c.args.off c.args.from.now (search rules) c.store.ensures.body c.store.ensures.whole sound)

pub invariant_of-self : goal.invariant_of-self
invariant_of-self c =
    let h : HeldState = the_view c.self.inside in
    let touched : h.touched ≡ true = subst (λ (q : HeldState). q.touched ≡ true) (sym c.self.view_is) c.requires.touched in
    let sound : IsHeldPage (held_at h.page h.word h.parts true) = subst (λ t. IsHeldPage (held_at h.page h.word h.parts t)) touched c.self.invariant in
    subst (λ t. IsHeldPage (held_at h.page c.new-self-inside.result c.store.new.self t)) (sym touched)
    (stored_held h.page h.word c.new-self-inside.result h.parts c.store.new.self c.args.off c.args.from.now (search rules) c.store.ensures.body c.store.ensures.whole sound)
