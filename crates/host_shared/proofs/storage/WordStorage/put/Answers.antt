use Rattle.std.specs.Prelude.{◌≡◌, Option, Some, None}
use Rattle.std.proofs.Common.{rules, refl, ap, sym, subst, ◌∙◌}
use Rattle.cmm_storage.specs.StorageCall.{Put}
use Rattle.essa_state.specs.declared.fields.Fields.{Fields}
use Rattle.essa_state.specs.PageBody.{actual}
use Rattle.state_words.specs.SeatView.{SeatView, Seated, WordsView}
use Rattle.state_words.specs.Steps.{left_view}
use Rattle.host_shared.specs.Bodies.{BodyParts, lent_body, body_house}
use Rattle.host_shared.specs.Holding.{HeldState}
use Rattle.host_shared.specs.Binding.{StorageState, IsStorage, held_page, BoundStep, IsBoundTo}
use Rattle.host_shared.specs.contracts.storage.WordStorage.{the_view}
use Rattle.host_shared.proofs.Stepping.{with_seat, step_put, sound_none, bound_on, own_there, own_words, holds_page, leads_held, put_inside}
use Rattle.host_shared.proofs.storage.WordStorage.put.Goals as goal

pub own-requires : goal.own-requires
own-requires c =
    let s : StorageState = the_view c.self.inside in
    let b : IsBoundTo c.args.words.now c.args.pool.now s = subst (IsBoundTo c.args.words.now c.args.pool.now) (sym c.self.view_is) c.requires.bound in
    own_there c.args.words.now c.args.pool.now s b

pub release-requires-clause-words : goal.release-requires-clause-words
release-requires-clause-words c =
    let s : StorageState = the_view c.self.inside in
    let b : IsBoundTo c.args.words.now c.args.pool.now s = subst (IsBoundTo c.args.words.now c.args.pool.now) (sym c.self.view_is) c.requires.bound in
    own_words c.args.words.now c.args.pool.now s c.own.result.now b c.own.ensures

pub release-requires-clause-held : goal.release-requires-clause-held
release-requires-clause-held c =
    let s : StorageState = the_view c.self.inside in
    let at : held_page s.held ≡ Some c.args.page = subst (λ (q : StorageState). held_page q.held ≡ Some c.args.page) (sym c.self.view_is) c.requires.held in
    holds_page s.seat s.held c.args.page c.self.invariant.tied at

pub release-requires-clause-leads : goal.release-requires-clause-leads
release-requires-clause-leads c =
    let s : StorageState = the_view c.self.inside in
    let held : s.held ≡ Some c.in-Some.held = search rules in
    leads_held s.seat s.held c.in-Some.held c.into_parts-word.result.0 c.into_parts-word.result.1 c.self.invariant.tied held c.into_parts-word.ensures.word c.into_parts-word.ensures.parts

pub release-requires-clause-housed : goal.release-requires-clause-housed
release-requires-clause-housed c =
    let s : StorageState = the_view c.self.inside in
    let held : s.held ≡ Some c.in-Some.held = search rules in
    let b : IsBoundTo c.args.words.now c.args.pool.now s = subst (IsBoundTo c.args.words.now c.args.pool.now) (sym c.self.view_is) c.requires.bound in
    ap (λ (p : BodyParts). body_house p) c.into_parts-word.ensures.parts ∙ c.self.invariant.tied.housed c.in-Some.held held
    ∙ ap (λ (w : WordsView). w.house) (own_words c.args.words.now c.args.pool.now s c.own.result.now b c.own.ensures)

pub returns-clause-step : goal.returns-clause-step
returns-clause-step c =
    let s : StorageState = the_view c.self.inside in
    let h : HeldState = c.in-Some.held in
    let seat : Seated = c.release.new.self in
    let held : s.held ≡ Some h = search rules in
    let at : held_page s.held ≡ Some c.args.page = subst (λ (q : StorageState). held_page q.held ≡ Some c.args.page) (sym c.self.view_is) c.requires.held in
    let word : c.into_parts-word.result.0 ≡ h.word = c.into_parts-word.ensures.word in
    let parts : c.into_parts-word.result.1 ≡ h.parts = c.into_parts-word.ensures.parts in
    let view : seat.view ≡ left_view s.seat.view c.args.page (actual h.word (lent_body h.parts)) =
    c.release.ensures.view ∙ ap (λ (w : Fields). left_view s.seat.view c.args.page (actual w (lent_body c.into_parts-word.result.1))) word
    ∙ ap (λ (p : BodyParts). left_view s.seat.view c.args.page (actual h.word (lent_body p))) parts in
    let gone : c.take.new.self ≡ None = search rules in
    subst (λ (q : Option HeldState). BoundStep c.args.self.now (Put c.args.page) (with_seat s seat q)) (sym gone)
    (subst (λ (q : StorageState). BoundStep q (Put c.args.page) (with_seat s seat None)) c.self.view_is
    (step_put s seat h c.args.page c.self.invariant held at (put_inside s h c.self.invariant held) c.release.ensures.words view))

pub returns-clause-bound : goal.returns-clause-bound
returns-clause-bound c =
    let s : StorageState = the_view c.self.inside in
    let b : IsBoundTo c.args.words.now c.args.pool.now s = subst (IsBoundTo c.args.words.now c.args.pool.now) (sym c.self.view_is) c.requires.bound in
    bound_on c.args.words.now c.args.pool.now s (with_seat s c.release.new.self c.take.new.self) b b.can refl c.release.ensures.words

pub invariant_of-self : goal.invariant_of-self
invariant_of-self c =
    let s : StorageState = the_view c.self.inside in
    let gone : c.take.new.self ≡ None = search rules in
    subst (λ (q : Option HeldState). IsStorage (with_seat s c.release.new.self q)) (sym gone)
    (sound_none s c.release.new.self c.self.invariant c.release.ensures.guest (ap (λ (q : SeatView). q.held) c.release.ensures.view))
