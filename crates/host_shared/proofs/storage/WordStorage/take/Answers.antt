use Rattle.std.specs.Prelude.{◌≡◌, ◌<◌, true, Option, Some, None, Ok, Err}
use Rattle.std.proofs.Common.{refl, ap, sym, subst, ◌∙◌}
use Rattle.cmm_storage.specs.StorageCall.{Take}
use Rattle.essa_state.specs.StateWord.{is_permitted}
use Rattle.state_words.specs.SeatView.{SeatView, Seated, WordsView}
use Rattle.host_shared.specs.Holding.{HeldState}
use Rattle.host_shared.specs.Binding.{StorageState, BoundStep, IsBoundTo, IsStorage}
use Rattle.host_shared.specs.contracts.storage.WordStorage.{the_view}
use Rattle.host_shared.proofs.Stepping.{with_seat, step_take-ok, step_take-busy, sound_none, sound_taken, bound_on, own_there, own_words, seat_free}
use Rattle.host_shared.proofs.storage.WordStorage.take.Goals as goal

pub own-requires : goal.own-requires
own-requires c =
    let s : StorageState = the_view c.self.inside in
    let b : IsBoundTo c.args.words.now c.args.pool.now s = subst (IsBoundTo c.args.words.now c.args.pool.now) (sym c.self.view_is) c.requires.bound in
    own_there c.args.words.now c.args.pool.now s b

pub claim-requires-clause-words : goal.claim-requires-clause-words
claim-requires-clause-words c =
    let s : StorageState = the_view c.self.inside in
    let b : IsBoundTo c.args.words.now c.args.pool.now s = subst (IsBoundTo c.args.words.now c.args.pool.now) (sym c.self.view_is) c.requires.bound in
    own_words c.args.words.now c.args.pool.now s c.own.result.now b c.own.ensures

pub claim-requires-clause-page : goal.claim-requires-clause-page
claim-requires-clause-page c =
    let s : StorageState = the_view c.self.inside in
    let b : IsBoundTo c.args.words.now c.args.pool.now s = subst (IsBoundTo c.args.words.now c.args.pool.now) (sym c.self.view_is) c.requires.bound in
    let below : c.args.page < s.seat.words.pages = subst (λ (q : StorageState). c.args.page < q.seat.words.pages) (sym c.self.view_is) c.requires.page in
    subst (λ (w : WordsView). c.args.page < w.pages) (own_words c.args.words.now c.args.pool.now s c.own.result.now b c.own.ensures) below

pub claim-requires-clause-none_held : goal.claim-requires-clause-none_held
claim-requires-clause-none_held c =
    let s : StorageState = the_view c.self.inside in
    let none : s.held ≡ None = subst (λ (q : StorageState). q.held ≡ None) (sym c.self.view_is) c.requires.none_held in
    seat_free s.seat s.held c.self.invariant.tied none

pub returns-in-Ok-clause-step : goal.returns-in-Ok-clause-step
returns-in-Ok-clause-step c =
    let s : StorageState = the_view c.self.inside in
    let seat : Seated = c.claim.new.self in
    let h : HeldState = c.new.result in
    let made = c.new.ensures.held in
    let none : s.held ≡ None = subst (λ (q : StorageState). q.held ≡ None) (sym c.self.view_is) c.requires.none_held in
    let permitted : is_permitted c.in-Ok.found.0 ≡ true = ap (λ (q : HeldState). is_permitted q.word) (sym made) ∙ c.new.ensures.sound.permitted in
    subst (λ (q : StorageState). BoundStep q (Take c.args.page (Ok tt)) (with_seat s seat (Some h))) c.self.view_is
    (step_take-ok s seat c.args.page c.in-Ok.found.0 c.in-Ok.found.1 h none permitted c.in-Ok.ensures.free c.in-Ok.ensures.value c.in-Ok.ensures.words c.in-Ok.ensures.taken made)

pub returns-in-Ok-clause-bound : goal.returns-in-Ok-clause-bound
returns-in-Ok-clause-bound c =
    let s : StorageState = the_view c.self.inside in
    let b : IsBoundTo c.args.words.now c.args.pool.now s = subst (IsBoundTo c.args.words.now c.args.pool.now) (sym c.self.view_is) c.requires.bound in
    bound_on c.args.words.now c.args.pool.now s (with_seat s c.claim.new.self (Some c.new.result)) b b.can refl c.in-Ok.ensures.words

pub invariant_of-self-in-Ok : goal.invariant_of-self-in-Ok
invariant_of-self-in-Ok c =
    let s : StorageState = the_view c.self.inside in
    let seat : Seated = c.claim.new.self in
    let b : IsBoundTo c.args.words.now c.args.pool.now s = subst (IsBoundTo c.args.words.now c.args.pool.now) (sym c.self.view_is) c.requires.bound in
    let words : seat.words ≡ c.own.result.now = c.in-Ok.ensures.words ∙ own_words c.args.words.now c.args.pool.now s c.own.result.now b c.own.ensures in
    sound_taken s seat c.args.page c.in-Ok.found.0 c.in-Ok.found.1 c.new.result c.self.invariant c.in-Ok.ensures.guest (ap (λ (q : SeatView). q.held) c.in-Ok.ensures.taken)
    (c.in-Ok.ensures.housed ∙ ap (λ (w : WordsView). w.house) (sym words)) c.new.ensures.held c.new.ensures.sound

pub returns-in-Err-clause-step : goal.returns-in-Err-clause-step
returns-in-Err-clause-step c =
    let s : StorageState = the_view c.self.inside in
    let seat : Seated = c.claim.new.self in
    let none : s.held ≡ None = subst (λ (q : StorageState). q.held ≡ None) (sym c.self.view_is) c.requires.none_held in
    subst (λ (q : StorageState). BoundStep q (Take c.args.page (Err c.in-Err.busy)) (with_seat s seat s.held)) c.self.view_is
    (subst (λ (q : Option HeldState). BoundStep s (Take c.args.page (Err c.in-Err.busy)) (with_seat s seat q)) (sym none)
    (step_take-busy s seat c.args.page c.in-Err.busy.word none c.in-Err.ensures.words c.in-Err.ensures.busy))

pub returns-in-Err-clause-bound : goal.returns-in-Err-clause-bound
returns-in-Err-clause-bound c =
    let s : StorageState = the_view c.self.inside in
    let b : IsBoundTo c.args.words.now c.args.pool.now s = subst (IsBoundTo c.args.words.now c.args.pool.now) (sym c.self.view_is) c.requires.bound in
    bound_on c.args.words.now c.args.pool.now s (with_seat s c.claim.new.self s.held) b b.can refl c.in-Err.ensures.words

pub invariant_of-self : goal.invariant_of-self
invariant_of-self c =
    let s : StorageState = the_view c.self.inside in
    let seat : Seated = c.claim.new.self in
    let none : s.held ≡ None = subst (λ (q : StorageState). q.held ≡ None) (sym c.self.view_is) c.requires.none_held in
    let free : seat.view.held ≡ None = ap (λ (q : SeatView). q.held) c.in-Err.ensures.busy.view ∙ seat_free s.seat s.held c.self.invariant.tied none in
    subst (λ (q : Option HeldState). IsStorage (with_seat s seat q)) (sym none) (sound_none s seat c.self.invariant c.in-Err.ensures.guest free)
