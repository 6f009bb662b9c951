use Rattle.std.specs.Prelude.{◌≡◌, List, Some, true, false}
use Rattle.std.specs.Vec.{with_items}
use Rattle.std.proofs.Common.{rules, refl, sym, subst, ◌∙◌}
use Rattle.cmm_storage.specs.StorageCall.{Touch}
use Rattle.essa_state.specs.StateWord.{is_resident, is_discarded, is_unused}
use Rattle.state_words.specs.SeatView.{Seated}
use Rattle.host_shared.specs.Holding.{HeldState}
use Rattle.host_shared.specs.Reclaiming.{CanReclaim}
use Rattle.host_shared.specs.Binding.{StorageState, held_page, storage_view, BoundStep, IsBoundTo}
use Rattle.host_shared.specs.Touching.{TouchCause, LeavesSupply}
use Rattle.host_shared.specs.contracts.storage.WordStorage.{the_view}
use Rattle.host_shared.proofs.Seats.{refilled}
use Rattle.host_shared.proofs.Stepping.{with_all, step_touch, sound_touched, bound_on, own_house}
use Rattle.host_shared.proofs.storage.WordStorage.touch.Goals as goal

pub touch-answer-requires-clause-can : goal.touch-answer-requires-clause-can
touch-answer-requires-clause-can c =
    let s : StorageState = the_view c.self.inside in
    let b : IsBoundTo c.args.words.now c.args.pool.now s = subst (IsBoundTo c.args.words.now c.args.pool.now) (sym c.self.view_is) c.requires.bound in
    let sliced : c.as_mut_slice.result.now ≡ s.hosts = search rules in
    subst (λ (q : List Seated). CanReclaim c.args.words.now c.args.pool.now q s.pool) (sym sliced) b.can

pub touch-answer-requires-clause-house : goal.touch-answer-requires-clause-house
touch-answer-requires-clause-house c =
    let s : StorageState = the_view c.self.inside in
    let b : IsBoundTo c.args.words.now c.args.pool.now s = subst (IsBoundTo c.args.words.now c.args.pool.now) (sym c.self.view_is) c.requires.bound in
    let held : s.held ≡ Some c.in-Some.held = search rules in
    c.self.invariant.tied.housed c.in-Some.held held ∙ own_house c.args.words.now c.args.pool.now s b

pub returns-clause-step : goal.returns-clause-step
returns-clause-step c =
    let s : StorageState = the_view c.self.inside in
    let h : HeldState = c.in-Some.held in
    let k : HeldState = c.touch-answer.new.held in
    let held : s.held ≡ Some h = search rules in
    let at : held_page s.held ≡ Some c.args.page = subst (λ (q : StorageState). held_page q.held ≡ Some c.args.page) (sym c.self.view_is) c.requires.held in
    let b : IsBoundTo c.args.words.now c.args.pool.now s = subst (IsBoundTo c.args.words.now c.args.pool.now) (sym c.self.view_is) c.requires.bound in
    let made = c.touch-answer.ensures in
    let sliced : c.as_mut_slice.result.now ≡ s.hosts = search rules in
    let back : (with_items c.self.inside.hosts c.touch-answer.new.hosts).items ≡ c.touch-answer.new.hosts =
    refilled c.args.words.now c.args.pool.now c.self.inside.hosts c.touch-answer.new.hosts s.pool c.touch-answer.new.self.seat b.can made.can in
    let cause : TouchCause c.touch-answer.result h s.pager.faults c.touch-answer.new.self.pager.faults s.guest c.args.page s.hosts c.touch-answer.new.hosts s.pool.dry
    c.touch-answer.new.self.seat.dry =
    subst (λ (q : List Seated). TouchCause c.touch-answer.result h s.pager.faults c.touch-answer.new.self.pager.faults s.guest c.args.page q c.touch-answer.new.hosts s.pool.dry
    c.touch-answer.new.self.seat.dry)
    sliced made.cause in
    let discarded : is_discarded h.word ≡ true → LeavesSupply s.hosts c.touch-answer.new.hosts s.pool c.touch-answer.new.self.seat s.pager c.touch-answer.new.self.pager =
    subst (λ (q : List Seated). is_discarded h.word ≡ true → LeavesSupply q c.touch-answer.new.hosts s.pool c.touch-answer.new.self.seat s.pager c.touch-answer.new.self.pager)
    sliced made.discarded in
    let resident : is_resident h.word.content ≡ true → LeavesSupply s.hosts c.touch-answer.new.hosts s.pool c.touch-answer.new.self.seat s.pager c.touch-answer.new.self.pager =
    subst (λ (q : List Seated). is_resident h.word.content ≡ true → LeavesSupply q c.touch-answer.new.hosts s.pool c.touch-answer.new.self.seat s.pager c.touch-answer.new.self.pager)
    sliced made.resident in
    subst (λ (q : List Seated). BoundStep c.args.self.now (Touch c.args.page c.touch-answer.result)
    (with_all s s.seat q c.touch-answer.new.self.seat c.touch-answer.new.self.pager (Some k) c.counted-self-inside.result))
    (sym back)
    (subst (λ (q : StorageState). BoundStep q (Touch c.args.page c.touch-answer.result)
    (with_all s s.seat c.touch-answer.new.hosts c.touch-answer.new.self.seat c.touch-answer.new.self.pager (Some k) c.counted-self-inside.result)) c.self.view_is
    (step_touch s c.args.words.now c.args.pool.now c.touch-answer.new.hosts c.touch-answer.new.self.seat c.touch-answer.new.self.pager h k c.args.page c.counted-self-inside.result
    c.touch-answer.result c.self.invariant held at b.can made.can
    made.keeps.calls made.keeps.faults made.makes cause c.counted-self-inside.ensures discarded resident))

pub returns-clause-bound : goal.returns-clause-bound
returns-clause-bound c =
    let s : StorageState = the_view c.self.inside in
    let b : IsBoundTo c.args.words.now c.args.pool.now s = subst (IsBoundTo c.args.words.now c.args.pool.now) (sym c.self.view_is) c.requires.bound in
    let back : (with_items c.self.inside.hosts c.touch-answer.new.hosts).items ≡ c.touch-answer.new.hosts =
    refilled c.args.words.now c.args.pool.now c.self.inside.hosts c.touch-answer.new.hosts s.pool c.touch-answer.new.self.seat b.can c.touch-answer.ensures.can in
    subst (λ (q : List Seated). IsBoundTo c.args.words.now c.args.pool.now
    (with_all s s.seat q c.touch-answer.new.self.seat c.touch-answer.new.self.pager (Some c.touch-answer.new.held) c.counted-self-inside.result)) (sym back)
    (bound_on c.args.words.now c.args.pool.now s
    (with_all s s.seat c.touch-answer.new.hosts c.touch-answer.new.self.seat c.touch-answer.new.self.pager (Some c.touch-answer.new.held) c.counted-self-inside.result) b c.touch-answer.ensures.can
    refl refl)

pub invariant_of-self : goal.invariant_of-self
invariant_of-self c =
    let s : StorageState = the_view c.self.inside in
    let h : HeldState = c.in-Some.held in
    let held : s.held ≡ Some h = search rules in
    let at : held_page s.held ≡ Some c.args.page = subst (λ (q : StorageState). held_page q.held ≡ Some c.args.page) (sym c.self.view_is) c.requires.held in
    let used : is_unused ((storage_view s).values c.args.page).usage ≡ false = subst (λ (q : StorageState). is_unused ((storage_view q).values c.args.page).usage ≡ false)
    (sym c.self.view_is) c.requires.used in
    sound_touched s (with_items c.self.inside.hosts c.touch-answer.new.hosts).items c.touch-answer.new.self.seat c.touch-answer.new.self.pager h c.touch-answer.new.held c.args.page
    c.counted-self-inside.result c.touch-answer.result c.self.invariant held at used
    c.touch-answer.ensures.makes c.counted-self-inside.ensures
