use Rattle.std.specs.Prelude.{◌≡◌, Some, true}
use Rattle.std.proofs.Common.{rules, ap, sym, subst, ◌∙◌}
use Rattle.cmm_storage.specs.StorageCall.{Store}
use Rattle.cmm_storage.specs.StorageView.{can_store}
use Rattle.host_shared.specs.Holding.{HeldState}
use Rattle.host_shared.specs.Binding.{StorageState, held_page, storage_view, BoundStep}
use Rattle.host_shared.specs.contracts.storage.WordStorage.{the_view}
use Rattle.host_shared.proofs.Stepping.{with_held, step_store, sound_held, goes_stored, held_touched, held_usage}
use Rattle.host_shared.proofs.storage.WordStorage.store.Goals as goal

pub store-requires-clause-touched : goal.store-requires-clause-touched
store-requires-clause-touched c =
    let s : StorageState = the_view c.self.inside in
    let held : s.held ≡ Some c.in-Some.held = search rules in
    held_touched s c.in-Some.held held (subst (λ (q : StorageState). (storage_view q).touched ≡ true) (sym c.self.view_is) c.requires.touched)

pub returns : goal.returns
returns c =
    let s : StorageState = the_view c.self.inside in
    let h : HeldState = c.in-Some.held in
    let k : HeldState = c.store.new.self in
    let held : s.held ≡ Some h = search rules in
    let at : held_page s.held ≡ Some c.args.page = subst (λ (q : StorageState). held_page q.held ≡ Some c.args.page) (sym c.self.view_is) c.requires.held in
    let touched : h.touched ≡ true = held_touched s h held (subst (λ (q : StorageState). (storage_view q).touched ≡ true) (sym c.self.view_is) c.requires.touched) in
    let made = c.store.ensures in
    record {
      step = subst (λ (q : StorageState). BoundStep q (Store c.args.page c.args.off c.args.from.now) (with_held s (Some k))) c.self.view_is
          (step_store s h k c.args.page c.args.off c.args.from.now c.self.invariant held at touched made.page made.touched made.word made.body);
    }

pub invariant_of-self : goal.invariant_of-self
invariant_of-self c =
    let s : StorageState = the_view c.self.inside in
    let h : HeldState = c.in-Some.held in
    let k : HeldState = c.store.new.self in
    let held : s.held ≡ Some h = search rules in
    let at : held_page s.held ≡ Some c.args.page = subst (λ (q : StorageState). held_page q.held ≡ Some c.args.page) (sym c.self.view_is) c.requires.held in
    let touched : h.touched ≡ true = held_touched s h held (subst (λ (q : StorageState). (storage_view q).touched ≡ true) (sym c.self.view_is) c.requires.touched) in
    let writable : can_store h.word.usage ≡ true =
    ap can_store (sym (held_usage s h c.args.page held at)) ∙ subst (λ (q : StorageState). can_store ((storage_view q).values c.args.page).usage ≡ true) (sym c.self.view_is) c.requires.writable in
    let made = c.store.ensures in
    sound_held s s.hosts s.pool s.pager h k s.no_frames c.self.invariant held made.page made.pool
    (goes_stored h k c.args.off c.args.from.now (record { resident = (c.self.invariant.sound h held).resident touched; writable = writable; within = c.requires.within }) made.word made.body)
    made.sound c.self.invariant.few
