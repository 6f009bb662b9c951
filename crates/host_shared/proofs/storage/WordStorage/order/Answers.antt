use Rattle.std.specs.Prelude.{◌≡◌, Some}
use Rattle.std.proofs.Common.{rules, ap, sym, subst}
use Rattle.cmm_storage.specs.StorageCall.{Give}
use Rattle.host_shared.specs.Holding.{HeldState}
use Rattle.host_shared.specs.Binding.{StorageState, held_page, BoundStep}
use Rattle.host_shared.specs.contracts.storage.WordStorage.{the_view}
use Rattle.host_shared.proofs.Stepping.{with_held, step_give, sound_held, goes_ordered}
use Rattle.host_shared.proofs.storage.WordStorage.order.Goals as goal

pub returns : goal.returns
returns c =
    let s : StorageState = the_view c.self.inside in
    let h : HeldState = c.in-Some.held in
    let k : HeldState = c.order-old.new.self in
    let held : s.held ≡ Some h = search rules in
    let at : held_page s.held ≡ Some c.args.page = subst (λ (q : StorageState). held_page q.held ≡ Some c.args.page) (sym c.self.view_is) c.requires.held in
    record {
      step = subst (λ (q : StorageState). BoundStep q (Give c.args.page c.args.code c.order-old.result) (with_held s (Some k))) c.self.view_is
          (step_give s h k c.args.page c.args.code c.order-old.result c.self.invariant held at c.order-old.ensures.old c.order-old.ensures.new);
    }

pub invariant_of-self : goal.invariant_of-self
invariant_of-self c =
    let s : StorageState = the_view c.self.inside in
    let h : HeldState = c.in-Some.held in
    let k : HeldState = c.order-old.new.self in
    let held : s.held ≡ Some h = search rules in
    let made = c.order-old.ensures.new in
    sound_held s s.hosts s.pool s.pager h k s.no_frames c.self.invariant held (ap (λ (q : HeldState). q.page) made) (ap (λ (q : HeldState). q.parts.pool) made)
    (goes_ordered h k c.args.code made) c.order-old.ensures.sound c.self.invariant.few
