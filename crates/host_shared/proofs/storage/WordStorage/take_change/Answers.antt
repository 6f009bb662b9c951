use Rattle.std.specs.Prelude.{◌≡◌, Some}
use Rattle.std.proofs.Common.{rules, ap, sym, subst}
use Rattle.cmm_storage.specs.StorageCall.{TakeChange}
use Rattle.host_shared.specs.Holding.{HeldState}
use Rattle.host_shared.specs.Binding.{StorageState, held_page, BoundStep}
use Rattle.host_shared.specs.contracts.storage.WordStorage.{the_view}
use Rattle.host_shared.proofs.Stepping.{with_held, step_change, sound_held, goes_changed}
use Rattle.host_shared.proofs.storage.WordStorage.take_change.Goals as goal

pub returns : goal.returns
returns c =
    let s : StorageState = the_view c.self.inside in
    let h : HeldState = c.in-Some.held in
    let k : HeldState = c.take_change-changed.new.self in
    let held : s.held ≡ Some h = search rules in
    let at : held_page s.held ≡ Some c.args.page = subst (λ (q : StorageState). held_page q.held ≡ Some c.args.page) (sym c.self.view_is) c.requires.held in
    record {
      step = subst (λ (q : StorageState). BoundStep q (TakeChange c.args.page c.take_change-changed.result) (with_held s (Some k))) c.self.view_is
          (step_change s h k c.args.page c.take_change-changed.result held at c.take_change-changed.ensures.changed c.take_change-changed.ensures.new);
    }

pub invariant_of-self : goal.invariant_of-self
invariant_of-self c =
    let s : StorageState = the_view c.self.inside in
    let h : HeldState = c.in-Some.held in
    let k : HeldState = c.take_change-changed.new.self in
    let held : s.held ≡ Some h = search rules in
    let made = c.take_change-changed.ensures.new in
    sound_held s s.hosts s.pool s.pager h k s.no_frames c.self.invariant held (ap (λ (q : HeldState). q.page) made) (ap (λ (q : HeldState). q.parts.pool) made)
    (goes_changed h k made) c.take_change-changed.ensures.sound c.self.invariant.few
