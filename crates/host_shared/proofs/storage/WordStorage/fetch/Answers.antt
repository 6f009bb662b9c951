use Rattle.std.specs.Prelude.{◌≡◌, Some, true}
use Rattle.std.proofs.Common.{rules, sym, subst}
use Rattle.cmm_storage.specs.StorageCall.{Fetch}
use Rattle.host_shared.specs.Holding.{HeldState}
use Rattle.host_shared.specs.Binding.{StorageState, held_page, storage_view, BoundStep}
use Rattle.host_shared.specs.contracts.storage.WordStorage.{the_view}
use Rattle.host_shared.proofs.Stepping.{step_fetch, held_touched}
use Rattle.host_shared.proofs.storage.WordStorage.fetch.Goals as goal

pub fetch-requires-clause-touched : goal.fetch-requires-clause-touched
fetch-requires-clause-touched c =
    let s : StorageState = the_view c.self.inside in
    let held : s.held ≡ Some c.in-Some.held = search rules in
    held_touched s c.in-Some.held held (subst (λ (q : StorageState). (storage_view q).touched ≡ true) (sym c.self.view_is) c.requires.touched)

pub returns : goal.returns
returns c =
    let s : StorageState = the_view c.self.inside in
    let h : HeldState = c.in-Some.held in
    let held : s.held ≡ Some h = search rules in
    let at : held_page s.held ≡ Some c.args.page = subst (λ (q : StorageState). held_page q.held ≡ Some c.args.page) (sym c.self.view_is) c.requires.held in
    let touched : h.touched ≡ true = held_touched s h held (subst (λ (q : StorageState). (storage_view q).touched ≡ true) (sym c.self.view_is) c.requires.touched) in
    record {
      step = subst (λ (q : StorageState). BoundStep q (Fetch c.args.page c.args.off c.fetch.new.into) q) c.self.view_is
          (step_fetch s h c.args.page c.args.off c.fetch.new.into c.self.invariant held at touched (search rules));
    }
