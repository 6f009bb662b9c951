use Rattle.std.specs.Prelude.{◌≡◌, None}
use Rattle.std.proofs.Common.{sym, subst}
use Rattle.host_shared.specs.Binding.{StorageState}
use Rattle.host_shared.specs.contracts.storage.WordStorage.{the_view}
use Rattle.host_shared.proofs.Stepping.{seat_free}
use Rattle.host_shared.proofs.storage.WordStorage.parts.Goals as goal

pub returns-clause-none_held : goal.returns-clause-none_held
returns-clause-none_held c =
    let s : StorageState = the_view c.self.inside in
    let none : s.held ≡ None = subst (λ (q : StorageState). q.held ≡ None) (sym c.self.view_is) c.requires in
    seat_free s.seat s.held c.self.invariant.tied none
