use Rattle.std.proofs.Common.{rules, subst}
use Rattle.host_plain.specs.HostState.{HostState, IsHost}
use Rattle.cmm_storage.specs.StorageCall.{Store}
use Rattle.host_plain.proofs.Others.{host_serves}
use Rattle.host_plain.proofs.host.Host.store.Goals as goal

pub list_place-place-requires : goal.list_place-place-requires
list_place-place-requires c =
    let is : IsHost c.args.self.now = subst (λ (h : HostState). IsHost h) c.self.view_is c.self.invariant in
    is.below c.args.page c.requires.held

pub returns : goal.returns
returns c =
    let is : IsHost c.args.self.now = subst (λ (h : HostState). IsHost h) c.self.view_is c.self.invariant in
    host_serves c.args.self.now (Store c.args.page c.args.off c.args.from.now) _ is (c.requires.held, c.requires.touched, c.requires.within) (search rules)

pub invariant_of-self : goal.invariant_of-self
invariant_of-self c = (returns c).leaves.sound
