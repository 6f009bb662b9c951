use Rattle.std.proofs.Common.{rules, subst}
use Rattle.host_plain.specs.HostState.{HostState, IsHost}
use Rattle.cmm_storage.specs.StorageCall.{Give}
use Rattle.host_plain.proofs.Others.{host_serves}
use Rattle.host_plain.proofs.host.Host.order.Goals as goal

pub list_place-place-requires : goal.list_place-place-requires
list_place-place-requires c =
    let is : IsHost c.args.self.now = subst (λ (h : HostState). IsHost h) c.self.view_is c.self.invariant in
    is.below c.args.page c.requires.held

pub returns : goal.returns
returns c =
    let is : IsHost c.args.self.now = subst (λ (h : HostState). IsHost h) c.self.view_is c.self.invariant in
    host_serves c.args.self.now (Give c.args.page c.args.code c.order.result) _ is c.requires.held (search rules)

pub invariant_of-self : goal.invariant_of-self
invariant_of-self c = (returns c).leaves.sound
