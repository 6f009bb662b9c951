use Rattle.std.proofs.Common.{rules, subst}
use Rattle.host_plain.specs.HostState.{HostState, IsHost}
use Rattle.cmm_storage.specs.StorageCall.{Fetch}
use Rattle.host_plain.proofs.Others.{host_serves}
use Rattle.host_plain.proofs.host.Host.fetch.Goals as goal

pub list_place-requires : goal.list_place-requires
list_place-requires c =
    let is : IsHost c.args.self.now = subst (λ (h : HostState). IsHost h) c.self.view_is c.self.invariant in
    is.below c.args.page c.requires.held

pub returns : goal.returns
returns c =
    let is : IsHost c.args.self.now = subst (λ (h : HostState). IsHost h) c.self.view_is c.self.invariant in
    host_serves c.args.self.now (Fetch c.args.page c.args.off _) _ is (c.requires.held, c.requires.touched) (search rules)
