use Rattle.std.proofs.Common.{rules, subst, Ok}
use Rattle.host_plain.specs.HostState.{HostState, IsHost}
use Rattle.cmm_storage.specs.StorageCall.{Take}
use Rattle.host_plain.proofs.Others.{host_serves}
use Rattle.host_plain.proofs.host.Host.take.Goals as goal

pub returns : goal.returns
returns c =
    let is : IsHost c.args.self.now = subst (λ (h : HostState). IsHost h) c.self.view_is c.self.invariant in
    host_serves c.args.self.now (Take c.args.page (Ok tt)) _ is (c.requires.page, c.requires.none_held) (search rules)

pub invariant_of-self : goal.invariant_of-self
invariant_of-self c = (returns c).leaves.sound
