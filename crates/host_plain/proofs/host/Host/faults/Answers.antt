use Rattle.std.proofs.Common.{◌≡◌, arith}
use Rattle.std.proofs.lemmas.Grind.{common_steps}
use Rattle.host_plain.specs.HostState.{pager_of}
use Rattle.host_plain.proofs.host.Host.faults.Goals as goal

pub returns : goal.returns
returns c =
    let same : c.faults.result ≡ (pager_of c.args.self.now c.args.self.now.guest).faults = grind (arith, common_steps) in
    omega (arith, same)
