use Rattle.std.proofs.Common.{subst}
use Rattle.host_plain.specs.HostState.{HostState, IsHost}
use Rattle.host_plain.proofs.OwnFrames.{have_own_frames}
use Rattle.host_plain.proofs.host.Host.resident.Goals as goal

pub returns-clause-own_frames : goal.returns-clause-own_frames
returns-clause-own_frames c = have_own_frames c.args.self.now (subst (λ (h : HostState). IsHost h) c.self.view_is c.self.invariant)
