use Rattle.std.proofs.Common.{rules}
use Rattle.host_shared.proofs.body.PageBody.preserve.Goals as goal

pub invariant_of-self-in-Err : goal.invariant_of-self-in-Err
invariant_of-self-in-Err g c = record { block = c.recall.ensures; bytes = search rules; housed = search rules }
