use Rattle.std.proofs.Common.{rules}
use Rattle.frame_pool.proofs.Moves.{counts}
use Rattle.frame_pool.proofs.steps.has_spare.Goals as goal

pub load-requires : goal.load-requires
load-requires c = (search rules, search rules, counts _ _ _ _ _ (search rules))
