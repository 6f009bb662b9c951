use Rattle.std.proofs.Common.{rules}
use Rattle.frame_pool.proofs.Moves.{looks, claims}
use Rattle.frame_pool.proofs.steps.claim.Goals as goal

pub load-requires : goal.load-requires
load-requires c = (search rules, search rules, looks _ _ _ _ _ (search rules))

pub compare_exchange-requires : goal.compare_exchange-requires
compare_exchange-requires c = (search rules, search rules, claims _ _ _ _ _ (search rules) (search rules))
