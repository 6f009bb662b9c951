use Rattle.frame_pool.proofs.Spare.{all_out}
use Rattle.frame_pool.proofs.laws.no_spare.Goals as goal

pub returns : goal.returns
returns c = all_out
