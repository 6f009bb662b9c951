use Rattle.frame_pool.proofs.Owning.{in_or_out}
use Rattle.frame_pool.proofs.laws.in_or_out.Goals as goal

pub returns : goal.returns
returns c = in_or_out
