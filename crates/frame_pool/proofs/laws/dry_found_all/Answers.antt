use Rattle.frame_pool.proofs.Rounds.{dry_found_all}
use Rattle.frame_pool.proofs.laws.dry_found_all.Goals as goal

pub returns : goal.returns
returns c = dry_found_all
