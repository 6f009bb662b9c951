use Rattle.cmm_flat.specs.Laws.RangeLaws.{bytes_at-with_bytes_below, bytes_at-with_bytes_above, bytes_at-with_bytes_round}
use Rattle.cmm_flat.proofs.laws.ranges_apart.Goals as goal

pub returns-clause-below : goal.returns-clause-below
returns-clause-below c = bytes_at-with_bytes_below

pub returns-clause-above : goal.returns-clause-above
returns-clause-above c = bytes_at-with_bytes_above

pub returns-clause-round : goal.returns-clause-round
returns-clause-round c = bytes_at-with_bytes_round
