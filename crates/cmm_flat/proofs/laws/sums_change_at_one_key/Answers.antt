use Rattle.cmm_flat.specs.Laws.SumLaws.{sum_over-insert, sum_over-remove}
use Rattle.cmm_flat.proofs.laws.sums_change_at_one_key.Goals as goal

pub returns-clause-insert : goal.returns-clause-insert
returns-clause-insert c = sum_over-insert

pub returns-clause-remove : goal.returns-clause-remove
returns-clause-remove c = sum_over-remove
