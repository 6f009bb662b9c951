use Rattle.std.proofs.Common.{length}
use Rattle.cmm_check.proofs.journal.+distinct.Given as goal

abbrev pub decreases-distinct : goal.decreases-distinct
decreases-distinct l = length l.numbers.now
