use Rattle.std.proofs.Common.{length}
use Rattle.cmm_check.proofs.verdict.+guests.Given as goal

abbrev pub decreases-guests : goal.decreases-guests
decreases-guests l = length l.plans.now
