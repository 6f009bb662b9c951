use Rattle.std.proofs.Common.{rules}
use Rattle.host_shared.proofs.Moving.{found_busy}
use Rattle.host_shared.proofs.reclaim.reclaim_page.Goals as goal

pub returns-in-Err-clause-outcome : goal.returns-in-Err-clause-outcome
returns-in-Err-clause-outcome g c = found_busy c.args.page c.args.urgent _ _ _ _ _ (search rules)
