use Rattle.guest_rules.specs.Alone.{most_turns}
use Rattle.guest_rules.proofs.Causes.FailuresKept.{Failures-opening, Failures-turn, failures_within}
use Rattle.guest_rules.proofs.laws.failed_commands_are_counted.Goals as goal

pub returns-clause-open : goal.returns-clause-open
returns-clause-open c = Failures-opening

pub returns-clause-turn : goal.returns-clause-turn
returns-clause-turn c = Failures-turn

pub returns-clause-alone : goal.returns-clause-alone
returns-clause-alone c g cpu v d h a w e f below run kept = failures_within most_turns 0 g h v w d e cpu a f below run kept
