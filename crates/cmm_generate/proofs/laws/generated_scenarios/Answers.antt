use Rattle.cmm_generate.proofs.InRange.{generated_in_range, generated_writes}
use Rattle.cmm_generate.proofs.laws.generated_scenarios.Goals as goal

pub returns-clause-in_range : goal.returns-clause-in_range
returns-clause-in_range c = generated_in_range

pub returns-clause-bytes : goal.returns-clause-bytes
returns-clause-bytes c = generated_writes
