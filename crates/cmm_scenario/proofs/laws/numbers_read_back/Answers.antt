use Rattle.cmm_scenario.proofs.SpelledWords.{number_of-decimal, number_at-spaced}
use Rattle.cmm_scenario.proofs.laws.numbers_read_back.Goals as goal

pub returns-clause-alone : goal.returns-clause-alone
returns-clause-alone c = number_of-decimal

pub returns-clause-spaced : goal.returns-clause-spaced
returns-clause-spaced c = number_at-spaced
