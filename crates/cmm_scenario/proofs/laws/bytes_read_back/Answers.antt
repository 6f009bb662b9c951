use Rattle.cmm_scenario.proofs.SpelledWords.{bytes_of-encoded, bytes_at-spaced}
use Rattle.cmm_scenario.proofs.laws.bytes_read_back.Goals as goal

pub returns-clause-alone : goal.returns-clause-alone
returns-clause-alone c = bytes_of-encoded

pub returns-clause-spaced : goal.returns-clause-spaced
returns-clause-spaced c = bytes_at-spaced
