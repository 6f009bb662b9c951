use Rattle.std.proofs.Common.{refl}
use Rattle.std.specs.Fmt.{digits}
use Rattle.hex.specs.Hex.{encode_with}
use Rattle.cmm_scenario.specs.Spelling.{op_text, event_text}
use Rattle.cmm_scenario.proofs.laws.worked_spellings.Goals as goal

pub returns-clause-read : goal.returns-clause-read
unfolding op_text digits
returns-clause-read c = refl

pub returns-clause-write : goal.returns-clause-write
unfolding op_text digits encode_with
returns-clause-write c = refl

pub returns-clause-map_file : goal.returns-clause-map_file
unfolding op_text digits
returns-clause-map_file c = refl

pub returns-clause-map_read_only : goal.returns-clause-map_read_only
unfolding op_text digits
returns-clause-map_read_only c = refl

pub returns-clause-store : goal.returns-clause-store
unfolding op_text digits encode_with
returns-clause-store c = refl

pub returns-clause-unpin : goal.returns-clause-unpin
unfolding op_text digits
returns-clause-unpin c = refl

pub returns-clause-alone : goal.returns-clause-alone
unfolding event_text digits
returns-clause-alone c = refl

pub returns-clause-discard : goal.returns-clause-discard
unfolding event_text digits
returns-clause-discard c = refl

pub returns-clause-reclaim : goal.returns-clause-reclaim
unfolding event_text digits
returns-clause-reclaim c = refl
