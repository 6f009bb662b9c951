use Rattle.cmm_flat.proofs.Worked.{legal_read, other_number, other_byte, legal_unmap, other_order, legal_fail, other_count}
use Rattle.cmm_flat.proofs.laws.worked_journals.Goals as goal

pub returns-clause-read : goal.returns-clause-read
returns-clause-read c = legal_read

pub returns-clause-other_number : goal.returns-clause-other_number
returns-clause-other_number c = other_number

pub returns-clause-other_byte : goal.returns-clause-other_byte
returns-clause-other_byte c = other_byte

pub returns-clause-unmapped_first : goal.returns-clause-unmapped_first
returns-clause-unmapped_first c = legal_unmap

pub returns-clause-other_order : goal.returns-clause-other_order
returns-clause-other_order c = other_order

pub returns-clause-no_page : goal.returns-clause-no_page
returns-clause-no_page c = legal_fail

pub returns-clause-other_count : goal.returns-clause-other_count
returns-clause-other_count c = other_count
