use Rattle.cmm_check.proofs.AnswerLaws.{some_line, some_told, none_line}
use Rattle.cmm_check.proofs.answers.read_answer.Goals as goal

pub returns-clause-some : goal.returns-clause-some
returns-clause-some c = some_line c.args.line.now _ c.numbered_answer.ensures

pub returns-clause-told : goal.returns-clause-told
returns-clause-told c = some_told c.args.line.now _ c.numbered_answer.ensures

pub returns-clause-none : goal.returns-clause-none
returns-clause-none c = none_line c.args.line.now _ c.numbered_answer.ensures
