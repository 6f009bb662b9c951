use Rattle.std.proofs.Common.{take, All}
use Rattle.cmm_check.specs.Answers.{AnswerFits}
use Rattle.cmm2_cli.proofs.numbers.read_answers.Given as goal

abbrev pub invariant-loop-answer : goal.invariant-loop-answer
invariant-loop-answer l = All AnswerFits (take l.answer-index l.answers)
