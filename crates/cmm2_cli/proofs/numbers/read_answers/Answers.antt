use Rattle.std.proofs.Common.{All, subst, arith}
use Rattle.std.proofs.lemmas.List.{take_all}
use Rattle.std.proofs.lemmas.List.Elements.{All-more}
use Rattle.cmm_check.specs.Answers.{AnswerFits}
use Rattle.cmm2_cli.proofs.numbers.read_answers.Goals as goal

pub loop-answer-preserved : goal.loop-answer-preserved
loop-answer-preserved c = All-more AnswerFits c.args.answers.now c.loop-answer.answer-index _ (omega (arith, c.loop-answer-test.true)) c.loop-answer.invariant c.read_answer.ensures

pub returns : goal.returns
returns c = subst (All AnswerFits) (take_all c.loop-answer.answer-index c.args.answers.now (omega (arith, c.loop-answer-test.false))) c.loop-answer.invariant
