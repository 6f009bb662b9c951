use Rattle.std.proofs.Common.{[], length, inr, Err, refl, ap, subst, arith}
use Rattle.cmm_check.specs.declared.judging.TheConstants.{MAX_SCENARIO}
use Rattle.cmm2_cli.specs.Outcome.{AnswersScenario}
use Rattle.cmm2_cli.specs.Running.{Runs}
use Rattle.cmm2_cli.proofs.Taken.{long_answer, long_some, whole_answer, whole_some}
use Rattle.cmm2_cli.proofs.run.read_run.Goals as goal

pub returns-in-Ok-clause-answer : goal.returns-in-Ok-clause-answer
returns-in-Ok-clause-answer g c =
    whole_answer g.S.Source.rest g.S.Source.given _ _ g.K.Sink.faults g.K.Sink.written _ _
    MAX_SCENARIO (AnswersScenario g.K.Sink.faults g.K.Sink.written c.args.out.now c.answer_run.new.out (Runs g.K.Sink.faults g.K.Sink.written c.args.out.now c.answer_run.new.out))
    c.in-Ok.bytes.items c.answer_run.result c.in-Ok.ensures.whole
    (omega (arith, c.in-Ok.ensures.short, c.as_slice.ensures.len, ap length c.as_slice.ensures.value)) c.in-Ok.ensures.taken
    (subst (λ bytes. AnswersScenario g.K.Sink.faults g.K.Sink.written c.args.out.now c.answer_run.new.out
    (Runs g.K.Sink.faults g.K.Sink.written c.args.out.now c.answer_run.new.out) bytes c.answer_run.result) c.as_slice.ensures.value c.answer_run.ensures.answer)

pub returns-in-Ok-clause-some_input : goal.returns-in-Ok-clause-some_input
returns-in-Ok-clause-some_input g c =
    whole_some g.S.Source.rest g.S.Source.given _ _ g.K.Sink.faults g.K.Sink.written _ _
    MAX_SCENARIO (AnswersScenario g.K.Sink.faults g.K.Sink.written c.args.out.now c.answer_run.new.out (Runs g.K.Sink.faults g.K.Sink.written c.args.out.now c.answer_run.new.out))
    c.in-Ok.bytes.items c.answer_run.result
    (omega (arith, c.in-Ok.ensures.short, c.as_slice.ensures.len, ap length c.as_slice.ensures.value)) c.in-Ok.ensures.taken
    (subst (λ bytes. AnswersScenario g.K.Sink.faults g.K.Sink.written c.args.out.now c.answer_run.new.out
    (Runs g.K.Sink.faults g.K.Sink.written c.args.out.now c.answer_run.new.out) bytes c.answer_run.result) c.as_slice.ensures.value c.answer_run.ensures.answer)

pub returns-in-Err-TooLong-clause-answer : goal.returns-in-Err-TooLong-clause-answer
returns-in-Err-TooLong-clause-answer g c =
    long_answer g.S.Source.rest g.S.Source.given _ _ g.K.Sink.faults g.K.Sink.written _ _
    MAX_SCENARIO (AnswersScenario g.K.Sink.faults g.K.Sink.written c.args.out.now c.refuse.new.out (Runs g.K.Sink.faults g.K.Sink.written c.args.out.now c.refuse.new.out))
    c.refuse.result
    (c.in-Err-TooLong.ensures.one_more (ap Err c.in-Err-TooLong.field-0-is)) c.refuse.ensures

pub returns-in-Err-TooLong-clause-some_input : goal.returns-in-Err-TooLong-clause-some_input
returns-in-Err-TooLong-clause-some_input g c =
    long_some g.S.Source.rest g.S.Source.given _ _ g.K.Sink.faults g.K.Sink.written _ _
    MAX_SCENARIO (AnswersScenario g.K.Sink.faults g.K.Sink.written c.args.out.now c.refuse.new.out (Runs g.K.Sink.faults g.K.Sink.written c.args.out.now c.refuse.new.out))
    c.refuse.result
    (c.in-Err-TooLong.ensures.one_more (ap Err c.in-Err-TooLong.field-0-is)) c.refuse.ensures

pub returns-in-Err-NoMemory-clause-some_input : goal.returns-in-Err-NoMemory-clause-some_input
returns-in-Err-NoMemory-clause-some_input g c = inr (
  [],
  inr (inr (record {
    taken = c.in-Err-NoMemory.ensures.no_memory (ap Err c.in-Err-NoMemory.field-0-is);
    answer = record { status = refl; same = refl };
  })),
)
