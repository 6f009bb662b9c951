use Rattle.std.proofs.Common.{◌+◌, [], length, inr, Err, refl, ap, subst, arith}
use Rattle.cmm_io.specs.SourceBytes.{HasTakenCount, HasTakenAtMost}
use Rattle.cmm2_cli.specs.Outcome.{AnswersBytes, limit_of}
use Rattle.cmm2_cli.proofs.Taken.{long_answer, long_some, whole_answer, whole_some}
use Rattle.cmm2_cli.proofs.input.read_input.Goals as goal

pub returns-in-Ok-clause-answer : goal.returns-in-Ok-clause-answer
returns-in-Ok-clause-answer g c =
    whole_answer g.S.Source.rest g.S.Source.given _ _ g.K.Sink.faults g.K.Sink.written _ _
    (limit_of c.args.input) (AnswersBytes g.K.Sink.faults g.K.Sink.written c.args.out.now c.answer.new.out c.args.input)
    c.in-Ok.bytes.items c.answer.result c.in-Ok.ensures.whole
    (omega (arith, c.in-Ok.ensures.short, c.as_slice.ensures.len, ap length c.as_slice.ensures.value)) c.in-Ok.ensures.taken
    (subst (λ bytes. AnswersBytes g.K.Sink.faults g.K.Sink.written c.args.out.now c.answer.new.out c.args.input bytes c.answer.result) c.as_slice.ensures.value c.answer.ensures.answer)

pub returns-in-Ok-clause-some_input : goal.returns-in-Ok-clause-some_input
returns-in-Ok-clause-some_input g c =
    whole_some g.S.Source.rest g.S.Source.given _ _ g.K.Sink.faults g.K.Sink.written _ _
    (limit_of c.args.input) (AnswersBytes g.K.Sink.faults g.K.Sink.written c.args.out.now c.answer.new.out c.args.input)
    c.in-Ok.bytes.items c.answer.result
    (omega (arith, c.in-Ok.ensures.short, c.as_slice.ensures.len, ap length c.as_slice.ensures.value)) c.in-Ok.ensures.taken
    (subst (λ bytes. AnswersBytes g.K.Sink.faults g.K.Sink.written c.args.out.now c.answer.new.out c.args.input bytes c.answer.result) c.as_slice.ensures.value c.answer.ensures.answer)

pub returns-in-Err-TooLong-clause-answer : goal.returns-in-Err-TooLong-clause-answer
returns-in-Err-TooLong-clause-answer g c =
    long_answer g.S.Source.rest g.S.Source.given _ _ g.K.Sink.faults g.K.Sink.written _ _
    (limit_of c.args.input) (AnswersBytes g.K.Sink.faults g.K.Sink.written c.args.out.now c.refuse.new.out c.args.input)
    c.refuse.result
    (subst (λ limit. HasTakenCount g.S.Source.rest g.S.Source.given c.args.src.now c.read_all.new.src (limit + 1)) c.limit.ensures
    (c.in-Err-TooLong.ensures.one_more (ap Err c.in-Err-TooLong.field-0-is))) c.refuse.ensures

pub returns-in-Err-TooLong-clause-some_input : goal.returns-in-Err-TooLong-clause-some_input
returns-in-Err-TooLong-clause-some_input g c =
    long_some g.S.Source.rest g.S.Source.given _ _ g.K.Sink.faults g.K.Sink.written _ _
    (limit_of c.args.input) (AnswersBytes g.K.Sink.faults g.K.Sink.written c.args.out.now c.refuse.new.out c.args.input)
    c.refuse.result
    (subst (λ limit. HasTakenCount g.S.Source.rest g.S.Source.given c.args.src.now c.read_all.new.src (limit + 1)) c.limit.ensures
    (c.in-Err-TooLong.ensures.one_more (ap Err c.in-Err-TooLong.field-0-is))) c.refuse.ensures

pub returns-in-Err-NoMemory-clause-some_input : goal.returns-in-Err-NoMemory-clause-some_input
returns-in-Err-NoMemory-clause-some_input g c = inr (
  [],
  inr (inr (record {
    taken = subst (λ limit. HasTakenAtMost g.S.Source.rest g.S.Source.given c.args.src.now c.read_all.new.src (limit + 1)) c.limit.ensures
        (c.in-Err-NoMemory.ensures.no_memory (ap Err c.in-Err-NoMemory.field-0-is));
    answer = record { status = refl; same = refl };
  })),
)
