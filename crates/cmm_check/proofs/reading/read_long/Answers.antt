use Rattle.std.proofs.Common.{◌∙◌, sym}
use Rattle.cmm_scenario.proofs.Digits.{all_ascii_digits-fails}
use Rattle.cmm_check.proofs.Digits.{long_of-other, one_more, too_large, whole_word}
use Rattle.cmm_check.proofs.reading.read_long.Goals as goal

pub returns-then-not-is_ascii_digit : goal.returns-then-not-is_ascii_digit
returns-then-not-is_ascii_digit c =
    sym (long_of-other c.args.word.now (all_ascii_digits-fails c.args.word.now c.loop-digit.digit-index c.loop-digit-test.true (sym c.is_ascii_digit.ensures.value ∙ c.if-not-is_ascii_digit.true)))

pub returns-in_err-number : goal.returns-in_err-number
returns-in_err-number c =
    let none = too_large c.args.word.now c.loop-digit.digit-index c.loop-digit.number c.loop-digit-test.true
    (sym c.is_ascii_digit.ensures.value ∙ c.if-not-is_ascii_digit.false) c.loop-digit.invariant.value (sym c.with_digit.ensures ∙ c.in_err-number.was) in
    c.from_residual.ensures ∙ sym none

pub loop-digit-preserved : goal.loop-digit-preserved
loop-digit-preserved c =
    let more = one_more c.args.word.now c.loop-digit.digit-index c.loop-digit.number c.in_ok-number.number c.loop-digit-test.true
    (sym c.is_ascii_digit.ensures.value ∙ c.if-not-is_ascii_digit.false) c.loop-digit.invariant.digits c.loop-digit.invariant.value (sym c.with_digit.ensures ∙ c.in_ok-number.was) in
    record { digits = more.digits; value = more.value; small = more.small }

pub returns : goal.returns
returns c = whole_word c.args.word.now c.loop-digit.digit-index c.loop-digit.number c.loop-digit-test.false
    (sym c.has_no_leading_zero.ensures ∙ c.if-not-has_no_leading_zero.false) c.loop-digit.invariant.digits c.loop-digit.invariant.value c.loop-digit.invariant.small
