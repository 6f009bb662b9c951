use Rattle.std.proofs.Common.{get_or, refl, sym, ◌∙◌, arith, add-one}
use Rattle.cmm_scenario.specs.Words.{word_number}
use Rattle.cmm_scenario.proofs.Digits.{all_ascii_digits-take, all_ascii_digits-fails, digits_value_front, digits_value_next, digit_range, has_number_size-short}
use Rattle.cmm_scenario.proofs.words.word_number.Goals as goal

pub returns-then-not-is_ascii_digit : goal.returns-then-not-is_ascii_digit
unfolding word_number
returns-then-not-is_ascii_digit c =
    let sized = sym (c.has_number_size.ensures) ∙ c.if-not-has_number_size.false in
    let bad = all_ascii_digits-fails c.args.word.now c.loop-digit.digit-index c.loop-digit-test.true (sym c.is_ascii_digit.ensures.value ∙ c.if-not-is_ascii_digit.true) in
    rw (sized, bad) refl

pub overflow_mul-number : goal.overflow_mul-number
overflow_mul-number c =
    let sized = sym (c.has_number_size.ensures) ∙ c.if-not-has_number_size.false in
    omega (arith, digits_value_front c.args.word.now c.loop-digit.digit-index c.loop-digit.invariant.digits (has_number_size-short c.args.word.now sized), c.loop-digit.invariant.value)

pub overflow_add-number : goal.overflow_add-number
overflow_add-number c =
    let sized = sym (c.has_number_size.ensures) ∙ c.if-not-has_number_size.false in
    let range = digit_range (get_or c.args.word.now c.loop-digit.digit-index 0) (sym c.is_ascii_digit.ensures.value ∙ c.if-not-is_ascii_digit.false) in
    omega (arith, range, digits_value_front c.args.word.now c.loop-digit.digit-index c.loop-digit.invariant.digits (has_number_size-short c.args.word.now sized), c.loop-digit.invariant.value)

pub loop-digit-preserved : goal.loop-digit-preserved
loop-digit-preserved c =
    let here = sym c.is_ascii_digit.ensures.value ∙ c.if-not-is_ascii_digit.false in
    record {
      digits = rw add-one (all_ascii_digits-take c.args.word.now c.loop-digit.digit-index c.loop-digit-test.true c.loop-digit.invariant.digits here);
      value = digits_value_next c.args.word.now c.loop-digit.digit-index c.loop-digit.number c.from.result c.loop-digit-test.true here c.loop-digit.invariant.value c.from.ensures;
    }
