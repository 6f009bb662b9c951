use Rattle.std.proofs.Common.{◌≡◌, get_or, true, false, ◌==◌, option_and_then, sym, ap, ◌∙◌}
use Rattle.serde_json.specs.Find.{as_u64}
use Rattle.serde_json.specs.Read.{number_from}
use Rattle.cmm_scenario.specs.Borrowed.{number_or_float}
use Rattle.cmm_scenario.proofs.DataOf.{number_of-no_minus, as_u64-number_or_float, as_u64-minus}
use Rattle.cmm_scenario.proofs.borrowed.whole_number.Goals as goal

pub returns-then-has_minus : goal.returns-then-has_minus
returns-then-has_minus c =
    let s = c.as_bytes-bytes.result.now in
    let signed : (get_or s 0 0 == 45) ≡ true = sym c.if-has_minus.ensures.value in
    sym (as_u64-minus s signed) ∙ ap (λ text. as_u64 (number_or_float text)) c.as_bytes-bytes.ensures.value

pub returns-else-has_minus : goal.returns-else-has_minus
returns-else-has_minus c =
    let s = c.as_bytes-bytes.result.now in
    let plain : (get_or s 0 0 == 45) ≡ false = sym c.if-has_minus.ensures.value in
    c.unsigned.ensures ∙ ap (λ p. option_and_then as_u64 (number_from false p)) c.scan.ensures.parts ∙ ap (option_and_then as_u64) (sym (number_of-no_minus s plain))
    ∙ sym (as_u64-number_or_float s) ∙ ap (λ text. as_u64 (number_or_float text)) c.as_bytes-bytes.ensures.value
