use Rattle.std.proofs.Common.{◌≡◌, ◌∙◌, true, rules}
use Rattle.cmm_line.specs.Line.{is_decimal}
use Rattle.cmm_line.proofs.Lines.{parsed}
use Rattle.cmm_line.proofs.line.decimal_number.Goals as goal

pub returns-then-is_decimal : goal.returns-then-is_decimal
returns-then-is_decimal c =
    let decimal : is_decimal c.args.word.now ≡ true = search rules in
    c.ok.ensures.value ∙ parsed c.args.word.now c.parse.result decimal c.parse.ensures.value.0
