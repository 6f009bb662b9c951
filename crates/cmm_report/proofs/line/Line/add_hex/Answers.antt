use Rattle.std.proofs.Common.{rules, ◌≡◌, ◌∙◌, ◌++◌, ap, arith}
use Rattle.hex.specs.Hex.{IsBytes, encode_lower}
use Rattle.cmm_report.proofs.Digits.{encoded-is}
use Rattle.cmm_report.proofs.line.Line.add_hex.Goals as goal

pub returns-clause-text : goal.returns-clause-text
returns-clause-text c =
    let fits : IsBytes c.args.bytes.now = λ i. let f = c.type_inv.bytes i in omega arith in
    let written : c.encode_to_slice.new.output ≡ encode_lower c.args.bytes.now = search rules in
    c.add.ensures.text ∙ ap (λ digits. c.args.self.now ++ digits) (written ∙ encoded-is c.args.bytes.now fits)
