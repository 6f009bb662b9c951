use Rattle.std.proofs.Common.{◌∙◌, ap, sym, take, drop}
use Rattle.std.specs.Prelude.{nat_eq}
use Rattle.std.specs.List.{starts_with}
use Rattle.std.proofs.lemmas.List.{take_rest}
use Rattle.std.proofs.lemmas.Slice.Eq.{bytes_eq-Decides}
use Rattle.cmm_check.specs.Split.{mark}
use Rattle.cmm_check.proofs.input.has_mark.Goals as goal

pub returns : goal.returns
returns c =
    let tells = bytes_eq-Decides mark (take 13 (drop c.args.at c.args.input.now)) in
    let value = c.starts_with.ensures.value ∙ ap (λ s. starts_with nat_eq s mark) (take_rest c.args.input.now c.args.at) in
    (λ h. sym (tells.0 (sym value ∙ h)), λ h. value ∙ tells.1 (sym h))
