use Rattle.std.proofs.Common.{◌≡◌, ◌+◌, ◌*◌, arith}
use Rattle.essa_state.specs.StateWord.{number_of}
use Rattle.essa_state.specs.Laws.LayoutLaws.{fields_at-number}
use Rattle.essa_state.proofs.word.Word.new.Goals as goal

pub returns : goal.returns
returns c =
    let written : c.low_of.result + 4294967296 * c.from.result ≡ number_of c.args.fields = omega (arith, c.low_of.ensures.value, c.from.ensures) in
    fields_at-number _ c.args.fields written
