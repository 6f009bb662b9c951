use Rattle.cmm_flat.specs.Laws.FlatLaws.{refusal-lengths}
use Rattle.std.proofs.Common.{refl}
use Rattle.cmm_flat.proofs.laws.refusals_depend_on_lengths.Goals as goal

pub returns : goal.returns
returns c state others process op same = refusal-lengths state.files others state process op refl same
