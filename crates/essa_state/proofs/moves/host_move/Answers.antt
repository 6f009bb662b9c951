use Rattle.essa_state.specs.Laws.PageValueLaws.{move-may_become}
use Rattle.essa_state.proofs.moves.host_move.Goals as goal

pub returns-in-Ok-clause-value : goal.returns-in-Ok-clause-value
returns-in-Ok-clause-value c body word' body' made = move-may_become c.args.word body c.args.action word' body' made
