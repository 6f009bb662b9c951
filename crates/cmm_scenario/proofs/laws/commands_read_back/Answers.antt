use Rattle.cmm_scenario.proofs.SpelledCommands.{op_of-text}
use Rattle.cmm_scenario.proofs.laws.commands_read_back.Goals as goal

pub returns : goal.returns
returns c = op_of-text
