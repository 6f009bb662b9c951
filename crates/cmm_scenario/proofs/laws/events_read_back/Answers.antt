use Rattle.cmm_scenario.proofs.SpelledEvents.{event_of-text}
use Rattle.cmm_scenario.proofs.laws.events_read_back.Goals as goal

pub returns : goal.returns
returns c = event_of-text
