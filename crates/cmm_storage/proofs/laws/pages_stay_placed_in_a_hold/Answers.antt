use Rattle.cmm_storage.specs.Laws.HoldLaws.{take-in_hold, touch-in_hold, give-in_hold, take_change-in_hold, fetch-in_hold, store-in_hold}
use Rattle.cmm_storage.proofs.laws.pages_stay_placed_in_a_hold.Goals as goal

pub returns-clause-take : goal.returns-clause-take
returns-clause-take c = take-in_hold

pub returns-clause-touch : goal.returns-clause-touch
returns-clause-touch c = touch-in_hold

pub returns-clause-order : goal.returns-clause-order
returns-clause-order c = give-in_hold

pub returns-clause-take_change : goal.returns-clause-take_change
returns-clause-take_change c = take_change-in_hold

pub returns-clause-fetch : goal.returns-clause-fetch
returns-clause-fetch c = fetch-in_hold

pub returns-clause-store : goal.returns-clause-store
returns-clause-store c = store-in_hold
