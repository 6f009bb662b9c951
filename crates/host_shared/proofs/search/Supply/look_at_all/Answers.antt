use Rattle.host_shared.proofs.Supplies.{keeps_on}
use Rattle.host_shared.proofs.search.Supply.look_at_all.Goals as goal

pub returns-in-Nothing-clause-keeps : goal.returns-in-Nothing-clause-keeps
returns-in-Nothing-clause-keeps c = keeps_on c.args.self.now c.look_at_guests.new.self c.look_at_first.new.self c.in-Nothing.ensures.keeps c.look_at_first.ensures.keeps

pub returns-in-Nothing-clause-nothing : goal.returns-in-Nothing-clause-nothing
returns-in-Nothing-clause-nothing c = c.look_at_first.ensures.nothing c.args.hosts.now c.args.self.now.seat.dry c.in-Nothing.ensures.nothing
