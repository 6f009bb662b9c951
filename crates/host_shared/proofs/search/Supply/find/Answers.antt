use Rattle.std.specs.Prelude.{length}
use Rattle.std.proofs.Common.{sym}
use Rattle.host_shared.proofs.Supplies.{keeps_on}
use Rattle.host_shared.proofs.Seats.{seats_count}
use Rattle.host_shared.proofs.Founds.{where_found}
use Rattle.host_shared.proofs.search.Supply.find.Goals as goal

pub returns-in-None-clause-keeps : goal.returns-in-None-clause-keeps
returns-in-None-clause-keeps c = keeps_on c.args.self.now c.take.new.self c.look_at_all.new.self c.in-None.ensures.keeps c.look_at_all.ensures.keeps

pub returns-in-None-clause-nothing : goal.returns-in-None-clause-nothing
returns-in-None-clause-nothing c =
    where_found c.look_at_all.result c.args.held.guest c.args.held.page (length c.args.words.now) c.args.hosts.now c.look_at_all.new.hosts c.args.self.now.seat.dry c.take.new.self.seat.dry
    c.look_at_all.new.self.seat.dry (sym (seats_count c.args.words.now c.args.pool.now c.args.hosts.now c.args.self.now.seat c.requires.can)) c.in-None.ensures.dry c.look_at_all.ensures.nothing
