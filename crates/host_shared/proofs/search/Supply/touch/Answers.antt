use Rattle.std.proofs.Common.{rules}
use Rattle.host_shared.proofs.Supplies.{keeps_on}
use Rattle.host_shared.proofs.Founds.{brought}
use Rattle.host_shared.proofs.Stepping.{can_seat}
use Rattle.host_shared.proofs.search.Supply.touch.Goals as goal

pub returns-in-Frame-clause-can : goal.returns-in-Frame-clause-can
returns-in-Frame-clause-can c =
    can_seat c.args.words.now c.args.pool.now c.find.new.hosts c.find.new.self.seat c.bring.new.self.seat c.in-Frame.ensures.can c.bring.ensures.keeps.pool

pub returns-in-Frame-clause-keeps : goal.returns-in-Frame-clause-keeps
returns-in-Frame-clause-keeps c = keeps_on c.args.self.now c.find.new.self c.bring.new.self c.in-Frame.ensures.keeps c.bring.ensures.keeps

pub returns-in-Frame-clause-cause : goal.returns-in-Frame-clause-cause
returns-in-Frame-clause-cause c =
    brought c.bring.result c.args.held.now c.args.self.now.pager.faults c.find.new.self.pager.faults c.bring.new.self.pager.faults c.args.spot.guest c.args.spot.page c.args.hosts.now c.find.new.hosts
    c.args.self.now.seat.dry c.bring.new.self.seat.dry c.bring.ensures.paging c.bring.ensures.risen c.in-Frame.ensures.keeps.faults (search rules) (search rules)
