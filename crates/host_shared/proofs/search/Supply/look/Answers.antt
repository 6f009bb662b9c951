use Rattle.host_shared.proofs.Supplies.{keeps_on}
use Rattle.host_shared.proofs.Searches.{look_leaves, look_is_busy}
use Rattle.host_shared.proofs.search.Supply.look.Goals as goal

pub returns-in-Discarded-clause-keeps : goal.returns-in-Discarded-clause-keeps
returns-in-Discarded-clause-keeps c = keeps_on c.args.self.now c.reclaim.new.self c.take_freed.new.self c.in-Discarded.ensures.keeps c.take_freed.ensures.keeps

pub returns-in-Preserved-clause-keeps : goal.returns-in-Preserved-clause-keeps
returns-in-Preserved-clause-keeps c = keeps_on c.args.self.now c.reclaim.new.self c.take_freed-in-Preserved.new.self c.in-Preserved.ensures.keeps c.take_freed-in-Preserved.ensures.keeps

pub returns-in-Left-clause-nothing : goal.returns-in-Left-clause-nothing
returns-in-Left-clause-nothing c =
    look_leaves c.args.page c.in-Left.word c.args.seat.now.view c.reclaim.new.seat.view c.args.self.now.pager.faults c.reclaim.new.self.pager.faults c.args.self.now.seat.dry
    c.reclaim.new.self.seat.dry
    c.in-Left.ensures.outcome c.in-Left.ensures.dry

pub returns-in-Busy-clause-nothing : goal.returns-in-Busy-clause-nothing
returns-in-Busy-clause-nothing c =
    look_is_busy c.args.page c.in-Busy.word c.args.seat.now.view c.reclaim.new.seat.view c.args.self.now.pager.faults c.reclaim.new.self.pager.faults c.args.self.now.seat.dry
    c.reclaim.new.self.seat.dry
    c.in-Busy.ensures.outcome c.in-Busy.ensures.dry
