use Rattle.host_shared.proofs.Searches.{searched_round}
use Rattle.std.specs.Prelude.{length}
use Rattle.host_shared.proofs.search.Supply.look_at_first.Goals as goal

pub returns-in-Nothing-clause-nothing : goal.returns-in-Nothing-clause-nothing
returns-in-Nothing-clause-nothing c old dry before =
    searched_round c.args.held.guest c.args.held.page c.args.first
    (length c.args.words.now) old c.args.hosts.now c.look_at_guests.new.hosts dry c.args.self.now.seat.dry c.look_at_guests.new.self.seat.dry
    c.args.looks c.in-Nothing.more c.requires.first before c.in-Nothing.ensures.nothing
