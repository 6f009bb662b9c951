use Rattle.std.specs.Prelude.{◌≡◌, ◌-◌}
use Rattle.std.proofs.Common.{arith, subst}
use Rattle.host_shared.specs.Looks.{pages_but}
use Rattle.host_shared.specs.Searching.{LooksIn}
use Rattle.host_shared.proofs.Searches.{looks_in_both}
use Rattle.host_shared.proofs.search.Supply.look_before.Goals as goal

pub returns-in-Nothing-clause-nothing : goal.returns-in-Nothing-clause-nothing
returns-in-Nothing-clause-nothing c pages v dry before =
    let all : c.args.start - 0 ≡ c.args.start = omega arith in
    let second : LooksIn (pages_but c.args.skip 0 c.args.start) c.args.seat.now.view c.look_between.new.seat.view c.args.self.now.seat.dry c.look_between.new.self.seat.dry c.in-Nothing.more =
    subst (λ n. LooksIn (pages_but c.args.skip 0 n) c.args.seat.now.view c.look_between.new.seat.view c.args.self.now.seat.dry c.look_between.new.self.seat.dry c.in-Nothing.more) all
    c.in-Nothing.ensures.nothing in
    looks_in_both pages (pages_but c.args.skip 0 c.args.start) v c.args.seat.now.view c.look_between.new.seat.view dry c.args.self.now.seat.dry c.look_between.new.self.seat.dry c.args.looks
    c.in-Nothing.more
    before second
