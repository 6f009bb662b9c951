use Rattle.std.specs.Prelude.{◌≡◌, ◌-◌, ℕ}
use Rattle.std.proofs.Common.{rules, subst}
use Rattle.host_shared.specs.Looks.{pages_but}
use Rattle.host_shared.specs.Searching.{LooksIn}
use Rattle.host_shared.proofs.Supplies.{keeps_on}
use Rattle.host_shared.proofs.search.Supply.look_round.Goals as goal

pub returns-in-Nothing-clause-keeps : goal.returns-in-Nothing-clause-keeps
returns-in-Nothing-clause-keeps c = keeps_on c.args.self.now c.look_between.new.self c.look_before.new.self c.in-Nothing.ensures.keeps c.look_before.ensures.keeps

pub returns-in-Nothing-clause-nothing : goal.returns-in-Nothing-clause-nothing
returns-in-Nothing-clause-nothing c =
    let all : c.pages.result ≡ c.args.words.now.pages = search rules in
    let first : LooksIn (pages_but c.args.skip c.args.start (c.args.words.now.pages - c.args.start)) c.args.seat.now.view c.look_between.new.seat.view c.args.self.now.seat.dry
    c.look_between.new.self.seat.dry c.in-Nothing.looks =
    subst (λ (n : ℕ). LooksIn (pages_but c.args.skip c.args.start (n - c.args.start)) c.args.seat.now.view c.look_between.new.seat.view c.args.self.now.seat.dry c.look_between.new.self.seat.dry
    c.in-Nothing.looks) all c.in-Nothing.ensures.nothing in
    c.look_before.ensures.nothing (pages_but c.args.skip c.args.start (c.args.words.now.pages - c.args.start)) c.args.seat.now.view c.args.self.now.seat.dry first
