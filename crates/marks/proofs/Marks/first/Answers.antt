use Rattle.std.proofs.Common.{◌<◌, length, subst}
use Rattle.std.proofs.Common.{sym}
use Rattle.marks.specs.Marking.{NoneMarked}
use Rattle.marks.proofs.FirstMarked.{first_marked-on, first_marked-next}
use Rattle.marks.proofs.Marks.first.Goals as goal

pub returns-in-Some-clause-first : goal.returns-in-Some-clause-first
returns-in-Some-clause-first c =
    let below : c.in-Some.place < length c.args.self.now = subst (λ n. c.in-Some.place < n) c.len-count.ensures c.in-Some.ensures.within.1 in
    sym (first_marked-on c.args.self.now c.args.hand c.in-Some.place c.in-Some.ensures.within.0 below c.in-Some.ensures.marked c.in-Some.ensures.first)

pub returns-in-None-clause-first : goal.returns-in-None-clause-first
returns-in-None-clause-first c =
    let behind : NoneMarked c.args.self.now c.args.hand (length c.args.self.now) = subst (λ n. NoneMarked c.args.self.now c.args.hand n) c.len-count.ensures c.in-None.ensures.none in
    first_marked-next c.args.self.now c.args.hand c.next-in-None.result c.requires behind c.next-in-None.ensures.none c.next-in-None.ensures.within c.next-in-None.ensures.marked
    c.next-in-None.ensures.first
