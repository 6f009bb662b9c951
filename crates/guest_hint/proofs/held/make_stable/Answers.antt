use Rattle.guest_rules.specs.Rows.{make_stable}
use Rattle.guest_rules.proofs.Rows.AnswerLaws.{any_disk, seen_alone, make_stable-says}
use Rattle.guest_hint.proofs.held.make_stable.Goals as goal

pub returns-clause-answer : goal.returns-clause-answer
returns-clause-answer g c =
    let call = c.run_make_stable in
    let program = make_stable c.args.parts.now c.args.page in
    let seen = seen_alone g.St.Storage.step g.St.Storage.view g.met.St.Storage.meets program c.args.st.now (call.new.parts, call.result) call.new.st call.ensures.row in
    make_stable-says c.args.parts.now c.args.page _ any_disk call.new.parts call.result _ any_disk c.requires.taken.in_use.below seen
