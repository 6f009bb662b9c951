use Rattle.guest_rules.specs.Rows.{handler}
use Rattle.guest_rules.proofs.Rows.AnswerLaws.{any_disk, seen_alone, handler-says}
use Rattle.guest_hint.proofs.held.discard_handler.Goals as goal

pub returns-clause-answer : goal.returns-clause-answer
returns-clause-answer g c =
    let call = c.run_discard_handler in
    let program = handler c.args.parts.now c.args.page in
    let seen = seen_alone g.St.Storage.step g.St.Storage.view g.met.St.Storage.meets program c.args.st.now call.new.parts call.new.st call.ensures.row in
    handler-says c.args.parts.now c.args.page _ any_disk call.new.parts _ any_disk c.requires.taken.in_use.below seen
