use Rattle.guest_rules.specs.Rows.{rehint}
use Rattle.guest_rules.proofs.Rows.AnswerLaws.{any_disk, seen_alone, rehint-says}
use Rattle.guest_hint.proofs.held.rehint.Goals as goal

pub returns-clause-answer : goal.returns-clause-answer
returns-clause-answer g c can =
    let call = c.run_rehint in
    let program = rehint c.args.parts.now c.args.page in
    let seen = seen_alone g.St.Storage.step g.St.Storage.view g.met.St.Storage.meets program c.args.st.now call.new.parts call.new.st call.ensures.row in
    rehint-says c.args.parts.now c.args.page _ any_disk call.new.parts _ any_disk can seen
