use Rattle.guest_rules.specs.Rows.{read_page}
use Rattle.guest_rules.proofs.Rows.AnswerLaws.{any_disk, seen_alone, read-says}
use Rattle.guest_io.proofs.read.read_page.Goals as goal

pub returns-clause-answer : goal.returns-clause-answer
returns-clause-answer g c can =
    let call = c.run_read_page in
    let program = read_page c.args.parts.now c.args.page c.args.off c.args.len in
    let seen = seen_alone g.St.Storage.step g.St.Storage.view g.met.St.Storage.meets program c.args.st.now (call.new.parts, call.result) call.new.st call.ensures.row in
    read-says c.args.parts.now c.args.page c.args.off c.args.len _ any_disk call.new.parts call.result _ any_disk can seen
