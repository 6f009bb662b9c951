use Rattle.guest_rules.specs.Rows.{tear_page}
use Rattle.guest_rules.proofs.Rows.AnswerLaws.{any_disk, seen_alone, tear-says}
use Rattle.guest_fault.proofs.tearing.tear_page.Goals as goal

pub returns-clause-answer : goal.returns-clause-answer
returns-clause-answer g c =
    let call = c.run_tear_page in
    let program = tear_page c.args.parts.now c.args.slot c.args.index c.args.page in
    let seen = seen_alone g.St.Storage.step g.St.Storage.view g.met.St.Storage.meets program c.args.st.now (call.new.parts, call.result) call.new.st call.ensures.row in
    tear-says c.args.parts.now c.args.slot c.args.index c.args.page _ any_disk call.new.parts call.result _ any_disk c.requires seen
