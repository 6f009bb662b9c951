use Rattle.cmm_storage.specs.Views.{does_seen}
use Rattle.guest_rules.specs.Rows.{fill}
use Rattle.guest_rules.proofs.Rows.AnswerLaws.{fill-says}
use Rattle.guest_fault.proofs.filling.fill.Goals as goal

pub returns-clause-answer : goal.returns-clause-answer
returns-clause-answer g c can =
    let call = c.run_fill in
    let program = fill c.args.parts.now c.args.page in
    let seen =
    does_seen g.St.Storage.step g.D.Disk.step g.St.Storage.view g.D.Disk.view g.met.St.Storage.meets g.met.D.Disk.meets program
    c.args.st.now c.args.disk.now (call.new.parts, call.result) call.new.st call.new.disk call.ensures.row
    in
    fill-says c.args.parts.now c.args.page _ _ call.new.parts call.result _ _ can seen
