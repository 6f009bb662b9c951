use Rattle.guest_rules.specs.Rows.{pin_page}
use Rattle.guest_rules.proofs.Rows.AnswerLaws.{any_disk, seen_alone, pin-says}
use Rattle.guest_io.proofs.pin.pin_page.Goals as goal

pub returns-clause-answer : goal.returns-clause-answer
returns-clause-answer g c can =
    let call = c.run_pin_page in
    let program = pin_page c.args.parts.now c.args.page c.args.slot c.args.index c.args.pins in
    let seen = seen_alone g.St.Storage.step g.St.Storage.view g.met.St.Storage.meets program c.args.st.now (call.new.parts, call.result) call.new.st call.ensures.row in
    pin-says c.args.parts.now c.args.page c.args.slot c.args.index c.args.pins _ any_disk call.new.parts call.result _ any_disk can seen
