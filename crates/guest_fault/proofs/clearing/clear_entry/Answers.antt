use Rattle.guest_rules.specs.Rows.{clear_entry}
use Rattle.guest_rules.proofs.Rows.AnswerLaws.{any_disk, seen_alone, clear-says}
use Rattle.guest_fault.proofs.clearing.clear_entry.Goals as goal

pub returns-clause-answer : goal.returns-clause-answer
returns-clause-answer g c can =
    let call = c.run_clear_entry in
    let program = clear_entry c.args.parts.now c.args.slot c.args.index c.args.pte in
    let seen = seen_alone g.St.Storage.step g.St.Storage.view g.met.St.Storage.meets program c.args.st.now (call.new.parts, call.result) call.new.st call.ensures.row in
    clear-says c.args.parts.now c.args.slot c.args.index c.args.pte _ any_disk call.new.parts call.result _ any_disk can seen
