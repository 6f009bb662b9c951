use Rattle.guest_rules.specs.Rows.{store_through}
use Rattle.guest_rules.proofs.Rows.AnswerLaws.{any_disk, seen_alone, store-says}
use Rattle.guest_io.proofs.entry.store_through.Goals as goal

pub returns-clause-answer : goal.returns-clause-answer
returns-clause-answer g c can =
    let call = c.run_store_through in
    let program = store_through c.args.parts.now c.args.page c.args.off c.args.bytes.now in
    let seen = seen_alone g.St.Storage.step g.St.Storage.view g.met.St.Storage.meets program c.args.st.now (call.new.parts, call.result) call.new.st call.ensures.row in
    store-says c.args.parts.now c.args.page c.args.off c.args.bytes.now _ any_disk call.new.parts call.result _ any_disk can seen
