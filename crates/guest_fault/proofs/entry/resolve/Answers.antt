use Rattle.guest_rules.specs.Rows.{resolve}
use Rattle.guest_rules.proofs.Rows.AnswerLaws.{any_disk, seen_alone, resolve-says}
use Rattle.guest_fault.proofs.entry.resolve.Goals as goal

pub returns-clause-answer : goal.returns-clause-answer
returns-clause-answer g c can =
    let call = c.run_resolve in
    let program = resolve c.args.parts.now c.args.page c.args.slot c.args.index c.args.writable in
    let seen = seen_alone g.St.Storage.step g.St.Storage.view g.met.St.Storage.meets program c.args.st.now (call.new.parts, call.result) call.new.st call.ensures.row in
    resolve-says c.args.parts.now c.args.page c.args.slot c.args.index c.args.writable _ any_disk call.new.parts call.result _ any_disk can seen
