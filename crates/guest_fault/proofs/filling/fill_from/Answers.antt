use Rattle.cmm_types.specs.declared.command.Cause.TheVariants.{Disk}
use Rattle.guest_rules.specs.Rows.{give_up, fill_with}
use Rattle.guest_hint.specs.Laws.RunLaws.{does_alone}
use Rattle.guest_fault.proofs.filling.fill_from.Goals as goal

pub returns-in-Err-clause-row : goal.returns-in-Err-clause-row
returns-in-Err-clause-row g c =
    let call = c.give_up in
    let program = give_up c.args.parts.now c.args.page Disk in
    let rest = does_alone g.St.Storage.step g.D.Disk.step program c.args.st.now c.read.new.self (call.new.parts, call.result) call.new.st call.ensures.row in
    rw c.in-Some.is (_, _, _, c.in-Err.ensures.step, rest)

pub returns-in-Ok-clause-row : goal.returns-in-Ok-clause-row
returns-in-Ok-clause-row g c =
    let call = c.fill_with-in-Ok in
    let program = fill_with c.args.parts.now c.args.page c.read.new.into in
    let rest = does_alone g.St.Storage.step g.D.Disk.step program c.args.st.now c.read.new.self (call.new.parts, call.result) call.new.st call.ensures.row in
    rw c.in-Some.is (_, _, _, c.in-Ok.ensures.step, rest)
