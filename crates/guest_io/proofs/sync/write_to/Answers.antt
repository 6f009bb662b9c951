use Rattle.std.specs.Prelude.{Ok}
use Rattle.cmm_types.specs.declared.command.Cause.TheVariants.{Disk}
use Rattle.guest_rules.specs.Syncs.{stay_dirty, back_written}
use Rattle.guest_hint.specs.Laws.RunLaws.{does_alone}
use Rattle.guest_io.proofs.sync.write_to.Goals as goal

pub returns-in-Err-clause-row : goal.returns-in-Err-clause-row
returns-in-Err-clause-row g c =
    let call = c.stay_dirty-in-Err in
    let program = stay_dirty c.args.parts.now c.args.page Disk in
    let rest = does_alone g.St.Storage.step g.D.Disk.step program c.args.st.now c.write.new.self (call.new.parts, call.result) call.new.st call.ensures.row in
    rw c.in-Some.is (_, _, c.in-Err.ensures.step, rest)

pub returns-in-Ok-clause-row : goal.returns-in-Ok-clause-row
returns-in-Ok-clause-row g c =
    let call = c.come_clean in
    let program = back_written c.args.parts.now c.args.page (Ok tt) in
    let rest = does_alone g.St.Storage.step g.D.Disk.step program c.args.st.now c.write.new.self (call.new.parts, call.result) call.new.st call.ensures.row in
    rw c.in-Some.is (_, _, c.in-Ok.ensures.step, rest)
