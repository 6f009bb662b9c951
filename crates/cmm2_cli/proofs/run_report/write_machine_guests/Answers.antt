use Rattle.std.proofs.Common.{◌≡◌, ◌<◌, ◌+◌, Ok, sym, ap, subst, arith}
use Rattle.cmm_io.specs.SinkBytes.{Writes}
use Rattle.cmm_io.specs.Laws.SinkBytesLaws.{Writes-then, Writes-stop, Writes-nothing}
use Rattle.cmm_io.specs.declared.write.WriteFault.{WriteFault}
use Rattle.cmm_report.specs.Report.{guest_text, guests_text}
use Rattle.cmm2_cli.specs.Running.{machine_report, machine_reports_from}
use Rattle.cmm2_cli.proofs.FromMachine.{reports_end, text_next}
use Rattle.cmm2_cli.proofs.run_report.write_machine_guests.Goals as goal

pub loop-guest-init : goal.loop-guest-init
loop-guest-init g c = λ out result wrote. wrote

pub returns-in_err-write_machine_guest : goal.returns-in_err-write_machine_guest
returns-in_err-write_machine_guest g c =
    let m = c.args.machine.now in
    let guest = c.loop-guest.guest in
    let below : guest < m.guests = omega (arith, c.loop-guest-test.true, c.guests-guest-end.ensures) in
    c.loop-guest.invariant _ _
    (subst (λ text. Writes g.K.Sink.faults g.K.Sink.written c.loop-guest.out c.write_machine_guest.new.out text c.from_residual.result) (sym (text_next m guest below))
    (Writes-stop g.K.Sink.faults g.K.Sink.written _ _ (guest_text guest (machine_report m guest))
    (guests_text (guest + 1) (machine_reports_from m (guest + 1))) _ _ c.from_residual.ensures.0 c.in_err-write_machine_guest.ensures))

pub loop-guest-preserved : goal.loop-guest-preserved
loop-guest-preserved g c =
    let m = c.args.machine.now in
    let guest = c.loop-guest.guest in
    let below : guest < m.guests = omega (arith, c.loop-guest-test.true, c.guests-guest-end.ensures) in λ out result wrote.
    c.loop-guest.invariant out result
    (subst (λ text. Writes g.K.Sink.faults g.K.Sink.written c.loop-guest.out out text result) (sym (text_next m guest below))
    (Writes-then g.K.Sink.faults g.K.Sink.written _ _ _ (guest_text guest (machine_report m guest))
    (guests_text (guest + 1) (machine_reports_from m (guest + 1))) _ _ c.in_ok-write_machine_guest.ensures wrote))

pub returns : goal.returns
returns g c =
    let m = c.args.machine.now in
    let guest = c.loop-guest.guest in
    let end : guest ≡ m.guests = omega (arith, c.loop-guest-test.false, c.guests-guest-end.ensures, c.loop-guest.auto.guest-end) in
    c.loop-guest.invariant _ _
    (subst (λ text. Writes g.K.Sink.faults g.K.Sink.written c.loop-guest.out c.loop-guest.out text {T = Unit {0}} {E = WriteFault} (Ok tt)) (sym (ap (guests_text guest) (reports_end m guest end)))
    (Writes-nothing g.K.Sink.faults g.K.Sink.written _ tt))
