use Rattle.std.proofs.Common.{◌≡◌, ◌-◌, ap, subst, take, drop, length, Ok, arith}
use Rattle.std.specs.Io.KnownBytes.{Appends}
use Rattle.std.proofs.lemmas.List.{take_rest, length-drop}
use Rattle.cmm_io.specs.SinkBytes.{Writes}
use Rattle.cmm_io.specs.Laws.SinkBytesLaws.{Writes-then}
use Rattle.cmm_io.specs.declared.write.WriteFault.{WriteFault}
use Rattle.cmm_io.proofs.Progress.{take_then}
use Rattle.cmm_io.proofs.write.write_all.Goals as goal

pub loop-done-preserved : goal.loop-done-preserved
loop-done-preserved g c =
    let ok = c.in-Ok.ensures in
    let kept = c.loop-done.invariant in
    let piece = c.args.piece.now in
    let done = c.loop-done.done in
    let faults = g.K.Sink.faults in
    let written = g.K.Sink.written in
    let slice : take (length piece - done) (drop done piece) ≡ drop done piece = take_rest piece done in
    let more : Writes faults written c.loop-done.out c.write.new.self (take c.in-Ok.n (drop done piece)) {T = Unit {0}} {E = WriteFault} (Ok tt) =
    record {
      whole = subst (λ l. Appends (written c.loop-done.out) (written c.write.new.self) (take c.in-Ok.n l)) slice ok.wrote;
      no_fault = ok.no_fault;
      front = tt;
      fault = tt;
      never_falls = ok.never_falls;
    } in record {
      most = omega (arith, ok.fits, ap length slice, length-drop done piece, kept.most);
      wrote = subst (λ text. Writes faults written c.args.out.now c.write.new.self text {T = Unit {0}} {E = WriteFault} (Ok tt)) (take_then piece done c.in-Ok.n)
          (Writes-then faults written _ _ _ _ _ tt (Ok tt) kept.wrote more);
    }
