use Rattle.std.proofs.Common.{◌≤◌, ◌-◌, length, take, Ok}
use Rattle.cmm_io.specs.SinkBytes.{Writes}
use Rattle.cmm_io.specs.declared.write.WriteFault.{WriteFault}
use Rattle.cmm_io.proofs.write.write_all.Given as goal

-- what is done was written
abbrev pub invariant-loop-done : goal.invariant-loop-done
invariant-loop-done g l = record {
  most : l.done ≤ length l.piece;
  wrote : Writes g.K.Sink.faults g.K.Sink.written l.fn.out l.out (take l.done l.piece) {T = Unit {0}} {E = WriteFault} (Ok tt);
}

abbrev pub decreases-loop-done : goal.decreases-loop-done
decreases-loop-done g l = length l.piece - l.done
