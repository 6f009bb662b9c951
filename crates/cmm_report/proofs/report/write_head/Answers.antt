use Rattle.std.proofs.Common.{sym, subst}
use Rattle.cmm_io.specs.SinkBytes.{Writes}
use Rattle.cmm_report.specs.Lines.{head_line}
use Rattle.cmm_report.proofs.report.write_head.Goals as goal

pub returns-then-run : goal.returns-then-run
returns-then-run g c =
    subst (λ run. Writes g.K.Sink.faults g.K.Sink.written c.args.out.now c.write_all.new.out (head_line run) c.write_all.result) (sym c.if-run.true) c.write_all.ensures

pub returns-else-run : goal.returns-else-run
returns-else-run g c =
    subst (λ run. Writes g.K.Sink.faults g.K.Sink.written c.args.out.now c.write_all-else-run.new.out (head_line run) c.write_all-else-run.result) (sym c.if-run.false) c.write_all-else-run.ensures
