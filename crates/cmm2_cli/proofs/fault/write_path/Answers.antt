use Rattle.std.proofs.Common.{codes}
use Rattle.cmm_io.specs.Laws.SinkBytesLaws.{Writes-then, Writes-stop}
use Rattle.cmm2_cli.proofs.fault.write_path.Goals as goal

pub returns-in_err-write_all : goal.returns-in_err-write_all
returns-in_err-write_all g c = Writes-stop g.K.Sink.faults g.K.Sink.written _ _ (codes "refused ") c.args.path.now _ _ c.from_residual.ensures.0 c.in_err-write_all.ensures

pub returns : goal.returns
returns g c = Writes-then g.K.Sink.faults g.K.Sink.written _ _ _ (codes "refused ") c.args.path.now _ _ c.in_ok-write_all.ensures c.write_all-2.ensures
