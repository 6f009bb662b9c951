use Rattle.std.proofs.Common.{◌++◌, codes}
use Rattle.cmm_io.specs.Laws.SinkBytesLaws.{Writes-then, Writes-stop}
use Rattle.cmm2_cli.proofs.fault.write_fault.Goals as goal

pub returns-in_err-write_path : goal.returns-in_err-write_path
returns-in_err-write_path g c = Writes-stop g.K.Sink.faults g.K.Sink.written _ _ (codes "refused " ++ c.args.path.now) c.args.end.now _ _ c.from_residual.ensures.0 c.in_err-write_path.ensures

pub returns : goal.returns
returns g c = Writes-then g.K.Sink.faults g.K.Sink.written _ _ _ (codes "refused " ++ c.args.path.now) c.args.end.now _ _ c.in_ok-write_path.ensures c.write_all.ensures
