use Rattle.cmm2_cli.proofs.NoMemory.{no_call}
use Rattle.cmm2_cli.proofs.program.cmm2_run.Goals as goal

pub returns-in-Err : goal.returns-in-Err
returns-in-Err g c = no_call g.S.Source.faults g.S.Source.rest g.S.Source.given c.args.src.now g.K.Sink.faults g.K.Sink.written c.args.out.now _
