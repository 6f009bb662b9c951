use Rattle.std.proofs.Common.{◌≡◌, Some, true≢false, sym, subst, rules}
use Rattle.cmm_line.specs.declared.line.Line.TheVariants.{Run}
use Rattle.cmm_line.specs.Line.{run_line}
use Rattle.cmm2_cli.specs.Calls.{IsCall}
use Rattle.cmm2_cli.proofs.program.serve_run.Goals as goal

pub returns-in-Some-Run : goal.returns-in-Some-Run
returns-in-Some-Run g c =
    let line : c.args.line ≡ Some Run = search rules in
    let its = c.read_run.ensures in
    subst (λ l. IsCall g.S.Source.faults g.S.Source.rest g.S.Source.given c.args.src.now c.read_run.new.src g.K.Sink.faults g.K.Sink.written c.args.out.now c.read_run.new.out
    (run_line l) c.read_run.result) (sym line) (record {
      answer = record { answer = its.answer; whole = its.read_whole; fault_within = its.read_fault_within; some_input = its.some_input };
      usage = λ e. absurd (its.usage e);
      rejected = λ e. absurd (its.rejected e);
      unread = λ e. absurd (true≢false e);
      read_fault = its.read_fault;
      no_read_fault = its.no_read_fault;
      write_fault = its.write_fault;
      no_write_fault = its.no_write_fault;
      no_memory = its.no_memory;
    })
