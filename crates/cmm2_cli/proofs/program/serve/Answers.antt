use Rattle.std.proofs.Common.{◌≡◌, Some, true≢false, refl, sym, subst, rules}
use Rattle.cmm_line.specs.declared.line.Line.TheVariants.{Replay, Check}
use Rattle.cmm_line.specs.Line.{other_line}
use Rattle.cmm2_cli.specs.declared.input.Input.TheVariants.{Scenario, Report}
use Rattle.cmm2_cli.specs.Calls.{IsCall}
use Rattle.cmm2_cli.proofs.program.serve.Goals as goal

not_report : Scenario ≡ Report → ⊥
not_report e = cc

pub returns-in-Some-Replay : goal.returns-in-Some-Replay
returns-in-Some-Replay g c =
    let line : c.args.line ≡ Some Replay = search rules in
    let its = c.read_input.ensures in
    subst (λ l. IsCall g.S.Source.faults g.S.Source.rest g.S.Source.given c.args.src.now c.read_input.new.src g.K.Sink.faults g.K.Sink.written c.args.out.now c.read_input.new.out
    (other_line l) c.read_input.result) (sym line) (record {
      answer = record { answer = its.answer; whole = its.read_whole; fault_within = its.read_fault_within; some_input = its.some_input };
      usage = λ e. absurd (its.usage e);
      rejected = λ e. absurd (not_report (its.rejected e));
      unread = λ e. absurd (true≢false e);
      read_fault = its.read_fault;
      no_read_fault = its.no_read_fault;
      write_fault = its.write_fault;
      no_write_fault = its.no_write_fault;
      no_memory = its.no_memory;
    })

pub returns-in-Some-Check : goal.returns-in-Some-Check
returns-in-Some-Check g c =
    let line : c.args.line ≡ Some Check = search rules in
    let its = c.read_input-in-Some-Check.ensures in
    subst (λ l. IsCall g.S.Source.faults g.S.Source.rest g.S.Source.given c.args.src.now c.read_input-in-Some-Check.new.src g.K.Sink.faults g.K.Sink.written
    c.args.out.now c.read_input-in-Some-Check.new.out (other_line l) c.read_input-in-Some-Check.result) (sym line) (record {
      answer = record { answer = its.answer; whole = its.read_whole; fault_within = its.read_fault_within; some_input = its.some_input };
      usage = λ e. absurd (its.usage e);
      rejected = λ _. refl;
      unread = λ e. absurd (true≢false e);
      read_fault = its.read_fault;
      no_read_fault = its.no_read_fault;
      write_fault = its.write_fault;
      no_write_fault = its.no_write_fault;
      no_memory = its.no_memory;
    })
