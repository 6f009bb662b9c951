use Rattle.std.proofs.Common.{inl, subst, false, All}
use Rattle.cmm_report.specs.Report.{report_of}
use Rattle.cmm_world.specs.Run.{run_of}
use Rattle.cmm2_cli.specs.declared.status.Status.TheVariants.{Done}
use Rattle.cmm2_cli.specs.Reports.{reports_of}
use Rattle.cmm_check.specs.Answers.{AnswerFits}
use Rattle.cmm2_cli.specs.Outcome.{Answers}
use Rattle.cmm2_cli.proofs.AcceptedRuns.{run_accepted}
use Rattle.cmm2_cli.proofs.replay.play.Goals as goal

pub returns-in-Ok : goal.returns-in-Ok
returns-in-Ok g c =
    let plan = c.args.plan.now in
    let has = c.in-Ok.ensures in
    inl (record {
      report =
          subst (λ w. Answers g.K.Sink.faults g.K.Sink.written c.args.out.now c.report-status.new.out (report_of false (run_of plan).0 (reports_of w)) Done c.report-status.result) has.state
          (subst (λ list. Answers g.K.Sink.faults g.K.Sink.written c.args.out.now c.report-status.new.out (report_of false list (reports_of c.in-Ok.world.state)) Done c.report-status.result)
          has.answers c.report-status.ensures);
      run = has.legal;
      accepted = run_accepted plan c.in-Ok.world c.requires has (subst (All AnswerFits) c.answers.ensures c.read_answers.ensures) c.read_discards.ensures;
    })
