use Rattle.std.proofs.Common.{inl}
use Rattle.cmm2_cli.specs.Running.{machine_reports}
use Rattle.cmm2_cli.proofs.MachineReports.{are_run_reports, run_accepted}
use Rattle.cmm2_cli.proofs.run.run_plan.Goals as goal

pub returns-in-Ok : goal.returns-in-Ok
returns-in-Ok g c =
    let plan = c.args.plan.now in
    let opened = c.in-Ok.machine in
    let ran = c.run_all.new.machine in
    inl (record {
      reports = machine_reports ran;
      report = c.report_run-status.ensures;
      run = are_run_reports plan opened ran c.in-Ok.ensures c.run_all.ensures;
      accepted = run_accepted plan opened ran c.in-Ok.ensures c.run_all.ensures c.requires c.read_machine_discards.ensures;
    })
