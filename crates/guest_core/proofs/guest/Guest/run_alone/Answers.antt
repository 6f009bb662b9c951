use Rattle.std.proofs.Common.{◌+◌, refl, ◌∙◌}
use Rattle.cmm_types.specs.declared.turn.Turn.TheVariants.{Finished, Waits, Again, Idle}
use Rattle.cmm_types.specs.declared.turn.Alone.TheVariants.{Finished as AloneFinished, Waits as AloneWaits, Idle as AloneIdle}
use Rattle.guest_core.proofs.AloneRuns.{turns-below, turns-past, begins, moved_on, stopped, ran_out, still_there}
use Rattle.guest_core.proofs.guest.Guest.run_alone.Goals as goal

pub loop-turns-init : goal.loop-turns-init
loop-turns-init g c =
    (c.requires.cpu, c.requires.fit, refl, λ b s d run. begins g.St.Storage.step g.D.Disk.step c.args.cpu c.args.self.now c.args.st.now s c.args.disk.now d b run)

pub returns-in-Finished-clause-row : goal.returns-in-Finished-clause-row
returns-in-Finished-clause-row g c =
    c.loop-turns.invariant.3 _ _ _
    (stopped g.St.Storage.step g.D.Disk.step c.loop-turns.turns c.args.cpu c.loop-turns.self c.step.new.self c.step.result
    Finished (AloneFinished (c.loop-turns.turns + 1))
    c.loop-turns.st c.step.new.st c.loop-turns.disk c.step.new.disk (turns-below c.loop-turns.turns c.loop-turns-test.true) c.step.ensures.row c.in-Finished.is refl)

pub returns-in-Waits-clause-row : goal.returns-in-Waits-clause-row
returns-in-Waits-clause-row g c =
    c.loop-turns.invariant.3 _ _ _
    (stopped g.St.Storage.step g.D.Disk.step c.loop-turns.turns c.args.cpu c.loop-turns.self c.step.new.self c.step.result
    (Waits c.in-Waits.page c.in-Waits.owner) (AloneWaits c.loop-turns.turns c.in-Waits.page c.in-Waits.owner)
    c.loop-turns.st c.step.new.st c.loop-turns.disk c.step.new.disk (turns-below c.loop-turns.turns c.loop-turns-test.true) c.step.ensures.row c.in-Waits.is refl)

pub returns-in-Again-clause-row : goal.returns-in-Again-clause-row
returns-in-Again-clause-row g c =
    c.loop-turns.invariant.3 _ _ _
    (stopped g.St.Storage.step g.D.Disk.step c.loop-turns.turns c.args.cpu c.loop-turns.self c.step.new.self c.step.result
    (Again c.in-Again.why) AloneIdle
    c.loop-turns.st c.step.new.st c.loop-turns.disk c.step.new.disk (turns-below c.loop-turns.turns c.loop-turns-test.true) c.step.ensures.row c.in-Again.is refl)

pub returns-in-Idle-clause-row : goal.returns-in-Idle-clause-row
returns-in-Idle-clause-row g c =
    c.loop-turns.invariant.3 _ _ _
    (stopped g.St.Storage.step g.D.Disk.step c.loop-turns.turns c.args.cpu c.loop-turns.self c.step.new.self c.step.result
    Idle AloneIdle
    c.loop-turns.st c.step.new.st c.loop-turns.disk c.step.new.disk (turns-below c.loop-turns.turns c.loop-turns-test.true) c.step.ensures.row c.in-Idle.is refl)

pub loop-turns-preserved : goal.loop-turns-preserved
loop-turns-preserved g c = (
  still_there c.loop-turns.self c.step.new.self (g.St.Storage.view c.loop-turns.st) (g.St.Storage.view c.step.new.st)
      (g.D.Disk.view c.loop-turns.disk) (g.D.Disk.view c.step.new.disk) c.args.cpu c.loop-turns.invariant.1 c.step.ensures.fit c.step.ensures.plan c.loop-turns.invariant.0,
  c.step.ensures.fit,
  c.step.ensures.plan ∙ c.loop-turns.invariant.2,
  λ b s d next.
      c.loop-turns.invariant.3 b s d
      (moved_on g.St.Storage.step g.D.Disk.step c.loop-turns.turns c.args.cpu c.loop-turns.self c.step.new.self c.step.result
      c.loop-turns.st c.step.new.st s c.loop-turns.disk c.step.new.disk d b (turns-below c.loop-turns.turns c.loop-turns-test.true) c.step.ensures.row c.in-Moved.is next),
)

pub returns-clause-row : goal.returns-clause-row
returns-clause-row g c =
    c.loop-turns.invariant.3 _ _ _
    (ran_out g.St.Storage.step g.D.Disk.step c.loop-turns.turns c.args.cpu c.loop-turns.self c.loop-turns.st c.loop-turns.disk (turns-past c.loop-turns.turns c.loop-turns-test.false))
