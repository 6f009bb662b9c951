use Rattle.cmm_storage.specs.Views.{Seen, does_seen}
use Rattle.cmm_types.specs.declared.turn.Turn.{Turn}
use Rattle.guest_rules.specs.GuestState.{GuestState}
use Rattle.guest_rules.specs.Turns.{turn}
use Rattle.guest_rules.proofs.TurnLaws.{Fit-turn, Causes-turn, Discards-turn, plan-turn}
use Rattle.guest_rules.proofs.Causes.TurnEnds.{why_again}
use Rattle.guest_core.proofs.guest.Guest.step.Given.{Over}
use Rattle.guest_core.proofs.guest.Guest.step.Goals as goal

-- what the views show of the turn
seen : (g : Over) (c : goal.After-run_turn g)
    → Seen {A = GuestState × Turn} (turn c.args.self.now c.args.cpu) (g.St.Storage.view c.args.st.now) (g.D.Disk.view c.args.disk.now)
    (c.run_turn.new.self, c.run_turn.result) (g.St.Storage.view c.run_turn.new.st) (g.D.Disk.view c.run_turn.new.disk)
seen g c =
    does_seen g.St.Storage.step g.D.Disk.step g.St.Storage.view g.D.Disk.view g.met.St.Storage.meets g.met.D.Disk.meets (turn c.args.self.now c.args.cpu)
    c.args.st.now c.args.disk.now (c.run_turn.new.self, c.run_turn.result) c.run_turn.new.st c.run_turn.new.disk c.run_turn.ensures.row

pub returns-clause-fit : goal.returns-clause-fit
returns-clause-fit g c = Fit-turn c.args.self.now c.args.cpu _ _ c.run_turn.new.self c.run_turn.result _ _ c.requires.fit c.requires.cpu (seen g c)

pub returns-clause-causes : goal.returns-clause-causes
returns-clause-causes g c = Causes-turn c.args.self.now c.args.cpu _ _ c.run_turn.new.self c.run_turn.result _ _ c.requires.fit c.requires.cpu (seen g c)

pub returns-clause-discards : goal.returns-clause-discards
returns-clause-discards g c = Discards-turn c.args.self.now c.args.cpu _ _ c.run_turn.new.self c.run_turn.result _ _ c.requires.fit c.requires.cpu (seen g c)

pub returns-clause-plan : goal.returns-clause-plan
returns-clause-plan g c = plan-turn c.args.self.now c.args.cpu _ _ c.run_turn.new.self c.run_turn.result _ _ c.requires.fit c.requires.cpu (seen g c)

pub returns-clause-again : goal.returns-clause-again
returns-clause-again g c =
    why_again g.St.Storage.step g.D.Disk.step c.args.self.now c.args.cpu c.run_turn.new.self c.run_turn.result
    c.args.st.now c.run_turn.new.st c.args.disk.now c.run_turn.new.disk c.run_turn.ensures.row
