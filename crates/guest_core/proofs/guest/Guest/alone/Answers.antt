use Rattle.cmm_storage.specs.Views.{Seen, does_seen}
use Rattle.cmm_types.specs.declared.turn.Alone.{Alone}
use Rattle.guest_rules.specs.GuestState.{GuestState}
use Rattle.guest_rules.specs.Alone.{alone}
use Rattle.guest_rules.proofs.TurnLaws.{Causes-alone}
use Rattle.guest_core.proofs.guest.Guest.alone.Given.{Over}
use Rattle.guest_core.proofs.guest.Guest.alone.Goals as goal

-- what the views show of the turns
seen : (g : Over) (c : goal.After-run_alone g)
    → Seen {A = GuestState × Alone} (alone c.args.self.now c.args.cpu) (g.St.Storage.view c.args.st.now) (g.D.Disk.view c.args.disk.now)
    (c.run_alone.new.self, c.run_alone.result) (g.St.Storage.view c.run_alone.new.st) (g.D.Disk.view c.run_alone.new.disk)
seen g c =
    does_seen g.St.Storage.step g.D.Disk.step g.St.Storage.view g.D.Disk.view g.met.St.Storage.meets g.met.D.Disk.meets (alone c.args.self.now c.args.cpu)
    c.args.st.now c.args.disk.now (c.run_alone.new.self, c.run_alone.result) c.run_alone.new.st c.run_alone.new.disk c.run_alone.ensures.row

pub returns-clause-causes : goal.returns-clause-causes
returns-clause-causes g c = Causes-alone c.args.self.now c.args.cpu _ _ c.run_alone.new.self c.run_alone.result _ _ c.requires.quiet c.requires.fit c.requires.cpu (seen g c)
