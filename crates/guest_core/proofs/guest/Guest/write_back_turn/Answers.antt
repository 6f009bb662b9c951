use Rattle.guest_rules.proofs.Ready.ReadyCalls.{writing-can}
use Rattle.guest_core.proofs.Syncs.{write-next}
use Rattle.guest_core.proofs.OtherTurns.{same_disk_run, back-sync}
use Rattle.guest_core.proofs.guest.Guest.write_back_turn.Goals as goal

pub write_file_back-requires-clause-next : goal.write_file_back-requires-clause-next
write_file_back-requires-clause-next g c = write-next c.args.self.now _ _ c.args.cpu c.args.index c.args.page c.requires.fit c.requires.phase

pub write_file_back-requires-clause-writes : goal.write_file_back-requires-clause-writes
write_file_back-requires-clause-writes g c = writing-can c.args.self.now _ _ c.args.cpu c.args.index c.args.page c.requires.fit c.requires.phase

pub returns-in-Sync : goal.returns-in-Sync
returns-in-Sync g c =
    record {
      row = same_disk_run g.St.Storage.step g.D.Disk.step c.args.st.now c.write_file_back.new.st c.args.disk.now c.write_file_back.new.disk c.write_file_back.new.self
          c.write_file_back.result _ _
          (back-sync c.args.self.now c.args.cpu c.args.op.now _ c.args.index c.args.page c.in-Sync.is) c.write_file_back.ensures.row;
    }
