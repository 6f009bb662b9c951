use Rattle.guest_core.proofs.Syncs.{at-sync}
use Rattle.guest_core.proofs.OtherTurns.{same_run, looks-sync}
use Rattle.guest_core.proofs.guest.Guest.look_turn.Goals as goal

pub sync_turn-requires-clause-syncing : goal.sync_turn-requires-clause-syncing
sync_turn-requires-clause-syncing g c = at-sync c.args.self.now _ c.args.cpu c.args.op.now c.in-Sync.file c.args.index c.requires.fit c.requires.command c.in-Sync.is c.requires.phase

pub returns-in-Sync : goal.returns-in-Sync
returns-in-Sync g c =
    record {
      row = same_run g.St.Storage.step c.args.st.now c.sync_turn.new.st c.sync_turn.new.self c.sync_turn.result _ _
          (looks-sync c.args.self.now c.args.cpu c.args.op.now _ c.args.index c.in-Sync.is) c.sync_turn.ensures.row;
    }
