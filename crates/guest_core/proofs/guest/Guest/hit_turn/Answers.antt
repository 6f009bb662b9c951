use Rattle.guest_core.proofs.Commands.{load-bytes, store-bytes}
use Rattle.guest_core.proofs.Entries.{hit-loads, hit-stores}
use Rattle.guest_core.proofs.OtherTurns.{same_run, hit-load, hit-store}
use Rattle.guest_core.proofs.guest.Guest.hit_turn.Goals as goal

pub load_turn-requires-clause-loads : goal.load_turn-requires-clause-loads
load_turn-requires-clause-loads g c = hit-loads c.args.self.now _ c.requires.fit.0 c.args.cpu c.args.op.now c.args.page c.requires.fit.1 c.requires.hits

pub load_turn-requires-clause-piece : goal.load_turn-requires-clause-piece
load_turn-requires-clause-piece g c = load-bytes c.args.self.now _ c.requires.fit c.args.cpu c.args.op.now _ _ _ c.requires.hits.reaches.starts.has c.in-Load.is

pub returns-in-Load : goal.returns-in-Load
returns-in-Load g c =
    record {
      row = same_run g.St.Storage.step c.args.st.now c.load_turn.new.st c.load_turn.new.self c.load_turn.result _ _
          (hit-load c.args.self.now c.args.cpu c.args.op.now c.args.page _ _ _ c.in-Load.is) c.load_turn.ensures.row;
    }

pub store_turn-requires-clause-stores : goal.store_turn-requires-clause-stores
store_turn-requires-clause-stores g c =
    hit-stores c.args.self.now _ c.requires.fit.0 c.args.cpu c.args.op.now c.args.page _ _ _ c.requires.fit.1 c.requires.hits c.in-Store.is

pub store_turn-requires-clause-piece : goal.store_turn-requires-clause-piece
store_turn-requires-clause-piece g c = store-bytes c.args.self.now _ c.requires.fit c.args.cpu c.args.op.now _ _ _ c.requires.hits.reaches.starts.has c.in-Store.is

pub returns-in-Store : goal.returns-in-Store
returns-in-Store g c =
    record {
      row = same_run g.St.Storage.step c.args.st.now c.store_turn.new.st c.store_turn.new.self c.store_turn.result _ _
          (hit-store c.args.self.now c.args.cpu c.args.op.now c.args.page _ _ _ c.in-Store.is) c.store_turn.ensures.row;
    }
