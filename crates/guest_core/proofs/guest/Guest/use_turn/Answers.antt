use Rattle.std.proofs.Common.{true, false}
use Rattle.guest_core.proofs.Commands.{read-bytes, write-bytes, load-looks_up, store-looks_up, pin-looks_up, load-maps, store-maps, can_pin}
use Rattle.guest_core.proofs.OtherTurns.{same_run, use-read, use-write, use-load, use-store, use-pin, use-unpin}
use Rattle.guest_core.proofs.guest.Guest.use_turn.Goals as goal

-- ---- a read, and a write

pub read_turn-requires-clause-piece : goal.read_turn-requires-clause-piece
read_turn-requires-clause-piece g c = read-bytes c.args.self.now _ c.requires.fit c.args.cpu c.args.op.now _ _ _ c.requires.starts.has c.in-Read.is

pub returns-in-Read : goal.returns-in-Read
returns-in-Read g c =
    record {
      row = same_run g.St.Storage.step c.args.st.now c.read_turn.new.st c.read_turn.new.self c.read_turn.result _ _
          (use-read c.args.self.now c.args.cpu c.args.op.now c.args.page _ _ _ c.in-Read.is) c.read_turn.ensures.row;
    }

pub write_turn-requires-clause-piece : goal.write_turn-requires-clause-piece
write_turn-requires-clause-piece g c = write-bytes c.args.self.now _ c.requires.fit c.args.cpu c.args.op.now _ _ _ c.requires.starts.has c.in-Write.is

pub returns-in-Write : goal.returns-in-Write
returns-in-Write g c =
    record {
      row = same_run g.St.Storage.step c.args.st.now c.write_turn.new.st c.write_turn.new.self c.write_turn.result _ _
          (use-write c.args.self.now c.args.cpu c.args.op.now c.args.page _ _ _ c.in-Write.is) c.write_turn.ensures.row;
    }

-- ---- a load, and a store: its entry is to be set

pub resolve_turn-requires-clause-looks_up : goal.resolve_turn-requires-clause-looks_up
resolve_turn-requires-clause-looks_up g c = load-looks_up c.args.self.now _ c.requires.fit c.args.cpu c.args.op.now _ _ _ c.requires.starts.has c.in-Load.is

pub resolve_turn-requires-clause-maps : goal.resolve_turn-requires-clause-maps
resolve_turn-requires-clause-maps g c = load-maps c.args.self.now _ c.requires.fit c.args.cpu c.args.op.now _ _ _ c.args.page c.requires.starts c.in-Load.is

pub returns-in-Load : goal.returns-in-Load
returns-in-Load g c =
    record {
      row = same_run g.St.Storage.step c.args.st.now c.resolve_turn.new.st c.resolve_turn.new.self c.resolve_turn.result _ _
          (use-load c.args.self.now c.args.cpu c.args.op.now c.args.page _ _ _ c.in-Load.is) c.resolve_turn.ensures.row;
    }

pub resolve_turn-requires-in-Store-clause-looks_up : goal.resolve_turn-requires-in-Store-clause-looks_up
resolve_turn-requires-in-Store-clause-looks_up g c = store-looks_up c.args.self.now _ c.requires.fit c.args.cpu c.args.op.now _ _ _ c.requires.starts.has c.in-Store.is

pub resolve_turn-requires-in-Store-clause-maps : goal.resolve_turn-requires-in-Store-clause-maps
resolve_turn-requires-in-Store-clause-maps g c = store-maps c.args.self.now _ c.requires.fit c.args.cpu c.args.op.now _ _ _ c.args.page c.requires.starts c.in-Store.is

pub returns-in-Store : goal.returns-in-Store
returns-in-Store g c =
    record {
      row = same_run g.St.Storage.step c.args.st.now c.resolve_turn-in-Store.new.st c.resolve_turn-in-Store.new.self c.resolve_turn-in-Store.result _ _
          (use-store c.args.self.now c.args.cpu c.args.op.now c.args.page _ _ _ c.in-Store.is) c.resolve_turn-in-Store.ensures.row;
    }

-- ---- a pin, and its end

pub pin_turn-requires-clause-looks_up : goal.pin_turn-requires-clause-looks_up
pin_turn-requires-clause-looks_up g c = pin-looks_up c.args.self.now _ c.requires.fit c.args.cpu c.args.op.now true _ _ c.requires.starts.has c.in-Pin.is

pub pin_turn-requires-clause-pin : goal.pin_turn-requires-clause-pin
pin_turn-requires-clause-pin g c = can_pin c.args.self.now _ c.requires.fit c.args.cpu c.args.op.now true _ _ c.args.page c.requires.starts c.requires.found c.in-Pin.is

pub returns-in-Pin : goal.returns-in-Pin
returns-in-Pin g c =
    record {
      row = same_run g.St.Storage.step c.args.st.now c.pin_turn.new.st c.pin_turn.new.self c.pin_turn.result _ _
          (use-pin c.args.self.now c.args.cpu c.args.op.now c.args.page _ _ c.in-Pin.is) c.pin_turn.ensures.row;
    }

pub pin_turn-requires-in-Unpin-clause-looks_up : goal.pin_turn-requires-in-Unpin-clause-looks_up
pin_turn-requires-in-Unpin-clause-looks_up g c = pin-looks_up c.args.self.now _ c.requires.fit c.args.cpu c.args.op.now false _ _ c.requires.starts.has c.in-Unpin.is

pub pin_turn-requires-in-Unpin-clause-pin : goal.pin_turn-requires-in-Unpin-clause-pin
pin_turn-requires-in-Unpin-clause-pin g c = can_pin c.args.self.now _ c.requires.fit c.args.cpu c.args.op.now false _ _ c.args.page c.requires.starts c.requires.found c.in-Unpin.is

pub returns-in-Unpin : goal.returns-in-Unpin
returns-in-Unpin g c =
    record {
      row = same_run g.St.Storage.step c.args.st.now c.pin_turn-in-Unpin.new.st c.pin_turn-in-Unpin.new.self c.pin_turn-in-Unpin.result _ _
          (use-unpin c.args.self.now c.args.cpu c.args.op.now c.args.page _ _ c.in-Unpin.is) c.pin_turn-in-Unpin.ensures.row;
    }
