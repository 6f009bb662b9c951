use Rattle.std.proofs.Common.{true, false, refl, ap, subst, ◌∙◌}
use Rattle.cmm_flat.specs.Legal.{process_of}
use Rattle.guest_rules.proofs.Cases.TurnCases.{Starts, wanted_tag}
use Rattle.guest_core.proofs.Commands.{load-looks_up, store-looks_up, pin-looks_up, load-reaches, store-reaches}
use Rattle.guest_core.proofs.Commands.{place-reaches, new-mapping, slot-free, new-own, slot-free_own, sync-begins, unmap-looks_up}
use Rattle.guest_core.proofs.OtherTurns.{same_run, accepted-read, accepted-write, accepted-map, accepted-map_own, accepted-load}
use Rattle.guest_core.proofs.OtherTurns.{accepted-store, new-fresh, accepted-pin, accepted-unpin, accepted-sync, accepted-unmap}
use Rattle.guest_core.proofs.guest.Guest.start_accepted.Goals as goal

-- ---- a read, and a write

pub start_tagged-requires-clause-wants : goal.start_tagged-requires-clause-wants
start_tagged-requires-clause-wants g c = ap (wanted_tag c.args.self.now.parts (process_of c.args.self.now.plan c.args.cpu)) c.in-Read.is

pub returns-in-Read : goal.returns-in-Read
returns-in-Read g c =
    record {
      row = same_run g.St.Storage.step c.args.st.now c.start_tagged.new.st c.start_tagged.new.self c.start_tagged.result _ _
          (accepted-read c.args.self.now c.args.cpu c.args.op.now _ _ _ c.in-Read.is) c.start_tagged.ensures.row;
    }

pub start_tagged-requires-in-Write-clause-wants : goal.start_tagged-requires-in-Write-clause-wants
start_tagged-requires-in-Write-clause-wants g c = ap (wanted_tag c.args.self.now.parts (process_of c.args.self.now.plan c.args.cpu)) c.in-Write.is

pub returns-in-Write : goal.returns-in-Write
returns-in-Write g c =
    record {
      row = same_run g.St.Storage.step c.args.st.now c.start_tagged-in-Write.new.st c.start_tagged-in-Write.new.self c.start_tagged-in-Write.result _ _
          (accepted-write c.args.self.now c.args.cpu c.args.op.now _ _ _ c.in-Write.is) c.start_tagged-in-Write.ensures.row;
    }

-- ---- a new mapping

pub map_turn-requires-clause-range : goal.map_turn-requires-clause-range
map_turn-requires-clause-range g c = new-mapping c.args.self.now _ c.requires.fit c.args.cpu c.args.op.now _ _ _ _ _ c.requires.starts.has c.in-MapFile.is

pub map_turn-requires-clause-new : goal.map_turn-requires-clause-new
map_turn-requires-clause-new g c = new-fresh c.args.self.now _ _ (subst (λ op. Starts c.args.self.now c.args.cpu op) c.in-MapFile.is c.requires.starts).accepted

pub map_turn-requires-clause-free : goal.map_turn-requires-clause-free
map_turn-requires-clause-free g c = slot-free c.args.self.now _ c.requires.fit c.args.cpu c.args.op.now _ _ _ _ _ c.requires.starts c.in-MapFile.is

pub returns-in-MapFile : goal.returns-in-MapFile
returns-in-MapFile g c =
    record {
      row = same_run g.St.Storage.step c.args.st.now c.args.st.now c.map_turn.new.self c.map_turn.result _ _
          (accepted-map c.args.self.now c.args.cpu c.args.op.now _ _ _ _ _ c.in-MapFile.is ∙ c.map_turn.ensures.row) (refl, refl, refl);
    }

pub map_turn-requires-in-MapAnon-clause-range : goal.map_turn-requires-in-MapAnon-clause-range
map_turn-requires-in-MapAnon-clause-range g c = new-own c.args.self.now _ c.requires.fit c.args.cpu c.args.op.now _ _ c.requires.starts.has c.in-MapAnon.is

pub map_turn-requires-in-MapAnon-clause-new : goal.map_turn-requires-in-MapAnon-clause-new
map_turn-requires-in-MapAnon-clause-new g c = new-fresh c.args.self.now true _ (subst (λ op. Starts c.args.self.now c.args.cpu op) c.in-MapAnon.is c.requires.starts).accepted

pub map_turn-requires-in-MapAnon-clause-free : goal.map_turn-requires-in-MapAnon-clause-free
map_turn-requires-in-MapAnon-clause-free g c = slot-free_own c.args.self.now _ c.requires.fit c.args.cpu c.args.op.now _ _ c.requires.starts c.in-MapAnon.is

pub returns-in-MapAnon : goal.returns-in-MapAnon
returns-in-MapAnon g c =
    record {
      row = same_run g.St.Storage.step c.args.st.now c.args.st.now c.map_turn-in-MapAnon.new.self c.map_turn-in-MapAnon.result _ _
          (accepted-map_own c.args.self.now c.args.cpu c.args.op.now _ _ c.in-MapAnon.is ∙ c.map_turn-in-MapAnon.ensures.row) (refl, refl, refl);
    }

-- ---- a mapping's end

pub unmap_turn-requires-clause-looks_up : goal.unmap_turn-requires-clause-looks_up
unmap_turn-requires-clause-looks_up g c = unmap-looks_up c.args.self.now _ c.requires.fit c.args.cpu c.args.op.now _ c.requires.starts.has c.in-Unmap.is

pub returns-in-Unmap : goal.returns-in-Unmap
returns-in-Unmap g c =
    record {
      row = same_run g.St.Storage.step c.args.st.now c.args.st.now c.unmap_turn.new.self c.unmap_turn.result _ _
          (accepted-unmap c.args.self.now c.args.cpu c.args.op.now _ c.in-Unmap.is ∙ c.unmap_turn.ensures.row) (refl, refl, refl);
    }

-- ---- a load, and a store

pub start_mapped-requires-clause-looks_up : goal.start_mapped-requires-clause-looks_up
start_mapped-requires-clause-looks_up g c = load-looks_up c.args.self.now _ c.requires.fit c.args.cpu c.args.op.now _ _ _ c.requires.starts.has c.in-Load.is

pub start_mapped-requires-clause-reaches : goal.start_mapped-requires-clause-reaches
start_mapped-requires-clause-reaches g c = load-reaches c.args.self.now _ c.requires.fit c.args.cpu c.args.op.now _ _ _ c.requires.starts c.in-Load.is

pub returns-in-Load : goal.returns-in-Load
returns-in-Load g c =
    record {
      row = same_run g.St.Storage.step c.args.st.now c.start_mapped.new.st c.start_mapped.new.self c.start_mapped.result _ _
          (accepted-load c.args.self.now c.args.cpu c.args.op.now _ _ _ c.in-Load.is) c.start_mapped.ensures.row;
    }

pub start_mapped-requires-in-Store-clause-looks_up : goal.start_mapped-requires-in-Store-clause-looks_up
start_mapped-requires-in-Store-clause-looks_up g c = store-looks_up c.args.self.now _ c.requires.fit c.args.cpu c.args.op.now _ _ _ c.requires.starts.has c.in-Store.is

pub start_mapped-requires-in-Store-clause-reaches : goal.start_mapped-requires-in-Store-clause-reaches
start_mapped-requires-in-Store-clause-reaches g c = store-reaches c.args.self.now _ c.requires.fit c.args.cpu c.args.op.now _ _ _ c.requires.starts c.in-Store.is

pub returns-in-Store : goal.returns-in-Store
returns-in-Store g c =
    record {
      row = same_run g.St.Storage.step c.args.st.now c.start_mapped-in-Store.new.st c.start_mapped-in-Store.new.self c.start_mapped-in-Store.result _ _
          (accepted-store c.args.self.now c.args.cpu c.args.op.now _ _ _ c.in-Store.is) c.start_mapped-in-Store.ensures.row;
    }

-- ---- a pin, and its end

pub start_placed-requires-clause-looks_up : goal.start_placed-requires-clause-looks_up
start_placed-requires-clause-looks_up g c = pin-looks_up c.args.self.now _ c.requires.fit c.args.cpu c.args.op.now true _ _ c.requires.starts.has c.in-Pin.is

pub start_placed-requires-clause-reaches : goal.start_placed-requires-clause-reaches
start_placed-requires-clause-reaches g c = place-reaches c.args.self.now _ c.requires.fit c.args.cpu c.args.op.now true _ _ c.requires.starts c.in-Pin.is

pub returns-in-Pin : goal.returns-in-Pin
returns-in-Pin g c =
    record {
      row = same_run g.St.Storage.step c.args.st.now c.start_placed.new.st c.start_placed.new.self c.start_placed.result _ _
          (accepted-pin c.args.self.now c.args.cpu c.args.op.now _ _ c.in-Pin.is) c.start_placed.ensures.row;
    }

pub start_placed-requires-in-Unpin-clause-looks_up : goal.start_placed-requires-in-Unpin-clause-looks_up
start_placed-requires-in-Unpin-clause-looks_up g c = pin-looks_up c.args.self.now _ c.requires.fit c.args.cpu c.args.op.now false _ _ c.requires.starts.has c.in-Unpin.is

pub start_placed-requires-in-Unpin-clause-reaches : goal.start_placed-requires-in-Unpin-clause-reaches
start_placed-requires-in-Unpin-clause-reaches g c = place-reaches c.args.self.now _ c.requires.fit c.args.cpu c.args.op.now false _ _ c.requires.starts c.in-Unpin.is

pub returns-in-Unpin : goal.returns-in-Unpin
returns-in-Unpin g c =
    record {
      row = same_run g.St.Storage.step c.args.st.now c.start_placed-in-Unpin.new.st c.start_placed-in-Unpin.new.self c.start_placed-in-Unpin.result _ _
          (accepted-unpin c.args.self.now c.args.cpu c.args.op.now _ _ c.in-Unpin.is) c.start_placed-in-Unpin.ensures.row;
    }

-- ---- a sync

pub sync_turn-requires-clause-syncing : goal.sync_turn-requires-clause-syncing
sync_turn-requires-clause-syncing g c = sync-begins c.args.self.now _ c.requires.fit c.args.cpu c.args.op.now c.in-Sync.file c.requires.starts c.in-Sync.is

pub returns-in-Sync : goal.returns-in-Sync
returns-in-Sync g c =
    record {
      row = same_run g.St.Storage.step c.args.st.now c.sync_turn.new.st c.sync_turn.new.self c.sync_turn.result _ _
          (accepted-sync c.args.self.now c.args.cpu c.args.op.now _ c.in-Sync.is) c.sync_turn.ensures.row;
    }
