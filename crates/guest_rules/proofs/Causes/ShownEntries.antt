-- What stands after the reply to a load or a store.
use Rattle.std.specs.Prelude.{◌≡◌, ℕ, ◌/◌, ◌%◌, List, Bool, true, false, Some, refl}
use Rattle.std.proofs.Common.{ap}
use Rattle.cmm_types.specs.declared.page.TheConstants.{PAGE}
use Rattle.cmm_types.specs.declared.command.Op.{Op}
use Rattle.cmm_types.specs.declared.command.Op.TheVariants.{Load, Store}
use Rattle.cmm_types.specs.declared.command.Reply.{Reply}
use Rattle.cmm_types.specs.declared.command.Reply.TheVariants.{Done, Bytes as BytesReply}
use Rattle.cmm_flat.specs.State.{FlatState}
use Rattle.cmm_flat.specs.Legal.{process_of}
use Rattle.cmm_io.specs.DiskView.{DiskView}
use Rattle.essa_state.specs.PageValue.{PageValue, Bytes, MayBecome}
use Rattle.cmm_storage.specs.StorageView.{StorageView}
use Rattle.cmm_types.specs.Bytes.{with_bytes}
use Rattle.guest_maps.specs.declared.slot.Pte.{Pte}
use Rattle.guest_maps.specs.MapsView.{find_slot, entry_at}
use Rattle.guest_rules.specs.GuestState.{GuestState, processor_at, entered}
use Rattle.guest_rules.specs.Fit.{FitAt}
use Rattle.guest_rules.specs.Cause.{ShowsDone, ShowsBytes, IsShown}
use Rattle.guest_rules.proofs.Cases.TurnCases.{Starts}
use Rattle.cmm_flat.specs.Laws.CommandLaws.{command_in_range}
use Rattle.guest_rules.proofs.Cases.Reached.{Reaches, load_reaches, store_reaches, entry_page}
use Rattle.guest_rules.proofs.Kept.WholePages.{written_there}

-- the entry that a load or store went through still shows its page
shown_entry : (state : FlatState) (g : GuestState) (v : StorageView) (d : DiskView) (cpu number : ℕ) (op : Op) (writes : Bool) (slot off : ℕ) (pte : Pte) (reply : Reply) → FitAt state g v d
    → Reaches g cpu op writes slot off → find_slot g.parts.maps (process_of g.plan cpu) number ≡ Some slot → entry_at g.parts.maps slot (off / PAGE) ≡ Some pte → (writes ≡ true → pte.writable ≡ true)
    → IsShown (entered g cpu op reply) (process_of g.plan cpu) number off writes pte.page
unfolding entered
shown_entry state g v d cpu number op writes slot off pte reply f k found at allows =
    let has = entry_page state g v d cpu op writes slot off pte f k at in
    record { slot = slot; writable = pte.writable; found = found; entry = at; allows = allows; uptodate = has.uptodate }

pub shows_loaded : (state : FlatState) (g : GuestState) (v w : StorageView) (d : DiskView) (cpu number off len slot : ℕ) (pte : Pte) (bytes : List ℕ) → FitAt state g v d
    → Starts g cpu (Load number off len)
    → find_slot g.parts.maps (process_of g.plan cpu) number ≡ Some slot → entry_at g.parts.maps slot (off / PAGE) ≡ Some pte
    → ShowsBytes g cpu (Load number off len) (entered g cpu (Load number off len) (BytesReply bytes))
shows_loaded state g v w d cpu number off len slot pte bytes f starts found at =
    let k = load_reaches state g v d cpu number off len slot f starts found in
    (pte.page, shown_entry state g v d cpu number (Load number off len) false slot off pte (BytesReply bytes) f k found at (λ bad. absurd (cc bad)))

pub shows_stored : (state : FlatState) (g : GuestState) (v w : StorageView) (d e : DiskView) (cpu number off : ℕ) (bytes : List ℕ) (slot page : ℕ) (found : PageValue) (all : List ℕ)
    → FitAt state g v d
    → Starts g cpu (Store number off bytes) → find_slot g.parts.maps (process_of g.plan cpu) number ≡ Some slot
    → entry_at g.parts.maps slot (off / PAGE) ≡ Some (record { page = page; writable = true })
    → MayBecome (v.values page) found → found.contents ≡ Bytes all → w.values page ≡ record found { changed = true; contents = Bytes (with_bytes all (off % PAGE) bytes) }
    → ShowsDone g cpu (Store number off bytes) (entered g cpu (Store number off bytes) Done) w e
shows_stored state g v w d e cpu number off bytes slot page found all f starts at_slot at may are value =
    let pte : Pte = record { page = page; writable = true } in
    let k = store_reaches state g v d cpu number off bytes slot f starts at_slot in
    let has = entry_page state g v d cpu (Store number off bytes) true slot off pte f k at in
    let piece = (command_in_range g.plan cpu (processor_at g cpu).place (Store number off bytes) f.sizes.range starts.has.command).1 in (
      page,
      shown_entry state g v d cpu number (Store number off bytes) true slot off pte Done f k at_slot at (λ e. refl),
      record {
        changed = ap (λ q. q.changed) value;
        all = with_bytes all (off % PAGE) bytes;
        are = ap (λ q. q.contents) value;
        there = written_there state g v d page (off % PAGE) k.tag found all bytes f has may are piece.within_page;
      },
    )
