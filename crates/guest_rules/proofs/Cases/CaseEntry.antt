-- Every run of a load or store that finds its entry is one of the cases of a turn.
use Rattle.std.specs.Prelude.{◌≡◌, ℕ, ◌/◌, ◌%◌, List, true, false, Some, Result, Ok, Err}
use Rattle.std.proofs.Common.{ap, ◌∙◌}
use Rattle.cmm_types.specs.declared.page.TheConstants.{PAGE}
use Rattle.cmm_types.specs.declared.command.Op.TheVariants.{Load, Store}
use Rattle.cmm_types.specs.declared.command.Reply.TheVariants.{Done, Bytes as BytesReply, Fail}
use Rattle.cmm_types.specs.declared.command.Cause.TheVariants.{Disk, Paging, NoPage}
use Rattle.cmm_types.specs.declared.turn.Turn.{Turn}
use Rattle.cmm_flat.specs.State.{FlatState}
use Rattle.cmm_io.specs.DiskView.{DiskView}
use Rattle.cmm_storage.specs.StorageView.{StorageView}
use Rattle.cmm_storage.specs.Views.{Seen, unbind}
use Rattle.guest_maps.specs.declared.slot.Pte.{Pte}
use Rattle.guest_maps.specs.MapsView.{entry_at}
use Rattle.guest_rules.specs.declared.parts.Parts.{Parts}
use Rattle.guest_rules.specs.declared.outcome.Missed.{Missed}
use Rattle.guest_rules.specs.declared.outcome.Missed.TheVariants.{Gone as MissedGone, Again as MissedAgain, Fail as MissedFail}
use Rattle.guest_rules.specs.Rows.{load_page, store_through}
use Rattle.guest_rules.specs.GuestState.{GuestState, with_parts, entered}
use Rattle.guest_rules.specs.Turns.{hit_turn, read_next, done_next}
use Rattle.guest_rules.specs.Fit.{FitAt}
use Rattle.guest_rules.proofs.Cases.TurnCases.{TurnCase, missed, was_gone, was_loaded, was_stored, entry_failed}
use Rattle.guest_rules.proofs.Rows.EntryPage.{LoadOutcome, StoreOutcome, seen_load_page, seen_store_through}
use Rattle.guest_rules.proofs.Ready.Ready.{can_be_shown, lost_unlocked}
use Rattle.guest_rules.proofs.Cases.Reached.{Reaches, entry_page}

-- state the flat machine's state, g the guest before, v and w its storage before and after, d and e its disk before and after, cpu the processor, number the number of a mapping, off where in it
module _ (state : FlatState) (g : GuestState) (v w : StorageView) (d e : DiskView) (cpu number off : ℕ) where
  -- a load
  case_load_next : (n : StorageView) (y : DiskView) (len slot : ℕ) (pte : Pte) (parts : Parts) (r : Result (List ℕ) Missed) (h : GuestState) (t : Turn) → FitAt state g v d
      → Reaches g cpu (Load number off len) false slot off → entry_at g.parts.maps slot (off / PAGE) ≡ Some pte → LoadOutcome g.parts pte.page (off % PAGE) len v d parts r n y
      → Seen {A = GuestState × Turn} (read_next g cpu (Load number off len) parts r) n y (h, t) w e → TurnCase g cpu v d h t w e
  case_load_next n y len slot pte parts (Ok bytes) h t f k at (tables, loaded) (ea, em, ed) =
      was_loaded number off len slot pte.page pte.writable loaded.all k.starts k.maps.1 at (rw em loaded.are)
      (ap (λ q. q.0) ea ∙ ap (λ q. entered (with_parts g q) cpu (Load number off len) (BytesReply bytes)) tables ∙ ap (λ q. entered g cpu (Load number off len) (BytesReply q)) loaded.loaded)
      (ap (λ q. q.1) ea) (rw (em, ed) loaded.may)
  case_load_next n y len slot pte parts (Err MissedGone) h t f k at o (ea, em, ed) =
      was_gone (Load number off len) k.tag pte.page o.found k.starts k.wants
      (lost_unlocked state g v d pte.page k.tag o.found f (entry_page state g v d cpu (Load number off len) false slot off pte f k at) o.may o.lost)
      (ap (λ q. q.0) ea ∙ ap (λ q. with_parts g q) o.tables) (ap (λ q. q.1) ea) (rw (em, ed) o.back) o.may o.lost (rw em o.unused) o.quiet
  case_load_next n y len slot pte parts (Err (MissedAgain why)) h t f k at (tables, may, misses, disk) (ea, em, ed) =
      missed (Load number off len) why k.starts.has (ap (λ q. q.0) ea ∙ ap (λ q. with_parts g q) tables) (ap (λ q. q.1) ea) (rw (em, ed) may) (rw em misses) (ed ∙ disk)
  case_load_next n y len slot pte parts (Err (MissedFail Paging)) h t f k at (tables, may, risen) (ea, em, ed) =
      entry_failed (Load number off len) false slot off k.starts k.maps
      (ap (λ q. q.0) ea ∙ ap (λ q. entered (with_parts g q) cpu (Load number off len) (Fail Paging)) tables) (ap (λ q. q.1) ea) (rw (em, ed) may) (rw em risen)
  case_load_next n y len slot pte parts (Err (MissedFail Disk)) h t f k at o run = absurd o
  case_load_next n y len slot pte parts (Err (MissedFail (NoPage pinned unslotted))) h t f k at o run = absurd o

  pub case_load : (len slot : ℕ) (pte : Pte) (h : GuestState) (t : Turn) → FitAt state g v d → Reaches g cpu (Load number off len) false slot off → entry_at g.parts.maps slot (off / PAGE) ≡ Some pte
      → Seen {A = GuestState × Turn} (hit_turn g cpu (Load number off len) pte.page) v d (h, t) w e → TurnCase g cpu v d h t w e
  unfolding hit_turn
  case_load len slot pte h t f k at run =
      let x = unbind (load_page g.parts pte.page (off % PAGE) len) (λ went. read_next g cpu (Load number off len) went.0 went.1) v d (h, t) w e run in
      let can = can_be_shown state g v d pte.page k.tag f (entry_page state g v d cpu (Load number off len) false slot off pte f k at) in
      let o = seen_load_page g.parts pte.page (off % PAGE) len v d x.answer.0 x.answer.1 x.storage x.disk can x.first in
      case_load_next x.storage x.disk len slot pte x.answer.0 x.answer.1 h t f k at o x.second

  -- a store
  case_store_next : (n : StorageView) (y : DiskView) (bytes : List ℕ) (slot : ℕ) (pte : Pte) (parts : Parts) (r : Result Unit Missed) (h : GuestState) (t : Turn) → FitAt state g v d
      → Reaches g cpu (Store number off bytes) true slot off → entry_at g.parts.maps slot (off / PAGE) ≡ Some pte → pte.writable ≡ true
      → StoreOutcome g.parts pte.page (off % PAGE) bytes v d parts r n y → Seen {A = GuestState × Turn} (done_next g cpu (Store number off bytes) parts r) n y (h, t) w e → TurnCase g cpu v d h t w e
  case_store_next n y bytes slot pte parts (Ok u) h t f k at writable (tables, stored) (ea, em, ed) =
      was_stored number off bytes slot pte.page stored.found stored.all k.starts k.maps.1 (at ∙ ap (λ q. Some (record { page = pte.page; writable = q })) writable)
      (rw (em, ed) stored.back) stored.may stored.are (rw em stored.value)
      (ap (λ q. q.0) ea ∙ ap (λ q. entered (with_parts g q) cpu (Store number off bytes) Done) tables) (ap (λ q. q.1) ea)
  case_store_next n y bytes slot pte parts (Err MissedGone) h t f k at writable o (ea, em, ed) =
      was_gone (Store number off bytes) k.tag pte.page o.found k.starts k.wants
      (lost_unlocked state g v d pte.page k.tag o.found f (entry_page state g v d cpu (Store number off bytes) true slot off pte f k at) o.may o.lost)
      (ap (λ q. q.0) ea ∙ ap (λ q. with_parts g q) o.tables) (ap (λ q. q.1) ea) (rw (em, ed) o.back) o.may o.lost (rw em o.unused) o.quiet
  case_store_next n y bytes slot pte parts (Err (MissedAgain why)) h t f k at writable (tables, may, misses, disk) (ea, em, ed) =
      missed (Store number off bytes) why k.starts.has (ap (λ q. q.0) ea ∙ ap (λ q. with_parts g q) tables) (ap (λ q. q.1) ea) (rw (em, ed) may) (rw em misses) (ed ∙ disk)
  case_store_next n y bytes slot pte parts (Err (MissedFail Paging)) h t f k at writable (tables, may, risen) (ea, em, ed) =
      entry_failed (Store number off bytes) true slot off k.starts k.maps
      (ap (λ q. q.0) ea ∙ ap (λ q. entered (with_parts g q) cpu (Store number off bytes) (Fail Paging)) tables) (ap (λ q. q.1) ea) (rw (em, ed) may) (rw em risen)
  case_store_next n y bytes slot pte parts (Err (MissedFail Disk)) h t f k at writable o run = absurd o
  case_store_next n y bytes slot pte parts (Err (MissedFail (NoPage pinned unslotted))) h t f k at writable o run = absurd o

  pub case_store : (bytes : List ℕ) (slot : ℕ) (pte : Pte) (h : GuestState) (t : Turn) → FitAt state g v d → Reaches g cpu (Store number off bytes) true slot off
      → entry_at g.parts.maps slot (off / PAGE) ≡ Some pte → pte.writable ≡ true → Seen {A = GuestState × Turn} (hit_turn g cpu (Store number off bytes) pte.page) v d (h, t) w e
      → TurnCase g cpu v d h t w e
  unfolding hit_turn
  case_store bytes slot pte h t f k at writable run =
      let x = unbind (store_through g.parts pte.page (off % PAGE) bytes) (λ went. done_next g cpu (Store number off bytes) went.0 went.1) v d (h, t) w e run in
      let can = can_be_shown state g v d pte.page k.tag f (entry_page state g v d cpu (Store number off bytes) true slot off pte f k at) in
      let o = seen_store_through g.parts pte.page (off % PAGE) bytes v d x.answer.0 x.answer.1 x.storage x.disk can x.first in
      case_store_next x.storage x.disk bytes slot pte x.answer.0 x.answer.1 h t f k at writable o x.second
