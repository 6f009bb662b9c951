-- Every run of a turn that finds the page of its command's tag is one of the cases of a turn.
use Rattle.std.specs.Prelude.{◌≡◌, ℕ, ◌/◌, ◌%◌, List, Bool, true, false, Some, Result, Ok, Err, refl}
use Rattle.std.proofs.Common.{ap, subst, ◌∙◌}
use Rattle.cmm_types.specs.declared.page.TheConstants.{PAGE}
use Rattle.cmm_types.specs.declared.page.Tag.{Tag}
use Rattle.cmm_types.specs.declared.page.Tag.TheVariants.{File}
use Rattle.cmm_types.specs.declared.command.Op.{Op}
use Rattle.cmm_types.specs.declared.command.Op.TheVariants.{Read, Write, Load, Store}
use Rattle.cmm_types.specs.declared.command.Reply.TheVariants.{Bytes as BytesReply}
use Rattle.cmm_types.specs.declared.turn.Turn.{Turn}
use Rattle.cmm_flat.specs.State.{FlatState}
use Rattle.cmm_flat.specs.Legal.{process_of}
use Rattle.cmm_io.specs.DiskView.{DiskView}
use Rattle.cmm_storage.specs.StorageView.{StorageView}
use Rattle.cmm_storage.specs.Views.{Seen, unbind}
use Rattle.guest_maps.specs.MapsView.{find_slot, entry_at}
use Rattle.guest_rules.specs.declared.parts.Parts.{Parts}
use Rattle.guest_rules.specs.declared.outcome.Missed.{Missed}
use Rattle.guest_rules.specs.declared.outcome.Placed.{Placed}
use Rattle.guest_rules.specs.declared.outcome.Placed.TheVariants.{Done as PlaceDone, Gone as PlaceGone, Again as PlaceAgain}
use Rattle.guest_rules.specs.Rows.{read_page, resolve}
use Rattle.guest_rules.specs.GuestState.{GuestState, with_parts, entered}
use Rattle.guest_rules.specs.Turns.{use_turn, read_next, resolve_in, resolve_next}
use Rattle.guest_rules.specs.Fit.{FitAt}
use Rattle.guest_rules.proofs.Cases.TurnCases.{TurnCase, missed, was_gone, was_read, was_resolved, HasPage, Maps, CanBeSet, pin_op}
use Rattle.guest_rules.proofs.Rows.ReadPage.{ReadOutcome, seen_read_page}
use Rattle.guest_rules.proofs.Rows.ResolvePage.{ResolveOutcome, seen_resolve}
use Rattle.guest_rules.proofs.Ready.Ready.{can_be_used, is_used_mapped}
use Rattle.guest_rules.proofs.Cases.Reached.{Proceeds, Uses, reads, overwrites, sets, places}
use Rattle.guest_rules.proofs.Cases.CaseMissed.{case_missed}
use Rattle.guest_rules.proofs.Cases.CaseWrite.{case_write}
use Rattle.guest_rules.proofs.Cases.CasePin.{case_pin}

-- g and h the guest before and after, v and w its storage before and after, d and e its disk before and after, page the page that is used, off where in it, t the turn
module _ (g : GuestState) (v w : StorageView) (d e : DiskView) (off page : ℕ) (h : GuestState) (t : Turn) where
  -- a read
  case_read_next : (n : StorageView) (y : DiskView) (cpu file len : ℕ) (parts : Parts) (r : Result (List ℕ) Missed) → Proceeds g cpu (Read file off len) (File file (off / PAGE))
      → HasPage g (File file (off / PAGE)) page → ReadOutcome g.parts page (off % PAGE) len v d parts r n y → Seen {A = GuestState × Turn} (read_next g cpu (Read file off len) parts r) n y (h, t) w e
      → TurnCase g cpu v d h t w e
  case_read_next n y cpu file len parts (Ok bytes) k has o (ea, em, ed) =
      was_read file off len page o.found o.all parts k.starts has (rw (em, ed) o.is.back) o.is.may o.are (rw em o.is.rehinted)
      (ap (λ q. q.0) ea ∙ ap (λ q. entered (with_parts g parts) cpu (Read file off len) (BytesReply q)) o.taken) (ap (λ q. q.1) ea)
  case_read_next n y cpu file len parts (Err miss) k has o run = case_missed g v n w d y e cpu (Read file off len) (File file (off / PAGE)) page parts miss h t tt k.starts k.wants has o run

  case_read : (state : FlatState) (cpu file len : ℕ) → FitAt state g v d → Proceeds g cpu (Read file off len) (File file (off / PAGE)) → HasPage g (File file (off / PAGE)) page
      → Seen {A = GuestState × Turn} (use_turn g cpu (Read file off len) page) v d (h, t) w e → TurnCase g cpu v d h t w e
  unfolding use_turn
  case_read state cpu file len f k has run =
      let x = unbind (read_page g.parts page (off % PAGE) len) (λ went. read_next g cpu (Read file off len) went.0 went.1) v d (h, t) w e run in
      let o = seen_read_page g.parts page (off % PAGE) len v d x.answer.0 x.answer.1 x.storage x.disk (can_be_used state g v d page (File file (off / PAGE)) f has) x.first in
      case_read_next x.storage x.disk cpu file len x.answer.0 x.answer.1 k has o x.second

  -- a load or store whose entry is to be set
  case_resolve_next : (n : StorageView) (y : DiskView) (cpu : ℕ) (op : Op) (tag : Tag) (writes : Bool) (slot : ℕ) (parts : Parts) (r : Placed) → Proceeds g cpu op tag → Maps g cpu op writes slot off
      → CanBeSet (entry_at g.parts.maps slot (off / PAGE)) writes → HasPage g tag page → ResolveOutcome g.parts page slot (off / PAGE) writes v d parts r n y
      → Seen {A = GuestState × Turn} (resolve_next g parts r) n y (h, t) w e → TurnCase g cpu v d h t w e
  case_resolve_next n y cpu op tag writes slot parts PlaceDone k maps can has (found, is) (ea, em, ed) =
      was_resolved op tag writes slot off page found parts k.starts k.wants maps has can (rw (em, ed) is.back) is.may (rw em is.rehinted) (ap (λ q. q.0) ea) (ap (λ q. q.1) ea)
  case_resolve_next n y cpu op tag writes slot parts PlaceGone k maps can has o (ea, em, ed) =
      was_gone op tag page o.found k.starts k.wants has (ap (λ q. q.0) ea ∙ ap (λ q. with_parts g q) o.tables) (ap (λ q. q.1) ea) (rw (em, ed) o.back) o.may o.lost (rw em o.unused) o.quiet
  case_resolve_next n y cpu op tag writes slot parts (PlaceAgain why) k maps can has (tables, may, misses, disk) (ea, em, ed) =
      missed op why k.starts.has (ap (λ q. q.0) ea ∙ ap (λ q. with_parts g q) tables) (ap (λ q. q.1) ea) (rw (em, ed) may) (rw em misses) (ed ∙ disk)

  case_resolve : (state : FlatState) (cpu : ℕ) (op : Op) (tag : Tag) (writes : Bool) (slot number : ℕ) → FitAt state g v d → Proceeds g cpu op tag → Maps g cpu op writes slot off
      → CanBeSet (entry_at g.parts.maps slot (off / PAGE)) writes → HasPage g tag page
      → Seen {A = GuestState × Turn} (resolve_in g page number off writes (process_of g.plan cpu) (Some slot)) v d (h, t) w e → TurnCase g cpu v d h t w e
  case_resolve state cpu op tag writes slot number f k maps can has run =
      let x = unbind (resolve g.parts page slot (off / PAGE) writes) (λ went. resolve_next g went.0 went.1) v d (h, t) w e run in
      let used = is_used_mapped g.parts page slot (off / PAGE) writes tag has.below has.tagged in
      let o = seen_resolve g.parts page slot (off / PAGE) writes v d x.answer.0 x.answer.1 x.storage x.disk (can_be_used state g v d page tag f has) used x.first in
      case_resolve_next x.storage x.disk cpu op tag writes slot x.answer.0 x.answer.1 k maps can has o x.second

  -- the slot that was found is the command's
  resolve_found : (number : ℕ) (writes : Bool) (process slot : ℕ) → find_slot g.parts.maps process number ≡ Some slot
      → Seen {A = GuestState × Turn} (resolve_in g page number off writes process (find_slot g.parts.maps process number)) v d (h, t) w e
      → Seen {A = GuestState × Turn} (resolve_in g page number off writes process (Some slot)) v d (h, t) w e
  resolve_found number writes process slot found run = subst (λ q. Seen {A = GuestState × Turn} (resolve_in g page number off writes process q) v d (h, t) w e) found run

-- a command that finds its page
pub case_use : (state : FlatState) (g : GuestState) (v w : StorageView) (d e : DiskView) (cpu : ℕ) (op : Op) (tag : Tag) (page : ℕ) (h : GuestState) (t : Turn)
    → FitAt state g v d → Proceeds g cpu op tag → Uses g cpu op tag → HasPage g tag page
    → Seen {A = GuestState × Turn} (use_turn g cpu op page) v d (h, t) w e → TurnCase g cpu v d h t w e
unfolding use_turn
case_use state g v w d e cpu (Load number at len) tag page h t f k (sets writes slot off (is_load, found, same) can) has run =
    let can' : CanBeSet (entry_at g.parts.maps slot (at / PAGE)) false =
    subst (λ q. CanBeSet (entry_at g.parts.maps slot (at / PAGE)) q) is_load (subst (λ q. CanBeSet (entry_at g.parts.maps slot (q / PAGE)) writes) same can) in
    case_resolve g v w d e at page h t state cpu (Load number at len) tag false slot number f k (refl, found, refl) can' has
    (resolve_found g v w d e at page h t number false (process_of g.plan cpu) slot found run)
case_use state g v w d e cpu (Store number at bytes) tag page h t f k (sets writes slot off (is_store, found, same) can) has run =
    let can' : CanBeSet (entry_at g.parts.maps slot (at / PAGE)) true =
    subst (λ q. CanBeSet (entry_at g.parts.maps slot (at / PAGE)) q) is_store (subst (λ q. CanBeSet (entry_at g.parts.maps slot (q / PAGE)) writes) same can) in
    case_resolve g v w d e at page h t state cpu (Store number at bytes) tag true slot number f k (refl, found, refl) can' has
    (resolve_found g v w d e at page h t number true (process_of g.plan cpu) slot found run)
case_use state g v w d e cpu op tag page h t f k (sets writes slot off maps can) has run = absurd maps
case_use state g v w d e cpu op tag page h t f k (reads file off len is same) has run =
    let k' : Proceeds g cpu (Read file off len) (File file (off / PAGE)) = subst (λ q. Proceeds g cpu (Read file off len) q) same (subst (λ q. Proceeds g cpu q tag) is k) in
    let run' : Seen {A = GuestState × Turn} (use_turn g cpu (Read file off len) page) v d (h, t) w e = subst (λ q. Seen {A = GuestState × Turn} (use_turn g cpu q page) v d (h, t) w e) is run in
    case_read g v w d e off page h t state cpu file len f k' (subst (λ q. HasPage g q page) same has) run'
case_use state g v w d e cpu op tag page h t f k (overwrites file off bytes is same) has run =
    let k' : Proceeds g cpu (Write file off bytes) (File file (off / PAGE)) = subst (λ q. Proceeds g cpu (Write file off bytes) q) same (subst (λ q. Proceeds g cpu q tag) is k) in
    let run' : Seen {A = GuestState × Turn} (use_turn g cpu (Write file off bytes) page) v d (h, t) w e = subst (λ q. Seen {A = GuestState × Turn} (use_turn g cpu q page) v d (h, t) w e) is run in
    case_write state g v w d e cpu file off bytes page h t f k' (subst (λ q. HasPage g q page) same has) run'
case_use state g v w d e cpu op tag page h t f k (places pins number index slot is found) has run =
    let k' : Proceeds g cpu (pin_op pins number index) tag = subst (λ q. Proceeds g cpu q tag) is k in
    let run' : Seen {A = GuestState × Turn} (use_turn g cpu (pin_op pins number index) page) v d (h, t) w e = subst (λ q. Seen {A = GuestState × Turn} (use_turn g cpu q page) v d (h, t) w e) is run in
    case_pin state g v w d e cpu pins number index slot tag page h t f k' found has run'
