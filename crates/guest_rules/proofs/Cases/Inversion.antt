-- Every run of a turn is one of its cases.
use Rattle.std.specs.Prelude.{◌≡◌, ◌<◌, ℕ, ◌*◌, ◌/◌, List, [], ◌∷◌, length, Bool, true, false, not, ◌&&◌, if◌then◌else◌, Option, Some, None, refl}
use Rattle.std.proofs.Common.{ap, sym, subst, ◌∙◌, inl, inr}
use Rattle.cmm_types.specs.declared.page.TheConstants.{PAGE}
use Rattle.cmm_types.specs.declared.page.Tag.{Tag}
use Rattle.cmm_types.specs.declared.page.Tag.TheVariants.{File}
use Rattle.cmm_types.specs.declared.command.Op.{Op}
use Rattle.cmm_types.specs.declared.command.Op.TheVariants.{Read, Write, MapFile, MapAnon, Unmap, Load, Store, Pin, Unpin, Sync}
use Rattle.cmm_types.specs.declared.command.FlatRefusal.{FlatRefusal}
use Rattle.cmm_types.specs.declared.command.FlatRefusal.TheVariants.{NoMapping}
use Rattle.cmm_types.specs.declared.turn.Turn.{Turn}
use Rattle.cmm_flat.specs.State.{FlatState}
use Rattle.cmm_flat.specs.Legal.{command_of, process_of}
use Rattle.cmm_io.specs.DiskView.{DiskView}
use Rattle.cmm_storage.specs.StorageView.{StorageView}
use Rattle.cmm_storage.specs.Views.{Seen}
use Rattle.guest_pages.specs.PagesView.{info_at}
use Rattle.guest_cache.specs.CacheView.{page_of}
use Rattle.guest_maps.specs.declared.slot.Pte.{Pte}
use Rattle.guest_maps.specs.declared.slot.Shown.TheVariants.{File as OfFile, Anon as OfItsOwn}
use Rattle.guest_maps.specs.MapsView.{find_slot, free_slot, entry_at, tag_at}
use Rattle.guest_rules.specs.declared.processor.Phase.{Phase}
use Rattle.guest_rules.specs.declared.processor.Phase.TheVariants.{Start, Fill, Room as AtRoom, Sync as AtSync, SyncWrite, Teardown}
use Rattle.guest_rules.specs.GuestState.{GuestState, processor_at}
use Rattle.guest_rules.specs.Turns.{file_has_bytes, turn, turn_on, turn_in, start_turn, start_refused, start_accepted, start_mapped, start_placed, start_entry, start_at}
use Rattle.guest_rules.specs.Turns.{start_tagged, start_found, start_free, start_locked, hit_turn, map_turn, unmap_turn, refusal_at, refusal_of_unmap, refusal_in, sync_turn, write_back_turn}
use Rattle.guest_rules.specs.Fit.{FitAt}
use Rattle.guest_rules.proofs.Cases.TurnCases.{TurnCase, was_idle, was_refused, was_mapped, was_mapped_own, waited, Has, Starts, CanBeSet, pin_op, was_sync, was_room, was_unmapped, Syncs}
use Rattle.guest_rules.proofs.Ready.Ready.{found_page}
use Rattle.guest_rules.proofs.Cases.Reached.{Proceeds, Reaches, reads, overwrites, sets, load_reaches, store_reaches, has_free_slot, places}
use Rattle.guest_rules.proofs.Cases.WantedTags.{IsWanted, is_wanted, sync-file}
use Rattle.guest_rules.proofs.Cases.FileSizes.{file_pages-some}
use Rattle.guest_rules.proofs.Cases.CaseFill.{case_fill, case_begin}
use Rattle.guest_rules.proofs.Cases.CaseRoom.{case_room, case_page_out}
use Rattle.guest_rules.proofs.Cases.CaseSync.{case_sync, case_write_back}
use Rattle.guest_rules.proofs.Cases.CaseTear.{case_tear}
use Rattle.guest_rules.proofs.Cases.CaseUse.{case_use}
use Rattle.guest_rules.proofs.Cases.CaseEntry.{case_load, case_store}
use Rattle.guest_rules.proofs.Cases.Placed.{pin-found, pin-reaches}

-- the tag that is wanted is a file's page
wanted : (state : FlatState) (g : GuestState) (v : StorageView) (d : DiskView) (cpu : ℕ) (op : Op) (tag : Tag) → FitAt state g v d → Proceeds g cpu op tag → IsWanted g.parts tag
wanted state g v d cpu op tag f k = is_wanted state g v d cpu op tag f.sizes f.slots k.starts k.wants

-- state the flat machine's state, g the guest before, v and w its storage before and after, d and e its disk before and after, cpu the processor
module _ (state : FlatState) (g : GuestState) (v w : StorageView) (d e : DiskView) (cpu : ℕ) where
  -- a command whose page isn't mapped
  case_locked : (op : Op) (tag : Tag) (page : ℕ) (owner : Option ℕ) (h : GuestState) (t : Turn) → FitAt state g v d → Proceeds g cpu op tag → page_of g.parts.cache tag ≡ Some page
      → (info_at g.parts.pages page).owner ≡ owner → Seen {A = GuestState × Turn} (start_locked g cpu op page owner) v d (h, t) w e → TurnCase g cpu v d h t w e
  case_locked op tag page (Some owner) h t f k found locked (ea, em, ed) =
      waited op page owner k.starts (record { tag = tag; wants = k.wants; found = found }) locked (ap (λ q. q.0) ea) (ap (λ q. q.1) ea) em ed
  case_locked op tag page None h t f k found unlocked run =
      case_use state g v w d e cpu op tag page h t f k k.uses (found_page state g v d page tag f (wanted state g v d cpu op tag f k).is_tag found unlocked) run

  case_free : (op : Op) (tag : Tag) (free : List ℕ) (h : GuestState) (t : Turn) → FitAt state g v d → Proceeds g cpu op tag → page_of g.parts.cache tag ≡ None → g.parts.pages.free ≡ free
      → Seen {A = GuestState × Turn} (start_free g cpu op tag free) v d (h, t) w e → TurnCase g cpu v d h t w e
  case_free op tag [] h t f k none full run = was_room op (case_room state g v w d e cpu op h t f (record { starts = k.starts; tag = tag; wants = k.wants; none = none; full = full }) run)
  case_free op tag (page ∷ rest) h t f k none free run = case_begin g v w d e cpu op tag page rest h t k none free run

  case_found : (op : Op) (tag : Tag) (found : Option ℕ) (h : GuestState) (t : Turn) → FitAt state g v d → Proceeds g cpu op tag → page_of g.parts.cache tag ≡ found
      → Seen {A = GuestState × Turn} (start_found g cpu op tag found) v d (h, t) w e → TurnCase g cpu v d h t w e
  case_found op tag None h t f k none run = case_free op tag g.parts.pages.free h t f k none refl run
  case_found op tag (Some page) h t f k found run = case_locked op tag page (info_at g.parts.pages page).owner h t f k found refl run

  case_tagged : (op : Op) (tag : Tag) (h : GuestState) (t : Turn) → FitAt state g v d → Proceeds g cpu op tag → Seen {A = GuestState × Turn} (start_tagged g cpu op tag) v d (h, t) w e
      → TurnCase g cpu v d h t w e
  case_tagged op tag h t f k run = case_found op tag (page_of g.parts.cache tag) h t f k refl run

  -- a load or store whose entry doesn't serve
  case_missing : (op : Op) (writes : Bool) (slot off : ℕ) (h : GuestState) (t : Turn) → FitAt state g v d → Reaches g cpu op writes slot off
      → CanBeSet (entry_at g.parts.maps slot (off / PAGE)) writes → Seen {A = GuestState × Turn} (start_at g cpu op (tag_at g.parts.maps slot (off / PAGE))) v d (h, t) w e → TurnCase g cpu v d h t w e
  case_missing op writes slot off h t f k can run =
      let p : Proceeds g cpu op k.tag = record { starts = k.starts; wants = k.wants; uses = sets writes slot off k.maps can } in
      case_tagged op k.tag h t f p (subst (λ q. Seen {A = GuestState × Turn} (start_at g cpu op q) v d (h, t) w e) k.shown run)

  -- number the number of a mapping, off where in it
  module _ (number off : ℕ) where
    -- a load
    case_load_entry : (len slot : ℕ) (pte : Option Pte) (h : GuestState) (t : Turn) → FitAt state g v d → Reaches g cpu (Load number off len) false slot off
        → entry_at g.parts.maps slot (off / PAGE) ≡ pte → Seen {A = GuestState × Turn} (start_entry g cpu (Load number off len) false slot (off / PAGE) pte) v d (h, t) w e → TurnCase g cpu v d h t w e
    case_load_entry len slot None h t f k at run = case_missing (Load number off len) false slot off h t f k (rw at tt) run
    case_load_entry len slot (Some pte) h t f k at run = case_load state g v w d e cpu number off len slot pte h t f k at run

    case_load_found : (len : ℕ) (found : Option ℕ) (h : GuestState) (t : Turn) → FitAt state g v d → Starts g cpu (Load number off len) → find_slot g.parts.maps (process_of g.plan cpu) number ≡ found
        → Seen {A = GuestState × Turn} (start_mapped g cpu (Load number off len) false off found) v d (h, t) w e → TurnCase g cpu v d h t w e
    case_load_found len None h t f starts none run =
        let bad : Some NoMapping ≡ None = ap (λ q. refusal_at g.parts.maps false off len q) (sym none) ∙ starts.accepted in absurd cc
    case_load_found len (Some slot) h t f starts found run =
        case_load_entry len slot (entry_at g.parts.maps slot (off / PAGE)) h t f (load_reaches state g v d cpu number off len slot f starts found) refl run

    -- a store
    case_store_hit : (bytes : List ℕ) (slot : ℕ) (pte : Pte) (writable : Bool) (h : GuestState) (t : Turn)
        → FitAt state g v d → Reaches g cpu (Store number off bytes) true slot off → entry_at g.parts.maps slot (off / PAGE) ≡ Some pte → pte.writable ≡ writable
        → Seen {A = GuestState × Turn} (if true && not writable then start_at g cpu (Store number off bytes) (tag_at g.parts.maps slot (off / PAGE)) else hit_turn g cpu
        (Store number off bytes) pte.page) v d (h, t) w e
        → TurnCase g cpu v d h t w e
    case_store_hit bytes slot pte true h t f k at writable run = case_store state g v w d e cpu number off bytes slot pte h t f k at writable run
    case_store_hit bytes slot pte false h t f k at readonly run = case_missing (Store number off bytes) true slot off h t f k (rw at (refl, readonly)) run

    case_store_entry : (bytes : List ℕ) (slot : ℕ) (pte : Option Pte) (h : GuestState) (t : Turn) → FitAt state g v d → Reaches g cpu (Store number off bytes) true slot off
        → entry_at g.parts.maps slot (off / PAGE) ≡ pte → Seen {A = GuestState × Turn} (start_entry g cpu (Store number off bytes) true slot (off / PAGE) pte) v d (h, t) w e
        → TurnCase g cpu v d h t w e
    case_store_entry bytes slot None h t f k at run = case_missing (Store number off bytes) true slot off h t f k (rw at tt) run
    case_store_entry bytes slot (Some pte) h t f k at run = case_store_hit bytes slot pte pte.writable h t f k at refl run

    case_store_found : (bytes : List ℕ) (found : Option ℕ) (h : GuestState) (t : Turn) → FitAt state g v d → Starts g cpu (Store number off bytes)
        → find_slot g.parts.maps (process_of g.plan cpu) number ≡ found → Seen {A = GuestState × Turn} (start_mapped g cpu (Store number off bytes) true off found) v d (h, t) w e
        → TurnCase g cpu v d h t w e
    case_store_found bytes None h t f starts none run =
        let bad : Some NoMapping ≡ None = ap (λ q. refusal_at g.parts.maps true off (length bytes) q) (sym none) ∙ starts.accepted in absurd cc
    case_store_found bytes (Some slot) h t f starts found run =
        case_store_entry bytes slot (entry_at g.parts.maps slot (off / PAGE)) h t f (store_reaches state g v d cpu number off bytes slot f starts found) refl run

  -- a pin or an unpin
  case_placed : (pins : Bool) (number index : ℕ) (found : Option ℕ) (h : GuestState) (t : Turn) → FitAt state g v d → Starts g cpu (pin_op pins number index)
      → find_slot g.parts.maps (process_of g.plan cpu) number ≡ found → Seen {A = GuestState × Turn} (start_placed g cpu (pin_op pins number index) index found) v d (h, t) w e
      → TurnCase g cpu v d h t w e
  case_placed pins number index None h t f starts none run = absurd (pin-found g cpu pins number index starts none)
  case_placed pins number index (Some slot) h t f starts found run =
      let k = pin-reaches g cpu pins number index slot starts found in
      let p : Proceeds g cpu (pin_op pins number index) k.tag = record { starts = starts; wants = k.wants; uses = places pins number index slot refl found } in
      case_tagged (pin_op pins number index) k.tag h t f p (subst (λ q. Seen {A = GuestState × Turn} (start_at g cpu (pin_op pins number index) q) v d (h, t) w e) k.shown run)

  -- a new mapping
  case_map : (number file first count : ℕ) (writable : Bool) (free : Option ℕ) (h : GuestState) (t : Turn) → FitAt state g v d → Starts g cpu (MapFile number file first count writable)
      → free_slot g.parts.maps ≡ free → Seen {A = GuestState × Turn} (map_turn g cpu (MapFile number file first count writable) number (OfFile file first writable) count free) v d (h, t) w e
      → TurnCase g cpu v d h t w e
  case_map number file first count writable None h t f starts none run =
      absurd (has_free_slot state g v d (file_has_bytes g.plan.files file (PAGE * first) (PAGE * count)) (find_slot g.parts.maps (process_of g.plan cpu) number) f starts.accepted none)
  case_map number file first count writable (Some slot) h t f starts free (ea, em, ed) = was_mapped number file first count writable slot starts free (ap (λ q. q.0) ea) (ap (λ q. q.1) ea) em ed

  -- a mapping of pages of its own
  case_map_own : (number count : ℕ) (free : Option ℕ) (h : GuestState) (t : Turn) → FitAt state g v d → Starts g cpu (MapAnon number count) → free_slot g.parts.maps ≡ free
      → Seen {A = GuestState × Turn} (map_turn g cpu (MapAnon number count) number OfItsOwn count free) v d (h, t) w e → TurnCase g cpu v d h t w e
  case_map_own number count None h t f starts none run = absurd (has_free_slot state g v d true (find_slot g.parts.maps (process_of g.plan cpu) number) f starts.accepted none)
  case_map_own number count (Some slot) h t f starts free (ea, em, ed) = was_mapped_own number count slot starts free (ap (λ q. q.0) ea) (ap (λ q. q.1) ea) em ed

-- the end of a mapping
case_unmap : (g : GuestState) (v w : StorageView) (d e : DiskView) (cpu number : ℕ) (found : Option ℕ) (h : GuestState) (t : Turn)
    → Starts g cpu (Unmap number) → find_slot g.parts.maps (process_of g.plan cpu) number ≡ found
    → Seen {A = GuestState × Turn} (unmap_turn g cpu (Unmap number) found) v d (h, t) w e → TurnCase g cpu v d h t w e
case_unmap g v w d e cpu number None h t starts none run =
    let bad : Some NoMapping ≡ None = ap (refusal_of_unmap g.parts.maps) (sym none) ∙ starts.accepted in absurd cc
case_unmap g v w d e cpu number (Some slot) h t starts found (ea, em, ed) = was_unmapped number slot starts found (ap (λ q. q.0) ea) (ap (λ q. q.1) ea) em ed

-- state the flat machine's state, g the guest before, v and w its storage before and after, d and e its disk before and after, cpu the processor
module _ (state : FlatState) (g : GuestState) (v w : StorageView) (d e : DiskView) (cpu : ℕ) where
  case_accepted : (op : Op) (h : GuestState) (t : Turn) → FitAt state g v d → Starts g cpu op → Seen {A = GuestState × Turn} (start_accepted g cpu op) v d (h, t) w e → TurnCase g cpu v d h t w e
  case_accepted (Read file off len) h t f starts run =
      let p : Proceeds g cpu (Read file off len) (File file (off / PAGE)) = record { starts = starts; wants = refl; uses = reads file off len refl refl } in
      case_tagged state g v w d e cpu (Read file off len) (File file (off / PAGE)) h t f p run
  case_accepted (Write file off bytes) h t f starts run =
      let p : Proceeds g cpu (Write file off bytes) (File file (off / PAGE)) = record { starts = starts; wants = refl; uses = overwrites file off bytes refl refl } in
      case_tagged state g v w d e cpu (Write file off bytes) (File file (off / PAGE)) h t f p run
  case_accepted (MapFile number file first count writable) h t f starts run = case_map state g v w d e cpu number file first count writable (free_slot g.parts.maps) h t f starts refl run
  case_accepted (Load number off len) h t f starts run = case_load_found state g v w d e cpu number off len (find_slot g.parts.maps (process_of g.plan cpu) number) h t f starts refl run
  case_accepted (Store number off bytes) h t f starts run = case_store_found state g v w d e cpu number off bytes (find_slot g.parts.maps (process_of g.plan cpu) number) h t f starts refl run
  case_accepted (Pin number index) h t f starts run = case_placed state g v w d e cpu true number index (find_slot g.parts.maps (process_of g.plan cpu) number) h t f starts refl run
  case_accepted (Unpin number index) h t f starts run = case_placed state g v w d e cpu false number index (find_slot g.parts.maps (process_of g.plan cpu) number) h t f starts refl run
  case_accepted (Sync file) h t f starts run =
      let below = sync-file g (process_of g.plan cpu) file starts.accepted in
      let its : Syncs g cpu file 0 = record { has = starts.has; looks = inl (starts.start, refl); file_below = below; within = file_pages-some g.plan.files file f.sizes.range.files.each below } in
      was_sync file 0 (case_sync state g v w d e cpu file 0 h t f its run)
  case_accepted (Unmap number) h t f starts run = case_unmap g v w d e cpu number (find_slot g.parts.maps (process_of g.plan cpu) number) h t starts refl run
  case_accepted (MapAnon number count) h t f starts run = case_map_own state g v w d e cpu number count (free_slot g.parts.maps) h t f starts refl run

  case_refused : (op : Op) (refusal : Option FlatRefusal) (h : GuestState) (t : Turn) → FitAt state g v d → Has g cpu op → (processor_at g cpu).phase ≡ Start
      → refusal_in g (process_of g.plan cpu) op ≡ refusal → Seen {A = GuestState × Turn} (start_refused g cpu op refusal) v d (h, t) w e → TurnCase g cpu v d h t w e
  case_refused op (Some refusal) h t f has phase refused (ea, em, ed) = was_refused op refusal has phase refused (ap (λ q. q.0) ea) (ap (λ q. q.1) ea) em ed
  case_refused op None h t f has phase accepted run = case_accepted op h t f (record { has = has; start = phase; accepted = accepted }) run

  -- a sync that is at a page of its file
  case_at_sync : (op : Op) (index : ℕ) (h : GuestState) (t : Turn) → FitAt state g v d → Has g cpu op → (processor_at g cpu).phase ≡ AtSync index
      → Seen {A = GuestState × Turn} (sync_turn g cpu op index) v d (h, t) w e → TurnCase g cpu v d h t w e
  case_at_sync op index h t f has phase run =
      let (file, k) = f.locks.syncing cpu index phase in
      let both : Some op ≡ Some (Sync file) = sym has.command ∙ k.command in
      let same : op ≡ Sync file = cc in
      let its : Syncs g cpu file index = record { has = record { below = has.below; command = k.command }; looks = inr phase; file_below = k.file_below; within = k.within } in
      was_sync file index (case_sync state g v w d e cpu file index h t f its (subst (λ q. Seen {A = GuestState × Turn} (sync_turn g cpu q index) v d (h, t) w e) same run))

  -- or writes one back
  case_writing : (op : Op) (index page : ℕ) (h : GuestState) (t : Turn) → FitAt state g v d → Has g cpu op → (processor_at g cpu).phase ≡ SyncWrite index page
      → Seen {A = GuestState × Turn} (write_back_turn g cpu op index page) v d (h, t) w e → TurnCase g cpu v d h t w e
  case_writing op index page h t f has phase run =
      let k = f.locks.writing cpu index page phase in
      let both : Some op ≡ Some (Sync k.file) = sym has.command ∙ k.syncing.command in
      let same : op ≡ Sync k.file = cc in
      was_sync k.file index (case_write_back state g v w d e cpu index page h t f k phase (subst (λ q. Seen {A = GuestState × Turn} (write_back_turn g cpu q index page) v d (h, t) w e) same run))

  case_in : (op : Op) (phase : Phase) (h : GuestState) (t : Turn) → FitAt state g v d → Has g cpu op → (processor_at g cpu).phase ≡ phase
      → Seen {A = GuestState × Turn} (turn_in g cpu op phase) v d (h, t) w e → TurnCase g cpu v d h t w e
  unfolding start_turn
  case_in op Start h t f has phase run = case_refused op (refusal_in g (process_of g.plan cpu) op) h t f has phase refl run
  case_in op (Fill page) h t f has phase run = case_fill state g v w d e cpu op page h t f has phase run
  case_in op (AtRoom page) h t f has phase run = was_room op (case_page_out state g v w d e cpu op page h t f has phase run)
  case_in op (AtSync index) h t f has phase run = case_at_sync op index h t f has phase run
  case_in op (SyncWrite index page) h t f has phase run = case_writing op index page h t f has phase run
  case_in op (Teardown slot index) h t f has phase run = case_tear state g v w d e cpu slot index h t f phase run

  case_on : (op : Option Op) (h : GuestState) (t : Turn) → FitAt state g v d → cpu < length g.processors → command_of g.plan cpu (processor_at g cpu).place ≡ op
      → Seen {A = GuestState × Turn} (turn_on g cpu op) v d (h, t) w e → TurnCase g cpu v d h t w e
  case_on None h t f below none (ea, em, ed) = was_idle none (ap (λ q. q.0) ea) (ap (λ q. q.1) ea) em ed
  case_on (Some op) h t f below command run = case_in op (processor_at g cpu).phase h t f (record { below = below; command = command }) refl run

  -- every run of a turn is one of its cases
  pub turn_case : (h : GuestState) (t : Turn) → FitAt state g v d → cpu < length g.processors → Seen {A = GuestState × Turn} (turn g cpu) v d (h, t) w e → TurnCase g cpu v d h t w e
  unfolding turn
  turn_case h t f below run = case_on (command_of g.plan cpu (processor_at g cpu).place) h t f below refl run
