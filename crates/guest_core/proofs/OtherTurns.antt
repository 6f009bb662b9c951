-- The parts of a turn, by its command and by the entry that serves it.
use Rattle.std.proofs.Common.{◌≡◌, ◌/◌, ◌&&◌, not, if◌then◌else◌, ℕ, List, Bool, true, false, Option, Some, None, refl, ap, sym, subst, ◌∙◌}
use Rattle.cmm_types.specs.declared.page.TheConstants.{PAGE}
use Rattle.cmm_types.specs.declared.page.Tag.{Tag}
use Rattle.cmm_types.specs.declared.page.Tag.TheVariants.{File}
use Rattle.cmm_types.specs.declared.command.Op.{Op}
use Rattle.cmm_types.specs.declared.command.Op.TheVariants.{Read, Write, MapFile, MapAnon, Unmap, Load, Store, Pin, Unpin, Sync}
use Rattle.cmm_types.specs.declared.command.FlatRefusal.TheVariants.{AlreadyMapped}
use Rattle.cmm_types.specs.declared.turn.Turn.{Turn}
use Rattle.cmm_flat.specs.Legal.{process_of}
use Rattle.cmm_io.specs.DiskCall.{DiskCall}
use Rattle.cmm_storage.specs.StorageCall.{StorageCall}
use Rattle.cmm_storage.specs.Program.{Program, Does, DoesAlone}
use Rattle.guest_maps.specs.declared.slot.Pte.{Pte}
use Rattle.guest_maps.specs.declared.slot.Shown.TheVariants.{File as OfFile, Anon as OfItsOwn}
use Rattle.guest_maps.specs.MapsView.{find_slot, free_slot, tag_at}
use Rattle.guest_rules.specs.GuestState.{GuestState}
use Rattle.guest_rules.specs.Turns.{refusal_of_new, resolve_turn, pin_turn, use_turn, hit_turn, start_tagged, start_at}
use Rattle.guest_rules.specs.Turns.{start_entry, start_mapped, start_placed, map_turn, unmap_turn, start_accepted, sync_turn, write_back_turn}
use Rattle.guest_core.specs.Between.{serving}
use Rattle.guest_core.specs.TurnParts.{read_turn, write_turn, load_turn, store_turn, sync_at, write_file_back}

-- a run of a part of a turn is one of the turn, whose program is the same
pub same_run : {S : Type 0} (step : S → StorageCall → S → Type 0) (s t : S) (h : GuestState) (r : Turn) (turn part : Program (GuestState × Turn))
    → turn ≡ part → DoesAlone step part s (h, r) t → DoesAlone step turn s (h, r) t
same_run step s t h r turn part same run = subst (λ p. DoesAlone step p s (h, r) t) (sym same) run

pub same_disk_run : {S D : Type 0} (ss : S → StorageCall → S → Type 0) (ds : D → DiskCall → D → Type 0) (s t : S) (d e : D) (h : GuestState) (r : Turn) (turn part : Program (GuestState × Turn))
    → turn ≡ part → Does ss ds part s d (h, r) t e → Does ss ds turn s d (h, r) t e
same_disk_run ss ds s t d e h r turn part same run = subst (λ p. Does ss ds p s d (h, r) t e) (sym same) run

module _ (g : GuestState) (cpu : ℕ) (op : Op) where
  -- ---- the command finds its page up to date

  pub use-read : (page file off len : ℕ) → op ≡ Read file off len → use_turn g cpu op page ≡ read_turn g cpu op page off len
  unfolding use_turn
  use-read page file off len is = rw is refl

  pub use-write : (page file off : ℕ) (bytes : List ℕ) → op ≡ Write file off bytes → use_turn g cpu op page ≡ write_turn g cpu op page off bytes
  unfolding use_turn
  use-write page file off bytes is = rw is refl

  pub use-load : (page number off len : ℕ) → op ≡ Load number off len → use_turn g cpu op page ≡ resolve_turn g cpu page number off false
  unfolding use_turn
  use-load page number off len is = ap (λ q. use_turn g cpu q page) is

  pub use-store : (page number off : ℕ) (bytes : List ℕ) → op ≡ Store number off bytes → use_turn g cpu op page ≡ resolve_turn g cpu page number off true
  unfolding use_turn
  use-store page number off bytes is = ap (λ q. use_turn g cpu q page) is

  pub use-pin : (page number index : ℕ) → op ≡ Pin number index → use_turn g cpu op page ≡ pin_turn g cpu op page number index true
  unfolding use_turn
  use-pin page number index is = rw is refl

  pub use-unpin : (page number index : ℕ) → op ≡ Unpin number index → use_turn g cpu op page ≡ pin_turn g cpu op page number index false
  unfolding use_turn
  use-unpin page number index is = rw is refl

  -- ---- it finds its entry

  pub hit-load : (page number off len : ℕ) → op ≡ Load number off len → hit_turn g cpu op page ≡ load_turn g cpu op page off len
  unfolding hit_turn
  hit-load page number off len is = rw is refl

  pub hit-store : (page number off : ℕ) (bytes : List ℕ) → op ≡ Store number off bytes → hit_turn g cpu op page ≡ store_turn g cpu op page off bytes
  unfolding hit_turn
  hit-store page number off bytes is = rw is refl

  -- ---- it isn't refused

  pub accepted-read : (file off len : ℕ) → op ≡ Read file off len → start_accepted g cpu op ≡ start_tagged g cpu op (File file (off / PAGE))
  accepted-read file off len is = rw is refl

  pub accepted-write : (file off : ℕ) (bytes : List ℕ) → op ≡ Write file off bytes → start_accepted g cpu op ≡ start_tagged g cpu op (File file (off / PAGE))
  accepted-write file off bytes is = rw is refl

  pub accepted-map : (number file first count : ℕ) (writable : Bool) → op ≡ MapFile number file first count writable
      → start_accepted g cpu op ≡ map_turn g cpu op number (OfFile file first writable) count (free_slot g.parts.maps)
  accepted-map number file first count writable is = rw is refl

  pub accepted-map_own : (number count : ℕ) → op ≡ MapAnon number count → start_accepted g cpu op ≡ map_turn g cpu op number OfItsOwn count (free_slot g.parts.maps)
  accepted-map_own number count is = rw is refl

  pub accepted-load : (number off len : ℕ) → op ≡ Load number off len
      → start_accepted g cpu op ≡ start_mapped g cpu op false off (find_slot g.parts.maps (process_of g.plan cpu) number)
  accepted-load number off len is = rw is refl

  pub accepted-store : (number off : ℕ) (bytes : List ℕ) → op ≡ Store number off bytes
      → start_accepted g cpu op ≡ start_mapped g cpu op true off (find_slot g.parts.maps (process_of g.plan cpu) number)
  accepted-store number off bytes is = rw is refl

  pub accepted-pin : (number index : ℕ) → op ≡ Pin number index
      → start_accepted g cpu op ≡ start_placed g cpu op index (find_slot g.parts.maps (process_of g.plan cpu) number)
  accepted-pin number index is = rw is refl

  pub accepted-unpin : (number index : ℕ) → op ≡ Unpin number index
      → start_accepted g cpu op ≡ start_placed g cpu op index (find_slot g.parts.maps (process_of g.plan cpu) number)
  accepted-unpin number index is = rw is refl

  pub accepted-unmap : (number : ℕ) → op ≡ Unmap number → start_accepted g cpu op ≡ unmap_turn g cpu op (find_slot g.parts.maps (process_of g.plan cpu) number)
  accepted-unmap number is = rw is refl

  pub accepted-sync : (file : ℕ) → op ≡ Sync file → start_accepted g cpu op ≡ sync_at g cpu op file 0
  unfolding sync_turn
  accepted-sync file is = rw is refl

  -- ---- it is a sync at a page of its file

  pub looks-sync : (file index : ℕ) → op ≡ Sync file → sync_turn g cpu op index ≡ sync_at g cpu op file index
  unfolding sync_turn
  looks-sync file index is = rw is refl

  pub back-sync : (file index page : ℕ) → op ≡ Sync file → write_back_turn g cpu op index page ≡ write_file_back g cpu op file index page
  unfolding write_back_turn
  back-sync file index page is = rw is refl

-- a new mapping that isn't refused has a number of its own
pub new-fresh : (g : GuestState) (are_there : Bool) (o : Option ℕ) → refusal_of_new g are_there o ≡ None → o ≡ None
new-fresh g are_there None e = refl
new-fresh g are_there (Some slot) e = let bad : Some AlreadyMapped ≡ None = e in absurd cc

-- an entry that serves
pub served-entry : (writes : Bool) (o : Option Pte) (page : ℕ) → serving writes o ≡ Some page
    → (writable : Bool) × (o ≡ Some (record { page = page; writable = writable })) × (writes ≡ true → writable ≡ true)
served-entry writes None page e = let bad : None ≡ Some page = e in absurd cc
served-entry writes (Some pte) page e = let k = of writes pte.writable e in (pte.writable, ap (λ n. Some (record { page = n; writable = pte.writable })) k.0, k.1)
  where
    of : (w can : Bool) → (if w && not can then None else Some pte.page) ≡ Some page → (pte.page ≡ page) × (w ≡ true → can ≡ true)
    of true true z = let both : Some pte.page ≡ Some page = z in (cc, λ t. refl)
    of true false z = let bad : None ≡ Some page = z in absurd cc
    of false can z = let both : Some pte.page ≡ Some page = z in (cc, λ t. let bad : false ≡ true = t in absurd cc)

module _ (g : GuestState) (cpu : ℕ) (op : Op) (slot index : ℕ) where
  -- the place's tag is needed, unless its entry serves
  abbrev by_entry : (writes writable : Bool) → (page : ℕ) → Program (GuestState × Turn)
  by_entry writes writable page = if writes && not writable then start_at g cpu op (tag_at g.parts.maps slot index) else hit_turn g cpu op page

  pub entry-served : (writes : Bool) (page : ℕ) (o : Option Pte) → serving writes o ≡ Some page → start_entry g cpu op writes slot index o ≡ hit_turn g cpu op page
  entry-served writes page None e = let bad : None ≡ Some page = e in absurd cc
  entry-served writes page (Some pte) e = of writes pte.writable e
    where
      of : (w can : Bool) → (if w && not can then None else Some pte.page) ≡ Some page → by_entry w can pte.page ≡ hit_turn g cpu op page
      of true true z = let both : Some pte.page ≡ Some page = z in ap (hit_turn g cpu op) cc
      of true false z = let bad : None ≡ Some page = z in absurd cc
      of false can z = let both : Some pte.page ≡ Some page = z in ap (hit_turn g cpu op) cc

  pub entry-unserved : (writes : Bool) (tag : Tag) (o : Option Pte) → tag_at g.parts.maps slot index ≡ Some tag → serving writes o ≡ None
      → start_entry g cpu op writes slot index o ≡ start_tagged g cpu op tag
  entry-unserved writes tag None shown e = ap (start_at g cpu op) shown
  entry-unserved writes tag (Some pte) shown e = of writes pte.writable e ∙ ap (start_at g cpu op) shown
    where
      of : (w can : Bool) → (if w && not can then None else Some pte.page) ≡ None → by_entry w can pte.page ≡ start_at g cpu op (tag_at g.parts.maps slot index)
      of true true z = let bad : Some pte.page ≡ None = z in absurd cc
      of true false z = refl
      of false can z = let bad : Some pte.page ≡ None = z in absurd cc
