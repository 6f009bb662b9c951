-- What a processor's command gives the calls of its turn: its bytes lie in one page, its mapping can be looked up, and its place is one.
use Rattle.std.proofs.Common.{◌≡◌, ◌≤◌, ◌/◌, ℕ, List, Bool, true, false, length, Some, IsSome, sym, subst}
use Rattle.cmm_types.specs.declared.page.TheConstants.{PAGE}
use Rattle.cmm_types.specs.declared.command.Op.{Op}
use Rattle.cmm_types.specs.declared.command.Op.TheVariants.{Read, Write, MapFile, MapAnon, Load, Store, Sync, Unmap}
use Rattle.cmm_types.specs.InRange.{IsPiece}
use Rattle.cmm_flat.specs.Legal.{process_of, flat_of}
use Rattle.cmm_storage.specs.StorageView.{StorageView}
use Rattle.guest_pages.specs.PagesView.{info_at}
use Rattle.guest_maps.specs.declared.slot.Shown.TheVariants.{File as OfFile, Anon as OfItsOwn}
use Rattle.guest_maps.specs.MapsView.{IsMapping, find_slot, free_slot}
use Rattle.guest_rules.specs.GuestState.{GuestState, processor_at}
use Rattle.guest_rules.specs.Calls.{CanMap, CanPin}
use Rattle.guest_rules.specs.Fit.{IsSyncing}
use Rattle.guest_rules.proofs.Cases.TurnCases.{Has, Starts, HasItsTag, pin_op}
use Rattle.cmm_flat.specs.Laws.CommandLaws.{command_in_range}
use Rattle.guest_rules.proofs.Cases.WantedTags.{write-piece}
use Rattle.guest_rules.proofs.Cases.Placed.{ReachesPlace, pin-reaches}
use Rattle.guest_rules.proofs.Cases.Reached.{Reaches, load_reaches, store_reaches}
use Rattle.guest_rules.proofs.Ready.ReadyCalls.{read-piece, load-piece, store-piece, pin-piece, map-pages, map-free, map_own-free}
use Rattle.guest_rules.proofs.Ready.ReadyCalls.{process-below, writers-most, reached-place, pins-most, unpin-some, sync-starts, unmap-number}
use Rattle.guest_core.specs.Between.{CanLookUp, IsFit}

-- a guest that fits, and the command that a processor has
module _ (g : GuestState) (v : StorageView) (fit : IsFit g v) (cpu : ℕ) (op : Op) where
  -- ---- the bytes of a read, a write, a load or a store

  pub read-bytes : (file off len : ℕ) → Has g cpu op → op ≡ Read file off len → IsPiece off len
  read-bytes file off len has is = read-piece g v fit.0 cpu file off len fit.1 (subst (λ q. Has g cpu q) is has)

  pub write-bytes : (file off : ℕ) (bytes : List ℕ) → Has g cpu op → op ≡ Write file off bytes → IsPiece off (length bytes)
  write-bytes file off bytes has is = write-piece g v fit.0 cpu file off bytes fit.1.sizes (subst (λ q. Has g cpu q) is has)

  pub load-bytes : (number off len : ℕ) → Has g cpu op → op ≡ Load number off len → IsPiece off len
  load-bytes number off len has is = (load-piece g v fit.0 cpu number off len fit.1 (subst (λ q. Has g cpu q) is has)).1

  pub store-bytes : (number off : ℕ) (bytes : List ℕ) → Has g cpu op → op ≡ Store number off bytes → IsPiece off (length bytes)
  store-bytes number off bytes has is = (store-piece g v fit.0 cpu number off bytes fit.1 (subst (λ q. Has g cpu q) is has)).1

  -- ---- the mapping that it names

  pub load-looks_up : (number off len : ℕ) → Has g cpu op → op ≡ Load number off len → CanLookUp (process_of g.plan cpu) number
  load-looks_up number off len has is = record {
    process_below = process-below g v fit.0 cpu fit.1;
    number_below = (load-piece g v fit.0 cpu number off len fit.1 (subst (λ q. Has g cpu q) is has)).0;
  }

  pub store-looks_up : (number off : ℕ) (bytes : List ℕ) → Has g cpu op → op ≡ Store number off bytes → CanLookUp (process_of g.plan cpu) number
  store-looks_up number off bytes has is = record {
    process_below = process-below g v fit.0 cpu fit.1;
    number_below = (store-piece g v fit.0 cpu number off bytes fit.1 (subst (λ q. Has g cpu q) is has)).0;
  }

  pub pin-looks_up : (pins : Bool) (number index : ℕ) → Has g cpu op → op ≡ pin_op pins number index → CanLookUp (process_of g.plan cpu) number
  pin-looks_up pins number index has is = record {
    process_below = process-below g v fit.0 cpu fit.1;
    number_below = (pin-piece g v fit.0 cpu pins number index fit.1 (subst (λ q. Has g cpu q) is has)).0;
  }

  pub unmap-looks_up : (number : ℕ) → Has g cpu op → op ≡ Unmap number → CanLookUp (process_of g.plan cpu) number
  unmap-looks_up number has is = record { process_below = process-below g v fit.0 cpu fit.1; number_below = unmap-number g v fit.0 cpu number fit.1 (subst (λ q. Has g cpu q) is has) }

  -- ---- its place, where its slot is found

  pub load-reaches : (number off len : ℕ) → Starts g cpu op → op ≡ Load number off len
      → (slot : ℕ) → find_slot g.parts.maps (process_of g.plan cpu) number ≡ Some slot → Reaches g cpu op false slot off
  load-reaches number off len starts is slot found =
      subst (λ q. Reaches g cpu q false slot off) (sym is)
      (load_reaches (flat_of g.plan g.journal) g v fit.0 cpu number off len slot fit.1 (subst (λ q. Starts g cpu q) is starts) found)

  pub store-reaches : (number off : ℕ) (bytes : List ℕ) → Starts g cpu op → op ≡ Store number off bytes
      → (slot : ℕ) → find_slot g.parts.maps (process_of g.plan cpu) number ≡ Some slot → Reaches g cpu op true slot off
  store-reaches number off bytes starts is slot found =
      subst (λ q. Reaches g cpu q true slot off) (sym is)
      (store_reaches (flat_of g.plan g.journal) g v fit.0 cpu number off bytes slot fit.1 (subst (λ q. Starts g cpu q) is starts) found)

  pub place-reaches : (pins : Bool) (number index : ℕ) → Starts g cpu op → op ≡ pin_op pins number index
      → (slot : ℕ) → find_slot g.parts.maps (process_of g.plan cpu) number ≡ Some slot → ReachesPlace g cpu op slot index
  place-reaches pins number index starts is slot found =
      subst (λ q. ReachesPlace g cpu q slot index) (sym is) (pin-reaches g cpu pins number index slot (subst (λ q. Starts g cpu q) is starts) found)

  -- ---- the entry or the pin there

  -- an entry can be set where a load or a store reaches
  map-reached : (writes : Bool) (slot off page : ℕ) → Reaches g cpu op writes slot off → CanMap g.parts page slot (off / PAGE)
  map-reached writes slot off page reaches = record { place = reached-place g cpu op writes slot off reaches; writers = writers-most g v fit.0 page fit.1 }

  pub load-maps : (number off len page : ℕ) → Starts g cpu op → op ≡ Load number off len
      → (slot : ℕ) → find_slot g.parts.maps (process_of g.plan cpu) number ≡ Some slot → CanMap g.parts page slot (off / PAGE)
  load-maps number off len page starts is slot found = map-reached false slot off page (load-reaches number off len starts is slot found)

  pub store-maps : (number off : ℕ) (bytes : List ℕ) (page : ℕ) → Starts g cpu op → op ≡ Store number off bytes
      → (slot : ℕ) → find_slot g.parts.maps (process_of g.plan cpu) number ≡ Some slot → CanMap g.parts page slot (off / PAGE)
  store-maps number off bytes page starts is slot found = map-reached true slot off page (store-reaches number off bytes starts is slot found)

  -- the page of an unpin has a pin
  some_pin : (pins : Bool) (number index page : ℕ) → Starts g cpu op → HasItsTag g cpu op page → op ≡ pin_op pins number index
      → pins ≡ false → 1 ≤ (info_at g.parts.pages page).pins
  some_pin true number index page starts has is unpins = let bad : true ≡ false = unpins in absurd cc
  some_pin false number index page starts has is unpins =
      unpin-some g v fit.0 cpu number index page fit.1 (subst (λ q. Starts g cpu q) is starts) (subst (λ q. HasItsTag g cpu q page) is has)

  pub can_pin : (pins : Bool) (number index page : ℕ) → Starts g cpu op → HasItsTag g cpu op page → op ≡ pin_op pins number index
      → (slot : ℕ) → find_slot g.parts.maps (process_of g.plan cpu) number ≡ Some slot → CanPin g.parts page slot index pins
  can_pin pins number index page starts has is slot found = record {
    place = (place-reaches pins number index starts is slot found).place;
    most = pins-most g v fit.0 page fit.1;
    some = some_pin pins number index page starts has is;
  }

  -- ---- a new mapping, and a sync

  pub new-mapping : (number file first count : ℕ) (writable : Bool) → Has g cpu op → op ≡ MapFile number file first count writable
      → IsMapping (process_of g.plan cpu) number (OfFile file first writable) count
  new-mapping number file first count writable has is =
      let pages = map-pages g v fit.0 cpu number file first count writable fit.1 (subst (λ q. Has g cpu q) is has) in
      (process-below g v fit.0 cpu fit.1, pages.0, pages.1)

  pub slot-free : (number file first count : ℕ) (writable : Bool) → Starts g cpu op → op ≡ MapFile number file first count writable → IsSome (free_slot g.parts.maps)
  slot-free number file first count writable starts is = map-free g v fit.0 cpu number file first count writable fit.1 (subst (λ q. Starts g cpu q) is starts)

  pub new-own : (number count : ℕ) → Has g cpu op → op ≡ MapAnon number count → IsMapping (process_of g.plan cpu) number OfItsOwn count
  new-own number count has is =
      let pages = command_in_range g.plan cpu (processor_at g cpu).place (MapAnon number count) fit.1.sizes.range (subst (λ q. Has g cpu q) is has).command in
      (process-below g v fit.0 cpu fit.1, pages.0, pages.1)

  pub slot-free_own : (number count : ℕ) → Starts g cpu op → op ≡ MapAnon number count → IsSome (free_slot g.parts.maps)
  slot-free_own number count starts is = map_own-free g v fit.0 cpu number count fit.1 (subst (λ q. Starts g cpu q) is starts)

  pub sync-begins : (file : ℕ) → Starts g cpu op → op ≡ Sync file → IsSyncing g cpu file 0
  sync-begins file starts is = sync-starts g v fit.0 cpu file fit.1 (subst (λ q. Starts g cpu q) is starts)
