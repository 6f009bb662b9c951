-- What stands before the parts of a turn.
use Rattle.std.specs.Prelude.{◌≡◌, ◌<◌, ◌≤◌, ◌+◌, ◌/◌, ◌^◌, ◌&&◌, not, if◌then◌else◌, ℕ, Bool, true, false, length, Option, Some, None}
use Rattle.cmm_types.specs.declared.page.TheConstants.{PAGE}
use Rattle.cmm_types.specs.declared.page.Tag.{Tag}
use Rattle.cmm_types.specs.declared.plan.TheConstants.{MAX_PROCESSES}
use Rattle.cmm_types.specs.declared.command.TheConstants.{MAX_MAPPING_NUMBERS, MAX_MAPPING_PAGES}
use Rattle.cmm_types.specs.declared.command.Op.{Op}
use Rattle.cmm_types.specs.declared.command.FlatRefusal.{FlatRefusal}
use Rattle.cmm_types.specs.declared.command.FlatRefusal.TheVariants.{OutOfRange, ReadOnly}
use Rattle.cmm_io.specs.DiskView.{DiskView}
use Rattle.cmm_storage.specs.StorageView.{StorageView}
use Rattle.guest_cache.specs.CacheView.{IsTag, page_of}
use Rattle.guest_maps.specs.declared.slot.Pte.{Pte}
use Rattle.guest_maps.specs.declared.slot.Spot.{Spot}
use Rattle.guest_maps.specs.MapsView.{MapsView, slot_at, is_torn, any_pinned, entry_at}
use Rattle.guest_rules.specs.declared.parts.Parts.{Parts}
use Rattle.guest_rules.specs.GuestState.{GuestState, processor_at}
use Rattle.guest_rules.specs.Turns.{mapping_pages}
use Rattle.guest_rules.specs.Fit.{Fit, all_commands}
use Rattle.guest_rules.proofs.Cases.Reached.{Reaches}

-- fit beside some disk, for the turns that reach none
abbrev pub IsFit : GuestState → StorageView → Type 0
IsFit g v = (d : DiskView) × Fit g v d

-- a processor can go on to its next command: it is there, and that command's number is within range
pub record CanGoOn (g : GuestState) (cpu : ℕ) : Type 0 where
  pub there : cpu < length g.processors
  pub next : (processor_at g cpu).place + 1 < 2 ^ 32

-- a processor's reply can be entered: the processor is there, the journal has room, and the number of its next command is within range
pub record CanEnter (g : GuestState) (cpu : ℕ) : Type 0 where
  pub there : cpu < length g.processors
  pub room : length g.journal < all_commands g.plan
  pub next : (processor_at g cpu).place + 1 < 2 ^ 32

-- a page can get a tag, which no page has
pub record CanGetTag (parts : Parts) (page : ℕ) (tag : Tag) : Type 0 where
  pub below : page < length parts.pages.infos
  pub is_tag : IsTag parts.cache tag
  pub new : page_of parts.cache tag ≡ None

-- a process's mapping of this number can be looked up
pub record CanLookUp (process number : ℕ) : Type 0 where
  pub process_below : process < MAX_PROCESSES
  pub number_below : number < MAX_MAPPING_NUMBERS

-- a load or a store finds an entry that serves it, and shows the page
pub record Hits (g : GuestState) (cpu : ℕ) (op : Op) (page : ℕ) : Type 0 where
  pub writes : Bool
  pub slot : ℕ
  pub off : ℕ
  pub writable : Bool
  pub reaches : Reaches g cpu op writes slot off
  pub entry : entry_at g.parts.maps slot (off / PAGE) ≡ Some (record { page = page; writable = writable })
  pub serves : writes ≡ true → writable ≡ true

-- why the bytes at a place can't be reached, where all of them lie in its page
abbrev pub refusal_by_spot : (writes : Bool) → Option Spot → Option FlatRefusal
refusal_by_spot writes None = Some OutOfRange
refusal_by_spot writes (Some spot) = if writes && not spot.writable then Some ReadOnly else None

-- the page of an entry that serves a load, or a store where it `writes`
abbrev pub serving : (writes : Bool) → Option Pte → Option ℕ
serving writes None = None
serving writes (Some pte) = if writes && not pte.writable then None else Some pte.page

-- the mapping that was in a slot is torn down up to page `index`: up to there, and where it has no page, there is no entry, and nothing of it
-- is pinned
pub record IsTornTo (maps : MapsView) (slot index : ℕ) : Type 0 where
  pub below : slot < length maps.slots
  pub torn : is_torn (slot_at maps slot) ≡ true
  pub unpinned : any_pinned maps slot ≡ false
  pub past : (at : ℕ) → at ≤ index → entry_at maps slot at ≡ None
  pub outside : (at : ℕ) → at < MAX_MAPPING_PAGES → mapping_pages (slot_at maps slot) ≤ at → entry_at maps slot at ≡ None
