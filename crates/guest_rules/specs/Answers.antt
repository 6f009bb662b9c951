-- What a call on one page leaves, and why it answers so, by its answer.
use Rattle.std.specs.Prelude.{◌≡◌, ◌≢◌, ◌⊎◌, ◌<◌, ℕ, ◌+◌, ◌-◌, ◌||◌, List, ◌∷◌, length, take, drop, Bool, true, false, nat_lt, if◌then◌else◌, Option, Some, None, IsSome, Result, Ok, Err}
use Rattle.cmm_types.specs.declared.page.Usage.TheVariants.{S, U}
use Rattle.cmm_types.specs.declared.page.Tag.{Tag}
use Rattle.cmm_types.specs.declared.page.Tag.TheVariants.{Anon}
use Rattle.cmm_types.specs.declared.command.Cause.{Cause}
use Rattle.cmm_types.specs.declared.command.Cause.TheVariants.{Disk, Paging, NoPage as NoPageCause}
use Rattle.cmm_types.specs.Sums.{one_if}
use Rattle.cmm_io.specs.Faults.{HasRisen, raised}
use Rattle.cmm_io.specs.DiskView.{DiskView, with_block}
use Rattle.essa_state.specs.PageValue.{PageValue, Bytes, IsValue, MayBecome, is_lost, is_blank}
use Rattle.cmm_storage.specs.StorageView.{StorageView, Misses}
use Rattle.cmm_types.specs.Bytes.{with_bytes}
use Rattle.guest_pages.specs.PagesView.{info_at, free_info}
use Rattle.guest_cache.specs.CacheView.{page_of, swap_slot}
use Rattle.guest_maps.specs.declared.slot.Pte.{Pte}
use Rattle.guest_maps.specs.MapsView.{entries_showing, with_entry, with_pinned}
use Rattle.guest_rules.specs.declared.parts.Parts.{Parts}
use Rattle.guest_rules.specs.declared.outcome.Gone.{Gone}
use Rattle.guest_rules.specs.declared.outcome.Filled.{Filled}
use Rattle.guest_rules.specs.declared.outcome.Filled.TheVariants.{Done, Again as FilledAgain, Fail as FilledFail}
use Rattle.guest_rules.specs.declared.outcome.Missed.{Missed}
use Rattle.guest_rules.specs.declared.outcome.Missed.TheVariants.{Gone as WasGone, Again as MissedAgain, Fail as MissedFail}
use Rattle.guest_rules.specs.declared.outcome.Placed.{Placed}
use Rattle.guest_rules.specs.declared.outcome.Placed.TheVariants.{Done as PlaceDone, Gone as PlaceGone, Again as PlaceAgain}
use Rattle.guest_rules.specs.declared.outcome.Synced.{Synced}
use Rattle.guest_rules.specs.declared.outcome.Synced.TheVariants.{Clean, Locked, Gone as SyncGone, Waits, Again as SyncAgain}
use Rattle.guest_rules.specs.declared.outcome.Room.{Room}
use Rattle.guest_rules.specs.declared.outcome.Room.TheVariants.{Freed, Locked as RoomLocked, Waits as RoomWaits, NoPage, Again as RoomAgain}
use Rattle.guest_rules.specs.Hint.{hint}
use Rattle.guest_rules.specs.Rows.{dirtied, backing_at, pins_after}
use Rattle.guest_rules.specs.Fit.{backed}
use Rattle.guest_rules.specs.MakeRoom.{first_to_go, first_locked, pinned_count}
use Rattle.guest_rules.specs.Stuck.{IsStuck}

-- ---- what the page is before the call

-- the page has a tag
pub record HasTag (parts : Parts) (page : ℕ) : Type 0 where
  pub below : page < length parts.pages.infos
  pub tag : Tag
  pub tagged : (info_at parts.pages page).tag ≡ Some tag

-- the held page can be told its hint: it is stable and has a tag, and isn't blank where it is up to date
pub record CanBeTold (parts : Parts) (page : ℕ) (v : StorageView) : Type 0 where
  pub has : HasTag parts page
  pub stable : (v.values page).usage ≡ S
  pub filled : (info_at parts.pages page).uptodate ≡ true → is_blank (v.values page).contents ≡ false

-- the page has a tag and its bytes, which the host may have discarded since
pub record HasBeenFilled (parts : Parts) (page : ℕ) (v : StorageView) : Type 0 where
  pub has : HasTag parts page
  pub tells : v.tells ≡ true
  pub used : (v.values page).usage ≢ U
  pub filled : is_blank (v.values page).contents ≡ false

-- the page has a tag and is still to be filled: nothing else is known of it but who has locked it, and it is stable
pub record IsToBeFilled (parts : Parts) (page : ℕ) (v : StorageView) (d : DiskView) : Type 0 where
  pub has : HasTag parts page
  pub clean : (info_at parts.pages page).dirty ≡ false
  pub unpinned : (info_at parts.pages page).pins ≡ 0
  pub unshown : (info_at parts.pages page).writers ≡ 0
  pub stable : (v.values page).usage ≡ S
  pub value : IsValue (v.values page)
  pub tells : v.tells ≡ true
  pub told : (blocks : List (List ℕ)) × (d.blocks ≡ Some blocks)

-- the page has a tag with a block, and its bytes; it is stable
pub record IsToBeWritten (parts : Parts) (page : ℕ) (v : StorageView) : Type 0 where
  pub has : HasTag parts page
  pub block : ℕ
  pub backed_by : backing_at parts page ≡ Some block
  pub stable : (v.values page).usage ≡ S
  pub value : IsValue (v.values page)
  pub filled : is_blank (v.values page).contents ≡ false
  pub tells : v.tells ≡ true

-- ---- what the call leaves

-- the page is free: nothing is known of it, no entry shows it, and it is the next free one
pub record IsFree (parts : Parts) (page : ℕ) : Type 0 where
  pub bare : info_at parts.pages page ≡ free_info
  pub unshown : entries_showing parts.maps page ≡ 0
  pub next : (rest : List ℕ) × (parts.pages.free ≡ page ∷ rest)

-- a discarded page was handled: it is free, and the host was told that it is unused; one fault more is counted
pub record IsHandled (old : Parts) (page : ℕ) (new : Parts) (w : StorageView) : Type 0 where
  pub free : IsFree new page
  pub counted : new.faults ≡ raised old.faults
  pub unused : (w.values page).usage ≡ U

-- the host had discarded the page by the time that the call took it
pub record WasDiscarded (old : Parts) (page : ℕ) (v : StorageView) (new : Parts) (w : StorageView) : Type 0 where
  pub handled : IsHandled old page new w
  pub found : PageValue
  pub may : MayBecome (v.values page) found
  pub lost : is_lost found.contents ≡ true

-- of the tables at most this changed: the page was found changed, and is dirty
abbrev pub MayBeDirty : (old : Parts) → (page : ℕ) → (new : Parts) → Type 0
MayBeDirty old page new = (new ≡ old) ⊎ (new ≡ dirtied old page)

-- the host was told the page's hint, and its change bit is 0
pub record IsHinted (parts : Parts) (page : ℕ) (w : StorageView) : Type 0 where
  pub usage : (w.values page).usage ≡ hint (info_at parts.pages page)
  pub unchanged : (w.values page).changed ≡ false

-- ---- the held page

-- the change bit moved into what is known of the page, and the host was told its hint; the page's bytes are as they were
pub record IsRetold (old : Parts) (page : ℕ) (v : StorageView) (new : Parts) (w : StorageView) : Type 0 where
  pub hinted : IsHinted new page w
  pub dirty : (info_at new.pages page).dirty ≡ ((v.values page).changed || (info_at old.pages page).dirty)
  pub tables : MayBeDirty old page new
  pub same : (w.values page).contents ≡ (v.values page).contents

-- a held page was made stable, exactly where it wasn't discarded
abbrev pub StableAnswer : Parts → ℕ → StorageView → Parts → Result Unit Gone → StorageView → Type 0
StableAnswer old page v new (Ok u) w = (is_lost (v.values page).contents ≡ false) × (new ≡ old) × (w.values page ≡ record (v.values page) { usage = S })
StableAnswer old page v new (Err gone) w = (is_lost (v.values page).contents ≡ true) × IsHandled old page new w

-- ---- a page that is read, written or pinned

-- the count behind a failure: that of the disk, or of the storage; none fails for want of a page
abbrev pub FailCause : Cause → StorageView → DiskView → StorageView → DiskView → Type 0
FailCause Disk v d w e = HasRisen d.faults e.faults
FailCause Paging v d w e = HasRisen v.faults w.faults
FailCause (NoPageCause pinned unslotted) v d w e = ⊥

-- why a page wasn't reached: it was discarded; the storage missed it; or the storage failed
abbrev pub MissedAnswer : Parts → ℕ → StorageView → Parts → Missed → StorageView → Type 0
MissedAnswer old page v new WasGone w = WasDiscarded old page v new w
MissedAnswer old page v new (MissedAgain why) w = MayBeDirty old page new × Misses v w
MissedAnswer old page v new (MissedFail Disk) w = ⊥
MissedAnswer old page v new (MissedFail Paging) w = MayBeDirty old page new × HasRisen v.faults w.faults
MissedAnswer old page v new (MissedFail (NoPageCause pinned unslotted)) w = ⊥

-- the bytes are those of the page from an offset on
pub record AreBytesOf (w : StorageView) (page off len : ℕ) (bytes : List ℕ) : Type 0 where
  pub all : List ℕ
  pub are : (w.values page).contents ≡ Bytes all
  pub taken : bytes ≡ take len (drop off all)

-- the bytes stand in the page from an offset on, in place of as many that it was found with
pub record HasWritten (v : StorageView) (page off : ℕ) (bytes : List ℕ) (w : StorageView) : Type 0 where
  pub found : PageValue
  pub may : MayBecome (v.values page) found
  pub all : List ℕ
  pub had : found.contents ≡ Bytes all
  pub has : (w.values page).contents ≡ Bytes (with_bytes all off bytes)

abbrev pub ReadAnswer : Parts → (page off len : ℕ) → StorageView → Parts → Result (List ℕ) Missed → StorageView → Type 0
ReadAnswer old page off len v new (Ok bytes) w = AreBytesOf w page off len bytes × IsHinted new page w × MayBeDirty old page new
ReadAnswer old page off len v new (Err missed) w = MissedAnswer old page v new missed w

-- a page that was written is dirty and stable
abbrev pub WriteAnswer : Parts → (page off : ℕ) → List ℕ → StorageView → Parts → Result Unit Missed → StorageView → Type 0
WriteAnswer old page off bytes v new (Ok u) w = HasWritten v page off bytes w × ((w.values page).usage ≡ S) × ((w.values page).changed ≡ false) × (new ≡ dirtied old page)
WriteAnswer old page off bytes v new (Err missed) w = MissedAnswer old page v new missed w

-- the same through an entry: the tables are as they were, also where the call missed or failed
abbrev pub EntryMissed : Parts → ℕ → StorageView → Parts → Missed → StorageView → Type 0
EntryMissed old page v new WasGone w = WasDiscarded old page v new w
EntryMissed old page v new (MissedAgain why) w = (new ≡ old) × Misses v w
EntryMissed old page v new (MissedFail Disk) w = ⊥
EntryMissed old page v new (MissedFail Paging) w = (new ≡ old) × HasRisen v.faults w.faults
EntryMissed old page v new (MissedFail (NoPageCause pinned unslotted)) w = ⊥

abbrev pub LoadAnswer : Parts → (page off len : ℕ) → StorageView → Parts → Result (List ℕ) Missed → StorageView → Type 0
LoadAnswer old page off len v new (Ok bytes) w = AreBytesOf w page off len bytes × (new ≡ old)
LoadAnswer old page off len v new (Err missed) w = EntryMissed old page v new missed w

-- a page that was stored to is changed
abbrev pub StoreAnswer : Parts → (page off : ℕ) → List ℕ → StorageView → Parts → Result Unit Missed → StorageView → Type 0
StoreAnswer old page off bytes v new (Ok u) w = HasWritten v page off bytes w × ((w.values page).changed ≡ true) × (new ≡ old)
StoreAnswer old page off bytes v new (Err missed) w = EntryMissed old page v new missed w

-- the place is pinned or isn't, and the page has one pin more or less
pub record HasPinned (old : Parts) (page slot index : ℕ) (pins : Bool) (new : Parts) : Type 0 where
  pub maps : new.maps ≡ with_pinned old.maps slot index pins
  pub count : (info_at new.pages page).pins ≡ pins_after pins (info_at old.pages page).pins

-- a pin never fails
abbrev pub PinAnswer : Parts → (page slot index : ℕ) → (pins : Bool) → StorageView → Parts → Placed → StorageView → Type 0
PinAnswer old page slot index pins v new PlaceDone w = HasPinned old page slot index pins new × IsHinted new page w
PinAnswer old page slot index pins v new PlaceGone w = WasDiscarded old page v new w
PinAnswer old page slot index pins v new (PlaceAgain why) w = (new ≡ old) × Misses v w

-- ---- the entry of a page

abbrev pub ResolveAnswer : Parts → (page slot index : ℕ) → (writable : Bool) → StorageView → Parts → Placed → StorageView → Type 0
ResolveAnswer old page slot index writable v new PlaceDone w = (new.maps ≡ with_entry old.maps slot index (Some (record { page = page; writable = writable }))) × IsHinted new page w
ResolveAnswer old page slot index writable v new PlaceGone w = WasDiscarded old page v new w
ResolveAnswer old page slot index writable v new (PlaceAgain why) w = (new ≡ old) × Misses v w

-- the place has no entry, and the page one writer less where the entry allowed stores
abbrev pub ClearAnswer : Parts → (slot index : ℕ) → Pte → StorageView → Parts → Placed → StorageView → Type 0
ClearAnswer old slot index pte v new PlaceDone w =
    (new.maps ≡ with_entry old.maps slot index None) × ((info_at new.pages pte.page).writers ≡ (info_at old.pages pte.page).writers - one_if pte.writable) × IsHinted new pte.page w
ClearAnswer old slot index pte v new PlaceGone w = WasDiscarded old pte.page v new w
ClearAnswer old slot index pte v new (PlaceAgain why) w = (new ≡ old) × Misses v w

-- ---- a page that is taken off its mapping

-- the page is free, and the host was told that it is unused; no page has its tag, and the tag has no swap slot. No fault is counted
pub record IsTornOff (old : Parts) (slot index page : ℕ) (new : Parts) (w : StorageView) : Type 0 where
  pub free : IsFree new page
  pub pageless : page_of new.cache (Anon slot index) ≡ None
  pub slotless : swap_slot new.cache (Anon slot index) ≡ None
  pub unused : (w.values page).usage ≡ U
  pub faults : new.faults ≡ old.faults

-- whether the host had discarded the page isn't asked, so it is never gone
abbrev pub TearAnswer : Parts → (slot index page : ℕ) → StorageView → Parts → Placed → StorageView → Type 0
TearAnswer old slot index page v new PlaceDone w = IsTornOff old slot index page new w
TearAnswer old slot index page v new PlaceGone w = ⊥
TearAnswer old slot index page v new (PlaceAgain why) w = (new ≡ old) × Misses v w

-- ---- a page that is filled

-- the page is up to date and not locked, and has the bytes of what backs its tag
pub record IsFilled (old : Parts) (page : ℕ) (d : DiskView) (new : Parts) (w : StorageView) : Type 0 where
  pub uptodate : (info_at new.pages page).uptodate ≡ true
  pub unlocked : (info_at new.pages page).owner ≡ None
  pub bytes : (w.values page).contents ≡ Bytes (backed d.blocks (backing_at old page))
  pub hinted : IsHinted new page w

abbrev pub FillAnswer : Parts → ℕ → StorageView → DiskView → Parts → Filled → StorageView → DiskView → Type 0
FillAnswer old page v d new Done w e = IsFilled old page d new w
FillAnswer old page v d new (FilledAgain why) w e = (new ≡ old) × Misses v w × (e ≡ d)
FillAnswer old page v d new (FilledFail cause) w e = IsFree new page × ((w.values page).usage ≡ U) × FailCause cause v d w e

-- ---- a page that is synced

-- the page is locked by the processor, and dirty: it was so before, or was found changed
pub record IsLockedFor (old : Parts) (page cpu : ℕ) (v : StorageView) (new : Parts) (w : StorageView) : Type 0 where
  pub owner : (info_at new.pages page).owner ≡ Some cpu
  pub dirty : (info_at new.pages page).dirty ≡ true
  pub stable : (w.values page).usage ≡ S
  pub unchanged : (w.values page).changed ≡ false
  pub found : PageValue
  pub may : MayBecome (v.values page) found
  pub was : (found.changed || (info_at old.pages page).dirty) ≡ true

-- the page was found unchanged, and isn't dirty
pub record WasClean (old : Parts) (page : ℕ) (v : StorageView) : Type 0 where
  pub clean : (info_at old.pages page).dirty ≡ false
  pub found : PageValue
  pub may : MayBecome (v.values page) found
  pub unchanged : found.changed ≡ false

-- what became of a page that nobody had locked
abbrev pub LookAnswer : Parts → (page cpu : ℕ) → StorageView → Parts → Synced → StorageView → Type 0
LookAnswer old page cpu v new Clean w = WasClean old page v × (new ≡ old) × IsHinted new page w
LookAnswer old page cpu v new Locked w = IsLockedFor old page cpu v new w
LookAnswer old page cpu v new SyncGone w = WasDiscarded old page v new w
LookAnswer old page cpu v new (Waits owner) w = ⊥
LookAnswer old page cpu v new (SyncAgain why) w = (new ≡ old) × Misses v w

-- a page that a processor had locked is waited for, and nothing changes
abbrev pub SyncAnswer : Parts → (page cpu : ℕ) → StorageView → Parts → Synced → StorageView → Type 0
SyncAnswer old page cpu v new answer w = by (info_at old.pages page).owner
  where
    by : Option ℕ → Type 0
    by (Some owner) = (answer ≡ Waits owner) × (new ≡ old) × (w ≡ v)
    by None = LookAnswer old page cpu v new answer w

-- the page isn't locked any more; it is dirty where it was left so, or was stored to since it was locked
pub record IsUnlocked (page : ℕ) (v : StorageView) (left : Bool) (new : Parts) (w : StorageView) : Type 0 where
  pub owner : (info_at new.pages page).owner ≡ None
  pub dirty : (info_at new.pages page).dirty ≡ ((v.values page).changed || left)
  pub hinted : IsHinted new page w
  pub same : (w.values page).contents ≡ (v.values page).contents

-- the block of the page's tag has its bytes, and nothing else of the disk changed
pub record IsWrittenBack (old : Parts) (page : ℕ) (v : StorageView) (d e : DiskView) : Type 0 where
  pub block : ℕ
  pub backs : backing_at old page ≡ Some block
  pub bytes : List ℕ
  pub are : (v.values page).contents ≡ Bytes bytes
  pub blocks : e.blocks ≡ with_block d.blocks block bytes

abbrev pub BackAnswer : Parts → ℕ → StorageView → DiskView → Parts → Filled → StorageView → DiskView → Type 0
BackAnswer old page v d new Done w e = IsWrittenBack old page v d e × IsUnlocked page v false new w
BackAnswer old page v d new (FilledAgain why) w e = (new ≡ old) × Misses v w × (e ≡ d)
BackAnswer old page v d new (FilledFail cause) w e = IsUnlocked page v (info_at old.pages page).dirty new w × (e.blocks ≡ d.blocks) × FailCause cause v d w e

-- ---- a page that makes room

-- the page has a tag and its bytes; where it is changed, it is known to be dirty or has a block to be written to
pub record CanBeWrittenOut (parts : Parts) (page : ℕ) (v : StorageView) : Type 0 where
  pub filled : HasBeenFilled parts page v
  pub backed_by : (v.values page).changed ≡ true → ((info_at parts.pages page).dirty ≡ true) ⊎ IsSome (backing_at parts page)

-- the page was clean, and is free: the host was told that it is unused, and the hand stands behind it
pub record IsCleared (old : Parts) (page : ℕ) (v : StorageView) (new : Parts) (w : StorageView) : Type 0 where
  pub was : WasClean old page v
  pub free : IsFree new page
  pub unused : (w.values page).usage ≡ U
  pub hand : new.hand ≡ (if nat_lt (page + 1) (length old.pages.infos) then page + 1 else 0)
  pub faults : new.faults ≡ old.faults

-- the first page that can go was discarded or clean, and is free; or it is dirty and is locked, and has a block. Otherwise none can go
abbrev pub RoomAnswer : Parts → (cpu : ℕ) → StorageView → Parts → Room → StorageView → Type 0
RoomAnswer old cpu v new Freed w =
    (page : ℕ) × (first_to_go old ≡ Some page) × ((WasDiscarded old page v new w × (new.hand ≡ old.hand)) ⊎ IsCleared old page v new w)
RoomAnswer old cpu v new (RoomLocked page) w = (first_to_go old ≡ Some page) × IsLockedFor old page cpu v new w × IsSome (backing_at new page)
RoomAnswer old cpu v new (RoomWaits page owner) w =
    (first_to_go old ≡ None) × (first_locked old ≡ Some page) × ((info_at old.pages page).owner ≡ Some owner) × (new ≡ old) × (w ≡ v)
RoomAnswer old cpu v new (NoPage pinned unslotted) w =
    IsStuck old × (pinned ≡ pinned_count old) × (pinned + unslotted ≡ length old.pages.infos) × (new ≡ old) × (w ≡ v)
RoomAnswer old cpu v new (RoomAgain why) w = (new ≡ old) × Misses v w
