-- What the runs of the calls on one page say in words.
use Rattle.std.specs.Prelude.{◌≡◌, ◌<◌, ◌-◌, ◌||◌, ℕ, List, length, Bool, true, false, Option, Some, None, Result, Ok, Err, refl}
use Rattle.std.proofs.Common.{sym, ap, subst, inl, inr, ◌∙◌, ⊎_elim}
use Rattle.cmm_types.specs.declared.page.Usage.TheVariants.{S, V}
use Rattle.cmm_types.specs.declared.page.Tag.TheVariants.{Anon}
use Rattle.cmm_types.specs.declared.command.Cause.TheVariants.{Disk, Paging, NoPage}
use Rattle.cmm_types.specs.Sums.{one_if}
use Rattle.cmm_io.specs.DiskView.{DiskView}
use Rattle.essa_state.specs.PageValue.{PageValue, IsMadeUnused}
use Rattle.cmm_storage.specs.StorageView.{StorageView, Follows}
use Rattle.cmm_storage.specs.StorageCall.{StorageCall}
use Rattle.cmm_storage.specs.Program.{Program, done, DoesAlone}
use Rattle.cmm_storage.specs.Views.{Seen, does_seen}
use Rattle.guest_pages.specs.declared.info.PageInfo.{PageInfo}
use Rattle.guest_pages.specs.PagesView.{info_at, with_pins}
use Rattle.guest_pages.specs.Laws.PagesLaws.{info_at-with_info_same, length-with_info}
use Rattle.guest_cache.specs.CacheView.{page_of, swap_slot, unassigned, backing_of}
use Rattle.guest_maps.specs.declared.slot.Pte.{Pte}
use Rattle.guest_maps.specs.MapsView.{entries_showing, with_entry, with_pinned}
use Rattle.guest_maps.specs.Laws.MapsLaws.{entries_showing-without_same}
use Rattle.guest_rules.specs.declared.parts.Parts.{Parts}
use Rattle.guest_rules.specs.declared.outcome.Gone.{Gone}
use Rattle.guest_rules.specs.declared.outcome.Filled.{Filled}
use Rattle.guest_rules.specs.declared.outcome.Filled.TheVariants.{Done, Again as FilledAgain, Fail as FilledFail}
use Rattle.guest_rules.specs.declared.outcome.Missed.{Missed}
use Rattle.guest_rules.specs.declared.outcome.Missed.TheVariants.{Gone as WasGone, Again as MissedAgain, Fail as MissedFail}
use Rattle.guest_rules.specs.declared.outcome.Placed.{Placed}
use Rattle.guest_rules.specs.declared.outcome.Placed.TheVariants.{Done as PlaceDone, Gone as PlaceGone, Again as PlaceAgain}
use Rattle.guest_rules.specs.declared.outcome.Synced.{Synced}
use Rattle.guest_rules.specs.declared.outcome.Synced.TheVariants.{Clean, Locked, Gone as SyncGone, Waits, Again as SyncAgain}
use Rattle.guest_rules.specs.Hint.{hint}
use Rattle.guest_rules.specs.Rows.{freed, handled, handler, rehint, tell, make_stable, read_page, write_page, load_page, store_through, pinned}
use Rattle.guest_rules.specs.Rows.{pin_page, pins_after, mapped, resolve, unmapped, clear_entry, released, tear_page, filled, fill, backing_at, with_change}
use Rattle.guest_rules.specs.Syncs.{locked, unlocked, cleaned, sync_page, sync_owned, write_back}
use Rattle.guest_rules.specs.Calls.{CanTear}
use Rattle.guest_rules.specs.Answers.{HasTag, CanBeTold, HasBeenFilled, IsToBeFilled, IsToBeWritten, IsFree, IsHandled, WasDiscarded, MayBeDirty, IsHinted, IsRetold, StableAnswer, MissedAnswer}
use Rattle.guest_rules.specs.Answers.{EntryMissed, ReadAnswer, WriteAnswer, LoadAnswer, StoreAnswer, PinAnswer, ResolveAnswer, ClearAnswer, TearAnswer, FillAnswer, LookAnswer, SyncAnswer, IsUnlocked}
use Rattle.guest_rules.specs.Answers.{BackAnswer}
use Rattle.guest_rules.specs.Fit.{IsUntagged}
use Rattle.guest_rules.proofs.Cases.TurnCases.{IsRehinted}
use Rattle.guest_rules.proofs.Rows.ValueLaws.{hint-stale}
use Rattle.guest_rules.proofs.Kept.RowChanges.{change-freed, freed-free, freed-cache, freed-faults, freed-maps, handled-pages}
use Rattle.guest_rules.proofs.Kept.RowChanges.{handled-maps, change-changed, change-filled, filled_info, change-unmapped, maps-unmapped}
use Rattle.guest_rules.proofs.Kept.Untagged.{untagged-torn_off}
use Rattle.guest_rules.proofs.Kept.SyncTables.{change-locked, change-unlocked, change-cleaned}
use Rattle.guest_rules.proofs.Rows.Held.{Stabled, rehinted_value, seen_handler, seen_make_stable, seen_rehint}
use Rattle.guest_rules.proofs.Rows.Taken.{CanBeUsed, FoundDiscarded}
use Rattle.guest_rules.proofs.Ready.Ready.{is_used, is_used_mapped, is_used_pinned, is_used_filled, hint_clean}
use Rattle.guest_rules.proofs.Rows.MissedPage.{MissOutcome}
use Rattle.guest_rules.proofs.Rows.ReadPage.{ReadOutcome, seen_read_page}
use Rattle.guest_rules.proofs.Cases.CaseWrite.{can_be_dirty}
use Rattle.guest_rules.proofs.Rows.WritePage.{WriteOutcome, seen_write_page}
use Rattle.guest_rules.proofs.Rows.EntryPage.{EntryMiss, LoadOutcome, StoreOutcome, seen_load_page, seen_store_through}
use Rattle.guest_rules.proofs.Rows.PinPage.{PinOutcome, seen_pin_page}
use Rattle.guest_rules.proofs.Rows.ResolvePage.{ResolveOutcome, seen_resolve}
use Rattle.guest_rules.proofs.Rows.ClearEntry.{ClearOutcome, seen_clear_entry, is_used_unmapped}
use Rattle.guest_rules.proofs.Rows.TearPage.{TearOutcome, seen_tear_page}
use Rattle.guest_rules.proofs.Rows.FillPage.{CanBeFilled, FillOutcome, seen_fill}
use Rattle.guest_rules.proofs.Rows.SyncPage.{LookOutcome, seen_look}
use Rattle.guest_rules.proofs.Rows.WriteBack.{CanBeWritten, BackOutcome, seen_write_back}

-- ---- a page that is free

pub freed-is_free : (parts : Parts) (page : ℕ) → page < length parts.pages.infos → IsFree (freed parts page) page
freed-is_free parts page below = record {
  bare = (change-freed parts page below).here;
  unshown = ap (λ maps. entries_showing maps page) (freed-maps parts page) ∙ entries_showing-without_same parts.maps page;
  next = (parts.pages.free, freed-free parts page);
}

handled-is_free : (parts : Parts) (page : ℕ) → page < length parts.pages.infos → IsFree (handled parts page) page
handled-is_free parts page below =
    let is = freed-is_free parts page below in
    record {
      bare = ap (λ pages. info_at pages page) (handled-pages parts page) ∙ is.bare;
      unshown = ap (λ maps. entries_showing maps page) (handled-maps parts page) ∙ is.unshown;
      next = (is.next.0, ap (λ pages. pages.free) (handled-pages parts page) ∙ is.next.1);
    }

handled-is : (parts : Parts) (page : ℕ) (found : PageValue) (a : Parts) (w : StorageView) → page < length parts.pages.infos → a ≡ handled parts page → IsMadeUnused found (w.values page)
    → IsHandled parts page a w
unfolding handled
handled-is parts page found a w below tables unused = record {
  free = subst (λ q. IsFree q page) (sym tables) (handled-is_free parts page below);
  counted = ap (λ q. q.faults) tables;
  unused = unused.usage;
}

pub discarded-is : (parts : Parts) (page : ℕ) (v w : StorageView) (d e : DiskView) (a : Parts) → page < length parts.pages.infos → FoundDiscarded parts page v d a w e → WasDiscarded parts page v a w
discarded-is parts page v w d e a below k = record { handled = handled-is parts page k.found a w below k.tables k.unused; found = k.found; may = k.may; lost = k.lost }

-- ---- a page that was told its hint

may_be_dirty : (parts : Parts) (page : ℕ) (changed : Bool) (a : Parts) → a ≡ with_change parts page changed → MayBeDirty parts page a
may_be_dirty parts page true a tables = inr tables
may_be_dirty parts page false a tables = inl tables

pub dirty-after : (parts : Parts) (page : ℕ) (changed : Bool) → page < length parts.pages.infos
    → (info_at (with_change parts page changed).pages page).dirty ≡ (changed || (info_at parts.pages page).dirty)
dirty-after parts page true below = ap (λ i. i.dirty) (change-changed parts page true below).here
dirty-after parts page false below = refl

owner-after : (parts : Parts) (page : ℕ) (changed : Bool) → page < length parts.pages.infos → (info_at (with_change parts page changed).pages page).owner ≡ (info_at parts.pages page).owner
owner-after parts page true below = ap (λ i. i.owner) (change-changed parts page true below).here
owner-after parts page false below = refl

pins-after : (parts : Parts) (page : ℕ) (changed : Bool) → page < length parts.pages.infos → (info_at (with_change parts page changed).pages page).pins ≡ (info_at parts.pages page).pins
pins-after parts page true below = ap (λ i. i.pins) (change-changed parts page true below).here
pins-after parts page false below = refl

maps-after : (parts : Parts) (page : ℕ) (changed : Bool) → (with_change parts page changed).maps ≡ parts.maps
maps-after parts page true = refl
maps-after parts page false = refl

hinted-is : (parts : Parts) (page : ℕ) (found : PageValue) (a : Parts) (w : StorageView) → IsRehinted parts page found a (w.values page) → IsHinted a page w
hinted-is parts page found a w k = record { usage = ap (λ q. q.usage) k.value; unchanged = ap (λ q. q.changed) k.value }

-- ---- the held page

pub make_stable-says : (parts : Parts) (page : ℕ) (v : StorageView) (d : DiskView) (a : Parts) (r : Result Unit Gone) (w : StorageView) (e : DiskView)
    → page < length parts.pages.infos → Seen (make_stable parts page) v d (a, r) w e → StableAnswer parts page v a r w
make_stable-says parts page v d a r w e below run = of r (seen_make_stable parts page v d a r w e run)
  where
    of : (r : Result Unit Gone) → Stabled parts page v d a r w e → StableAnswer parts page v a r w
    of (Ok u) (stays, tables, there, value) = (there, tables, value)
    of (Err gone) (its, lost) = (lost, handled-is parts page (v.values page) a w below its.tables its.unused)

pub handler-says : (parts : Parts) (page : ℕ) (v : StorageView) (d : DiskView) (a : Parts) (w : StorageView) (e : DiskView)
    → page < length parts.pages.infos → Seen (handler parts page) v d a w e → IsHandled parts page a w
handler-says parts page v d a w e below run =
    let k = seen_handler parts page v d a w e run in
    handled-is parts page (v.values page) a w below k.tables k.unused

-- a page that isn't up to date stays stable
stale-hint : (parts : Parts) (page : ℕ) (changed : Bool) → HasTag parts page → (info_at parts.pages page).uptodate ≡ false → hint (info_at (with_change parts page changed).pages page) ≡ S
stale-hint parts page true has stale =
    let here = (change-changed parts page true has.below).here in
    hint-stale _ has.tag (ap (λ i. i.tag) here ∙ has.tagged) (ap (λ i. i.uptodate) here ∙ stale)
stale-hint parts page false has stale = hint-stale _ has.tag has.tagged stale

-- parts the guest's tables, page the page, v its storage
module _ (parts : Parts) (page : ℕ) (v : StorageView) where
  -- what a rehint did, in two equations
  record WasRetold (a : Parts) (w : StorageView) : Type 0 where
    tables : a ≡ with_change parts page (v.values page).changed
    value : w.values page ≡ rehinted_value a page (v.values page)

  rehint_stale : (d : DiskView) (a : Parts) (w : StorageView) (e : DiskView) → HasTag parts page → (info_at parts.pages page).uptodate ≡ false → (v.values page).usage ≡ S
      → Seen (rehint parts page) v d a w e → WasRetold a w
  unfolding rehint
  rehint_stale d a w e has stale stable (changed, m, (keeps, nothing, still, holds, was, value, _), run) =
      told (subst (λ u. Seen (tell u (with_change parts page changed) page) m d a w e) (stale-hint parts page changed has stale) run)
    where
      told : Seen (done (with_change parts page changed)) m d a w e → WasRetold a w
      told (ea, em, ed) =
          let hinted : hint (info_at a.pages page) ≡ S = ap (λ q. hint (info_at q.pages page)) ea ∙ stale-hint parts page changed has stale in
          record {
            tables = ea ∙ ap (λ b. with_change parts page b) was;
            value = ap (λ q. q.values page) em ∙ value ∙ ap (λ u. record (v.values page) { usage = u; changed = false }) (stable ∙ sym hinted);
          }

  pub rehint-says : (d : DiskView) (a : Parts) (w : StorageView) (e : DiskView) → CanBeTold parts page v → Seen (rehint parts page) v d a w e → IsRetold parts page v a w
  rehint-says d a w e can run = by (info_at parts.pages page).uptodate refl
    where
      told : WasRetold a w → IsRetold parts page v a w
      told k = record {
        hinted = record { usage = ap (λ q. q.usage) k.value; unchanged = ap (λ q. q.changed) k.value };
        dirty = ap (λ q. (info_at q.pages page).dirty) k.tables ∙ dirty-after parts page (v.values page).changed can.has.below;
        tables = may_be_dirty parts page (v.values page).changed a k.tables;
        same = ap (λ q. q.contents) k.value;
      }

      by : (uptodate : Bool) → (info_at parts.pages page).uptodate ≡ uptodate → IsRetold parts page v a w
      by true u =
          let k = seen_rehint parts page v d a w e (is_used parts page can.has.tag can.has.below can.has.tagged) can.stable (can.filled u) run in
          told (record { tables = k.tables; value = k.value })
      by false u = told (rehint_stale d a w e can.has u can.stable run)

  -- ---- a page that is read, written or pinned

  pub usable : HasBeenFilled parts page v → CanBeUsed parts page v
  usable can = record { tells = can.tells; hinted = is_used parts page can.has.tag can.has.below can.has.tagged; usage = can.used; filled = can.filled }

  missed-says : (w : StorageView) (d e : DiskView) (a : Parts) (missed : Missed) → page < length parts.pages.infos → MissOutcome parts page v d a missed w e → MissedAnswer parts page v a missed w
  missed-says w d e a WasGone below k = discarded-is parts page v w d e a below k
  missed-says w d e a (MissedAgain why) below (tables, misses) =
      (⊎_elim (λ (same, may, disk). inl same) (λ (found, there). may_be_dirty parts page found.changed a there.rehinted.tables) tables, misses)
  missed-says w d e a (MissedFail Paging) below ((found, there), risen) = (may_be_dirty parts page found.changed a there.rehinted.tables, risen)
  missed-says w d e a (MissedFail Disk) below k = k
  missed-says w d e a (MissedFail (NoPage pinned unslotted)) below k = k

pub read-says : (parts : Parts) (page off len : ℕ) (v : StorageView) (d : DiskView) (a : Parts) (r : Result (List ℕ) Missed) (w : StorageView) (e : DiskView)
    → HasBeenFilled parts page v → Seen (read_page parts page off len) v d (a, r) w e → ReadAnswer parts page off len v a r w
read-says parts page off len v d a r w e can run = of r (seen_read_page parts page off len v d a r w e (usable parts page v can) run)
  where
    of : (r : Result (List ℕ) Missed) → ReadOutcome parts page off len v d a r w e → ReadAnswer parts page off len v a r w
    of (Ok bytes) k = (
      record { all = k.all; are = ap (λ q. q.contents) k.is.rehinted.value ∙ k.are; taken = k.taken },
      hinted-is parts page k.found a w k.is.rehinted,
      may_be_dirty parts page k.found.changed a k.is.rehinted.tables,
    )
    of (Err missed) k = missed-says parts page v w d e a missed can.has.below k

pub write-says : (parts : Parts) (page off : ℕ) (bytes : List ℕ) (v : StorageView) (d : DiskView) (a : Parts) (r : Result Unit Missed) (w : StorageView) (e : DiskView)
    → HasBeenFilled parts page v → Seen (write_page parts page off bytes) v d (a, r) w e → WriteAnswer parts page off bytes v a r w
write-says parts page off bytes v d a r w e can run = of r (seen_write_page parts page off bytes v d a r w e (usable parts page v can)
    (can_be_dirty parts page can.has.tag can.has.below can.has.tagged) run)
  where
    of : (r : Result Unit Missed) → WriteOutcome parts page off bytes v d a r w e → WriteAnswer parts page off bytes v a r w
    of (Ok u) k = (
      record { found = k.found; may = k.may; all = k.all; had = k.are; has = ap (λ q. q.contents) k.value },
      ap (λ q. q.usage) k.value,
      ap (λ q. q.changed) k.value,
      k.tables,
    )
    of (Err missed) k = missed-says parts page v w d e a missed can.has.below k

-- ---- the same through an entry

entry_missed-says : (parts : Parts) (page : ℕ) (v w : StorageView) (d e : DiskView) (a : Parts) (missed : Missed) → page < length parts.pages.infos → EntryMiss parts page v d a missed w e
    → EntryMissed parts page v a missed w
entry_missed-says parts page v w d e a WasGone below k = discarded-is parts page v w d e a below k
entry_missed-says parts page v w d e a (MissedAgain why) below (tables, may, misses, disk) = (tables, misses)
entry_missed-says parts page v w d e a (MissedFail Paging) below (tables, may, risen) = (tables, risen)
entry_missed-says parts page v w d e a (MissedFail Disk) below k = k
entry_missed-says parts page v w d e a (MissedFail (NoPage pinned unslotted)) below k = k

pub load-says : (parts : Parts) (page off len : ℕ) (v : StorageView) (d : DiskView) (a : Parts) (r : Result (List ℕ) Missed) (w : StorageView) (e : DiskView)
    → HasBeenFilled parts page v → Seen (load_page parts page off len) v d (a, r) w e → LoadAnswer parts page off len v a r w
load-says parts page off len v d a r w e can run = of r (seen_load_page parts page off len v d a r w e (usable parts page v can) run)
  where
    of : (r : Result (List ℕ) Missed) → LoadOutcome parts page off len v d a r w e → LoadAnswer parts page off len v a r w
    of (Ok bytes) (tables, k) = (record { all = k.all; are = k.are; taken = k.loaded }, tables)
    of (Err missed) k = entry_missed-says parts page v w d e a missed can.has.below k

pub store-says : (parts : Parts) (page off : ℕ) (bytes : List ℕ) (v : StorageView) (d : DiskView) (a : Parts) (r : Result Unit Missed) (w : StorageView) (e : DiskView)
    → HasBeenFilled parts page v → Seen (store_through parts page off bytes) v d (a, r) w e → StoreAnswer parts page off bytes v a r w
store-says parts page off bytes v d a r w e can run = of r (seen_store_through parts page off bytes v d a r w e (usable parts page v can) run)
  where
    of : (r : Result Unit Missed) → StoreOutcome parts page off bytes v d a r w e → StoreAnswer parts page off bytes v a r w
    of (Ok u) (tables, k) = (record { found = k.found; may = k.may; all = k.all; had = k.are; has = ap (λ q. q.contents) k.value }, ap (λ q. q.changed) k.value, tables)
    of (Err missed) k = entry_missed-says parts page v w d e a missed can.has.below k

-- ---- pins and entries

pinned-pins : (parts : Parts) (page slot index : ℕ) (pins : Bool) → page < length parts.pages.infos
    → (info_at (pinned parts page slot index pins).pages page).pins ≡ pins_after pins (info_at parts.pages page).pins
unfolding pinned with_pins
pinned-pins parts page slot index pins below =
    ap (λ i. i.pins) (info_at-with_info_same parts.pages page (record (info_at parts.pages page) { pins = pins_after pins (info_at parts.pages page).pins }) below)

pinned-size : (parts : Parts) (page slot index : ℕ) (pins : Bool) → length (pinned parts page slot index pins).pages.infos ≡ length parts.pages.infos
unfolding pinned with_pins
pinned-size parts page slot index pins = length-with_info parts.pages page (record (info_at parts.pages page) { pins = pins_after pins (info_at parts.pages page).pins })

-- parts the guest's tables, page the page, slot the slot of a mapping, index a page of it
module _ (parts : Parts) (page slot index : ℕ) where
  pinned-maps : (pins : Bool) → (pinned parts page slot index pins).maps ≡ with_pinned parts.maps slot index pins
  unfolding pinned
  pinned-maps pins = refl

  pub pin-says : (pins : Bool) (v : StorageView) (d : DiskView) (a : Parts) (r : Placed) (w : StorageView) (e : DiskView) → HasBeenFilled parts page v
      → Seen (pin_page parts page slot index pins) v d (a, r) w e → PinAnswer parts page slot index pins v a r w
  pin-says pins v d a r w e can run =
      of r (seen_pin_page parts page slot index pins v d a r w e (usable parts page v can) (is_used_pinned parts page slot index pins can.has.tag can.has.below can.has.tagged) run)
    where
      middle : Parts
      middle = pinned parts page slot index pins

      of : (r : Placed) → PinOutcome parts page slot index pins v d a r w e → PinAnswer parts page slot index pins v a r w
      of PlaceDone (found, k) = (
        record {
          maps = ap (λ q. q.maps) k.rehinted.tables ∙ maps-after middle page found.changed ∙ pinned-maps pins;
          count = ap (λ q. (info_at q.pages page).pins) k.rehinted.tables ∙ pins-after middle page found.changed (rw pinned-size can.has.below) ∙ pinned-pins parts page slot index pins can.has.below;
        },
        hinted-is middle page found a w k.rehinted,
      )
      of PlaceGone k = discarded-is parts page v w d e a can.has.below k
      of (PlaceAgain why) (tables, may, misses, disk) = (tables, misses)

  mapped-maps : (writable : Bool) → (mapped parts page slot index writable).maps ≡ with_entry parts.maps slot index (Some (record { page = page; writable = writable }))
  unfolding mapped
  mapped-maps writable = refl

  pub resolve-says : (writable : Bool) (v : StorageView) (d : DiskView) (a : Parts) (r : Placed) (w : StorageView) (e : DiskView) → HasBeenFilled parts page v
      → Seen (resolve parts page slot index writable) v d (a, r) w e → ResolveAnswer parts page slot index writable v a r w
  resolve-says writable v d a r w e can run =
      of r (seen_resolve parts page slot index writable v d a r w e (usable parts page v can) (is_used_mapped parts page slot index writable can.has.tag can.has.below can.has.tagged) run)
    where
      middle : Parts
      middle = mapped parts page slot index writable

      of : (r : Placed) → ResolveOutcome parts page slot index writable v d a r w e → ResolveAnswer parts page slot index writable v a r w
      of PlaceDone (found, k) = (
        ap (λ q. q.maps) k.rehinted.tables ∙ maps-after middle page found.changed ∙ mapped-maps writable,
        hinted-is middle page found a w k.rehinted,
      )
      of PlaceGone k = discarded-is parts page v w d e a can.has.below k
      of (PlaceAgain why) (tables, may, misses, disk) = (tables, misses)

-- an entry is cleared

unmapped-writers : (parts : Parts) (slot index : ℕ) (pte : Pte) → pte.page < length parts.pages.infos
    → (info_at (unmapped parts slot index pte).pages pte.page).writers ≡ (info_at parts.pages pte.page).writers - one_if pte.writable
unmapped-writers parts slot index pte below = ap (λ (i : PageInfo). i.writers) (change-unmapped parts slot index pte below).here

writers-after : (parts : Parts) (page : ℕ) (changed : Bool) → page < length parts.pages.infos → (info_at (with_change parts page changed).pages page).writers ≡ (info_at parts.pages page).writers
writers-after parts page true below = ap (λ i. i.writers) (change-changed parts page true below).here
writers-after parts page false below = refl

pub clear-says : (parts : Parts) (slot index : ℕ) (pte : Pte) (v : StorageView) (d : DiskView) (a : Parts) (r : Placed) (w : StorageView) (e : DiskView)
    → HasBeenFilled parts pte.page v → Seen (clear_entry parts slot index pte) v d (a, r) w e → ClearAnswer parts slot index pte v a r w
clear-says parts slot index pte v d a r w e can run =
    of r (seen_clear_entry parts slot index pte v d a r w e (usable parts pte.page v can) (is_used_unmapped parts slot index pte can.has.tag can.has.below can.has.tagged) run)
  where
    middle : Parts
    middle = unmapped parts slot index pte

    of : (r : Placed) → ClearOutcome parts slot index pte v d a r w e → ClearAnswer parts slot index pte v a r w
    of PlaceDone (found, k) = (
      ap (λ q. q.maps) k.rehinted.tables ∙ maps-after middle pte.page found.changed ∙ maps-unmapped parts slot index pte,
      ap (λ q. (info_at q.pages pte.page).writers) k.rehinted.tables
          ∙ writers-after middle pte.page found.changed (rw (change-unmapped parts slot index pte can.has.below).size can.has.below)
          ∙ unmapped-writers parts slot index pte can.has.below,
      hinted-is middle pte.page found a w k.rehinted,
    )
    of PlaceGone k = discarded-is parts pte.page v w d e a can.has.below k
    of (PlaceAgain why) (tables, may, misses, disk) = (tables, misses)

-- ---- a page that is taken off its mapping

released-cache : (parts : Parts) (slot index : ℕ) → (released parts slot index).cache ≡ unassigned parts.cache (swap_slot parts.cache (Anon slot index))
unfolding released
released-cache parts slot index = refl

released-faults : (parts : Parts) (slot index : ℕ) → (released parts slot index).faults ≡ parts.faults
unfolding released
released-faults parts slot index = refl

released-is_free : (parts : Parts) (slot index page : ℕ) → IsFree parts page → IsFree (released parts slot index) page
unfolding released
released-is_free parts slot index page is = record { bare = is.bare; unshown = is.unshown; next = is.next }

-- neither a page nor a swap slot has its tag
torn_off-untagged : (parts : Parts) (v : StorageView) (slot index page : ℕ) → CanTear parts v slot index page → IsUntagged (released (freed parts page) slot index).cache slot index
torn_off-untagged parts v slot index page can =
    subst (λ c. IsUntagged c slot index)
    (sym (released-cache (freed parts page) slot index ∙ ap (λ c. unassigned c (swap_slot c (Anon slot index))) (freed-cache parts page (Anon slot index) can.tagged)))
    (untagged-torn_off parts.cache slot index can.once)

pub tear-says : (parts : Parts) (slot index page : ℕ) (v : StorageView) (d : DiskView) (a : Parts) (r : Placed) (w : StorageView) (e : DiskView)
    → CanTear parts v slot index page → Seen (tear_page parts slot index page) v d (a, r) w e → TearAnswer parts slot index page v a r w
tear-says parts slot index page v d a r w e can run = of r (seen_tear_page parts slot index page v d a r w e run)
  where
    of : (r : Placed) → TearOutcome parts slot index page v d a r w e → TearAnswer parts slot index page v a r w
    of PlaceDone k = record {
      free = subst (λ q. IsFree q page) (sym k.tables) (released-is_free (freed parts page) slot index page (freed-is_free parts page can.takes.in_use.below));
      pageless = ap (λ (q : Parts). page_of q.cache (Anon slot index)) k.tables ∙ (torn_off-untagged parts v slot index page can).0;
      slotless = ap (λ (q : Parts). swap_slot q.cache (Anon slot index)) k.tables ∙ (torn_off-untagged parts v slot index page can).1;
      unused = k.unused.usage;
      faults = ap (λ (q : Parts). q.faults) k.tables ∙ released-faults (freed parts page) slot index ∙ freed-faults parts page;
    }
    of PlaceGone k = k
    of (PlaceAgain why) (tables, may, misses, disk) = (tables, misses)

-- ---- a page that is filled

pub fill-says : (parts : Parts) (page : ℕ) (v : StorageView) (d : DiskView) (a : Parts) (r : Filled) (w : StorageView) (e : DiskView)
    → IsToBeFilled parts page v d → Seen (fill parts page) v d (a, r) w e → FillAnswer parts page v d a r w e
fill-says parts page v d a r w e can run = of r (seen_fill parts page v d a r w e fillable run)
  where
    info : info_at (filled parts page).pages page ≡ filled_info (info_at parts.pages page)
    info = (change-filled parts page can.has.below).here

    hinted : hint (info_at (filled parts page).pages page) ≡ V
    hinted = ap hint info ∙ hint_clean (filled_info (info_at parts.pages page)) can.has.tag can.has.tagged refl can.clean refl can.unpinned can.unshown

    fillable : CanBeFilled parts page v d
    fillable = record { tells = can.tells; told = can.told; usage = can.stable; value = can.value; used = is_used_filled parts page can.has.tag can.has.below can.has.tagged; hinted = hinted }

    of : (r : Filled) → FillOutcome parts page v d a r w e → FillAnswer parts page v d a r w e
    of Done (tables, back, value) = record {
      uptodate = ap (λ q. (info_at q.pages page).uptodate) tables ∙ ap (λ i. i.uptodate) info;
      unlocked = ap (λ q. (info_at q.pages page).owner) tables ∙ ap (λ i. i.owner) info;
      bytes = ap (λ q. q.contents) value;
      hinted = record {
        usage = ap (λ q. q.usage) value ∙ sym (ap (λ q. hint (info_at q.pages page)) tables ∙ hinted);
        unchanged = ap (λ q. q.changed) value;
      };
    }
    of (FilledAgain why) (tables, may, misses, disk) = (tables, misses, disk)
    of (FilledFail cause) (tables, back, unused, why) = (subst (λ q. IsFree q page) (sym tables) (freed-is_free parts page can.has.below), unused.usage, why)

-- ---- a page that is synced

pub sync-says : (parts : Parts) (page cpu : ℕ) (v : StorageView) (d : DiskView) (a : Parts) (r : Synced) (w : StorageView) (e : DiskView)
    → HasBeenFilled parts page v → Seen (sync_page parts page cpu) v d (a, r) w e → SyncAnswer parts page cpu v a r w
unfolding sync_page
sync-says parts page cpu v d a r w e can run = by (info_at parts.pages page).owner refl run
  where
    of : (r : Synced) → LookOutcome parts page cpu v d a r w e → LookAnswer parts page cpu v a r w
    of Clean (tables, k) = (
      record { clean = k.clean; found = k.found; may = k.is.may; unchanged = k.unchanged },
      tables,
      subst (λ q. IsHinted q page w) (sym tables) (hinted-is parts page k.found parts w k.is.rehinted),
    )
    of Locked k =
        let after = change-changed parts page k.found.changed can.has.below in
        let middle = with_change parts page k.found.changed in
        let lock = (change-locked middle page cpu (rw after.size can.has.below)).here in
        record {
          owner = ap (λ q. (info_at q.pages page).owner) k.tables ∙ ap (λ i. i.owner) lock;
          dirty = ap (λ q. (info_at q.pages page).dirty) k.tables ∙ ap (λ i. i.dirty) lock ∙ k.dirty;
          stable = ap (λ q. q.usage) k.value;
          unchanged = ap (λ q. q.changed) k.value;
          found = k.found;
          may = k.may;
          was = sym (dirty-after parts page k.found.changed can.has.below) ∙ k.dirty;
        }
    of SyncGone k = discarded-is parts page v w d e a can.has.below k
    of (Waits owner) k = absurd k
    of (SyncAgain why) (tables, may, misses, disk) = (tables, misses)

    by : (owner : Option ℕ) → (info_at parts.pages page).owner ≡ owner → Seen {A = Parts × Synced} (sync_owned parts page cpu owner) v d (a, r) w e → SyncAnswer parts page cpu v a r w
    by (Some owner) locked (ea, em, ed) = rw locked (ap (λ q. q.1) ea, ap (λ q. q.0) ea, em)
    by None unlocked look = rw unlocked (of r (seen_look parts page cpu v d a r w e can.has.below (usable parts page v can) look))

-- what stands of the unlocked page
unlocked-is : (middle : Parts) (page : ℕ) (v w : StorageView) (a : Parts) (left : Bool) → page < length middle.pages.infos → (info_at middle.pages page).owner ≡ None
    → (info_at middle.pages page).dirty ≡ left
    → IsRehinted middle page (v.values page) a (w.values page) → IsUnlocked page v left a w
unlocked-is middle page v w a left below owner dirty k = record {
  owner = ap (λ q. (info_at q.pages page).owner) k.tables ∙ owner-after middle page (v.values page).changed below ∙ owner;
  dirty = ap (λ q. (info_at q.pages page).dirty) k.tables ∙ dirty-after middle page (v.values page).changed below ∙ ap (λ b. (v.values page).changed || b) dirty;
  hinted = hinted-is middle page (v.values page) a w k;
  same = ap (λ q. q.contents) k.value;
}

pub write_back-says : (parts : Parts) (page : ℕ) (v : StorageView) (d : DiskView) (a : Parts) (r : Filled) (w : StorageView) (e : DiskView)
    → IsToBeWritten parts page v → Seen (write_back parts page) v d (a, r) w e → BackAnswer parts page v d a r w e
write_back-says parts page v d a r w e can run = of r (seen_write_back parts page can.has.tag v d a r w e writable run)
  where
    at : backing_at parts page ≡ backing_of parts.cache can.has.tag
    at = rw can.has.tagged refl

    writable : CanBeWritten parts page can.has.tag v
    writable = record {
      tells = can.tells;
      usage = can.stable;
      value = can.value;
      filled = can.filled;
      backed_at = at;
      block = can.block;
      backs = sym at ∙ can.backed_by;
      used_clean = is_used (cleaned parts page) page can.has.tag (rw (change-cleaned parts page can.has.below).size can.has.below)
          (ap (λ (i : PageInfo). i.tag) (change-cleaned parts page can.has.below).here ∙ can.has.tagged);
      used_dirty = is_used (unlocked parts page) page can.has.tag (rw (change-unlocked parts page can.has.below).size can.has.below)
          (ap (λ (i : PageInfo). i.tag) (change-unlocked parts page can.has.below).here ∙ can.has.tagged);
    }

    of : (r : Filled) → BackOutcome parts page can.has.tag v d a r w e → BackAnswer parts page v d a r w e
    of Done (bytes, are, wrote, told) =
        let c = change-cleaned parts page can.has.below in (
          record { block = wrote.block; backs = at ∙ wrote.backs; bytes = bytes; are = are; blocks = wrote.blocks },
          unlocked-is (cleaned parts page) page v w a false (rw c.size can.has.below) (ap (λ i. i.owner) c.here) (ap (λ i. i.dirty) c.here) told,
        )
    of (FilledAgain why) (tables, may, misses, disk) = (tables, misses, disk)
    of (FilledFail cause) (back, told, why) =
        let c = change-unlocked parts page can.has.below in (
          unlocked-is (unlocked parts page) page v w a (info_at parts.pages page).dirty (rw c.size can.has.below) (ap (λ i. i.owner) c.here) (ap (λ i. i.dirty) c.here) told,
          back.blocks,
          why,
        )

-- ---- runs that reach no disk

-- some disk, which the run leaves alone
abbrev pub any_disk : DiskView
any_disk = record { count = 0; blocks = None; faults = 0 }

pub seen_alone : {A S : Type 0} (ss : S → StorageCall → S → Type 0) (sv : S → StorageView) (sm : (s : S) (call : StorageCall) (t : S) → ss s call t → Follows (sv s) call (sv t)) (p : Program A)
    (s : S) (a : A) (t : S)
    → DoesAlone ss p s a t → Seen p (sv s) any_disk a (sv t) any_disk
seen_alone ss sv sm p s a t run = does_seen ss (λ d call e. ⊥) sv (λ d. any_disk) sm (λ d call e h. absurd h) p s tt a t tt run
