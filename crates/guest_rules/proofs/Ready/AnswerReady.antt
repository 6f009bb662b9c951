-- What the words of the calls ask of a page stands for the pages that a guest between two turns passes to them.
use Rattle.std.specs.Prelude.{◌≡◌, ◌⊎◌, ℕ, true, Some, IsSome, is_some, refl}
use Rattle.std.proofs.Common.{ap, inl, inr, ◌∙◌}
use Rattle.cmm_types.specs.declared.page.Tag.{Tag}
use Rattle.cmm_types.specs.declared.page.Tag.TheVariants.{File, Anon}
use Rattle.guest_pages.specs.PagesView.{info_at}
use Rattle.guest_cache.specs.CacheView.{backing_of}
use Rattle.guest_rules.specs.Rows.{backing_at}
use Rattle.guest_rules.proofs.Kept.PageFits.{IsDirtyOrSlotted}
use Rattle.guest_rules.proofs.Kept.SwapLaws.{has_slot-block}
use Rattle.cmm_io.specs.DiskView.{DiskView}
use Rattle.cmm_flat.specs.State.{FlatState}
use Rattle.cmm_storage.specs.StorageView.{StorageView}
use Rattle.guest_maps.specs.declared.slot.Pte.{Pte}
use Rattle.guest_maps.specs.MapsView.{entry_at}
use Rattle.guest_rules.specs.declared.processor.Phase.TheVariants.{Fill, Room as AtRoom, SyncWrite, Teardown}
use Rattle.guest_rules.specs.GuestState.{GuestState, processor_at}
use Rattle.guest_rules.specs.Fit.{FitAt}
use Rattle.guest_rules.specs.Answers.{HasBeenFilled, IsToBeFilled, IsToBeWritten, CanBeWrittenOut}
use Rattle.guest_rules.proofs.Cases.TurnCases.{ShowsPage}
use Rattle.guest_rules.proofs.Cases.CaseTear.{torn_page}
use Rattle.guest_rules.proofs.Kept.Unshown.{stale-unshown}
use Rattle.guest_rules.proofs.Kept.Unpinned.{stale-unpinned}
use Rattle.guest_rules.proofs.Ready.Ready.{HasToWrite, writing-has, paging_out-has, below_view, can_be_shown, can_be_filled, can_write_out}

-- state the flat machine's state, g the guest, v its storage, d its disk
module _ (state : FlatState) (g : GuestState) (v : StorageView) (d : DiskView) where
  -- a page with a tag that is up to date
  pub shown-ready : (page : ℕ) (tag : Tag) → FitAt state g v d → ShowsPage g tag page → HasBeenFilled g.parts page v
  shown-ready page tag f shows =
      let can = can_be_shown state g v d page tag f shows in
      record { has = record { below = shows.below; tag = tag; tagged = shows.tagged }; tells = can.tells; used = can.usage; filled = can.filled }

  -- a page that a processor fills
  pub fill-ready : (cpu page : ℕ) → FitAt state g v d → (processor_at g cpu).phase ≡ Fill page → IsToBeFilled g.parts page v d
  fill-ready cpu page f phase =
      let k = (f.locks.filling cpu page phase).1 in
      let can = can_be_filled state g v d cpu page f phase in
      record {
        has = record { below = k.below; tag = k.tag; tagged = k.tagged };
        clean = f.locks.stale_clean page k.stale;
        unpinned = stale-unpinned g.parts page k.tag f.pins f.pages k.tagged k.stale;
        unshown = stale-unshown g.parts page f.entries k.stale;
        stable = can.usage;
        value = can.value;
        tells = can.tells;
        told = can.told;
      }

  -- a page that a processor writes back
  write-ready : (cpu page : ℕ) (tag : Tag) → FitAt state g v d → HasToWrite g cpu page tag → IsToBeWritten g.parts page v
  write-ready cpu page tag f k =
      let can = can_write_out state g v d cpu page tag f k in
      record {
        has = record { below = k.locked.below; tag = tag; tagged = k.locked.tagged };
        block = can.block;
        backed_by = can.backed_at ∙ can.backs;
        stable = can.usage;
        value = can.value;
        filled = can.filled;
        tells = can.tells;
      }

  -- for a sync
  pub write_back-ready : (cpu index page : ℕ) → FitAt state g v d → (processor_at g cpu).phase ≡ SyncWrite index page → IsToBeWritten g.parts page v
  write_back-ready cpu index page f phase =
      let k = f.locks.writing cpu index page phase in write-ready cpu page (File k.file index) f (writing-has g cpu index page k)

  -- to make room
  pub page_out-ready : (cpu page : ℕ) → FitAt state g v d → (processor_at g cpu).phase ≡ AtRoom page → IsToBeWritten g.parts page v
  page_out-ready cpu page f phase =
      let k = f.locks.paging_out cpu page phase in write-ready cpu page k.tag f (paging_out-has g cpu page k)

  -- a page that may go can be written out: a file's page has its block, and an anonymous page that is changed is dirty or has a swap slot
  pub go-ready : (page : ℕ) (tag : Tag) → FitAt state g v d → ShowsPage g tag page → CanBeWrittenOut g.parts page v
  go-ready page tag f shows =
      record {
        filled = shown-ready page tag f shows;
        backed_by = λ changed. of tag shows.tagged changed;
      }
    where
      of : (t : Tag) → (info_at g.parts.pages page).tag ≡ Some t → (v.values page).changed ≡ true → ((info_at g.parts.pages page).dirty ≡ true) ⊎ IsSome (backing_at g.parts page)
      of (File file index) e changed = inr (rw e refl)
      of (Anon slot index) e changed = by (f.tags.written page slot index (below_view state g v d page f shows.below) e (inl changed))
        where
          by : IsDirtyOrSlotted g.parts.cache (info_at g.parts.pages page) slot index → ((info_at g.parts.pages page).dirty ≡ true) ⊎ IsSome (backing_at g.parts page)
          by (inl dirty) = inl dirty
          by (inr some) =
              let at : backing_at g.parts page ≡ backing_of g.parts.cache (Anon slot index) = rw e refl in
              inr (ap (λ o. is_some o) (at ∙ (has_slot-block g.parts.cache slot index some).1))

  -- the page whose entry an unmap clears
  pub clear-ready : (cpu slot index : ℕ) (pte : Pte) → FitAt state g v d → (processor_at g cpu).phase ≡ Teardown slot index → entry_at g.parts.maps slot index ≡ Some pte
      → HasBeenFilled g.parts pte.page v
  clear-ready cpu slot index pte f phase entry =
      let its = torn_page state g v d cpu slot index pte f (f.teardowns.tearing cpu slot index phase) entry in shown-ready pte.page its.0.tag f its.1
