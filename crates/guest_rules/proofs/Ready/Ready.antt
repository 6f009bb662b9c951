-- What a guest between two turns gives the calls of the next.
use Rattle.std.specs.Prelude.{◌≡◌, ◌<◌, ℕ, ◌+◌, length, Bool, true, false, Option, Some, None, refl}
use Rattle.std.proofs.Common.{arith, ap, sym, subst, ◌∙◌}
use Rattle.cmm_types.specs.declared.page.Usage.TheVariants.{S, V}
use Rattle.cmm_types.specs.declared.page.Tag.{Tag}
use Rattle.cmm_types.specs.declared.page.Tag.TheVariants.{File}
use Rattle.cmm_io.specs.DiskView.{DiskView}
use Rattle.cmm_flat.specs.State.{FlatState}
use Rattle.essa_state.specs.PageValue.{PageValue, MayBecome, is_lost}
use Rattle.cmm_storage.specs.StorageView.{StorageView}
use Rattle.guest_pages.specs.declared.info.PageInfo.{PageInfo}
use Rattle.guest_pages.specs.PagesView.{info_at, with_info, with_dirty, with_uptodate, with_owner, with_pins}
use Rattle.guest_pages.specs.Laws.PagesLaws.{info_at-with_info_same, length-with_info}
use Rattle.guest_cache.specs.CacheView.{IsTag, page_of, pages_before, backing_of}
use Rattle.guest_rules.specs.declared.parts.Parts.{Parts}
use Rattle.guest_rules.specs.declared.processor.Phase.TheVariants.{Fill}
use Rattle.guest_rules.specs.Hint.{hint}
use Rattle.guest_rules.specs.GuestState.{GuestState, processor_at}
use Rattle.guest_rules.specs.Rows.{shown_info, mapped, pinned, pins_after, filled}
use Rattle.guest_rules.specs.Fit.{FitAt, IsWriting, IsPagingOut}
use Rattle.guest_rules.proofs.Cases.TurnCases.{HasPage, ShowsPage}
use Rattle.guest_rules.specs.Syncs.{unlocked, cleaned}
use Rattle.guest_rules.proofs.Kept.LocksKept.{LockedPage}
use Rattle.guest_rules.proofs.Kept.SyncTables.{change-unlocked, change-cleaned}
use Rattle.guest_rules.proofs.Rows.Values.{may_stable, stable_there}
use Rattle.guest_rules.proofs.Kept.Tables.{info-filled}
use Rattle.guest_rules.proofs.Rows.ValueLaws.{hint-tagged}
use Rattle.guest_rules.proofs.Kept.Unshown.{stale-unshown}
use Rattle.guest_rules.proofs.Kept.Unpinned.{stale-unpinned}
use Rattle.guest_rules.proofs.Rows.Held.{IsUsed}
use Rattle.guest_rules.proofs.Rows.Taken.{CanBeUsed}
use Rattle.guest_rules.proofs.Rows.FillPage.{CanBeFilled}
use Rattle.guest_rules.proofs.Rows.WriteBack.{CanBeWritten}

-- the hint of a page that is locked, and of one that can be fetched again
pub hint_locked : (info : PageInfo) (tag : Tag) (owner : ℕ) → info.tag ≡ Some tag → info.owner ≡ Some owner → hint info ≡ S
unfolding hint
hint_locked info tag owner tagged locked = grind arith

pub hint_clean : (info : PageInfo) (tag : Tag) → info.tag ≡ Some tag → info.uptodate ≡ true → info.dirty ≡ false → info.owner ≡ None → info.pins ≡ 0 → info.writers ≡ 0 → hint info ≡ V
unfolding hint
hint_clean info tag tagged fresh clean unlocked unpinned unshown = rw (tagged, fresh, clean, unlocked, unpinned, unshown) refl

-- a tagged page stays so while it is used
pub is_used : (parts : Parts) (page : ℕ) (tag : Tag) → page < length parts.pages.infos → (info_at parts.pages page).tag ≡ Some tag → IsUsed parts page
unfolding with_dirty
is_used parts page tag below tagged false = hint-tagged _ tag tagged
is_used parts page tag below tagged true = hint-tagged _ tag (ap (λ q. q.tag) (info_at-with_info_same parts.pages page (record (info_at parts.pages page) { dirty = true }) below) ∙ tagged)

pub is_used_mapped : (parts : Parts) (page slot index : ℕ) (writable : Bool) (tag : Tag) → page < length parts.pages.infos → (info_at parts.pages page).tag ≡ Some tag
    → IsUsed (mapped parts page slot index writable) page
unfolding mapped
is_used_mapped parts page slot index writable tag below tagged =
    let info = shown_info (info_at parts.pages page) writable in
    is_used (mapped parts page slot index writable) page tag (subst (λ n. page < n) (sym (length-with_info parts.pages page info)) below)
    (ap (λ q. q.tag) (info_at-with_info_same parts.pages page info below) ∙ tagged)

pub is_used_pinned : (parts : Parts) (page slot index : ℕ) (pins : Bool) (tag : Tag) → page < length parts.pages.infos → (info_at parts.pages page).tag ≡ Some tag
    → IsUsed (pinned parts page slot index pins) page
unfolding pinned with_pins
is_used_pinned parts page slot index pins tag below tagged =
    let info = record (info_at parts.pages page) { pins = pins_after pins (info_at parts.pages page).pins } in
    is_used (pinned parts page slot index pins) page tag (rw (length-with_info parts.pages page info) below) (ap (λ q. q.tag) (info_at-with_info_same parts.pages page info below) ∙ tagged)

pub is_used_filled : (parts : Parts) (page : ℕ) (tag : Tag) → page < length parts.pages.infos → (info_at parts.pages page).tag ≡ Some tag → IsUsed (filled parts page) page
unfolding with_uptodate with_owner
is_used_filled parts page tag below tagged =
    let fresh = record (info_at parts.pages page) { uptodate = true } in
    let size = length-with_info parts.pages page fresh in
    let more = length-with_info (with_info parts.pages page fresh) page (record (info_at (with_info parts.pages page fresh) page) { owner = None }) in
    is_used (filled parts page) page tag (rw (more, size) below) (ap (λ q. q.tag) (info-filled parts page below) ∙ tagged)

-- state the flat machine's state, g the guest, v its storage, d its disk, page the page
module _ (state : FlatState) (g : GuestState) (v : StorageView) (d : DiskView) (page : ℕ) where
  pub below_view : FitAt state g v d → page < length g.parts.pages.infos → page < v.pages
  below_view f h = omega (arith, h, f.sizes.infos, f.sizes.pages)

  pub found_page : (tag : Tag) → FitAt state g v d → IsTag g.parts.cache tag → page_of g.parts.cache tag ≡ Some page → (info_at g.parts.pages page).owner ≡ None → HasPage g tag page
  found_page tag f is_tag found unlocked =
      let k = f.pages.found page tag is_tag found in record { below = k.0; tagged = k.1; unlocked = unlocked }

  -- an unlocked page is up to date
  pub has_shows : (tag : Tag) → FitAt state g v d → HasPage g tag page → ShowsPage g tag page
  has_shows tag f has = record { below = has.below; tagged = has.tagged; uptodate = f.locks.stale page tag has.tagged has.unlocked }

  pub can_be_shown : (tag : Tag) → FitAt state g v d → ShowsPage g tag page → CanBeUsed g.parts page v
  can_be_shown tag f shows =
      let below = below_view f shows.below in
      record {
        tells = f.contents.tells;
        hinted = is_used g.parts page tag shows.below shows.tagged;
        usage = λ bad. hint-tagged (info_at g.parts.pages page) tag shows.tagged (sym (f.hints.hints page below) ∙ bad);
        filled = f.contents.not_blank page tag below shows.tagged shows.uptodate;
      }

  pub can_be_used : (tag : Tag) → FitAt state g v d → HasPage g tag page → CanBeUsed g.parts page v
  can_be_used tag f has = can_be_shown tag f (has_shows tag f has)

  -- a locked page is stable, so a page that the host discarded isn't locked
  pub lost_unlocked : (tag : Tag) (found : PageValue) → FitAt state g v d → ShowsPage g tag page → MayBecome (v.values page) found → is_lost found.contents ≡ true → HasPage g tag page
  lost_unlocked tag found f shows may lost = record { below = shows.below; tagged = shows.tagged; unlocked = of (info_at g.parts.pages page).owner refl }
    where
      of : (owner : Option ℕ) → (info_at g.parts.pages page).owner ≡ owner → (info_at g.parts.pages page).owner ≡ None
      of None e = e
      of (Some cpu) e =
          let below = below_view f shows.below in
          let usage : (v.values page).usage ≡ S = f.hints.hints page below ∙ hint_locked (info_at g.parts.pages page) tag cpu shows.tagged e in
          let same = may_stable (v.values page) found usage may in
          let bad : true ≡ false = sym lost ∙ ap (λ q. is_lost q.contents) same ∙ stable_there (v.values page) usage (f.hints.values page below) in absurd cc

-- a processor has locked the page to write it back, for a sync or to make room, and its tag has a block
pub record HasToWrite (g : GuestState) (cpu page : ℕ) (tag : Tag) : Type 0 where
  pub locked : LockedPage g cpu page tag
  pub block : ℕ
  pub backs : backing_of g.parts.cache tag ≡ Some block

pub writing-has : (g : GuestState) (cpu index page : ℕ) → (k : IsWriting g cpu index page) → HasToWrite g cpu page (File k.file index)
writing-has g cpu index page k = record {
  locked = record { below = k.below; owner = k.owner; tagged = k.tagged; uptodate = k.uptodate };
  block = pages_before g.parts.cache.files k.file + index;
  backs = refl;
}

pub paging_out-has : (g : GuestState) (cpu page : ℕ) → (k : IsPagingOut g cpu page) → HasToWrite g cpu page k.tag
paging_out-has g cpu page k = record {
  locked = record { below = k.below; owner = k.owner; tagged = k.tagged; uptodate = k.uptodate };
  block = k.block;
  backs = k.backs;
}

-- state the flat machine's state, g the guest, v its storage, d its disk, cpu the processor
module _ (state : FlatState) (g : GuestState) (v : StorageView) (d : DiskView) (cpu : ℕ) where
  -- such a page can be written
  pub can_write_out : (page : ℕ) (tag : Tag) → FitAt state g v d → HasToWrite g cpu page tag → CanBeWritten g.parts page tag v
  can_write_out page tag f k =
      let its = k.locked in
      let below = below_view state g v d page f its.below in
      let clean = change-cleaned g.parts page its.below in
      let dirty = change-unlocked g.parts page its.below in
      record {
        tells = f.contents.tells;
        usage = f.hints.hints page below ∙ hint_locked (info_at g.parts.pages page) tag cpu its.tagged its.owner;
        value = f.hints.values page below;
        filled = f.contents.not_blank page tag below its.tagged its.uptodate;
        backed_at = rw its.tagged refl;
        block = k.block;
        backs = k.backs;
        used_clean = is_used (cleaned g.parts page) page tag (rw clean.size its.below) (ap (λ (i : PageInfo). i.tag) clean.here ∙ its.tagged);
        used_dirty = is_used (unlocked g.parts page) page tag (rw dirty.size its.below) (ap (λ (i : PageInfo). i.tag) dirty.here ∙ its.tagged);
      }

  pub can_be_written : (index page : ℕ) → FitAt state g v d → (k : IsWriting g cpu index page) → CanBeWritten g.parts page (File k.file index) v
  can_be_written index page f k = can_write_out page (File k.file index) f (writing-has g cpu index page k)

  pub can_be_paged_out : (page : ℕ) → FitAt state g v d → (k : IsPagingOut g cpu page) → CanBeWritten g.parts page k.tag v
  can_be_paged_out page f k = can_write_out page k.tag f (paging_out-has g cpu page k)

  pub can_be_filled : (page : ℕ) → FitAt state g v d → (processor_at g cpu).phase ≡ Fill page → CanBeFilled g.parts page v d
  can_be_filled page f phase =
      let k = (f.locks.filling cpu page phase).1 in
      let below = below_view state g v d page f k.below in
      let info = info-filled g.parts page k.below in
      record {
        tells = f.contents.tells;
        told = f.contents.told;
        usage = f.hints.hints page below ∙ hint_locked (info_at g.parts.pages page) k.tag cpu k.tagged k.owner;
        value = f.hints.values page below;
        used = is_used_filled g.parts page k.tag k.below k.tagged;
        hinted = ap hint info
            ∙ hint_clean (record (info_at g.parts.pages page) { uptodate = true; owner = None }) k.tag k.tagged refl (f.locks.stale_clean page k.stale) refl
            (stale-unpinned g.parts page k.tag f.pins f.pages k.tagged k.stale) (stale-unshown g.parts page f.entries k.stale);
      }
