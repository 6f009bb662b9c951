-- When the block of a tag has the tag's current bytes: where no page has the tag, where its page is clean, and where its page was written back.
use Rattle.std.proofs.Common.{◌≡◌, ℕ, List, Bool, true, false, Some, None, sym, ap, ◌∙◌}
use Rattle.cmm_types.specs.declared.page.Tag.{Tag}
use Rattle.cmm_io.specs.DiskView.{DiskView}
use Rattle.cmm_flat.specs.State.{FlatState}
use Rattle.cmm_flat.specs.Legal.{flat_of}
use Rattle.essa_state.specs.PageValue.{PageValue, Bytes, MayBecome, is_lost}
use Rattle.cmm_storage.specs.StorageView.{StorageView}
use Rattle.guest_pages.specs.declared.info.PageInfo.{PageInfo}
use Rattle.guest_pages.specs.PagesView.{info_at}
use Rattle.guest_cache.specs.CacheView.{CacheView, page_of, backing_of}
use Rattle.guest_rules.specs.declared.parts.Parts.{Parts}
use Rattle.guest_rules.specs.GuestState.{GuestState}
use Rattle.guest_rules.specs.Syncs.{cleaned}
use Rattle.guest_rules.specs.Fit.{FitAt, Fit, backed, backing, current_bytes, current_at, current}
use Rattle.guest_rules.proofs.Cases.TurnCases.{HasPage, GivenBack, IsRehinted, WrittenBack}
use Rattle.guest_rules.proofs.Rows.Values.{may_used}
use Rattle.guest_rules.proofs.Kept.RowChanges.{change-changed, only-changed}
use Rattle.guest_rules.proofs.Fit.StepTold.{is_changed}
use Rattle.guest_rules.proofs.Kept.SyncTables.{change-cleaned, only-cleaned}
use Rattle.guest_rules.proofs.Ready.Ready.{HasToWrite, below_view, can_be_used}
use Rattle.guest_rules.proofs.Fit.FitBlock.{backing-written}

-- the block of a tag has the tag's current bytes
abbrev pub SyncedAt : Parts → StorageView → DiskView → Tag → Type 0
SyncedAt parts w e tag = backing parts.cache e tag ≡ current parts w e tag

pub synced_none : (parts : Parts) (w : StorageView) (e : DiskView) (tag : Tag) → page_of parts.cache tag ≡ None → SyncedAt parts w e tag
synced_none parts w e tag none = sym (ap (λ o. current_at parts w o (backing parts.cache e tag)) none)

-- a page that has the bytes of its block
synced_page : (parts : Parts) (w : StorageView) (e : DiskView) (tag : Tag) (page : ℕ) (bytes : List ℕ) → page_of parts.cache tag ≡ Some page → (info_at parts.pages page).uptodate ≡ true
    → (w.values page).contents ≡ Bytes bytes → bytes ≡ backing parts.cache e tag → SyncedAt parts w e tag
synced_page parts w e tag page bytes found fresh contents are =
    sym (
    ap (λ o. current_at parts w o (backing parts.cache e tag)) found
    ∙ ap (λ u. current_bytes u (w.values page).contents (backing parts.cache e tag)) fresh
    ∙ ap (λ c. current_bytes true c (backing parts.cache e tag)) contents
    ∙ are
    )

-- a page that was found clean and unchanged
pub synced_clean : (state : FlatState) (g : GuestState) (v w : StorageView) (d e : DiskView) (page : ℕ) (tag : Tag) (found : PageValue) → FitAt state g v d → HasPage g tag page
    → GivenBack page v d w e
    → MayBecome (v.values page) found → IsRehinted g.parts page found g.parts (w.values page) → found.changed ≡ false → (info_at g.parts.pages page).dirty ≡ false → SyncedAt g.parts w e tag
synced_clean state g v w d e page tag found f has back may told unchanged clean =
    let below = below_view state g v d page f has.below in
    let fresh = f.locks.stale page tag has.tagged has.unlocked in
    let can = can_be_used state g v d page tag f has in
    let same : found ≡ v.values page = may_used (v.values page) found can.usage may told.there in
    let contents : (v.values page).contents ≡ Bytes (backing g.parts.cache d tag) =
    f.contents.same page tag below has.tagged fresh clean (ap (λ (q : PageValue). q.changed) (sym same) ∙ unchanged) (ap (λ (q : PageValue). is_lost q.contents) (sym same) ∙ told.there) in
    synced_page g.parts w e tag page (backing g.parts.cache d tag) (f.pages.indexed page tag has.tagged).1 fresh
    (ap (λ (q : PageValue). q.contents) told.value ∙ ap (λ (q : PageValue). q.contents) same ∙ contents)
    (ap (λ b. backed b (backing_of g.parts.cache tag)) (sym back.blocks))

-- a page that was written back
pub synced_written : (g : GuestState) (v w : StorageView) (d e : DiskView) (cpu page : ℕ) (tag : Tag) (bytes : List ℕ) (after : Parts) → Fit g v d → HasToWrite g cpu page tag
    → (v.values page).contents ≡ Bytes bytes
    → WrittenBack page tag g.parts.cache bytes v d w e → IsRehinted (cleaned g.parts page) page (v.values page) after (w.values page) → SyncedAt after w e tag
synced_written g v w d e cpu page tag bytes after f k are written told =
    synced_page after w e tag page bytes found fresh (ap (λ (q : PageValue). q.contents) told.value ∙ are) (sym behind)
  where
    changed : Bool
    changed = (v.values page).changed

    cache : after.cache ≡ g.parts.cache
    cache = ap (λ (q : Parts). q.cache) told.tables ∙ (only-changed (cleaned g.parts page) page changed).cache ∙ (only-cleaned g.parts page).cache

    found : page_of after.cache tag ≡ Some page
    found = ap (λ (c : CacheView). page_of c tag) cache ∙ (f.pages.indexed page tag k.locked.tagged).1

    fresh : (info_at after.pages page).uptodate ≡ true
    fresh =
        let clean = change-cleaned g.parts page k.locked.below in
        ap (λ (q : Parts). (info_at q.pages page).uptodate) told.tables
        ∙ ap (λ (i : PageInfo). i.uptodate) (change-changed (cleaned g.parts page) page changed (rw clean.size k.locked.below)).here
        ∙ (is_changed (info_at (cleaned g.parts page).pages page) changed).uptodate
        ∙ ap (λ (i : PageInfo). i.uptodate) clean.here
        ∙ k.locked.uptodate

    behind : backing after.cache e tag ≡ bytes
    behind =
        ap (λ (c : CacheView). backing c e tag) cache
        ∙ backing-written (flat_of g.plan g.journal) g v d e page tag written.block bytes f
        (record { tagged = k.locked.tagged; uptodate = k.locked.uptodate; are = are; backs = written.backs; count = written.count; blocks = written.blocks })
