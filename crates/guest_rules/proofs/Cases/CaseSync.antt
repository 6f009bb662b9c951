-- Every run of a sync's turn is one of the cases of a turn.
use Rattle.std.specs.Prelude.{◌≡◌, ℕ, Option, Some, None, refl}
use Rattle.std.proofs.Common.{ap, subst, ◌∙◌}
use Rattle.cmm_types.specs.declared.page.Tag.TheVariants.{File}
use Rattle.cmm_types.specs.declared.command.Op.TheVariants.{Sync}
use Rattle.cmm_types.specs.declared.turn.Turn.{Turn}
use Rattle.cmm_flat.specs.State.{FlatState}
use Rattle.cmm_io.specs.DiskView.{DiskView}
use Rattle.cmm_storage.specs.StorageView.{StorageView}
use Rattle.cmm_storage.specs.Views.{Seen, unbind}
use Rattle.guest_pages.specs.PagesView.{info_at}
use Rattle.guest_cache.specs.CacheView.{IsTag, page_of}
use Rattle.guest_rules.specs.declared.parts.Parts.{Parts}
use Rattle.guest_rules.specs.declared.processor.Phase.TheVariants.{SyncWrite}
use Rattle.guest_rules.specs.declared.outcome.Filled.{Filled}
use Rattle.guest_rules.specs.declared.outcome.Filled.TheVariants.{Done as FilledDone, Again as FilledAgain, Fail as FilledFail}
use Rattle.guest_rules.specs.declared.outcome.Synced.{Synced}
use Rattle.guest_rules.specs.declared.outcome.Synced.TheVariants.{Clean, Locked, Gone as SyncGone, Waits as IsLocked, Again as SyncAgain}
use Rattle.guest_rules.specs.Syncs.{sync_page, sync_owned, write_back}
use Rattle.guest_rules.specs.GuestState.{GuestState, processor_at, with_parts, with_phase}
use Rattle.guest_rules.specs.Turns.{file_pages, passed, sync_turn, sync_found, sync_next, write_back_turn, written_next}
use Rattle.guest_rules.specs.Fit.{FitAt, IsWriting}
use Rattle.guest_rules.proofs.Cases.TurnCases.{SyncCase, not_there, sync_waited, sync_missed, sync_gone, was_clean}
use Rattle.guest_rules.proofs.Cases.TurnCases.{was_locked, write_missed, was_written_back, write_failed, HasPage, Syncs, WritesBack}
use Rattle.guest_rules.proofs.Cases.WantedTags.{planned-tag}
use Rattle.guest_rules.proofs.Rows.SyncPage.{LookOutcome, seen_look}
use Rattle.guest_rules.proofs.Rows.WriteBack.{BackOutcome, seen_write_back}
use Rattle.guest_rules.proofs.Ready.Ready.{found_page, can_be_used, can_be_written}

-- ---- a look at a page

case_sync_next : (g : GuestState) (v n w : StorageView) (d y e : DiskView) (cpu file index page : ℕ) (parts : Parts) (r : Synced) (h : GuestState) (t : Turn)
    → Syncs g cpu file index → HasPage g (File file index) page → LookOutcome g.parts page cpu v d parts r n y
    → Seen {A = GuestState × Turn} (sync_next g cpu (Sync file) (file_pages g.plan.files file) index page parts r) n y (h, t) w e → SyncCase g cpu file index v d h t w e
case_sync_next g v n w d y e cpu file index page parts Clean h t k has (tables, c) (ea, em, ed) =
    was_clean page c.found k has (rw (em, ed) c.is.back) c.is.may (rw em c.is.rehinted) c.unchanged c.clean
    (ea ∙ ap (λ q. passed (with_parts g q) cpu (Sync file) (file_pages g.plan.files file) index) tables)
case_sync_next g v n w d y e cpu file index page parts Locked h t k has c (ea, em, ed) =
    was_locked page c.found k has (rw (em, ed) c.back) c.may c.there c.dirty (rw em c.value)
    (ap (λ q. q.0) ea ∙ ap (λ q. with_phase (with_parts g q) cpu (SyncWrite index page)) c.tables) (ap (λ q. q.1) ea)
case_sync_next g v n w d y e cpu file index page parts SyncGone h t k has c (ea, em, ed) =
    sync_gone page c.found k has (rw (em, ed) c.back) c.may c.lost (rw em c.unused)
    (ea ∙ ap (λ q. passed (with_parts g q) cpu (Sync file) (file_pages g.plan.files file) index) c.tables)
case_sync_next g v n w d y e cpu file index page parts (IsLocked owner) h t k has c run = absurd c
case_sync_next g v n w d y e cpu file index page parts (SyncAgain why) h t k has (tables, may, misses, disk) (ea, em, ed) =
    sync_missed why k (ap (λ q. q.0) ea ∙ ap (λ q. with_parts g q) tables) (ap (λ q. q.1) ea) (rw (em, ed) may) (rw em misses) (ed ∙ disk)

-- whether the page is locked
case_sync_owned : (state : FlatState) (g : GuestState) (v m w : StorageView) (d y e : DiskView) (cpu file index page : ℕ) (owner : Option ℕ) (parts : Parts) (r : Synced) (h : GuestState) (t : Turn)
    → FitAt state g v d → Syncs g cpu file index → IsTag g.parts.cache (File file index) → page_of g.parts.cache (File file index) ≡ Some page → (info_at g.parts.pages page).owner ≡ owner
    → Seen {A = Parts × Synced} (sync_owned g.parts page cpu owner) v d (parts, r) m y
    → Seen {A = GuestState × Turn} (sync_next g cpu (Sync file) (file_pages g.plan.files file) index page parts r) m y (h, t) w e → SyncCase g cpu file index v d h t w e
case_sync_owned state g v m w d y e cpu file index page (Some owner) parts r h t f k is found locked (ea, em, ed) run =
    let stays : Seen {A = GuestState × Turn} (sync_next g cpu (Sync file) (file_pages g.plan.files file) index page parts (IsLocked owner)) m y (h, t) w e =
    subst (λ q. Seen {A = GuestState × Turn} (sync_next g cpu (Sync file) (file_pages g.plan.files file) index page parts q) m y (h, t) w e) (ap (λ q. q.1) ea) run in
    sync_waited page owner k found locked (ap (λ q. q.0) stays.0 ∙ ap (λ q. with_parts g q.0) ea) (ap (λ q. q.1) stays.0) (stays.1 ∙ em) (stays.2 ∙ ed)
case_sync_owned state g v m w d y e cpu file index page None parts r h t f k is found unlocked first run =
    let has = found_page state g v d page (File file index) f is found unlocked in
    let o = seen_look g.parts page cpu v d parts r m y has.below (can_be_used state g v d page (File file index) f has) first in
    case_sync_next g v m w d y e cpu file index page parts r h t k has o run

case_sync_found : (state : FlatState) (g : GuestState) (v w : StorageView) (d e : DiskView) (cpu file index : ℕ) (found : Option ℕ) (h : GuestState) (t : Turn)
    → FitAt state g v d → Syncs g cpu file index → page_of g.parts.cache (File file index) ≡ found
    → Seen {A = GuestState × Turn} (sync_found g cpu (Sync file) (file_pages g.plan.files file) index found) v d (h, t) w e → SyncCase g cpu file index v d h t w e
unfolding sync_page
case_sync_found state g v w d e cpu file index None h t f k none (ea, em, ed) = not_there k none ea em ed
case_sync_found state g v w d e cpu file index (Some page) h t f k found run =
    let x = unbind (sync_page g.parts page cpu) (λ went. sync_next g cpu (Sync file) (file_pages g.plan.files file) index page went.0 went.1) v d (h, t) w e run in
    case_sync_owned state g v x.storage w d x.disk e cpu file index page (info_at g.parts.pages page).owner x.answer.0 x.answer.1 h t f k
    (planned-tag g v d file index f.sizes k.file_below k.within) found refl x.first x.second

-- a sync that looks at a page of its file
pub case_sync : (state : FlatState) (g : GuestState) (v w : StorageView) (d e : DiskView) (cpu file index : ℕ) (h : GuestState) (t : Turn)
    → FitAt state g v d → Syncs g cpu file index → Seen {A = GuestState × Turn} (sync_turn g cpu (Sync file) index) v d (h, t) w e → SyncCase g cpu file index v d h t w e
unfolding sync_turn
case_sync state g v w d e cpu file index h t f k run = case_sync_found state g v w d e cpu file index (page_of g.parts.cache (File file index)) h t f k refl run

-- ---- a page written back

case_written_next : (g : GuestState) (v n w : StorageView) (d y e : DiskView) (cpu file index page : ℕ) (parts : Parts) (r : Filled) (h : GuestState) (t : Turn)
    → WritesBack g cpu file index page → BackOutcome g.parts page (File file index) v d parts r n y
    → Seen {A = GuestState × Turn} (written_next g cpu (Sync file) (file_pages g.plan.files file) index parts r) n y (h, t) w e → SyncCase g cpu file index v d h t w e
case_written_next g v n w d y e cpu file index page parts FilledDone h t k (bytes, are, written, told) (ea, em, ed) =
    was_written_back page bytes parts k are (rw (em, ed) written) (rw em told) ea
case_written_next g v n w d y e cpu file index page parts (FilledAgain why) h t k (tables, may, misses, disk) (ea, em, ed) =
    write_missed page why k (ap (λ q. q.0) ea ∙ ap (λ q. with_parts g q) tables) (ap (λ q. q.1) ea) (rw (em, ed) may) (rw em misses) (ed ∙ disk)
case_written_next g v n w d y e cpu file index page parts (FilledFail cause) h t k (back, told, why) (ea, em, ed) =
    write_failed page cause parts k (rw (em, ed) back) (rw em told) (rw (em, ed) why) (ap (λ q. q.0) ea) (ap (λ q. q.1) ea)

-- a sync that writes a page of its file back
pub case_write_back : (state : FlatState) (g : GuestState) (v w : StorageView) (d e : DiskView) (cpu index page : ℕ) (h : GuestState) (t : Turn)
    → FitAt state g v d → (k : IsWriting g cpu index page) → (processor_at g cpu).phase ≡ SyncWrite index page
    → Seen {A = GuestState × Turn} (write_back_turn g cpu (Sync k.file) index page) v d (h, t) w e → SyncCase g cpu k.file index v d h t w e
unfolding write_back_turn
case_write_back state g v w d e cpu index page h t f k phase run =
    let x = unbind (write_back g.parts page) (λ went. written_next g cpu (Sync k.file) (file_pages g.plan.files k.file) index went.0 went.1) v d (h, t) w e run in
    let o = seen_write_back g.parts page (File k.file index) v d x.answer.0 x.answer.1 x.storage x.disk (can_be_written state g v d cpu index page f k) x.first in
    let its : WritesBack g cpu k.file index page = record { has = record { below = k.syncing.cpu_below; command = k.syncing.command }; phase = phase } in
    case_written_next g v x.storage w d x.disk e cpu k.file index page x.answer.0 x.answer.1 h t its o x.second
