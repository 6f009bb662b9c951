-- Every run of a turn that writes to its page is one of the cases of a turn.
use Rattle.std.specs.Prelude.{◌≡◌, ◌<◌, ℕ, ◌/◌, ◌%◌, List, length, true, Some, Result, Ok, Err, refl}
use Rattle.std.proofs.Common.{ap, get_or-set_same, set-set, ◌∙◌}
use Rattle.cmm_types.specs.declared.page.TheConstants.{PAGE}
use Rattle.cmm_types.specs.declared.page.Tag.{Tag}
use Rattle.cmm_types.specs.declared.page.Tag.TheVariants.{File}
use Rattle.cmm_types.specs.declared.command.Op.TheVariants.{Write}
use Rattle.cmm_types.specs.declared.command.Reply.TheVariants.{Done}
use Rattle.cmm_types.specs.declared.turn.Turn.{Turn}
use Rattle.cmm_flat.specs.State.{FlatState}
use Rattle.cmm_io.specs.DiskView.{DiskView}
use Rattle.cmm_storage.specs.StorageView.{StorageView}
use Rattle.cmm_storage.specs.Views.{Seen, unbind}
use Rattle.guest_pages.specs.declared.info.PageInfo.{PageInfo}
use Rattle.guest_pages.specs.PagesView.{PagesView, free_info, info_at, with_info, with_dirty}
use Rattle.guest_rules.specs.declared.parts.Parts.{Parts}
use Rattle.guest_rules.specs.declared.outcome.Missed.{Missed}
use Rattle.guest_rules.specs.Rows.{dirtied, write_page}
use Rattle.guest_rules.specs.GuestState.{GuestState, with_parts, entered}
use Rattle.guest_rules.specs.Turns.{use_turn, done_next}
use Rattle.guest_rules.specs.Fit.{FitAt}
use Rattle.guest_rules.proofs.Cases.TurnCases.{TurnCase, was_written, HasPage}
use Rattle.guest_rules.proofs.Rows.ValueLaws.{hint-dirty}
use Rattle.guest_rules.proofs.Kept.RowChanges.{change-changed}
use Rattle.guest_rules.proofs.Rows.WritePage.{CanBeDirty, WriteOutcome, seen_write_page}
use Rattle.guest_rules.proofs.Ready.Ready.{can_be_used}
use Rattle.guest_rules.proofs.Cases.Reached.{Proceeds}
use Rattle.guest_rules.proofs.Cases.CaseMissed.{case_missed}

-- a page is as dirty as once
dirty_again : (pages : PagesView) (page : ℕ) → page < length pages.infos → with_dirty (with_dirty pages page true) page true ≡ with_dirty pages page true
unfolding with_dirty with_info
dirty_again pages page below = rw (get_or-set_same pages.infos page (record (info_at pages page) { dirty = true }) free_info below, set-set) refl

-- a page with a tag that becomes dirty is stable
pub can_be_dirty : (parts : Parts) (page : ℕ) (tag : Tag) → page < length parts.pages.infos → (info_at parts.pages page).tag ≡ Some tag → CanBeDirty parts page
can_be_dirty parts page tag below tagged =
    let here = (change-changed parts page true below).here in
    record {
      stable = hint-dirty (info_at (dirtied parts page).pages page) tag (ap (λ (i : PageInfo). i.tag) here ∙ tagged) (ap (λ (i : PageInfo). i.dirty) here);
      again = ap (λ (q : PagesView). let p : Parts = record parts { pages = q } in p) (dirty_again parts.pages page below);
    }

case_write_next : (g : GuestState) (v n w : StorageView) (d y e : DiskView) (cpu file off : ℕ) (bytes : List ℕ) (page : ℕ) (parts : Parts) (r : Result Unit Missed) (h : GuestState) (t : Turn)
    → Proceeds g cpu (Write file off bytes) (File file (off / PAGE)) → HasPage g (File file (off / PAGE)) page → WriteOutcome g.parts page (off % PAGE) bytes v d parts r n y
    → Seen {A = GuestState × Turn} (done_next g cpu (Write file off bytes) parts r) n y (h, t) w e → TurnCase g cpu v d h t w e
case_write_next g v n w d y e cpu file off bytes page parts (Ok u) h t k has o (ea, em, ed) =
    was_written file off bytes page o.found o.all k.starts has (rw (em, ed) o.back) o.may o.are (rw em o.value)
    (ap (λ q. q.0) ea ∙ ap (λ q. entered (with_parts g q) cpu (Write file off bytes) Done) o.tables) (ap (λ q. q.1) ea)
case_write_next g v n w d y e cpu file off bytes page parts (Err miss) h t k has o run =
    case_missed g v n w d y e cpu (Write file off bytes) (File file (off / PAGE)) page parts miss h t tt k.starts k.wants has o run

pub case_write : (state : FlatState) (g : GuestState) (v w : StorageView) (d e : DiskView) (cpu file off : ℕ) (bytes : List ℕ) (page : ℕ) (h : GuestState) (t : Turn)
    → FitAt state g v d → Proceeds g cpu (Write file off bytes) (File file (off / PAGE)) → HasPage g (File file (off / PAGE)) page
    → Seen {A = GuestState × Turn} (use_turn g cpu (Write file off bytes) page) v d (h, t) w e → TurnCase g cpu v d h t w e
unfolding use_turn
case_write state g v w d e cpu file off bytes page h t f k has run =
    let x = unbind (write_page g.parts page (off % PAGE) bytes) (λ went. done_next g cpu (Write file off bytes) went.0 went.1) v d (h, t) w e run in
    let dirty = can_be_dirty g.parts page (File file (off / PAGE)) has.below has.tagged in
    let o = seen_write_page g.parts page (off % PAGE) bytes v d x.answer.0 x.answer.1 x.storage x.disk (can_be_used state g v d page (File file (off / PAGE)) f has) dirty x.first in
    case_write_next g v x.storage w d x.disk e cpu file off bytes page x.answer.0 x.answer.1 h t k has o x.second
