-- What stands after the reply to a write.
use Rattle.std.specs.Prelude.{◌≡◌, ℕ, ◌/◌, ◌%◌, List, true, false}
use Rattle.std.proofs.Common.{ap, ◌∙◌}
use Rattle.cmm_types.specs.declared.page.TheConstants.{PAGE}
use Rattle.cmm_types.specs.declared.page.Usage.TheVariants.{S}
use Rattle.cmm_types.specs.declared.page.Tag.{Tag}
use Rattle.cmm_types.specs.declared.page.Tag.TheVariants.{File}
use Rattle.cmm_types.specs.declared.command.Op.TheVariants.{Write}
use Rattle.cmm_types.specs.declared.command.Reply.TheVariants.{Done}
use Rattle.cmm_flat.specs.State.{FlatState}
use Rattle.cmm_io.specs.DiskView.{DiskView}
use Rattle.essa_state.specs.PageValue.{PageValue, Bytes, MayBecome}
use Rattle.cmm_storage.specs.StorageView.{StorageView}
use Rattle.cmm_types.specs.Bytes.{with_bytes}
use Rattle.guest_pages.specs.declared.info.PageInfo.{PageInfo}
use Rattle.guest_rules.specs.GuestState.{GuestState, with_parts, entered}
use Rattle.guest_rules.specs.Rows.{dirtied}
use Rattle.guest_rules.specs.Fit.{FitAt}
use Rattle.guest_rules.specs.Cause.{ShowsDone}
use Rattle.guest_rules.proofs.Cases.TurnCases.{Starts, HasPage}
use Rattle.guest_rules.proofs.Kept.RowChanges.{change-changed}
use Rattle.guest_rules.proofs.Cases.WantedTags.{write-piece}
use Rattle.guest_rules.proofs.Ready.Ready.{has_shows}
use Rattle.guest_rules.proofs.Kept.WholePages.{written_there}

pub shows_written : (state : FlatState) (g : GuestState) (v w : StorageView) (d e : DiskView) (cpu file off : ℕ) (bytes : List ℕ) (page : ℕ) (found : PageValue) (all : List ℕ) → FitAt state g v d
    → Starts g cpu (Write file off bytes) → HasPage g (File file (off / PAGE)) page → MayBecome (v.values page) found → found.contents ≡ Bytes all
    → w.values page ≡ record found { usage = S; changed = false; contents = Bytes (with_bytes all (off % PAGE) bytes) }
    → ShowsDone g cpu (Write file off bytes) (entered (with_parts g (dirtied g.parts page)) cpu (Write file off bytes) Done) w e
unfolding entered
shows_written state g v w d e cpu file off bytes page found all f starts has may are value =
    let tag : Tag = File file (off / PAGE) in
    let here = (change-changed g.parts page true has.below).here in
    let piece = write-piece g v d cpu file off bytes f.sizes starts.has in (
      page,
      record {
        found = (f.pages.indexed page tag has.tagged).1;
        uptodate = ap (λ (i : PageInfo). i.uptodate) here ∙ f.locks.stale page tag has.tagged has.unlocked;
        dirty = ap (λ (i : PageInfo). i.dirty) here;
        stable = ap (λ q. q.usage) value;
        unchanged = ap (λ q. q.changed) value;
        all = with_bytes all (off % PAGE) bytes;
        are = ap (λ q. q.contents) value;
        there = written_there state g v d page (off % PAGE) tag found all bytes f (has_shows state g v d page tag f has) may are piece.within_page;
      },
    )
