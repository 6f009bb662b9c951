-- What stands after the reply to a read.
use Rattle.std.specs.Prelude.{◌≡◌, ℕ, ◌/◌, List}
use Rattle.std.proofs.Common.{ap, ◌∙◌}
use Rattle.cmm_types.specs.declared.page.TheConstants.{PAGE}
use Rattle.cmm_types.specs.declared.page.Tag.{Tag}
use Rattle.cmm_types.specs.declared.page.Tag.TheVariants.{File}
use Rattle.cmm_types.specs.declared.command.Op.TheVariants.{Read}
use Rattle.cmm_types.specs.declared.command.Reply.TheVariants.{Bytes as BytesReply}
use Rattle.cmm_flat.specs.State.{FlatState}
use Rattle.cmm_io.specs.DiskView.{DiskView}
use Rattle.essa_state.specs.PageValue.{PageValue}
use Rattle.cmm_storage.specs.StorageView.{StorageView}
use Rattle.guest_pages.specs.PagesView.{info_at}
use Rattle.guest_cache.specs.CacheView.{CacheView, page_of}
use Rattle.guest_rules.specs.declared.parts.Parts.{Parts}
use Rattle.guest_rules.specs.GuestState.{GuestState, with_parts, entered}
use Rattle.guest_rules.specs.Fit.{FitAt}
use Rattle.guest_rules.specs.Cause.{ShowsBytes}
use Rattle.guest_rules.proofs.Cases.TurnCases.{HasPage, IsRehinted}
use Rattle.guest_rules.proofs.Kept.RowChanges.{change-changed, only-changed}
use Rattle.guest_rules.proofs.Causes.ShownPins.{uptodate-changed}

pub shows_read : (state : FlatState) (g : GuestState) (v w : StorageView) (d : DiskView) (cpu file off len page : ℕ) (found : PageValue) (bytes : List ℕ) (after : Parts) → FitAt state g v d
    → HasPage g (File file (off / PAGE)) page → IsRehinted g.parts page found after (w.values page)
    → ShowsBytes g cpu (Read file off len) (entered (with_parts g after) cpu (Read file off len) (BytesReply bytes))
unfolding entered
shows_read state g v w d cpu file off len page found bytes after f has told = record {
  page = page;
  there = ap (λ (c : CacheView). page_of c tag) cache ∙ (f.pages.indexed page tag has.tagged).1;
  uptodate = ap (λ (q : Parts). (info_at q.pages page).uptodate) told.tables
      ∙ uptodate-changed g.parts page found.changed (info_at g.parts.pages page) (change-changed g.parts page found.changed has.below)
      ∙ f.locks.stale page tag has.tagged has.unlocked;
}
  where
    tag : Tag
    tag = File file (off / PAGE)

    cache : after.cache ≡ g.parts.cache
    cache = ap (λ (q : Parts). q.cache) told.tables ∙ (only-changed g.parts page found.changed).cache
