-- Fit after bytes were written to a page.
use Rattle.std.proofs.Common.{◌≡◌, ◌<◌, ◌≤◌, ◌+◌, ◌*◌, ◌/◌, ◌%◌, ℕ, true, false, List, length, Some, refl, ap, sym, ◌∙◌, inl, subst, arith}
use Rattle.cmm_types.specs.declared.page.TheConstants.{PAGE}
use Rattle.cmm_types.specs.declared.page.Usage.TheVariants.{S, U, V}
use Rattle.cmm_types.specs.declared.page.Tag.{Tag}
use Rattle.cmm_types.specs.declared.page.Tag.TheVariants.{File}
use Rattle.cmm_types.specs.declared.command.Op.{Op}
use Rattle.cmm_types.specs.declared.command.Op.TheVariants.{Write}
use Rattle.cmm_types.specs.declared.command.Reply.TheVariants.{Done}
use Rattle.cmm_io.specs.DiskView.{DiskView}
use Rattle.cmm_flat.specs.State.{FlatState, file_at}
use Rattle.cmm_flat.specs.Flat.{with_file_bytes}
use Rattle.cmm_flat.specs.Laws.StepLaws.{step_done}
use Rattle.cmm_flat.specs.Legal.{process_of, flat_of}
use Rattle.essa_state.specs.PageValue.{PageValue, Bytes, MayBecome}
use Rattle.cmm_storage.specs.StorageView.{StorageView}
use Rattle.cmm_types.specs.Bytes.{with_bytes}
use Rattle.guest_pages.specs.declared.info.PageInfo.{PageInfo}
use Rattle.guest_pages.specs.PagesView.{info_at}
use Rattle.guest_cache.specs.CacheView.{CacheView}
use Rattle.guest_rules.specs.GuestState.{GuestState, with_parts, entered}
use Rattle.guest_rules.specs.Rows.{dirtied}
use Rattle.guest_rules.specs.Fit.{FitAt, Fit}
use Rattle.guest_rules.proofs.Cases.TurnCases.{Starts, HasPage, GivenBack}
use Rattle.guest_rules.proofs.Rows.ValueLaws.{hint-dirty}
use Rattle.guest_rules.proofs.Kept.RowChanges.{changed_info}
use Rattle.guest_rules.proofs.Kept.PageFits.{PageFits, PageFits-may}
use Rattle.guest_rules.proofs.Cases.WantedTags.{HasBytes, write-bytes, write-piece, file-planned, pages-planned}
use Rattle.guest_rules.proofs.Cases.Refusals.{length-file, length-files}
use Rattle.guest_rules.proofs.Fit.FoundBytes.{IsFound, found-fits}
use Rattle.guest_rules.proofs.Fit.StoredBytes.{IsWrite}
use Rattle.guest_rules.proofs.Fit.FitBytes.{FitAt-bytes}
use Rattle.guest_rules.proofs.Fit.ChangedBytes.{file_changes}
use Rattle.cmm_flat.specs.Laws.BytesLaws.{length-with_bytes}
use Rattle.guest_rules.proofs.Fit.Replies.{Fit-stepped, refused-same}

-- a page that was written is dirty, and stable
PageFits-written : (cache : CacheView) (d : DiskView) (info : PageInfo) (tag : Tag) (found : PageValue) (bytes : List ℕ) → PageFits cache d info found → info.tag ≡ Some tag → length bytes ≡ PAGE
    → PageFits cache d (changed_info true info) (record found { usage = S; changed = false; contents = Bytes bytes })
PageFits-written cache d info tag found bytes s tagged all_of = record {
  is_value = tt;
  hinted = sym (hint-dirty (changed_info true info) tag tagged refl);
  volatile = λ u. let bad : S ≡ V = u in absurd cc;
  unused = λ u. let bad : S ≡ U = u in absurd cc;
  not_blank = λ t e u. refl;
  whole = λ t all e u are. ap length (sym (bytes_exact are)) ∙ all_of;
  same = λ t e u clean unchanged there. let bad : true ≡ false = clean in absurd cc;
  written = λ slot index e some. inl refl;
}
  where
    bytes_exact : {a b : List ℕ} → Bytes a ≡ Bytes b → a ≡ b
    bytes_exact e = cc

-- bytes within a file's pages, in one page of it
within_file : (off len pages size : ℕ) → off + len ≤ PAGE * pages → size ≡ PAGE * pages → PAGE * 0 + off + len ≤ size
within_file off len pages size within is = omega (arith, within, is)

is_write : (flat : FlatState) (g : GuestState) (v : StorageView) (d : DiskView) (cpu file off : ℕ) (bytes : List ℕ) → FitAt flat g v d → Starts g cpu (Write file off bytes)
    → IsWrite flat.files file 0 off (length bytes)
is_write flat g v d cpu file off bytes f starts =
    let k : HasBytes g file off (length bytes) = write-bytes g v d (process_of g.plan cpu) file off bytes f.sizes starts.accepted in
    let planned : file < length g.plan.files = file-planned g v d file f.sizes k.file_below in
    let size : length (file_at flat.files file) ≡ PAGE * _ = length-file flat.files g.plan.files file f.flat.lengths ∙ ap (λ n. PAGE * n) (sym (pages-planned g v d file f.sizes)) in
    record {
      file_below = rw (length-files flat.files g.plan.files f.flat.lengths) planned;
      within = within_file off (length bytes) _ _ k.within size;
      within_page = (write-piece g v d cpu file off bytes f.sizes starts.has).within_page;
    }

pub Fit-written : (g : GuestState) (v : StorageView) (d : DiskView) (w : StorageView) (e : DiskView) (cpu file off : ℕ) (bytes : List ℕ) (page : ℕ) (found : PageValue) (all : List ℕ) → Fit g v d
    → Starts g cpu (Write file off bytes)
    → HasPage g (File file (off / PAGE)) page → GivenBack page v d w e → MayBecome (v.values page) found → found.contents ≡ Bytes all
    → w.values page ≡ record found { usage = S; changed = false; contents = Bytes (with_bytes all (off % PAGE) bytes) }
    → Fit (entered (with_parts g (dirtied g.parts page)) cpu (Write file off bytes) Done) w e
Fit-written g v d w e cpu file off bytes page found all f starts has back may are value =
    Fit-stepped (with_parts g (dirtied g.parts page)) w e cpu op Done (with_file_bytes flat file off bytes)
    (subst (λ at. FitAt (with_file_bytes flat file at bytes) (with_parts g (dirtied g.parts page)) w e) from
    (FitAt-bytes flat (with_file_bytes flat file (PAGE * 0 + off) bytes) g v d w e page tag found all (with_bytes all (off % PAGE) bytes) S false true f
    (file_changes flat g v d file 0 off bytes page tag found all f (is_write flat g v d cpu file off bytes f starts)
    (ap (λ i. File file i) index) (f.pages.indexed page tag has.tagged).0 its) back value fits))
    (record { below = starts.has.below; command = starts.has.command }) starts.start
    (step_done flat (process_of g.plan cpu) op (refused-same g v d cpu op f starts.has ∙ starts.accepted))
  where
    flat : FlatState
    flat = flat_of g.plan g.journal

    op : Op
    op = Write file off bytes

    tag : Tag
    tag = File file (off / PAGE)

    from : PAGE * 0 + off ≡ off
    from = omega arith

    index : off / PAGE ≡ 0 + off / PAGE
    index = omega arith

    its : IsFound g v page tag found all
    its = record { tagged = has.tagged; uptodate = f.locks.stale page tag has.tagged has.unlocked; may = may; are = are }

    all_of : PageFits g.parts.cache d (info_at g.parts.pages page) found → length all ≡ PAGE
    all_of was = was.whole tag all has.tagged its.uptodate are

    fits : PageFits g.parts.cache d (changed_info true (info_at g.parts.pages page)) (w.values page)
    fits =
        let was = PageFits-may g.parts.cache d (info_at g.parts.pages page) (v.values page) found (found-fits flat g v d page tag f has.tagged) may in
        rw value (PageFits-written g.parts.cache d (info_at g.parts.pages page) tag found (with_bytes all (off % PAGE) bytes) was has.tagged
        (length-with_bytes all (off % PAGE) bytes (omega (arith, all_of was, (write-piece g v d cpu file off bytes f.sizes starts.has).within_page)) ∙ all_of was))
