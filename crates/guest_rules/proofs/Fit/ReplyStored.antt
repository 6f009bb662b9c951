-- Fit after bytes were stored through an entry.
use Rattle.std.proofs.Common.{◌≡◌, ◌≢◌, ◌≤◌, ◌+◌, ◌*◌, ◌/◌, ◌%◌, ℕ, Bool, true, false, if◌then◌else◌, nat_eq, List, length, slice_index_or, Some, refl, ap, sym, ◌∙◌, inr, subst, arith}
use Rattle.std.proofs.lemmas.Bool.{eqb-true, false_from_ne_true}
use Rattle.cmm_types.specs.declared.page.TheConstants.{PAGE}
use Rattle.cmm_types.specs.declared.page.Usage.TheVariants.{S, P, V}
use Rattle.cmm_types.specs.declared.page.Tag.{Tag}
use Rattle.cmm_types.specs.declared.page.Tag.TheVariants.{File, Anon}
use Rattle.cmm_types.specs.declared.command.Op.{Op}
use Rattle.cmm_types.specs.declared.command.Op.TheVariants.{Store}
use Rattle.cmm_types.specs.declared.command.Reply.{Reply}
use Rattle.cmm_types.specs.declared.command.Reply.TheVariants.{Done}
use Rattle.cmm_types.specs.InRange.{IsPiece, OpInRange}
use Rattle.cmm_io.specs.DiskView.{DiskView}
use Rattle.cmm_flat.specs.declared.mapping.Mapping.{Mapping}
use Rattle.cmm_flat.specs.Mapping.{written}
use Rattle.cmm_flat.specs.State.{FlatState, Shows, IsSound, file_at}
use Rattle.cmm_flat.specs.Flat.{flat_step, with_file_bytes, with_mapping, stored, on_live}
use Rattle.cmm_flat.specs.Laws.BytesLaws.{length-with_bytes}
use Rattle.cmm_flat.specs.Laws.FlatLaws.{shown_soundly, sound-flat_step}
use Rattle.cmm_flat.specs.Laws.StepLaws.{step_done}
use Rattle.cmm_flat.specs.Legal.{process_of, flat_of}
use Rattle.essa_state.specs.PageValue.{PageValue, Bytes, MayBecome}
use Rattle.cmm_storage.specs.StorageView.{StorageView}
use Rattle.cmm_types.specs.Bytes.{with_bytes}
use Rattle.guest_pages.specs.declared.info.PageInfo.{PageInfo}
use Rattle.guest_pages.specs.PagesView.{info_at}
use Rattle.guest_cache.specs.CacheView.{CacheView}
use Rattle.guest_maps.specs.declared.slot.Shown.{Shown}
use Rattle.guest_maps.specs.declared.slot.Shown.TheVariants.{File as OfFile, Anon as OfItsOwn}
use Rattle.guest_maps.specs.MapsView.{find_slot, entry_at, tag_of}
use Rattle.guest_rules.specs.GuestState.{GuestState, processor_at, entered}
use Rattle.guest_rules.specs.Hint.{hint, can_be_fetched_again}
use Rattle.guest_rules.specs.Turns.{refusal_at}
use Rattle.guest_rules.specs.Fit.{FitAt, Fit, HasShownPages}
use Rattle.guest_rules.proofs.Cases.TurnCases.{Starts, GivenBack, ShowsPage}
use Rattle.cmm_flat.specs.Laws.CommandLaws.{command_in_range}
use Rattle.guest_rules.proofs.Rows.ValueLaws.{hint-tagged}
use Rattle.guest_rules.proofs.Kept.EntryLaws.{some_writer}
use Rattle.guest_rules.proofs.Kept.PinLaws.{length-pins_of}
use Rattle.guest_rules.proofs.Kept.PageFits.{PageFits, PageFits-may}
use Rattle.guest_rules.proofs.Kept.FlatTags.{mapped_file, mapped_own}
use Rattle.guest_rules.proofs.Cases.WantedTags.{shows_at, file-planned, pages-planned}
use Rattle.guest_rules.proofs.Cases.Reached.{Reaches, store_reaches, entry_page}
use Rattle.guest_rules.proofs.Cases.Refusals.{length-file, length-files}
use Rattle.guest_rules.proofs.Fit.StepResolved.{accepted_at}
use Rattle.guest_rules.proofs.Fit.FoundBytes.{IsFound, found-fits}
use Rattle.guest_rules.proofs.Fit.StoredBytes.{IsWrite}
use Rattle.guest_rules.proofs.Fit.FitBytes.{FitAt-bytes}
use Rattle.guest_rules.proofs.Fit.ChangedBytes.{OwnWrite, file_changes, own_changes}
use Rattle.guest_rules.proofs.Fit.Replies.{Fit-stepped, refused-same}
use Rattle.guest_rules.proofs.Fit.ReplyLoaded.{GoesThrough, goes_through}

never_volatile : (a b : Bool) → b ≡ false → (if a then (if b then V else P) else S) ≡ V → ⊥
never_volatile true true e h = let bad : true ≡ false = e in absurd cc
never_volatile true false e h = cc
never_volatile false b e h = cc

-- a page with writers isn't volatile
hint-writers : (info : PageInfo) (tag : Tag) → info.tag ≡ Some tag → 1 ≤ info.writers → hint info ≢ V
unfolding hint
hint-writers info tag tagged some h =
    never_volatile (can_be_fetched_again info) (nat_eq info.writers 0)
    (false_from_ne_true (nat_eq info.writers 0) (λ t. let none : info.writers ≡ 0 = eqb-true info.writers 0 t in omega (arith, none, some))) (rw tagged at h)

-- a page that was stored to
PageFits-stored : (cache : CacheView) (d : DiskView) (info : PageInfo) (tag : Tag) (found : PageValue) (bytes : List ℕ) → PageFits cache d info found → info.tag ≡ Some tag
    → 1 ≤ info.writers → length bytes ≡ PAGE
    → PageFits cache d info (record found { changed = true; contents = Bytes bytes })
PageFits-stored cache d info tag found bytes s tagged some all_of = record {
  is_value = tt;
  hinted = s.hinted;
  volatile = λ u. absurd (hint-writers info tag tagged some (sym s.hinted ∙ u));
  unused = λ u. absurd (hint-tagged info tag tagged (sym s.hinted ∙ u));
  not_blank = λ t e u. refl;
  whole = λ t all e u are. ap length (sym (bytes_exact are)) ∙ all_of;
  same = λ t e u clean unchanged there. let bad : true ≡ false = unchanged in absurd cc;
  written = λ slot index e more. s.written slot index e (inr some);
}
  where
    bytes_exact : {a b : List ℕ} → Bytes a ≡ Bytes b → a ≡ b
    bytes_exact e = cc

-- bytes within a mapping are within its file
within_file : (first off len count pages size : ℕ) → off + len ≤ PAGE * count → first + count ≤ pages → size ≡ PAGE * pages → PAGE * first + off + len ≤ size
within_file first off len count pages size within room is = omega (arith, within, room, is)

pub Fit-stored : (g : GuestState) (v : StorageView) (d : DiskView) (w : StorageView) (e : DiskView) (cpu number off : ℕ) (bytes : List ℕ) (slot page : ℕ) (found : PageValue) (all : List ℕ)
    → Fit g v d → Starts g cpu (Store number off bytes)
    → find_slot g.parts.maps (process_of g.plan cpu) number ≡ Some slot → entry_at g.parts.maps slot (off / PAGE) ≡ Some (record { page = page; writable = true }) → GivenBack page v d w e
    → MayBecome (v.values page) found
    → found.contents ≡ Bytes all → w.values page ≡ record found { changed = true; contents = Bytes (with_bytes all (off % PAGE) bytes) } → Fit (entered g cpu (Store number off bytes) Done) w e
Fit-stored g v d w e cpu number off bytes slot page found all f starts slot_found entry back may are value = by s.at.found.mapping.shown refl
  where
    flat : FlatState
    flat = flat_of g.plan g.journal

    process : ℕ
    process = process_of g.plan cpu

    op : Op
    op = Store number off bytes

    k : Reaches g cpu op true slot off
    k = store_reaches flat g v d cpu number off bytes slot f starts slot_found

    s : GoesThrough flat g process number slot off k.tag
    s = goes_through flat g v d process number slot off k.tag f slot_found (shows_at flat g.parts slot (off / PAGE) k.tag f.slots k.shown)

    has : ShowsPage g k.tag page
    has = entry_page flat g v d cpu op true slot off (record { page = page; writable = true }) f k entry

    range : OpInRange op
    range = command_in_range g.plan cpu (processor_at g cpu).place op f.sizes.range starts.has.command

    piece : IsPiece off (length bytes)
    piece = range.1

    its : IsFound g v page k.tag found all
    its = record { tagged = has.tagged; uptodate = has.uptodate; may = may; are = are }

    writers : 1 ≤ (info_at g.parts.pages page).writers
    writers = rw (f.entries.writers page) (some_writer g.parts.maps slot (off / PAGE) page entry)

    was : PageFits g.parts.cache d (info_at g.parts.pages page) found
    was = PageFits-may g.parts.cache d (info_at g.parts.pages page) (v.values page) found (found-fits flat g v d page k.tag f has.tagged) may

    -- a whole page is stored to, which stays one
    all_of : length all ≡ PAGE
    all_of = was.whole k.tag all has.tagged has.uptodate are

    fits : PageFits g.parts.cache d (info_at g.parts.pages page) (w.values page)
    fits = rw value (PageFits-stored g.parts.cache d (info_at g.parts.pages page) k.tag found (with_bytes all (off % PAGE) bytes) was has.tagged writers
        (length-with_bytes all (off % PAGE) bytes (omega (arith, all_of, piece.within_page)) ∙ all_of))

    room : off + length bytes ≤ PAGE * s.at.found.mapping.count
    room =
        let k = accepted_at g.parts.maps true slot off (length bytes) (ap (refusal_at g.parts.maps true off (length bytes)) (sym slot_found) ∙ starts.accepted) in
        rw s.at.found.at at k.within

    -- the flat machine stores them in what the mapping shows
    step : flat_step flat process op ≡ (stored flat process number s.at.its s.at.its.shown off bytes, Done)
    step =
        step_done flat process op (refused-same g v d cpu op f starts.has ∙ starts.accepted)
        ∙ ap (λ o. on_live flat o (λ (m : Mapping). (stored flat process number m m.shown off bytes, Done))) s.at.there

    stored_as : (later : FlatState) → stored flat process number s.at.its s.at.its.shown off bytes ≡ later → FitAt later g w e → Fit (entered g cpu op Done) w e
    stored_as later is fit = Fit-stepped g w e cpu op Done later fit starts.has starts.start (step ∙ ap (λ (x : FlatState). let out : FlatState × Reply = (x, Done) in out) is)

    by : (shown : Shown) → s.at.found.mapping.shown ≡ shown → Fit (entered g cpu op Done) w e
    by (OfFile file first writable) is_file =
        let there : HasShownPages g.parts.cache (OfFile file first writable) s.at.found.mapping.count =
        subst (λ (x : Shown). HasShownPages g.parts.cache x s.at.found.mapping.count) is_file (f.slots.shown slot s.at.found.mapping s.at.found.at).1 in
        let size : length (file_at flat.files file) ≡ PAGE * slice_index_or g.parts.cache.files file 0 =
        length-file flat.files g.plan.files file f.flat.lengths ∙ ap (λ n. PAGE * n) (sym (pages-planned g v d file f.sizes)) in
        let write : IsWrite flat.files file first off (length bytes) = record {
          file_below = rw (length-files flat.files g.plan.files f.flat.lengths) (file-planned g v d file f.sizes there.0);
          within = within_file first off (length bytes) s.at.found.mapping.count _ _ room there.1 size;
          within_page = piece.within_page;
        } in
        let is : k.tag ≡ File file (first + off / PAGE) = s.is ∙ ap (λ (x : Shown). tag_of x slot (off / PAGE)) is_file in
        stored_as (with_file_bytes flat file (PAGE * first + off) bytes)
        (ap (λ (m : Mapping). stored flat process number m m.shown off bytes) (mapped_file flat g.parts process number slot file first writable s.at is_file))
        (FitAt-bytes flat (with_file_bytes flat file (PAGE * first + off) bytes) g v d w e page k.tag found all (with_bytes all (off % PAGE) bytes) found.usage true false f
        (file_changes flat g v d file first off bytes page k.tag found all f write is s.flat its) back value fits)
    by OfItsOwn is_own =
        let own = mapped_own flat g.parts process number slot s.at is_own in
        let later : FlatState = with_mapping flat process number (written s.at.its off bytes) in
        let same : stored flat process number s.at.its s.at.its.shown off bytes ≡ later =
        ap (λ (m : Mapping). stored flat process number m m.shown off bytes) own.1 ∙ sym (ap (λ (m : Mapping). with_mapping flat process number (written m off bytes)) own.1) in
        let sound : IsSound later =
        subst IsSound (ap (λ (out : FlatState × Reply). out.0) step ∙ same) (sound-flat_step flat process op range f.flat.sound) in
        let shows = subst (Shows flat.files) own.1 (shown_soundly flat process number s.at.its f.flat.sound s.at.there) in
        let size : length own.0 ≡ PAGE * s.at.found.mapping.count = shows.1 ∙ ap (λ n. PAGE * n) (length-pins_of g.parts.maps slot s.at.found.mapping.count) in
        let write : OwnWrite flat g process number slot off (length bytes) =
        record { at = s.at; shown = is_own; own = own.0; has = own.1; within = omega (arith, room, size); within_page = piece.within_page } in
        let is : k.tag ≡ Anon slot (off / PAGE) = s.is ∙ ap (λ (x : Shown). tag_of x slot (off / PAGE)) is_own in
        stored_as later same
        (FitAt-bytes flat later g v d w e page k.tag found all (with_bytes all (off % PAGE) bytes) found.usage true false f
        (own_changes flat g v d process number slot off bytes page k.tag found all f write is s.flat its sound) back value fits)
