-- Fit after bytes were loaded through an entry.
use Rattle.std.proofs.Common.{◌≡◌, ◌≤◌, ◌+◌, ◌*◌, ◌/◌, ◌%◌, ℕ, Bool, false, List, take, drop, Some, refl, ap, sym, ◌∙◌}
use Rattle.cmm_types.specs.declared.page.TheConstants.{PAGE}
use Rattle.cmm_types.specs.declared.page.Tag.{Tag}
use Rattle.cmm_types.specs.declared.command.Op.TheVariants.{Load}
use Rattle.cmm_types.specs.declared.command.Reply.{Reply}
use Rattle.cmm_types.specs.declared.command.Reply.TheVariants.{Bytes as BytesReply}
use Rattle.cmm_types.specs.InRange.{IsPiece}
use Rattle.cmm_io.specs.DiskView.{DiskView}
use Rattle.cmm_flat.specs.declared.mapping.Mapping.{Mapping}
use Rattle.cmm_types.specs.Bytes.{bytes_at}
use Rattle.cmm_flat.specs.State.{FlatState, file_at}
use Rattle.cmm_flat.specs.Flat.{loaded, on_live}
use Rattle.cmm_flat.specs.Laws.StepLaws.{step_done}
use Rattle.cmm_flat.specs.Legal.{process_of, flat_of}
use Rattle.essa_state.specs.PageValue.{Bytes}
use Rattle.cmm_storage.specs.StorageView.{StorageView}
use Rattle.guest_maps.specs.declared.slot.Slot.{Slot}
use Rattle.guest_maps.specs.declared.slot.Shown.{Shown}
use Rattle.guest_maps.specs.declared.slot.Shown.TheVariants.{File as OfFile, Anon as OfItsOwn}
use Rattle.guest_maps.specs.MapsView.{find_slot, entry_at, tag_of}
use Rattle.guest_rules.specs.declared.parts.Parts.{Parts}
use Rattle.guest_rules.specs.GuestState.{GuestState, processor_at, entered}
use Rattle.guest_rules.specs.Fit.{FitAt, Fit, IsFlatTag, own_bytes, flat_page}
use Rattle.guest_rules.proofs.Cases.TurnCases.{Starts, AllMay, ShowsPage}
use Rattle.cmm_flat.specs.Laws.CommandLaws.{command_in_range}
use Rattle.guest_rules.proofs.Cases.Refusals.{page-bytes}
use Rattle.guest_rules.proofs.Cases.WantedTags.{ShowsAt, shows_at, wanted-shown}
use Rattle.guest_rules.proofs.Cases.Reached.{Reaches, load_reaches, entry_page}
use Rattle.guest_rules.proofs.Kept.FlatTags.{FlatMapped, flat_mapped, same_place, mapped_file, mapped_own, flat_page-at}
use Rattle.guest_rules.proofs.Fit.FitMay.{FitAt-may, infos-pages}
use Rattle.guest_rules.proofs.Fit.FoundBytes.{found-bytes, bytes-in_page}
use Rattle.guest_rules.proofs.Fit.Replies.{Fit-stepped, refused-same}

-- the bytes that the flat machine loads are those of the page
pub loaded-page : (state : FlatState) (parts : Parts) (process number slot off len : ℕ) (k : FlatMapped state parts process number slot) → off % PAGE + len ≤ PAGE
    → take len (drop (off % PAGE) (flat_page state parts.maps (tag_of k.found.mapping.shown slot (off / PAGE)))) ≡ loaded state.files k.its.shown off len
loaded-page state parts process number slot off len k within = by k.found.mapping.shown refl
  where
    by : (shown : Shown) → k.found.mapping.shown ≡ shown
        → take len (drop (off % PAGE) (flat_page state parts.maps (tag_of k.found.mapping.shown slot (off / PAGE)))) ≡ loaded state.files k.its.shown off len
    by (OfFile file first writable) e =
        ap (λ (s : Shown). take len (drop (off % PAGE) (flat_page state parts.maps (tag_of s slot (off / PAGE))))) e
        ∙ bytes-in_page (file_at state.files file) first off len within
        ∙ sym (ap (λ (m : Mapping). loaded state.files m.shown off len) (mapped_file state parts process number slot file first writable k e))
    by OfItsOwn e =
        let own = mapped_own state parts process number slot k e in
        let here = ap own_bytes (same_place state parts.maps process number slot k.found ∙ k.there) ∙ ap (λ (m : Mapping). own_bytes (Some m)) own.1 in
        ap (λ (s : Shown). take len (drop (off % PAGE) (flat_page state parts.maps (tag_of s slot (off / PAGE))))) e
        ∙ ap (λ b. take len (drop (off % PAGE) b)) (flat_page-at state parts.maps slot (off / PAGE) k.found.mapping k.found.at ∙ ap (λ b. bytes_at b (PAGE * (off / PAGE)) PAGE) here)
        ∙ page-bytes own.0 off len within
        ∙ sym (ap (λ (m : Mapping). loaded state.files m.shown off len) own.1)

-- what a command reaches through a mapping that was found: the page of a tag that the flat machine has
pub record GoesThrough (state : FlatState) (g : GuestState) (process number slot off : ℕ) (tag : Tag) : Type 0 where
  pub at : FlatMapped state g.parts process number slot
  pub shows : ShowsAt g.parts slot (off / PAGE) tag
  pub is : tag ≡ tag_of at.found.mapping.shown slot (off / PAGE)
  pub same : shows.mapping ≡ at.found.mapping
  pub flat : IsFlatTag g.parts tag

pub goes_through : (state : FlatState) (g : GuestState) (v : StorageView) (d : DiskView) (process number slot off : ℕ) (tag : Tag) → FitAt state g v d
    → find_slot g.parts.maps process number ≡ Some slot → ShowsAt g.parts slot (off / PAGE) tag → GoesThrough state g process number slot off tag
goes_through state g v d process number slot off tag f found shows =
    let at = flat_mapped state g.parts process number slot f.slots found in
    let both : Some shows.mapping ≡ Some at.found.mapping = sym shows.there ∙ at.found.at in
    let same : shows.mapping ≡ at.found.mapping = cc in
    record {
      at = at;
      shows = shows;
      is = shows.is ∙ ap (λ (m : Slot). tag_of m.shown slot (off / PAGE)) same;
      same = same;
      flat = (wanted-shown state g.parts slot (off / PAGE) tag f.slots f.sizes.slots shows (ap (λ (m : Slot). m.live) same ∙ at.found.live)).flat;
    }

pub Fit-loaded : (g : GuestState) (v : StorageView) (d : DiskView) (w : StorageView) (e : DiskView) (cpu number off len slot page : ℕ) (writable : Bool) (all : List ℕ) → Fit g v d
    → Starts g cpu (Load number off len)
    → find_slot g.parts.maps (process_of g.plan cpu) number ≡ Some slot → entry_at g.parts.maps slot (off / PAGE) ≡ Some (record { page = page; writable = writable })
    → (w.values page).contents ≡ Bytes all → AllMay v d w e
    → Fit (entered g cpu (Load number off len) (BytesReply (take len (drop (off % PAGE) all)))) w e
Fit-loaded g v d w e cpu number off len slot page writable all f starts found entry are may =
    Fit-stepped g w e cpu (Load number off len) (BytesReply (take len (drop (off % PAGE) all))) flat (FitAt-may flat g v d w e f may) starts.has starts.start
    (step_done flat process (Load number off len) (refused-same g v d cpu (Load number off len) f starts.has ∙ starts.accepted)
    ∙ ap (λ o. on_live flat o (λ (m : Mapping). (flat, BytesReply (loaded flat.files m.shown off len)))) s.at.there
    ∙ ap (λ b. let out : FlatState × Reply = (flat, BytesReply b) in out) (sym same))
  where
    flat : FlatState
    flat = flat_of g.plan g.journal

    process : ℕ
    process = process_of g.plan cpu

    k : Reaches g cpu (Load number off len) false slot off
    k = load_reaches flat g v d cpu number off len slot f starts found

    s : GoesThrough flat g process number slot off k.tag
    s = goes_through flat g v d process number slot off k.tag f found (shows_at flat g.parts slot (off / PAGE) k.tag f.slots k.shown)

    has : ShowsPage g k.tag page
    has = entry_page flat g v d cpu (Load number off len) false slot off (record { page = page; writable = writable }) f k entry

    piece : IsPiece off len
    piece = (command_in_range g.plan cpu (processor_at g cpu).place (Load number off len) f.sizes.range starts.has.command).1

    same : take len (drop (off % PAGE) all) ≡ loaded flat.files s.at.its.shown off len
    same =
        ap (λ b. take len (drop (off % PAGE) b))
        (sym (ap (flat_page flat g.parts.maps) (sym s.is) ∙ found-bytes flat g v d page k.tag (w.values page) all f s.flat
        (record { tagged = has.tagged; uptodate = has.uptodate; may = may.values page (rw (infos-pages g v d f.sizes) at has.below); are = are })))
        ∙ loaded-page flat g.parts process number slot off len s.at piece.within_page
