-- Every run of an unmap that takes its pages off is one of its cases.
use Rattle.std.specs.Prelude.{◌≡◌, ℕ, Option, Some, None, refl}
use Rattle.std.proofs.Common.{ap, sym, subst, ◌∙◌, arith}
use Rattle.cmm_types.specs.declared.page.Tag.TheVariants.{Anon}
use Rattle.cmm_types.specs.declared.turn.Turn.{Turn}
use Rattle.cmm_flat.specs.State.{FlatState}
use Rattle.cmm_io.specs.DiskView.{DiskView}
use Rattle.cmm_storage.specs.StorageView.{StorageView}
use Rattle.cmm_storage.specs.Views.{Seen, unbind}
use Rattle.guest_pages.specs.PagesView.{info_at}
use Rattle.guest_cache.specs.CacheView.{IsTag, page_of}
use Rattle.guest_maps.specs.declared.slot.Pte.{Pte}
use Rattle.guest_maps.specs.declared.slot.Shown.{Shown}
use Rattle.guest_maps.specs.declared.slot.Shown.TheVariants.{File as OfFile, Anon as OfItsOwn}
use Rattle.guest_maps.specs.MapsView.{entry_at}
use Rattle.guest_rules.specs.declared.parts.Parts.{Parts}
use Rattle.guest_rules.specs.declared.processor.Phase.TheVariants.{Teardown}
use Rattle.guest_rules.specs.declared.outcome.Placed.{Placed}
use Rattle.guest_rules.specs.declared.outcome.Placed.TheVariants.{Done as PlaceDone, Gone as PlaceGone, Again as PlaceAgain}
use Rattle.guest_rules.specs.Rows.{clear_entry, tear_page, released}
use Rattle.guest_rules.specs.GuestState.{GuestState, processor_at, with_parts}
use Rattle.guest_rules.specs.Turns.{mapping_pages, torn_past, torn_next, teardown_entry, teardown_owned, teardown_page, teardown_shown, teardown_in, teardown_turn}
use Rattle.guest_rules.specs.Fit.{FitAt, IsEntry, IsTearing}
use Rattle.guest_rules.proofs.Cases.TurnCases.{ShowsPage, Tears, TearsPast, TearCase, had_no_entry, tear_missed, tear_gone, was_cleared_at, HasPage}
use Rattle.guest_rules.proofs.Cases.TurnCases.{TearOwnCase, had_no_page_of_its, tear_waited, tear_own_missed, was_torn_off, TurnCase, was_torn, was_torn_own}
use Rattle.guest_rules.proofs.Kept.PageFits.{tagged-below}
use Rattle.guest_rules.proofs.Ready.Ready.{can_be_shown, lost_unlocked, found_page}
use Rattle.guest_rules.proofs.Kept.FlatTags.{own-is_tag}
use Rattle.guest_rules.proofs.Rows.TearPage.{TearOutcome, seen_tear_page}
use Rattle.guest_rules.proofs.Rows.ClearEntry.{ClearOutcome, is_used_unmapped, seen_clear_entry}

-- the page that an entry of the mapping shows
pub torn_page : (state : FlatState) (g : GuestState) (v : StorageView) (d : DiskView) (cpu slot index : ℕ) (pte : Pte) → FitAt state g v d → IsTearing g cpu slot index
    → entry_at g.parts.maps slot index ≡ Some pte → (is : IsEntry g.parts slot index pte) × ShowsPage g is.tag pte.page
torn_page state g v d cpu slot index pte f k at =
    let is = f.entries.entry slot index pte (omega (arith, k.within, (f.slots.shown slot k.mapping k.at).0)) at in
    (is, record { below = tagged-below g.parts.pages pte.page is.tag is.tagged; tagged = is.tagged; uptodate = is.uptodate })

-- the mapping has so many pages
past : (g : GuestState) (cpu slot index : ℕ) (k : IsTearing g cpu slot index) (after : Parts) (h : GuestState) (t : Turn)
    → ◌≡◌ {A = GuestState × Turn} (h, t) (torn_past (with_parts g after) cpu slot index k.mapping.count) → TearsPast g cpu slot index after h t
past g cpu slot index k after h t is = is ∙ ap (λ o. torn_past (with_parts g after) cpu slot index (mapping_pages o)) (sym k.at)

-- g and h the guest before and after, v and w its storage before and after, d and e its disk before and after, cpu the processor, slot the slot of a mapping, index a page of it, t the turn
module _ (g : GuestState) (v w : StorageView) (d e : DiskView) (cpu slot index : ℕ) (h : GuestState) (t : Turn) where
  case_cleared : (state : FlatState) (n : StorageView) (y : DiskView) (pte : Pte) (parts : Parts) (r : Placed) → FitAt state g v d → (k : Tears g cpu slot index)
      → entry_at g.parts.maps slot index ≡ Some pte → ClearOutcome g.parts slot index pte v d parts r n y
      → Seen {A = GuestState × Turn} (torn_next g cpu slot index k.tearing.mapping.count parts r) n y (h, t) w e → TearCase g cpu slot index v d h t w e
  case_cleared state n y pte parts PlaceDone f k at (found, is) (ea, em, ed) =
      let its = torn_page state g v d cpu slot index pte f k.tearing at in
      was_cleared_at its.0.tag pte found parts k at its.1 (rw (em, ed) is.back) is.may (rw em is.rehinted) (past g cpu slot index k.tearing parts h t ea)
  case_cleared state n y pte parts PlaceGone f k at o (ea, em, ed) =
      let its = torn_page state g v d cpu slot index pte f k.tearing at in
      tear_gone its.0.tag pte o.found k at (lost_unlocked state g v d pte.page its.0.tag o.found f its.1 o.may o.lost) (rw (em, ed) o.back) o.may o.lost (rw em o.unused)
      (subst (λ q. TearsPast g cpu slot index q h t) o.tables (past g cpu slot index k.tearing parts h t ea))
  case_cleared state n y pte parts (PlaceAgain why) f k at (tables, may, misses, disk) (ea, em, ed) =
      tear_missed why k (ap (λ q. q.0) ea ∙ ap (λ q. with_parts g q) tables) (ap (λ q. q.1) ea) (rw (em, ed) may) (rw em misses) (ed ∙ disk)

  case_entry : (state : FlatState) (pte : Option Pte) → FitAt state g v d → (k : Tears g cpu slot index) → entry_at g.parts.maps slot index ≡ pte
      → Seen {A = GuestState × Turn} (teardown_entry g cpu slot index k.tearing.mapping.count pte) v d (h, t) w e → TearCase g cpu slot index v d h t w e
  case_entry state None f k at (ea, em, ed) = had_no_entry k at (past g cpu slot index k.tearing g.parts h t ea) em ed
  case_entry state (Some pte) f k at run =
      let its = torn_page state g v d cpu slot index pte f k.tearing at in
      let x = unbind (clear_entry g.parts slot index pte) (λ went. torn_next g cpu slot index k.tearing.mapping.count went.0 went.1) v d (h, t) w e run in
      let used = is_used_unmapped g.parts slot index pte its.0.tag its.1.below its.1.tagged in
      let o = seen_clear_entry g.parts slot index pte v d x.answer.0 x.answer.1 x.storage x.disk (can_be_shown state g v d pte.page its.0.tag f its.1) used x.first in
      case_cleared state x.storage x.disk pte x.answer.0 x.answer.1 f k at o x.second

  -- ---- a mapping of pages of its own

  case_torn_off : (n : StorageView) (y : DiskView) (page : ℕ) (parts : Parts) (r : Placed) → (k : Tears g cpu slot index) → HasPage g (Anon slot index) page
      → TearOutcome g.parts slot index page v d parts r n y → Seen {A = GuestState × Turn} (torn_next g cpu slot index k.tearing.mapping.count parts r) n y (h, t) w e
      → TearOwnCase g cpu slot index v d h t w e
  case_torn_off n y page parts PlaceDone k has o (ea, em, ed) =
      was_torn_off page o.found k has (rw (em, ed) o.back) o.may (rw em o.unused) (subst (λ q. TearsPast g cpu slot index q h t) o.tables (past g cpu slot index k.tearing parts h t ea))
  case_torn_off n y page parts PlaceGone k has o (ea, em, ed) = absurd o
  case_torn_off n y page parts (PlaceAgain why) k has (tables, may, misses, disk) (ea, em, ed) =
      tear_own_missed why k (ap (λ q. q.0) ea ∙ ap (λ q. with_parts g q) tables) (ap (λ q. q.1) ea) (rw (em, ed) may) (rw em misses) (ed ∙ disk)

-- state the flat machine's state, g the guest before, v and w its storage before and after, d and e its disk before and after, cpu the processor, slot the slot of a mapping, index a page of it
module _ (state : FlatState) (g : GuestState) (v w : StorageView) (d e : DiskView) (cpu slot index : ℕ) where
  case_owned : (page : ℕ) (owner : Option ℕ) (h : GuestState) (t : Turn) → FitAt state g v d → (k : Tears g cpu slot index) → page_of g.parts.cache (Anon slot index) ≡ Some page
      → IsTag g.parts.cache (Anon slot index) → (info_at g.parts.pages page).owner ≡ owner
      → Seen {A = GuestState × Turn} (teardown_owned g cpu slot index k.tearing.mapping.count page owner) v d (h, t) w e → TearOwnCase g cpu slot index v d h t w e
  case_owned page (Some owner) h t f k there is locked (ea, em, ed) = tear_waited page owner k there locked (ap (λ q. q.0) ea) (ap (λ q. q.1) ea) em ed
  case_owned page None h t f k there is unlocked run =
      let x = unbind (tear_page g.parts slot index page) (λ went. torn_next g cpu slot index k.tearing.mapping.count went.0 went.1) v d (h, t) w e run in
      let o = seen_tear_page g.parts slot index page v d x.answer.0 x.answer.1 x.storage x.disk x.first in
      case_torn_off g v w d e cpu slot index h t x.storage x.disk page x.answer.0 x.answer.1 k (found_page state g v d page (Anon slot index) f is there unlocked) o x.second

  case_own_page : (page : Option ℕ) (h : GuestState) (t : Turn) → FitAt state g v d → (k : Tears g cpu slot index) → page_of g.parts.cache (Anon slot index) ≡ page
      → IsTag g.parts.cache (Anon slot index) → Seen {A = GuestState × Turn} (teardown_page g cpu slot index k.tearing.mapping.count page) v d (h, t) w e → TearOwnCase g cpu slot index v d h t w e
  case_own_page None h t f k none is (ea, em, ed) = had_no_page_of_its k none (past g cpu slot index k.tearing (released g.parts slot index) h t ea) em ed
  case_own_page (Some page) h t f k there is run = case_owned page (info_at g.parts.pages page).owner h t f k there is refl run

  -- ---- either of both

  case_shown : (shown : Shown) (h : GuestState) (t : Turn) → FitAt state g v d → (k : Tears g cpu slot index) → k.tearing.mapping.shown ≡ shown
      → Seen {A = GuestState × Turn} (teardown_shown g cpu slot index k.tearing.mapping.count shown) v d (h, t) w e → TurnCase g cpu v d h t w e
  case_shown (OfFile file first writable) h t f k shown run =
      was_torn slot index (record { mapping = k.tearing.mapping; at = k.tearing.at; file = file; first = first; writable = writable; shown = shown })
      (case_entry g v w d e cpu slot index h t state (entry_at g.parts.maps slot index) f k refl run)
  case_shown OfItsOwn h t f k shown run =
      was_torn_own slot index (record { mapping = k.tearing.mapping; at = k.tearing.at; shown = shown })
      (case_own_page (page_of g.parts.cache (Anon slot index)) h t f k refl
      (own-is_tag state g v d f.sizes f.slots slot index k.tearing.mapping k.tearing.at k.tearing.within) run)

  pub case_tear : (h : GuestState) (t : Turn) → FitAt state g v d → (processor_at g cpu).phase ≡ Teardown slot index → Seen {A = GuestState × Turn} (teardown_turn g cpu slot index) v d (h, t) w e
      → TurnCase g cpu v d h t w e
  unfolding teardown_turn
  case_tear h t f phase run =
      let k = f.teardowns.tearing cpu slot index phase in
      let in_slot : Seen {A = GuestState × Turn} (teardown_shown g cpu slot index k.mapping.count k.mapping.shown) v d (h, t) w e =
      subst (λ o. Seen {A = GuestState × Turn} (teardown_in g cpu slot index o) v d (h, t) w e) k.at run in
      case_shown k.mapping.shown h t f (record { phase = phase; tearing = k }) refl in_slot
