-- Fit after an entry was set for a load or a store.
use Rattle.std.proofs.Common.{◌≡◌, ◌<◌, ◌≤◌, ◌+◌, ◌*◌, ◌/◌, ◌&&◌, ◌||◌, not, nat_le, if◌then◌else◌, ℕ, Bool, true, false, length, Option, Some, None, refl, ap, sym, ◌∙◌, inl, inr, subst, arith}
use Rattle.std.proofs.lemmas.Bool.{leb-true}
use Rattle.std.proofs.lemmas.List.Quantifiers.{position-Some}
use Rattle.cmm_types.specs.declared.page.TheConstants.{PAGE}
use Rattle.cmm_types.specs.declared.page.Tag.{Tag}
use Rattle.cmm_types.specs.declared.page.Tag.TheVariants.{Anon}
use Rattle.cmm_types.specs.declared.command.Op.{Op}
use Rattle.cmm_types.specs.declared.command.Op.TheVariants.{Load, Store}
use Rattle.cmm_types.specs.declared.command.FlatRefusal.TheVariants.{OutOfRange, ReadOnly}
use Rattle.cmm_types.specs.Sums.{one_if}
use Rattle.cmm_io.specs.DiskView.{DiskView}
use Rattle.cmm_flat.specs.State.{FlatState}
use Rattle.cmm_flat.specs.Legal.{process_of}
use Rattle.essa_state.specs.PageValue.{PageValue, MayBecome}
use Rattle.cmm_storage.specs.StorageView.{StorageView}
use Rattle.guest_pages.specs.declared.info.PageInfo.{PageInfo}
use Rattle.guest_pages.specs.PagesView.{info_at}
use Rattle.guest_cache.specs.CacheView.{CacheView}
use Rattle.guest_maps.specs.declared.slot.Slot.{Slot}
use Rattle.guest_maps.specs.MapsView.{MapsView, slot_at, find_slot, entry_at, tag_at, is_mapping, with_entry}
use Rattle.guest_maps.specs.Laws.MapsLaws.{slots-with_entry, pinned-with_entry, pages-with_entry}
use Rattle.guest_rules.specs.declared.parts.Parts.{Parts}
use Rattle.guest_rules.specs.GuestState.{GuestState, with_parts}
use Rattle.guest_rules.specs.Rows.{is_anonymous, shown_info, mapped}
use Rattle.guest_rules.specs.Turns.{slot_writable, mapping_pages, refusal_at}
use Rattle.guest_rules.specs.Fit.{FitAt}
use Rattle.guest_rules.proofs.Cases.TurnCases.{GivenBack, Starts, Wants, Maps, HasPage, IsRehinted, CanBeSet, found_tag}
use Rattle.guest_rules.proofs.Kept.Changes.{InfoChange}
use Rattle.guest_rules.proofs.Kept.RowChanges.{change-mapped, only-mapped, maps-mapped}
use Rattle.guest_rules.proofs.Kept.EntryLaws.{length-with_entry}
use Rattle.guest_rules.proofs.Kept.PageFits.{IsDirtyOrSlotted}
use Rattle.guest_rules.proofs.Fit.FitMay.{infos-pages}
use Rattle.guest_rules.proofs.Kept.SlotsKept.{SlotsFit-kept}
use Rattle.guest_rules.proofs.Kept.EntriesKept.{EntriesFit-mapped}
use Rattle.guest_rules.proofs.Kept.PinsKept.{SamePlaces, PinsFit-info}
use Rattle.guest_rules.proofs.Kept.TeardownsKept.{KeepsTorn, keeps_torn-mapped}
use Rattle.guest_rules.proofs.Cases.MapsFound.{found_slot}
use Rattle.guest_rules.proofs.Cases.WantedTags.{ShowsAt, shows_at}
use Rattle.guest_rules.proofs.Ready.Ready.{has_shows}
use Rattle.guest_rules.proofs.Fit.StepTold.{Fit-told}

-- what an accepted load or store has: its bytes within the mapping, which a store may write
pub record IsWithin (maps : MapsView) (writes : Bool) (slot off len : ℕ) : Type 0 where
  pub within : off + len ≤ PAGE * mapping_pages (slot_at maps slot)
  pub writable : writes ≡ true → slot_writable (slot_at maps slot) ≡ true

pub accepted_at : (maps : MapsView) (writes : Bool) (slot off len : ℕ) → refusal_at maps writes off len (Some slot) ≡ None → IsWithin maps writes slot off len
accepted_at maps writes slot off len e = let k = of (nat_le (off + len) (PAGE * mapping_pages (slot_at maps slot))) writes (slot_writable (slot_at maps slot)) e
    in record { within = leb-true _ _ k.0; writable = k.1 }
  where
    of : (b writes can : Bool) → (if b then (if writes && not can then Some ReadOnly else None) else Some OutOfRange) ≡ None → (b ≡ true) × (writes ≡ true → can ≡ true)
    of true true true e = (refl, λ x. refl)
    of true true false e = let bad : Some ReadOnly ≡ None = e in absurd cc
    of true false can e = (refl, λ x. let bad : false ≡ true = x in absurd cc)
    of false writes can e = let bad : Some OutOfRange ≡ None = e in absurd cc

-- the slot, what its place shows, and whether stores may go through it, of a load or store that is accepted
pub record Through (g : GuestState) (writes : Bool) (slot off : ℕ) (tag : Tag) : Type 0 where
  pub slot_below : slot < length g.parts.maps.slots
  pub mapping : Slot
  pub at : slot_at g.parts.maps slot ≡ Some mapping
  pub live : mapping.live ≡ true
  pub mapped : tag_at g.parts.maps slot (off / PAGE) ≡ Some tag
  pub writable : writes ≡ true → slot_writable (slot_at g.parts.maps slot) ≡ true

tag_of_slot : (g : GuestState) (o : Option ℕ) (slot index : ℕ) (tag : Tag) → o ≡ Some slot → found_tag g.parts o index ≡ Some tag → tag_at g.parts.maps slot index ≡ Some tag
tag_of_slot g o slot index tag found e = ap (λ q. found_tag g.parts q index) (sym found) ∙ e

pub found-below : (maps : MapsView) (process number slot : ℕ) → find_slot maps process number ≡ Some slot → slot < length maps.slots
found-below maps process number slot e = (position-Some (is_mapping process number) maps.slots slot None e).0

pub through : (g : GuestState) (cpu : ℕ) (op : Op) (tag : Tag) (writes : Bool) (slot off : ℕ) → Starts g cpu op → Wants g cpu op tag → Maps g cpu op writes slot off → Through g writes slot off tag
through g cpu (Load number at len) tag writes slot off starts wants maps = record {
  slot_below = found-below g.parts.maps (process_of g.plan cpu) number slot maps.1;
  mapping = (found_slot g.parts.maps (process_of g.plan cpu) number slot maps.1).mapping;
  at = (found_slot g.parts.maps (process_of g.plan cpu) number slot maps.1).at;
  live = (found_slot g.parts.maps (process_of g.plan cpu) number slot maps.1).live;
  mapped = ap (λ n. tag_at g.parts.maps slot (n / PAGE)) maps.2 ∙ tag_of_slot g (find_slot g.parts.maps (process_of g.plan cpu) number) slot (at / PAGE) tag maps.1 wants;
  writable = λ w. let bad : false ≡ true = sym maps.0 ∙ w in absurd cc;
}
through g cpu (Store number at bytes) tag writes slot off starts wants maps = record {
  slot_below = found-below g.parts.maps (process_of g.plan cpu) number slot maps.1;
  mapping = (found_slot g.parts.maps (process_of g.plan cpu) number slot maps.1).mapping;
  at = (found_slot g.parts.maps (process_of g.plan cpu) number slot maps.1).at;
  live = (found_slot g.parts.maps (process_of g.plan cpu) number slot maps.1).live;
  mapped = ap (λ n. tag_at g.parts.maps slot (n / PAGE)) maps.2 ∙ tag_of_slot g (find_slot g.parts.maps (process_of g.plan cpu) number) slot (at / PAGE) tag maps.1 wants;
  writable = λ w. (accepted_at g.parts.maps true slot at (length bytes) (ap (refusal_at g.parts.maps true at (length bytes)) (sym maps.1) ∙ starts.accepted)).writable refl;
}
through g cpu op tag writes slot off starts wants maps = absurd maps

clean_before : (dirty more : Bool) → (dirty || more) ≡ false → dirty ≡ false
clean_before false more e = refl
clean_before true more e = let bad : true ≡ false = e in absurd cc

-- an anonymous page is dirty from the first entry on through which it can be stored to
shown-written : (cache : CacheView) (info : PageInfo) (writes : Bool) (slot index : ℕ) → info.tag ≡ Some (Anon slot index)
    → (1 ≤ info.writers → IsDirtyOrSlotted cache info slot index) → 1 ≤ info.writers + one_if writes → IsDirtyOrSlotted cache (shown_info info writes) slot index
shown-written cache info true slot index e was some = inl (ap (λ o. info.dirty || (true && is_anonymous o)) e ∙ any_true info.dirty)
  where
    any_true : (dirty : Bool) → (dirty || true) ≡ true
    any_true true = refl
    any_true false = refl
shown-written cache info false slot index e was some = still (was (no_more info.writers some))
  where
    no_more : (writers : ℕ) → 1 ≤ writers + 0 → 1 ≤ writers
    no_more writers h = omega (arith, h)

    kept_true : (dirty : Bool) → dirty ≡ true → (dirty || false) ≡ true
    kept_true true h = refl
    kept_true false h = h

    still : IsDirtyOrSlotted cache info slot index → IsDirtyOrSlotted cache (shown_info info false) slot index
    still (inl dirty) = inl (kept_true info.dirty dirty)
    still (inr some) = inr some

pub Fit-resolved : (state : FlatState) (g : GuestState) (v : StorageView) (d : DiskView) (w : StorageView) (e : DiskView) (cpu : ℕ) (op : Op) (tag : Tag) (writes : Bool) (slot off page : ℕ)
    (found : PageValue) (after : Parts) → FitAt state g v d
    → Starts g cpu op → Wants g cpu op tag → Maps g cpu op writes slot off → HasPage g tag page → CanBeSet (entry_at g.parts.maps slot (off / PAGE)) writes → GivenBack page v d w e
    → MayBecome (v.values page) found
    → IsRehinted (mapped g.parts page slot (off / PAGE) writes) page found after (w.values page) → FitAt state (with_parts g after) w e
Fit-resolved state g v d w e cpu op tag writes slot off page found after f starts wants maps has can back may told =
    Fit-told state state g v d w e page tag found middle after f (has_shows state g v d page tag f has) back may (record {
      files = refl;
      own = λ process number. refl;
      sound = f.flat.sound;
      only = only-mapped g.parts page slot (off / PAGE) writes;
      change = record { size = change.size; here = refl; others = change.others };
      keeps = rw change.here (record { tag = refl; uptodate = refl; dirty = clean_before (info_at g.parts.pages page).dirty (writes && is_anonymous (info_at g.parts.pages page).tag); owner = refl });
      mappings = places.slots;
      written = rw change.here (λ s i e some. shown-written g.parts.cache (info_at g.parts.pages page) writes s i e
          (λ some. f.tags.written page s i (rw (infos-pages g v d f.sizes) at has.below) e (inr some)) some);
      slots = SlotsFit-kept state state g.parts middle f.slots refl places.slots (ap (λ (m : MapsView). length m.entries) set ∙ length-with_entry g.parts.maps slot (off / PAGE) _) places.pinned
          (ap (λ (m : MapsView). m.pages) set ∙ pages-with_entry g.parts.maps slot (off / PAGE) _) change.size (ap (λ c. c.files) (only-mapped g.parts page slot (off / PAGE) writes).cache);
      entries = EntriesFit-mapped g.parts middle slot (off / PAGE) page writes tag f.entries (record {
        slot_below = rw f.slots.slots at its.slot_below;
        index_below = omega (arith, shown.below, shown.few);
        size = f.slots.entries;
        mapped = its.mapped;
        tagged = has.tagged;
        uptodate = f.locks.stale page tag has.tagged has.unlocked;
        writable = its.writable;
        can = can;
      }) change set;
      torn = subst (KeepsTorn g.parts.maps) (sym set) (keeps_torn-mapped g.parts.maps slot (off / PAGE) its.mapping _ its.at its.live (omega (arith, shown.below, shown.few)));
      pins = PinsFit-info g.parts middle page (shown_info (info_at g.parts.pages page) writes) f.pins change
          (only-mapped g.parts page slot (off / PAGE) writes).cache places refl refl (λ u. u);
    })
    told
  where
    middle : Parts
    middle = mapped g.parts page slot (off / PAGE) writes

    set : middle.maps ≡ with_entry g.parts.maps slot (off / PAGE) (Some (record { page = page; writable = writes }))
    set = maps-mapped g.parts page slot (off / PAGE) writes

    change : InfoChange g.parts.pages middle.pages page (shown_info (info_at g.parts.pages page) writes)
    change = change-mapped g.parts page slot (off / PAGE) writes has.below

    places : SamePlaces g.parts.maps middle.maps
    places = record {
      slots = ap (λ (m : MapsView). m.slots) set ∙ slots-with_entry g.parts.maps slot (off / PAGE) _;
      pinned = ap (λ (m : MapsView). m.pinned) set ∙ pinned-with_entry g.parts.maps slot (off / PAGE) _;
    }

    its : Through g writes slot off tag
    its = through g cpu op tag writes slot off starts wants maps

    shown : ShowsAt g.parts slot (off / PAGE) tag
    shown = shows_at state g.parts slot (off / PAGE) tag f.slots its.mapped
