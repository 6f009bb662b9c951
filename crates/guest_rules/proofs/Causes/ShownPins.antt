-- What stands after the reply to a pin or an unpin.
use Rattle.std.specs.Prelude.{◌≡◌, ℕ, Bool, true, false, length, Some}
use Rattle.std.proofs.Common.{arith, ap, sym, ◌∙◌}
use Rattle.cmm_types.specs.declared.page.Tag.{Tag}
use Rattle.cmm_types.specs.declared.command.Reply.TheVariants.{Done}
use Rattle.cmm_flat.specs.State.{FlatState}
use Rattle.cmm_flat.specs.Legal.{process_of}
use Rattle.cmm_io.specs.DiskView.{DiskView}
use Rattle.essa_state.specs.PageValue.{PageValue}
use Rattle.cmm_storage.specs.StorageView.{StorageView}
use Rattle.guest_pages.specs.declared.info.PageInfo.{PageInfo}
use Rattle.guest_pages.specs.PagesView.{info_at}
use Rattle.guest_cache.specs.CacheView.{CacheView, page_of}
use Rattle.guest_maps.specs.MapsView.{MapsView, find_slot, pinned_at, tag_at}
use Rattle.guest_rules.specs.declared.parts.Parts.{Parts}
use Rattle.guest_rules.specs.GuestState.{GuestState, with_parts, entered}
use Rattle.guest_rules.specs.Rows.{pinned, with_change}
use Rattle.guest_rules.specs.Fit.{FitAt, IsKept}
use Rattle.guest_rules.specs.Cause.{ShowsDone}
use Rattle.guest_rules.proofs.Cases.TurnCases.{Starts, Wants, HasPage, IsRehinted, pin_op}
use Rattle.guest_rules.proofs.Kept.Changes.{InfoChange}
use Rattle.guest_rules.proofs.Kept.RowChanges.{changed_info, pinned_info, change-pinned, change-changed, only-pinned, only-changed, maps-pinned, maps-changed}
use Rattle.guest_rules.proofs.Kept.PinLaws.{PinChange, change-with_pinned}
use Rattle.guest_rules.proofs.Cases.Placed.{PinPlace, pin-place, pin-wants}
use Rattle.guest_rules.proofs.Kept.SlotsKept.{slot-below}
use Rattle.guest_rules.proofs.Kept.PinsKept.{tag-same}
use Rattle.guest_rules.proofs.Bound.WantedKept.{found_same}

-- a page that was found changed is as up to date as it was
pub uptodate-changed : (parts : Parts) (page : ℕ) (changed : Bool) (info : PageInfo) → InfoChange parts.pages (with_change parts page changed).pages page (changed_info changed info)
    → (info_at (with_change parts page changed).pages page).uptodate ≡ info.uptodate
uptodate-changed parts page true info c = ap (λ (i : PageInfo). i.uptodate) c.here
uptodate-changed parts page false info c = ap (λ (i : PageInfo). i.uptodate) c.here

-- what the tables have of the place and its page
record PlaceStands (after : Parts) (process number slot index : ℕ) (pins : Bool) (tag : Tag) : Type 0 where
  found : find_slot after.maps process number ≡ Some slot
  place : pinned_at after.maps slot index ≡ pins
  mapped : tag_at after.maps slot index ≡ Some tag
  kept : IsKept after tag

place_shown : (g h : GuestState) (cpu : ℕ) (pins : Bool) (number slot index : ℕ) (tag : Tag) (w : StorageView) (e : DiskView) → PlaceStands h.parts (process_of g.plan cpu) number slot index pins tag
    → ShowsDone g cpu (pin_op pins number index) h w e
place_shown g h cpu true number slot index tag w e k = record { slot = slot; found = k.found; pinned = k.place; tag = tag; mapped = k.mapped; kept = k.kept }
place_shown g h cpu false number slot index tag w e k = record { slot = slot; found = k.found; unpinned = k.place }

pub shows_pinned : (state : FlatState) (g : GuestState) (v w : StorageView) (d e : DiskView) (cpu : ℕ) (pins : Bool) (number index slot : ℕ) (tag : Tag) (page : ℕ) (found : PageValue)
    (after : Parts) → FitAt state g v d
    → Starts g cpu (pin_op pins number index) → Wants g cpu (pin_op pins number index) tag → find_slot g.parts.maps (process_of g.plan cpu) number ≡ Some slot → HasPage g tag page
    → IsRehinted (pinned g.parts page slot index pins) page found after (w.values page)
    → ShowsDone g cpu (pin_op pins number index) (entered (with_parts g after) cpu (pin_op pins number index) Done) w e
unfolding entered
shows_pinned state g v w d e cpu pins number index slot tag page found after f starts wants at has told =
    place_shown g (entered (with_parts g after) cpu (pin_op pins number index) Done) cpu pins number slot index tag w e (record {
      found = found_same g.parts after (process_of g.plan cpu) number slots ∙ at;
      place = ap (λ m. pinned_at m slot index) maps ∙ places.here;
      mapped = tag-same g.parts.maps after.maps slot index slots ∙ sym (pin-wants g (process_of g.plan cpu) pins number index slot at) ∙ wants;
      kept = record {
        page = page;
        there = ap (λ (c : CacheView). page_of c tag) cache ∙ (f.pages.indexed page tag has.tagged).1;
        uptodate = ap (λ q. (info_at q.pages page).uptodate) told.tables
            ∙ uptodate-changed middle page found.changed (info_at middle.pages page) (change-changed middle page found.changed (rw change.size has.below))
            ∙ ap (λ (i : PageInfo). i.uptodate) change.here ∙ f.locks.stale page tag has.tagged has.unlocked;
      };
    })
  where
    middle : Parts
    middle = pinned g.parts page slot index pins

    place : PinPlace g.parts.maps (process_of g.plan cpu) number slot index pins
    place = pin-place g cpu pins number index slot starts at

    change : InfoChange g.parts.pages middle.pages page (pinned_info pins (info_at g.parts.pages page))
    change = change-pinned g.parts page slot index pins has.below

    maps : after.maps ≡ middle.maps
    maps = ap (λ q. q.maps) told.tables ∙ maps-changed middle page found.changed

    places : PinChange g.parts.maps middle.maps slot index pins
    places =
        rw (maps-pinned g.parts page slot index pins)
        (change-with_pinned g.parts.maps slot index (length g.parts.maps.slots) pins (slot-below g.parts.maps slot place.mapping place.at)
        (omega (arith, place.below, (f.slots.shown slot place.mapping place.at).0)) (rw f.slots.slots f.slots.pinned))

    slots : after.maps.slots ≡ g.parts.maps.slots
    slots = ap (λ (m : MapsView). m.slots) maps ∙ places.slots

    cache : after.cache ≡ g.parts.cache
    cache = ap (λ q. q.cache) told.tables ∙ (only-changed middle page found.changed).cache ∙ (only-pinned g.parts page slot index pins).cache
