-- Fit after a page was pinned, or unpinned.
use Rattle.std.proofs.Common.{◌≡◌, ◌<◌, ℕ, Bool, true, false, length, Some, refl, ap, sym, ◌∙◌, inl, inr, subst, arith}
use Rattle.std.proofs.lemmas.Bool.{cases_eq}
use Rattle.cmm_types.specs.declared.page.Tag.{Tag}
use Rattle.cmm_types.specs.declared.command.TheConstants.{MAX_MAPPING_PAGES}
use Rattle.cmm_types.specs.declared.command.Op.{Op}
use Rattle.cmm_types.specs.declared.command.Reply.{Reply}
use Rattle.cmm_types.specs.declared.command.Reply.TheVariants.{Done}
use Rattle.cmm_io.specs.DiskView.{DiskView}
use Rattle.cmm_flat.specs.declared.mapping.MappingKey.{MappingKey}
use Rattle.cmm_flat.specs.declared.mapping.Mapping.{Mapping}
use Rattle.cmm_flat.specs.Mapping.{with_pin}
use Rattle.cmm_flat.specs.State.{FlatState, IsSound, mapping_at}
use Rattle.cmm_flat.specs.Flat.{flat_step, with_mapping, on_live, effect}
use Rattle.cmm_flat.specs.Laws.FlatLaws.{sound-flat_step}
use Rattle.cmm_flat.specs.Laws.StepLaws.{step_done, mapping_at-with_mapping, mapping_at-with_mapping_other}
use Rattle.cmm_flat.specs.Legal.{process_of, flat_of}
use Rattle.essa_state.specs.PageValue.{PageValue, MayBecome}
use Rattle.cmm_storage.specs.StorageView.{StorageView}
use Rattle.guest_pages.specs.PagesView.{info_at}
use Rattle.guest_maps.specs.MapsView.{find_slot}
use Rattle.guest_rules.specs.declared.parts.Parts.{Parts}
use Rattle.guest_rules.specs.GuestState.{GuestState, processor_at, with_parts, entered}
use Rattle.guest_rules.specs.Rows.{pinned}
use Rattle.guest_rules.specs.Fit.{Fit, own_bytes}
use Rattle.guest_rules.proofs.Cases.TurnCases.{GivenBack, Starts, Wants, HasPage, IsRehinted, pin_op}
use Rattle.guest_rules.proofs.Kept.Changes.{InfoChange}
use Rattle.guest_rules.proofs.Kept.RowChanges.{pinned_info, change-pinned, only-pinned, maps-pinned}
use Rattle.guest_rules.proofs.Kept.PinLaws.{PinChange, change-with_pinned}
use Rattle.guest_rules.proofs.Cases.Placed.{PinPlace, pin-place, pin-wants}
use Rattle.guest_rules.proofs.Kept.SlotsKept.{SlotsFit-pinned, pinned_state, slot-below}
use Rattle.guest_rules.proofs.Kept.EntriesKept.{EntriesFit-pinned}
use Rattle.guest_rules.proofs.Kept.PinsKept.{PinsFit-pinned}
use Rattle.guest_rules.proofs.Kept.TeardownsKept.{keeps_torn-pinned}
use Rattle.guest_rules.proofs.Cases.MapsFound.{found_slot}
use Rattle.cmm_flat.specs.Laws.CommandLaws.{command_in_range}
use Rattle.guest_rules.proofs.Kept.FlatTags.{KeepsOwn, FlatMapped, flat_mapped}
use Rattle.guest_rules.proofs.Fit.FitMay.{infos-pages}
use Rattle.guest_rules.proofs.Ready.Ready.{has_shows}
use Rattle.guest_rules.proofs.Fit.StepTold.{Fit-told}
use Rattle.guest_rules.proofs.Fit.Replies.{Fit-stepped, refused-same}

-- both commands change one pin of the mapping
effect-pin : (state : FlatState) (process : ℕ) (pins : Bool) (number index : ℕ)
    → effect state process (pin_op pins number index) ≡ on_live state (mapping_at state process number) (λ (m : Mapping). (with_mapping state process number (with_pin m index pins), Done))
effect-pin state process true number index = refl
effect-pin state process false number index = refl

pub Fit-pinned : (g : GuestState) (v : StorageView) (d : DiskView) (w : StorageView) (e : DiskView) (cpu : ℕ) (pins : Bool) (number index slot : ℕ) (tag : Tag) (page : ℕ) (found : PageValue)
    (after : Parts) → Fit g v d
    → Starts g cpu (pin_op pins number index) → Wants g cpu (pin_op pins number index) tag → find_slot g.parts.maps (process_of g.plan cpu) number ≡ Some slot → HasPage g tag page
    → GivenBack page v d w e → MayBecome (v.values page) found
    → IsRehinted (pinned g.parts page slot index pins) page found after (w.values page) → Fit (entered (with_parts g after) cpu (pin_op pins number index) Done) w e
Fit-pinned g v d w e cpu pins number index slot tag page found after f starts wants at has back may told =
    Fit-stepped (with_parts g after) w e cpu op Done later
    (Fit-told flat later g v d w e page tag found middle after f (has_shows flat g v d page tag f has) back may (record {
      files = refl;
      own = own;
      sound = sound;
      only = only-pinned g.parts page slot index pins;
      change = record { size = change.size; here = refl; others = change.others };
      keeps = rw change.here (record { tag = refl; uptodate = refl; dirty = λ e. e; owner = refl });
      mappings = places.slots;
      written = rw change.here (λ s i e some. f.tags.written page s i (rw (infos-pages g v d f.sizes) at has.below) e (inr some));
      slots = SlotsFit-pinned flat g.parts middle process number slot index pins mapped.its f.slots place mapped.there places change.size
          (ap (λ c. c.files) (only-pinned g.parts page slot index pins).cache);
      entries = EntriesFit-pinned g.parts middle page (pinned_info pins (info_at g.parts.pages page)) f.entries change places.slots places.entries (λ t a u. (a, u)) refl;
      torn = let its = found_slot g.parts.maps process number slot at in keeps_torn-pinned g.parts.maps middle.maps slot index pins its.mapping places its.at its.live;
      pins = PinsFit-pinned g.parts middle page slot index pins tag (pinned_info pins (info_at g.parts.pages page)) f.pins f.pages (record {
        maps = places;
        cache = (only-pinned g.parts page slot index pins).cache;
        change = change;
        count = refl;
        tags = refl;
        fresh = uptodate;
        tagged = has.tagged;
        uptodate = uptodate;
        mapped = sym (pin-wants g process pins number index slot at) ∙ wants;
        slot_below = slot-below g.parts.maps slot place.mapping place.at;
        index_below = few;
        was = place.was;
      });
    })
    told)
    (record { below = starts.has.below; command = starts.has.command }) starts.start
    step
  where
    flat : FlatState
    flat = flat_of g.plan g.journal

    process : ℕ
    process = process_of g.plan cpu

    op : Op
    op = pin_op pins number index

    mapped : FlatMapped flat g.parts process number slot
    mapped = flat_mapped flat g.parts process number slot f.slots at

    place : PinPlace g.parts.maps process number slot index pins
    place = pin-place g cpu pins number index slot starts at

    later : FlatState
    later = pinned_state flat process number mapped.its index pins

    middle : Parts
    middle = pinned g.parts page slot index pins

    few : index < MAX_MAPPING_PAGES
    few = omega (arith, place.below, (f.slots.shown slot place.mapping place.at).0)

    uptodate : (info_at g.parts.pages page).uptodate ≡ true
    uptodate = f.locks.stale page tag has.tagged has.unlocked

    change : InfoChange g.parts.pages middle.pages page (pinned_info pins (info_at g.parts.pages page))
    change = change-pinned g.parts page slot index pins has.below

    places : PinChange g.parts.maps middle.maps slot index pins
    places =
        rw (maps-pinned g.parts page slot index pins)
        (change-with_pinned g.parts.maps slot index (length g.parts.maps.slots) pins (slot-below g.parts.maps slot place.mapping place.at) few (rw f.slots.slots f.slots.pinned))

    step : flat_step flat process op ≡ (later, Done)
    step =
        step_done flat process op (refused-same g v d cpu op f starts.has ∙ starts.accepted)
        ∙ effect-pin flat process pins number index
        ∙ ap (λ o. on_live flat o (λ (m : Mapping). (with_mapping flat process number (with_pin m index pins), Done))) mapped.there

    sound : IsSound later
    sound = subst IsSound (ap (λ (out : FlatState × Reply). out.0) step)
        (sound-flat_step flat process op (command_in_range g.plan cpu (processor_at g cpu).place op f.sizes.range starts.has.command) f.flat.sound)

    own : KeepsOwn flat later
    own p n = elim (cases_eq p process) [
      | inl z ↦ elim (cases_eq n number) [
        | inl y ↦ rw (z, y) (ap own_bytes (mapping_at-with_mapping flat process number (with_pin mapped.its index pins)) ∙ sym (ap own_bytes mapped.there))
        | inr m ↦ ap own_bytes (other p n (λ q r. m r))
      ]
      | inr m ↦ ap own_bytes (other p n (λ q r. m q))
    ]
      where
        other : (p n : ℕ) → (p ≡ process → n ≡ number → ⊥) → mapping_at later p n ≡ mapping_at flat p n
        other p n differ =
            mapping_at-with_mapping_other flat process number (with_pin mapped.its index pins) p n (λ e. differ (ap (λ (x : MappingKey). x.process) e) (ap (λ (x : MappingKey). x.map) e))
