-- Fit after an unmap was answered: its mapping isn't found any more, and is torn down from here on.
use Rattle.std.proofs.Common.{◌≡◌, ◌≢◌, ◌<◌, ◌*◌, ◌++◌, if◌then◌else◌, ℕ, Bool, true, false, [], ◌∷◌, set, length, Option, Some, None, refl, ap, sym, ◌∙◌, inl, inr, subst}
use Rattle.std.proofs.lemmas.Bool.{cases_eq}
use Rattle.std.proofs.lemmas.Option.{same_Some}
use Rattle.cmm_types.specs.declared.command.Op.{Op}
use Rattle.cmm_types.specs.declared.command.Op.TheVariants.{Unmap}
use Rattle.cmm_types.specs.declared.command.Reply.{Reply}
use Rattle.cmm_types.specs.declared.command.Reply.TheVariants.{Done}
use Rattle.cmm_types.specs.declared.command.FlatRefusal.TheVariants.{Pinned}
use Rattle.cmm_io.specs.DiskView.{DiskView}
use Rattle.cmm_flat.specs.State.{FlatState, IsSound}
use Rattle.cmm_flat.specs.Flat.{without_mapping, flat_step}
use Rattle.cmm_flat.specs.Laws.StepLaws.{step_done, mapping_at-without_mapping_other}
use Rattle.cmm_flat.specs.Laws.FlatLaws.{sound-flat_step}
use Rattle.cmm_flat.specs.declared.mapping.MappingKey.{MappingKey}
use Rattle.cmm_flat.specs.declared.mapping.Mapping.{Mapping}
use Rattle.cmm_types.specs.Bytes.{bytes_at}
use Rattle.cmm_types.specs.declared.page.TheConstants.{PAGE}
use Rattle.cmm_types.specs.declared.page.Tag.{Tag}
use Rattle.cmm_types.specs.declared.page.Tag.TheVariants.{File, Anon}
use Rattle.guest_maps.specs.declared.slot.Slot.{Slot}
use Rattle.guest_maps.specs.Laws.MapsLaws.{slot_at-torn_slot_same}
use Rattle.guest_rules.specs.declared.parts.Parts.{Parts}
use Rattle.cmm_flat.specs.Laws.CommandLaws.{command_in_range}
use Rattle.guest_rules.proofs.Kept.TagsKept.{tags_stand, TagsStand-maps}
use Rattle.guest_rules.proofs.Kept.FlatTags.{FlatMapped, flat_mapped, mapped-pages, is_own, never_live, flat_page-at}
use Rattle.cmm_flat.specs.Legal.{process_of, flat_of, flat_after, pages_ended}
use Rattle.cmm_flat.specs.Laws.LegalLaws.{IsReply-from_step, flat_after-from_step}
use Rattle.cmm_storage.specs.StorageView.{StorageView}
use Rattle.guest_maps.specs.MapsView.{MapsView, slot_at, find_slot, any_pinned, torn, torn_slot}
use Rattle.guest_maps.specs.Laws.TornLaws.{pinned_at-none, slot_at-torn_slot_other}
use Rattle.guest_rules.specs.declared.processor.Phase.TheVariants.{Start, Teardown}
use Rattle.guest_rules.specs.declared.processor.Processor.{Processor}
use Rattle.guest_rules.specs.GuestState.{GuestState, processor_at, with_parts, answered}
use Rattle.guest_rules.specs.Turns.{refusal_of_unmap}
use Rattle.guest_rules.specs.Fit.{FitAt, Fit, FlatFit, IsOwnPage, IsUsedTag, IsLiveOwnPage, IsFlatTag, own_bytes, own_pages, flat_page, current}
use Rattle.guest_rules.proofs.Cases.TurnCases.{Starts}
use Rattle.guest_rules.proofs.Cases.MapsFound.{found_slot}
use Rattle.guest_rules.proofs.Kept.SlotsKept.{slot-below, SlotsFit-torn}
use Rattle.guest_rules.proofs.Kept.EntriesKept.{EntriesFit-torn}
use Rattle.guest_rules.proofs.Kept.PinsKept.{PinsFit-torn}
use Rattle.guest_rules.proofs.Kept.LocksKept.{locks_none, LocksFit-passed}
use Rattle.guest_rules.proofs.Kept.TeardownsKept.{OneProcessor, one-set, CanUnmap, TeardownsFit-begun}
use Rattle.guest_rules.proofs.Fit.FitOthers.{with_others, FitAt-others}
use Rattle.guest_rules.proofs.Fit.FitEntered.{EndsAs, entry_of, walk_at, flat-entered, JournalFit-entered}
use Rattle.guest_rules.proofs.Fit.Replies.{refused-same}

-- an unmap that isn't refused
accepted_unmap : (maps : MapsView) (slot : ℕ) (o : Option ℕ) → o ≡ Some slot → refusal_of_unmap maps o ≡ None → any_pinned maps slot ≡ false
accepted_unmap maps slot o found e = of (any_pinned maps slot) (ap (refusal_of_unmap maps) (sym found) ∙ e)
  where
    of : (b : Bool) → (if b then Some Pinned else None) ≡ None → b ≡ false
    of true e = let bad : Some Pinned ≡ None = e in absurd cc
    of false e = refl

pub can_tear : (g : GuestState) (v : StorageView) (d : DiskView) (cpu number slot : ℕ) → Fit g v d → Starts g cpu (Unmap number)
    → find_slot g.parts.maps (process_of g.plan cpu) number ≡ Some slot → CanUnmap g cpu number slot
can_tear g v d cpu number slot f starts found =
    let its = found_slot g.parts.maps (process_of g.plan cpu) number slot found in
    let none = accepted_unmap g.parts.maps slot (find_slot g.parts.maps (process_of g.plan cpu) number) found starts.accepted in
    record {
      below = starts.has.below;
      start = starts.start;
      command = starts.has.command;
      mapping = its.mapping;
      at = its.at;
      live = its.live;
      its = (its.process_is, its.number_is);
      some = f.slots.some slot its.mapping its.at;
      unpinned = λ index lt. pinned_at-none g.parts.maps slot index (rw f.slots.slots f.slots.pinned) (slot-below g.parts.maps slot its.mapping its.at) lt none;
    }

-- how many pages of its own the flat machine's mapping has
ended_pages : (state : FlatState) (parts : Parts) (process number slot : ℕ) (k : FlatMapped state parts process number slot)
    → pages_ended state process (Unmap number) Done ≡ own_pages (Some k.found.mapping)
ended_pages state parts process number slot k = rw k.there (mapped-pages state parts process number slot k)

pub Fit-unmapped : (g : GuestState) (v : StorageView) (d : DiskView) (cpu number slot : ℕ) → Fit g v d → Starts g cpu (Unmap number)
    → find_slot g.parts.maps (process_of g.plan cpu) number ≡ Some slot
    → Fit (answered (with_parts g (record g.parts { maps = torn_slot g.parts.maps slot })) cpu (Unmap number) Done (Teardown slot 0)) v d
unfolding answered
Fit-unmapped g v d cpu number slot f starts found =
    subst (λ (state : FlatState). FitAt state h v d) (sym (flat-entered g cpu op Done ∙ leads))
    (FitAt-others flat later g v d now (g.journal ++ entry_of g cpu op Done ∷ []) (set g.processors cpu processor) f flat_fits one.size (record {
      slots = SlotsFit-torn flat g.parts slot process number f.slots found;
      entries = EntriesFit-torn g.parts slot f.entries slot_below;
      pins = PinsFit-torn g.parts slot f.pins slot_below;
      tags = TagsStand-maps g.parts now (tags_stand g.parts v f.tags) (λ page tag e is. kept tag is) (λ other tag e is. kept tag is);
      locks = LocksFit-passed g h cpu (Teardown slot 0) f.locks refl refl refl one.size (ap (λ (p : Processor). p.phase) one.here) one.others (locks_none g cpu Start starts.start tt) tt tt;
      teardowns = TeardownsFit-begun g cpu number slot f.teardowns tears;
      journal = JournalFit-entered g h cpu op Done processor f.journal f.sizes.processors (record {
        below = starts.has.below;
        start = starts.start;
        command = starts.has.command;
        reply_is = IsReply-from_step g.plan (walk_at g) process op Done is;
        entries = refl;
      }) refl refl refl ended;
    }))
  where
    flat : FlatState
    flat = flat_of g.plan g.journal

    process : ℕ
    process = process_of g.plan cpu

    op : Op
    op = Unmap number

    later : FlatState
    later = without_mapping flat process number

    processor : Processor
    processor = record { place = (processor_at g cpu).place; phase = Teardown slot 0 }

    now : MapsView
    now = torn_slot g.parts.maps slot

    h : GuestState
    h = answered (with_parts g (record g.parts { maps = now })) cpu op Done (Teardown slot 0)

    one : OneProcessor g.processors (set g.processors cpu processor) cpu processor
    one = one-set g.processors cpu processor starts.has.below

    tears : CanUnmap g cpu number slot
    tears = can_tear g v d cpu number slot f starts found

    slot_below : slot < length g.parts.maps.slots
    slot_below = slot-below g.parts.maps slot tears.mapping tears.at

    step : flat_step flat process op ≡ (later, Done)
    step = step_done flat process op (refused-same g v d cpu op f starts.has ∙ starts.accepted)

    is : Done ≡ (flat_step flat process op).1
    is = sym (ap (λ (out : FlatState × Reply). out.1) step)

    leads : flat_after flat process op Done ≡ later
    leads = flat_after-from_step flat process op Done is ∙ ap (λ (out : FlatState × Reply). out.0) step

    mapped : FlatMapped flat g.parts process number slot
    mapped = flat_mapped flat g.parts process number slot f.slots found

    elsewhere : (s : ℕ) → s ≢ slot → slot_at now s ≡ slot_at g.parts.maps s
    elsewhere s n = slot_at-torn_slot_other g.parts.maps slot s n

    torn_now : slot_at now slot ≡ torn (Some tears.mapping)
    torn_now = slot_at-torn_slot_same g.parts.maps slot slot_below ∙ ap torn tears.at

    -- its pages are still used
    kept : (tag : Tag) → IsUsedTag g.parts.maps tag → IsUsedTag now tag
    kept (File file i) is = tt
    kept (Anon s i) is = elim (cases_eq s slot) [
      | inl z ↦
          let was : IsOwnPage (Some tears.mapping) i = subst (λ (o : Option Slot). IsOwnPage o i) (ap (slot_at g.parts.maps) z ∙ tears.at) is in
          subst (λ (o : Option Slot). IsOwnPage o i) (sym (ap (slot_at now) z ∙ torn_now)) was
      | inr n ↦ subst (λ (o : Option Slot). IsOwnPage o i) (sym (elsewhere s n)) is
    ]

    sound : IsSound later
    sound = subst IsSound (ap (λ (out : FlatState × Reply). out.0) step)
        (sound-flat_step flat process op (command_in_range g.plan cpu (processor_at g cpu).place op f.sizes.range starts.has.command) f.flat.sound)

    -- the flat machine has no page of it any more
    flat_fits : FlatFit later (with_others g now (g.journal ++ entry_of g cpu op Done ∷ []) (set g.processors cpu processor)) v d
    flat_fits = record { lengths = f.flat.lengths; sound = sound; pages = of }
      where
        of : (tag : Tag) → IsFlatTag (record g.parts { maps = now }) tag → flat_page later now tag ≡ current g.parts v d tag
        of (File file i) is = f.flat.pages (File file i) is
        of (Anon s i) is =
            let n : s ≢ slot = λ z. never_live (record g.parts { maps = now }) slot i (record tears.mapping { live = false }) torn_now refl
            (subst (λ x. IsFlatTag (record g.parts { maps = now }) (Anon x i)) z is) in
            let was : IsFlatTag g.parts (Anon s i) = subst (λ (o : Option Slot). IsLiveOwnPage o i) (elsewhere s n) is in
            let x = is_own g.parts.maps s i was in
            let other : x.mapping.process ≡ process → x.mapping.map ≡ number → ⊥ = λ p q.
            n (f.slots.apart s slot x.mapping tears.mapping x.at tears.at x.live tears.live (p ∙ sym tears.its.0) (q ∙ sym tears.its.1)) in
            flat_page-at later now s i x.mapping (elsewhere s n ∙ x.at)
            ∙ ap (λ (o : Option Mapping). bytes_at (own_bytes o) (PAGE * i) PAGE)
            (mapping_at-without_mapping_other flat process number x.mapping.process x.mapping.map (λ e. other (ap (λ (y : MappingKey). y.process) e) (ap (λ (y : MappingKey). y.map) e)))
            ∙ sym (flat_page-at flat g.parts.maps s i x.mapping x.at)
            ∙ f.flat.pages (Anon s i) was

    -- the entry ends the pages of the mapping
    pages_now : own_pages (slot_at now slot) ≡ pages_ended flat process op Done
    pages_now =
        ap own_pages torn_now
        ∙ ap (λ (m : Slot). own_pages (Some m)) (same_Some _ _ (sym tears.at ∙ mapped.found.at))
        ∙ sym (ended_pages flat g.parts process number slot mapped)

    ended : EndsAs g h cpu op Done
    ended q s i e = elim (cases_eq q cpu) [
      | inl z ↦
          let both : Teardown slot 0 ≡ Teardown s i = ap (λ (p : Processor). p.phase) (sym one.here) ∙ ap (λ x. (processor_at h x).phase) (sym z) ∙ e in
          let same : slot ≡ s = cc in
          inr (z, sym (ap (λ x. own_pages (slot_at now x)) (sym same) ∙ pages_now))
      | inr n ↦
          let before : (processor_at g q).phase ≡ Teardown s i = ap (λ (p : Processor). p.phase) (sym (one.others q n)) ∙ e in
          let was = f.teardowns.tearing q s i before in
          let other : s ≢ slot = λ z. (let two : Some was.mapping ≡ Some tears.mapping = sym was.at ∙ ap (slot_at g.parts.maps) z ∙ tears.at in
          let bad : false ≡ true = sym was.torn ∙ ap (λ (m : Slot). m.live) (same_Some _ _ two) ∙ tears.live in cc) in
          inl (n, i, before, ap own_pages (elsewhere s other))
    ]
