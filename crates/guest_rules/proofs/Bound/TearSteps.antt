-- Each turn of an unmap that moved leaves fewer turns, over a storage that never misses; and its mapping has as many pages as before.
use Rattle.std.specs.Prelude.{◌≡◌, ◌<◌, ◌≤◌, ◌+◌, ℕ, suc, true, false, Option, Some, None, refl}
use Rattle.std.proofs.Common.{arith, sym, ap, subst, ◌∙◌}
use Rattle.cmm_types.specs.declared.command.Op.TheVariants.{Unmap}
use Rattle.cmm_types.specs.declared.command.Reply.TheVariants.{Done}
use Rattle.cmm_types.specs.declared.turn.Turn.TheVariants.{Moved, Again}
use Rattle.cmm_types.specs.declared.turn.Why.{Why}
use Rattle.cmm_flat.specs.Legal.{command_of, process_of}
use Rattle.cmm_io.specs.DiskView.{DiskView}
use Rattle.cmm_storage.specs.StorageView.{StorageView}
use Rattle.guest_maps.specs.declared.slot.Slot.{Slot}
use Rattle.guest_maps.specs.MapsView.{MapsView, slot_at, find_slot, torn, torn_slot}
use Rattle.guest_maps.specs.Laws.MapsLaws.{slot_at-torn_slot_same}
use Rattle.guest_rules.specs.declared.parts.Parts.{Parts}
use Rattle.guest_rules.specs.declared.processor.Phase.TheVariants.{Start, Teardown}
use Rattle.guest_rules.specs.GuestState.{GuestState, processor_at, with_parts, with_phase, answered}
use Rattle.guest_rules.specs.Rows.{handled, freed, released}
use Rattle.guest_rules.specs.Turns.{mapping_pages}
use Rattle.guest_rules.specs.Fit.{Fit}
use Rattle.guest_rules.specs.Alone.{found_pages, pages_to_tear}
use Rattle.guest_rules.proofs.Cases.TurnCases.{TearCase, had_no_entry, tear_missed, tear_gone, was_cleared_at, TearOwnCase}
use Rattle.guest_rules.proofs.Cases.TurnCases.{had_no_page_of_its, tear_waited, tear_own_missed, was_torn_off, Starts, Tears}
use Rattle.guest_rules.proofs.Cases.MapsFound.{found_slot}
use Rattle.guest_rules.proofs.Cases.TornPast.{tears_on, has_ended}
use Rattle.guest_rules.proofs.Kept.SlotsKept.{slot-below}
use Rattle.guest_rules.proofs.Causes.Processors.{processor-answered, at_phase}
use Rattle.guest_rules.proofs.Causes.TornSlots.{IsPast, is_past}
use Rattle.guest_rules.proofs.Causes.TakenOff.{slots-handled, slots-cleared, slots-released, slots-torn_off, tearing_has}
use Rattle.guest_rules.proofs.Causes.TearCauses.{unmapping}
use Rattle.guest_rules.proofs.Bound.Ranks.{Rank, has_command, tears, OpRank, rank_of}
use Rattle.guest_rules.proofs.Bound.TearRanks.{rank-unmaps, rank-tears}

-- a torn slot's mapping has the pages that it had
pages-torn : (maps : MapsView) (process number slot : ℕ) → find_slot maps process number ≡ Some slot → mapping_pages (slot_at (torn_slot maps slot) slot) ≡ mapping_pages (slot_at maps slot)
pages-torn maps process number slot found =
    let its = found_slot maps process number slot found in
    ap mapping_pages (slot_at-torn_slot_same maps slot (slot-below maps slot its.mapping its.at)) ∙ of (slot_at maps slot)
  where
    of : (o : Option Slot) → mapping_pages (torn o) ≡ mapping_pages o
    of None = refl
    of (Some mapping) = refl

-- ---- an unmap was answered

-- the processor after its first turn
pub record HasBegun (g : GuestState) (cpu number slot : ℕ) (h : GuestState) : Type 0 where
  pub command : command_of h.plan cpu (processor_at h cpu).place ≡ Some (Unmap number)
  pub phase : (processor_at h cpu).phase ≡ Teardown slot 0
  pub pages : mapping_pages (slot_at h.parts.maps slot) ≡ pages_to_tear g cpu number Start

pub has_begun : (g : GuestState) (cpu number slot : ℕ) → Starts g cpu (Unmap number) → find_slot g.parts.maps (process_of g.plan cpu) number ≡ Some slot
    → HasBegun g cpu number slot (unmapping g cpu number slot)
unfolding answered
has_begun g cpu number slot starts found =
    let there = processor-answered (with_parts g (record g.parts { maps = torn_slot g.parts.maps slot })) cpu (Unmap number) Done (Teardown slot 0) starts.has.below in
    record {
      command = ap (λ q. command_of g.plan cpu q.place) there ∙ starts.has.command;
      phase = ap (λ q. q.phase) there;
      pages = pages-torn g.parts.maps (process_of g.plan cpu) number slot found ∙ ap (found_pages g.parts.maps) (sym found);
    }

first_left : (pages left : ℕ) → pages + 1 ≤ suc left → 2 ≤ suc left → (pages ≤ left + 0) × (1 ≤ left)
first_left pages left h some = (omega (arith, h), omega (arith, some))

pub unmapped_rank : (g : GuestState) (v w : StorageView) (cpu number slot left : ℕ) → Starts g cpu (Unmap number) → find_slot g.parts.maps (process_of g.plan cpu) number ≡ Some slot
    → OpRank g v cpu (Unmap number) (suc left) → Rank (unmapping g cpu number slot) w cpu left
unmapped_rank g v w cpu number slot left starts found rank =
    let h = unmapping g cpu number slot in
    let begun = has_begun g cpu number slot starts found in
    let few = rank-unmaps g v cpu number (suc left) starts.start rank in
    let more = first_left (pages_to_tear g cpu number Start) left few.0 few.1 in
    has_command (Unmap number) begun.command (tears number slot 0 refl begun.phase (subst (λ n. n ≤ left + 0) (sym begun.pages) more.0) more.1)

-- ---- a page was taken off

-- the tables that a teardown goes on with
pub record HasGoneOn (g : GuestState) (cpu slot index : ℕ) (h : GuestState) : Type 0 where
  pub tears : Tears g cpu slot index
  pub after : Parts
  pub slots : after.maps.slots ≡ g.parts.maps.slots
  pub more : index + 1 < mapping_pages (slot_at g.parts.maps slot)
  pub is : h ≡ with_phase (with_parts g after) cpu (Teardown slot (index + 1))

gone_on : (g : GuestState) (cpu slot index : ℕ) (after : Parts) (h : GuestState) → Tears g cpu slot index → after.maps.slots ≡ g.parts.maps.slots → IsPast g cpu slot index after h Moved
    → HasGoneOn g cpu slot index h
gone_on g cpu slot index after h k slots (tears_on more eh et) = record { tears = k; after = after; slots = slots; more = more; is = eh }
gone_on g cpu slot index after h k slots (has_ended last eh et) = absurd (cc et)

pub tear_goes_on : (g : GuestState) (v w : StorageView) (d e : DiskView) (cpu slot index : ℕ) (h : GuestState) → Fit g v d → TearCase g cpu slot index v d h Moved w e → HasGoneOn g cpu slot index h
tear_goes_on g v w d e cpu slot index h f (had_no_entry k none passes ew ee) =
    gone_on g cpu slot index g.parts h k refl (is_past g cpu slot index g.parts h Moved passes)
tear_goes_on g v w d e cpu slot index h f (tear_missed why k eh et may misses ee) = absurd (cc et)
tear_goes_on g v w d e cpu slot index h f (tear_gone tag pte found k entry has back may lost unused passes) =
    gone_on g cpu slot index (handled g.parts pte.page) h k (slots-handled g pte.page) (is_past g cpu slot index (handled g.parts pte.page) h Moved passes)
tear_goes_on g v w d e cpu slot index h f (was_cleared_at tag pte found after k entry shows back may told passes) =
    gone_on g cpu slot index after h k (slots-cleared g w slot index pte found after told) (is_past g cpu slot index after h Moved passes)

pub tear_own_goes_on : (g : GuestState) (v w : StorageView) (d e : DiskView) (cpu slot index : ℕ) (h : GuestState) → TearOwnCase g cpu slot index v d h Moved w e → HasGoneOn g cpu slot index h
tear_own_goes_on g v w d e cpu slot index h (had_no_page_of_its k none passes ew ee) =
    let after = released g.parts slot index in gone_on g cpu slot index after h k (slots-released g slot index) (is_past g cpu slot index after h Moved passes)
tear_own_goes_on g v w d e cpu slot index h (tear_waited page owner k found locked eh et ew ee) = absurd (cc et)
tear_own_goes_on g v w d e cpu slot index h (tear_own_missed why k eh et may misses ee) = absurd (cc et)
tear_own_goes_on g v w d e cpu slot index h (was_torn_off page found k has back may unused passes) =
    let after = released (freed g.parts page) slot index in gone_on g cpu slot index after h k (slots-torn_off g slot index page) (is_past g cpu slot index after h Moved passes)

-- the mapping has as many pages, and the processor is at the next
pub pages-gone_on : (g : GuestState) (cpu slot index : ℕ) (h : GuestState) → HasGoneOn g cpu slot index h → mapping_pages (slot_at h.parts.maps slot) ≡ mapping_pages (slot_at g.parts.maps slot)
unfolding with_phase
pages-gone_on g cpu slot index h k =
    ap (λ (q : GuestState). mapping_pages (slot_at q.parts.maps slot)) k.is
    ∙ ap (λ slots. let maps : MapsView = record g.parts.maps { slots = slots } in mapping_pages (slot_at maps slot)) k.slots

tear_left : (index pages left : ℕ) → index + 1 < pages → pages ≤ suc left + index → (pages ≤ left + (index + 1)) × (1 ≤ left)
tear_left index pages left more h = (omega (arith, h), omega (arith, more, h))

gone_on_rank : (g : GuestState) (v w : StorageView) (cpu slot index left : ℕ) (h : GuestState) → Rank g v cpu (suc left) → HasGoneOn g cpu slot index h → Rank h w cpu left
unfolding with_phase
gone_on_rank g v w cpu slot index left h rank k =
    let number = k.tears.tearing.number in
    let has = tearing_has g cpu slot index k.tears in
    let at = at_phase g cpu (Unmap number) k.after (Teardown slot (index + 1)) has in
    let few = rank-tears g v cpu number slot index (suc left) k.tears.phase (rank_of g v cpu (Unmap number) (suc left) has.command rank) in
    let more = tear_left index (mapping_pages (slot_at g.parts.maps slot)) left k.more few in
    has_command (Unmap number) (ap (λ (q : GuestState). command_of q.plan cpu (processor_at q cpu).place) k.is ∙ at.command)
    (tears number slot (index + 1) refl (ap (λ (q : GuestState). (processor_at q cpu).phase) k.is ∙ at.phase_is)
    (subst (λ n. n ≤ left + (index + 1)) (sym (pages-gone_on g cpu slot index h k)) more.0) more.1)

pub tear_step : (g : GuestState) (v w : StorageView) (d e : DiskView) (cpu slot index left : ℕ) (h : GuestState) → Fit g v d → TearCase g cpu slot index v d h Moved w e → Rank g v cpu (suc left)
    → Rank h w cpu left
tear_step g v w d e cpu slot index left h f k rank = gone_on_rank g v w cpu slot index left h rank (tear_goes_on g v w d e cpu slot index h f k)

pub tear_own_step : (g : GuestState) (v w : StorageView) (d e : DiskView) (cpu slot index left : ℕ) (h : GuestState) → TearOwnCase g cpu slot index v d h Moved w e → Rank g v cpu (suc left)
    → Rank h w cpu left
tear_own_step g v w d e cpu slot index left h k rank = gone_on_rank g v w cpu slot index left h rank (tear_own_goes_on g v w d e cpu slot index h k)

torn_past_not_again : (g : GuestState) (cpu slot index : ℕ) (after : Parts) (h : GuestState) (why : Why) → IsPast g cpu slot index after h (Again why) → ⊥
torn_past_not_again g cpu slot index after h why (tears_on more eh et) = cc et
torn_past_not_again g cpu slot index after h why (has_ended last eh et) = cc et

pub tear_never_again : (g : GuestState) (v w : StorageView) (d e : DiskView) (cpu slot index : ℕ) (h : GuestState) (why : Why) → v.quiet ≡ true
    → TearCase g cpu slot index v d h (Again why) w e → ⊥
tear_never_again g v w d e cpu slot index h why quiet (had_no_entry k none passes ew ee) =
    torn_past_not_again g cpu slot index g.parts h why (is_past g cpu slot index g.parts h (Again why) passes)
tear_never_again g v w d e cpu slot index h why quiet (tear_missed why' k eh et may misses ee) = let bad : true ≡ false = sym quiet ∙ misses.not_quiet in cc
tear_never_again g v w d e cpu slot index h why quiet (tear_gone tag pte found k entry has back may lost unused passes) =
    torn_past_not_again g cpu slot index _ h why (is_past g cpu slot index (handled g.parts pte.page) h (Again why) passes)
tear_never_again g v w d e cpu slot index h why quiet (was_cleared_at tag pte found after k entry shows back may told passes) =
    torn_past_not_again g cpu slot index after h why (is_past g cpu slot index after h (Again why) passes)

pub tear_own_never_again : (g : GuestState) (v w : StorageView) (d e : DiskView) (cpu slot index : ℕ) (h : GuestState) (why : Why) → v.quiet ≡ true
    → TearOwnCase g cpu slot index v d h (Again why) w e → ⊥
tear_own_never_again g v w d e cpu slot index h why quiet (had_no_page_of_its k none passes ew ee) =
    torn_past_not_again g cpu slot index _ h why (is_past g cpu slot index (released g.parts slot index) h (Again why) passes)
tear_own_never_again g v w d e cpu slot index h why quiet (tear_waited page owner k found locked eh et ew ee) = cc et
tear_own_never_again g v w d e cpu slot index h why quiet (tear_own_missed why' k eh et may misses ee) = let bad : true ≡ false = sym quiet ∙ misses.not_quiet in cc
tear_own_never_again g v w d e cpu slot index h why quiet (was_torn_off page found k has back may unused passes) =
    torn_past_not_again g cpu slot index _ h why (is_past g cpu slot index (released (freed g.parts page) slot index) h (Again why) passes)
