-- Each turn that moved leaves fewer turns, over a storage that never misses.
use Rattle.std.specs.Prelude.{Contains, false, ◌⊎◌, ◌≡◌, ◌≢◌, ◌<◌, ◌≤◌, ◌*◌, ℕ, suc, ◌/◌, List, [], ◌∷◌, length, Bool, true, Some, refl}
use Rattle.std.proofs.Common.{arith, inl, inr, sym, ap, subst, zero-lt-suc, ◌∙◌}
use Rattle.cmm_types.specs.declared.page.TheConstants.{PAGE}
use Rattle.cmm_types.specs.declared.page.Tag.{Tag}
use Rattle.cmm_types.specs.declared.plan.TheConstants.{MAX_MAPPING_SLOTS}
use Rattle.cmm_types.specs.declared.command.TheConstants.{MAX_MAPPING_PAGES}
use Rattle.cmm_types.specs.declared.command.Op.{Op}
use Rattle.cmm_types.specs.declared.command.Op.TheVariants.{Unmap}
use Rattle.cmm_types.specs.declared.turn.Turn.TheVariants.{Moved, Again}
use Rattle.cmm_types.specs.declared.turn.Why.{Why}
use Rattle.cmm_flat.specs.Legal.{process_of}
use Rattle.cmm_io.specs.DiskView.{DiskView}
use Rattle.essa_state.specs.PageValue.{PageValue, is_lost}
use Rattle.cmm_storage.specs.StorageView.{StorageView}
use Rattle.guest_pages.specs.PagesView.{PagesView, info_at}
use Rattle.guest_cache.specs.CacheView.{CacheView, page_of}
use Rattle.guest_maps.specs.declared.slot.Pte.{Pte}
use Rattle.guest_maps.specs.MapsView.{MapsView, place_at, entry_at, with_entry}
use Rattle.guest_maps.specs.Laws.MapsLaws.{slots-with_entry, slots-without_entries_of}
use Rattle.guest_rules.specs.declared.parts.Parts.{Parts}
use Rattle.guest_rules.specs.declared.processor.Phase.TheVariants.{Start, Fill}
use Rattle.guest_rules.specs.GuestState.{GuestState, processor_at, with_parts, with_phase}
use Rattle.guest_rules.specs.Rows.{filled, handled, mapped}
use Rattle.guest_rules.specs.Turns.{begun}
use Rattle.guest_rules.specs.Fit.{Fit}
use Rattle.guest_rules.proofs.Cases.TurnCases.{TurnCase, was_idle, was_refused, was_mapped, was_mapped_own, waited, missed, missed_rehinted, was_begun, was_gone, was_read, was_written, touch_failed}
use Rattle.guest_rules.proofs.Cases.TurnCases.{was_resolved, was_loaded, was_stored, entry_failed, fill_failed, was_filled, Has, Starts, Wants, Maps, HasPage, IsRehinted, was_pinned, was_sync}
use Rattle.guest_rules.proofs.Cases.TurnCases.{was_room, was_unmapped, was_torn, was_torn_own}
use Rattle.guest_rules.proofs.Causes.Processors.{at_phase}
use Rattle.guest_rules.proofs.Causes.CauseForms.{fills_needing}
use Rattle.guest_rules.proofs.Kept.Tables.{page_of-handled, tag-begun}
use Rattle.guest_rules.proofs.Kept.RowChanges.{only-changed, only-mapped, maps-changed, maps-mapped, handled-pages, handled-maps, freed-free, freed-maps}
use Rattle.guest_rules.proofs.Kept.EntryLaws.{entry_at-set}
use Rattle.guest_rules.proofs.Cases.WantedTags.{shows_at}
use Rattle.guest_rules.proofs.Fit.StepResolved.{through}
use Rattle.guest_rules.proofs.Bound.WantedKept.{wanted-same, maps-same}
use Rattle.guest_rules.proofs.Bound.SyncSteps.{sync_step, sync_never_again}
use Rattle.guest_rules.proofs.Bound.RoomSteps.{room_step, room_never_again}
use Rattle.guest_rules.proofs.Bound.TearSteps.{unmapped_rank, tear_step, tear_own_step, tear_never_again, tear_own_never_again}
use Rattle.guest_rules.proofs.Bound.Ranks.{IsShort, needs-short, Rank, has_command, served, has_page, fills_own, has_none, start_rank, rank_of, rank-none, rank-lost, rank-unserved, rank-fills}

-- a free page is one of the guest's
free_below : (g : GuestState) (v : StorageView) (d : DiskView) (page : ℕ) (rest : List ℕ) → Fit g v d → g.parts.pages.free ≡ page ∷ rest → page < length g.parts.pages.infos
free_below g v d page rest f free = (f.pages.free page (subst (λ q. Contains q page) (sym free) (0, zero-lt-suc _, refl))).0

maps-begun : (parts : Parts) (page : ℕ) (tag : Tag) (cpu : ℕ) → (begun parts page tag cpu).maps ≡ parts.maps
unfolding begun
maps-begun parts page tag cpu = refl

begun_rank : (g : GuestState) (v w : StorageView) (d : DiskView) (cpu : ℕ) (op : Op) (tag : Tag) (page left : ℕ) (rest : List ℕ) → Fit g v d → Starts g cpu op → Wants g cpu op tag
    → g.parts.pages.free ≡ page ∷ rest → 3 ≤ left → Rank (with_phase (with_parts g (begun g.parts page tag cpu)) cpu (Fill page)) w cpu left
unfolding with_phase
begun_rank g v w d cpu op tag page left rest f starts wants free h =
    let at = at_phase g cpu op (begun g.parts page tag cpu) (Fill page) starts.has in
    let wants' = wanted-same g.parts (begun g.parts page tag cpu) (process_of g.plan cpu) op (ap (λ (m : MapsView). m.slots) (maps-begun g.parts page tag cpu)) ∙ wants in
    has_command op at.command (fills_own page tag at.phase_is wants' (tag-begun g.parts page tag cpu (free_below g v d page rest f free)) h)

gone_rank : (g : GuestState) (w : StorageView) (cpu : ℕ) (op : Op) (tag : Tag) (page left : ℕ) → Starts g cpu op → Wants g cpu op tag → HasPage g tag page → 4 ≤ left
    → Rank (with_parts g (handled g.parts page)) w cpu left
gone_rank g w cpu op tag page left starts wants has h =
    let slots = ap (λ (m : MapsView). m.slots) (handled-maps g.parts page ∙ freed-maps g.parts page) ∙ slots-without_entries_of g.parts.maps page in
    let next : (handled g.parts page).pages.free ≡ page ∷ g.parts.pages.free = ap (λ (p : PagesView). p.free) (handled-pages g.parts page) ∙ freed-free g.parts page in
    let free : (handled g.parts page).pages.free ≢ [] = λ full. let bad : page ∷ g.parts.pages.free ≡ [] = sym next ∙ full in cc in
    has_command op starts.has.command
    (has_none tag starts.start (wanted-same g.parts (handled g.parts page) (process_of g.plan cpu) op slots ∙ wants) (page_of-handled g.parts page tag has.tagged) free h)

place_below : (slot index count : ℕ) → slot < MAX_MAPPING_SLOTS → index < MAX_MAPPING_PAGES → count ≡ MAX_MAPPING_SLOTS * MAX_MAPPING_PAGES → place_at slot index < count
place_below slot index count below within size = omega (arith, below, within, size)

-- the entry that was set serves
resolved_rank : (g : GuestState) (v w : StorageView) (d : DiskView) (cpu : ℕ) (op : Op) (tag : Tag) (writes : Bool) (slot off page : ℕ) (found : PageValue) (after : Parts) (left : ℕ) → Fit g v d
    → Starts g cpu op → Wants g cpu op tag
    → Maps g cpu op writes slot off → HasPage g tag page → IsRehinted (mapped g.parts page slot (off / PAGE) writes) page found after (w.values page) → 1 ≤ left → Rank (with_parts g after) w cpu left
resolved_rank g v w d cpu op tag writes slot off page found after left f starts wants maps has told h =
    has_command op starts.has.command (served
    (record {
      start = starts.start;
      tag = tag;
      page = page;
      wants = wanted-same g.parts after (process_of g.plan cpu) op slots ∙ wants;
      found = ap (λ (c : CacheView). page_of c tag) cache ∙ (f.pages.indexed page tag has.tagged).1;
      lost_is = ap (λ q. is_lost q.contents) told.value ∙ told.there;
    })
    (record {
      writes = writes;
      slot = slot;
      off = off;
      maps = maps-same g after cpu op writes slot off slots maps;
      pte = pte;
      at = ap (λ m. entry_at m slot (off / PAGE)) set ∙ entry_at-set g.parts.maps slot (off / PAGE) (Some pte) below;
      allows = λ e. e;
    })
    h)
  where
    pte : Pte
    pte = record { page = page; writable = writes }

    middle : Parts
    middle = mapped g.parts page slot (off / PAGE) writes

    set : after.maps ≡ with_entry g.parts.maps slot (off / PAGE) (Some pte)
    set = ap (λ q. q.maps) told.tables ∙ maps-changed middle page found.changed ∙ maps-mapped g.parts page slot (off / PAGE) writes

    slots : after.maps.slots ≡ g.parts.maps.slots
    slots = ap (λ (m : MapsView). m.slots) set ∙ slots-with_entry g.parts.maps slot (off / PAGE) (Some pte)

    cache : after.cache ≡ g.parts.cache
    cache = ap (λ q. q.cache) told.tables ∙ (only-changed middle page found.changed).cache ∙ (only-mapped g.parts page slot (off / PAGE) writes).cache

    below : place_at slot (off / PAGE) < length g.parts.maps.entries
    below =
        let its = through g cpu op tag writes slot off starts wants maps in
        let shown = shows_at _ g.parts slot (off / PAGE) tag f.slots its.mapped in
        place_below slot (off / PAGE) (length g.parts.maps.entries) (rw f.slots.slots at its.slot_below) (omega (arith, shown.below, shown.few)) f.slots.entries

filled_rank : (g : GuestState) (v w : StorageView) (d : DiskView) (cpu : ℕ) (op : Op) (page left : ℕ) → Fit g v d → Has g cpu op → IsShort op → is_lost (w.values page).contents ≡ false
    → ((tag : Tag) × Wants g cpu op tag × ((info_at g.parts.pages page).tag ≡ Some tag) × (3 ≤ suc left)) ⊎ (8 ≤ suc left)
    → Rank (with_phase (with_parts g (filled g.parts page)) cpu Start) w cpu left
unfolding with_phase
filled_rank g v w d cpu op page left f has short there (inl (tag, wants, tagged, h)) =
    let at = at_phase g cpu op (filled g.parts page) Start has in
    has_command op at.command
    (has_page (record {
      start = at.phase_is;
      tag = tag;
      page = page;
      wants = wanted-same g.parts (filled g.parts page) (process_of g.plan cpu) op refl ∙ wants;
      found =
          (f.pages.indexed page tag tagged).1;
      lost_is = there;
    }) (omega (arith, h)))
filled_rank g v w d cpu op page left f has short there (inr h) =
    let at = at_phase g cpu op (filled g.parts page) Start has in
    has_command op at.command (start_rank _ w cpu op left at.command at.phase_is short (omega (arith, h)))

-- a command whose page is filled is short
fills_short : (g : GuestState) (v : StorageView) (d : DiskView) (cpu : ℕ) (op : Op) (page : ℕ) → Fit g v d → Has g cpu op → (processor_at g cpu).phase ≡ Fill page → IsShort op
fills_short g v d cpu op page f has phase = needs-short op (fills_needing g v d cpu op page f has phase)

-- a turn that moved leaves fewer turns
pub rank_step : (g : GuestState) (v w : StorageView) (d e : DiskView) (cpu left : ℕ) (h : GuestState) → Fit g v d → v.quiet ≡ true → TurnCase g cpu v d h Moved w e
    → Rank g v cpu (suc left) → Rank h w cpu left
rank_step g v w d e cpu left h f quiet (was_idle none eh et ew ee) rank = absurd (cc et)
rank_step g v w d e cpu left h f quiet (was_refused op refusal has start refused eh et ew ee) rank = absurd (cc et)
rank_step g v w d e cpu left h f quiet (was_mapped number file first count writable slot starts free eh et ew ee) rank = absurd (cc et)
rank_step g v w d e cpu left h f quiet (was_mapped_own number count slot starts free eh et ew ee) rank = absurd (cc et)
rank_step g v w d e cpu left h f quiet (waited op page owner starts its locked eh et ew ee) rank = absurd (cc et)
rank_step g v w d e cpu left h f quiet (missed op why has eh et may misses ee) rank = absurd (cc et)
rank_step g v w d e cpu left h f quiet (missed_rehinted why op tag page found after starts wants has eh et back may told misses ee) rank = absurd (cc et)
rank_step g v w d e cpu left h f quiet (was_begun op tag page rest found starts wants none free eh et back may value) rank =
    let rank' = rank_of g v cpu op (suc left) starts.has.command rank in
    rw eh (begun_rank g v w d cpu op tag page left rest f starts wants free (omega (arith, rank-none g v cpu op tag (suc left) starts.start wants none rank')))
rank_step g v w d e cpu left h f quiet (was_gone op tag page found starts wants has eh et back may lost unused same) rank =
    let rank' = rank_of g v cpu op (suc left) starts.has.command rank in
    let before : is_lost (v.values page).contents ≡ true = ap (λ q. is_lost q.contents) (sym (same quiet)) ∙ lost in
    let at_page = (f.pages.indexed page tag has.tagged).1 in
    rw eh (gone_rank g w cpu op tag page left starts wants has (omega (arith, rank-lost g v cpu op tag page (suc left) starts.start wants at_page before rank')))
rank_step g v w d e cpu left h f quiet (was_read file off len page found all after starts has back may are told eh et) rank = absurd (cc et)
rank_step g v w d e cpu left h f quiet (was_written file off bytes page found all starts has back may are value eh et) rank = absurd (cc et)
rank_step g v w d e cpu left h f quiet (touch_failed op tag page found after needs starts wants has back may told eh et risen) rank = absurd (cc et)
rank_step g v w d e cpu left h f quiet (was_resolved op tag writes slot off page found after starts wants maps has can back may told eh et) rank =
    let rank' = rank_of g v cpu op (suc left) starts.has.command rank in
    rw eh (resolved_rank g v w d cpu op tag writes slot off page found after left f starts wants maps has told
    (omega (arith, rank-unserved g v cpu op tag writes slot off (suc left) wants maps can rank')))
rank_step g v w d e cpu left h f quiet (was_loaded number off len slot page writable all starts at_slot at are eh et may) rank = absurd (cc et)
rank_step g v w d e cpu left h f quiet (was_stored number off bytes slot page found all starts at_slot at back may are value eh et) rank = absurd (cc et)
rank_step g v w d e cpu left h f quiet (was_pinned pins number index slot tag page found after starts wants at has back may told eh et) rank = absurd (cc et)
rank_step g v w d e cpu left h f quiet (entry_failed op writes slot off starts maps eh et may risen) rank = absurd (cc et)
rank_step g v w d e cpu left h f quiet (fill_failed op page cause has phase eh et back unused why) rank = absurd (cc et)
rank_step g v w d e cpu left h f quiet (was_filled op page tag has phase tagged eh et back value) rank =
    let rank' = rank_of g v cpu op (suc left) has.command rank in
    rw eh (filled_rank g v w d cpu op page left f has (fills_short g v d cpu op page f has phase) (ap (λ q. is_lost q.contents) value) (rank-fills g v cpu op page (suc left) phase rank'))
rank_step g v w d e cpu left h f quiet (was_sync file index k) rank = sync_step g v w d e cpu file index left h f k rank
rank_step g v w d e cpu left h f quiet (was_room op k) rank = room_step g v w d e cpu op left h f k rank
rank_step g v w d e cpu left h f quiet (was_unmapped number slot starts found eh et ew ee) rank =
    rw eh (unmapped_rank g v w cpu number slot left starts found (rank_of g v cpu (Unmap number) (suc left) starts.has.command rank))
rank_step g v w d e cpu left h f quiet (was_torn slot index its k) rank = tear_step g v w d e cpu slot index left h f k rank
rank_step g v w d e cpu left h f quiet (was_torn_own slot index its k) rank = tear_own_step g v w d e cpu slot index left h k rank

-- and no turn has to be taken again
pub never_again : (g : GuestState) (v w : StorageView) (d e : DiskView) (cpu : ℕ) (h : GuestState) (why : Why) → v.quiet ≡ true → TurnCase g cpu v d h (Again why) w e → ⊥
never_again g v w d e cpu h why quiet (was_idle none eh et ew ee) = cc et
never_again g v w d e cpu h why quiet (was_refused op refusal has start refused eh et ew ee) = cc et
never_again g v w d e cpu h why quiet (was_mapped number file first count writable slot starts free eh et ew ee) = cc et
never_again g v w d e cpu h why quiet (was_mapped_own number count slot starts free eh et ew ee) = cc et
never_again g v w d e cpu h why quiet (waited op page owner starts its locked eh et ew ee) = cc et
never_again g v w d e cpu h why quiet (missed op why' has eh et may misses ee) = let bad : true ≡ false = sym quiet ∙ misses.not_quiet in cc
never_again g v w d e cpu h why quiet (missed_rehinted why' op tag page found after starts wants has eh et back may told misses ee) = let bad : true ≡ false = sym quiet ∙ misses.not_quiet in cc
never_again g v w d e cpu h why quiet (was_begun op tag page rest found starts wants none free eh et back may value) = cc et
never_again g v w d e cpu h why quiet (was_gone op tag page found starts wants has eh et back may lost unused same) = cc et
never_again g v w d e cpu h why quiet (was_read file off len page found all after starts has back may are told eh et) = cc et
never_again g v w d e cpu h why quiet (was_written file off bytes page found all starts has back may are value eh et) = cc et
never_again g v w d e cpu h why quiet (touch_failed op tag page found after needs starts wants has back may told eh et risen) = cc et
never_again g v w d e cpu h why quiet (was_resolved op tag writes slot off page found after starts wants maps has can back may told eh et) = cc et
never_again g v w d e cpu h why quiet (was_loaded number off len slot page writable all starts at_slot at are eh et may) = cc et
never_again g v w d e cpu h why quiet (was_stored number off bytes slot page found all starts at_slot at back may are value eh et) = cc et
never_again g v w d e cpu h why quiet (was_pinned pins number index slot tag page found after starts wants at has back may told eh et) = cc et
never_again g v w d e cpu h why quiet (entry_failed op writes slot off starts maps eh et may risen) = cc et
never_again g v w d e cpu h why quiet (fill_failed op page cause has phase eh et back unused why') = cc et
never_again g v w d e cpu h why quiet (was_filled op page tag has phase tagged eh et back value) = cc et
never_again g v w d e cpu h why quiet (was_sync file index k) = sync_never_again g v w d e cpu file index h why quiet k
never_again g v w d e cpu h why quiet (was_room op k) = room_never_again g v w d e cpu op h why quiet k
never_again g v w d e cpu h why quiet (was_unmapped number slot starts found eh et ew ee) = cc et
never_again g v w d e cpu h why quiet (was_torn slot index its k) = tear_never_again g v w d e cpu slot index h why quiet k
never_again g v w d e cpu h why quiet (was_torn_own slot index its k) = tear_own_never_again g v w d e cpu slot index h why quiet k
