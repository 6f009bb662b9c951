-- Each turn that moved to make room leaves fewer turns, over a storage that never misses.
use Rattle.std.specs.Prelude.{◌≡◌, ◌<◌, ◌≤◌, ◌⊎◌, ◌&&◌, ℕ, suc, [], ◌∷◌, length, Bool, true, false, not, is_none, nat_eq, get_or, Option, Some, None, refl}
use Rattle.std.proofs.Common.{arith, set, inl, inr, sym, ap, subst, get_or-set_other, ◌∙◌}
use Rattle.std.proofs.lemmas.Bool.{cases_eq}
use Rattle.cmm_types.specs.declared.page.Tag.{Tag}
use Rattle.cmm_types.specs.declared.page.Tag.TheVariants.{File, Anon}
use Rattle.cmm_types.specs.declared.command.Op.{Op}
use Rattle.cmm_types.specs.declared.turn.Turn.TheVariants.{Moved, Again}
use Rattle.cmm_types.specs.declared.turn.Why.{Why}
use Rattle.cmm_flat.specs.Legal.{flat_of, process_of}
use Rattle.cmm_io.specs.DiskView.{DiskView}
use Rattle.essa_state.specs.PageValue.{PageValue, MayBecome, is_lost}
use Rattle.cmm_storage.specs.StorageView.{StorageView}
use Rattle.guest_pages.specs.declared.info.PageInfo.{PageInfo}
use Rattle.guest_pages.specs.PagesView.{info_at}
use Rattle.guest_cache.specs.CacheView.{CacheView, index_place, page_of, without_page, swap_slot, free_swap, assigned, backing_of}
use Rattle.guest_maps.specs.MapsView.{MapsView}
use Rattle.guest_maps.specs.Laws.MapsLaws.{slots-without_entries_of}
use Rattle.guest_rules.specs.declared.parts.Parts.{Parts}
use Rattle.guest_rules.specs.declared.processor.Phase.TheVariants.{Start, Room as AtRoom}
use Rattle.guest_rules.specs.GuestState.{GuestState, with_parts, with_phase}
use Rattle.guest_rules.specs.Rows.{without_tag, freed, handled, with_change}
use Rattle.guest_rules.specs.Syncs.{locked, cleaned}
use Rattle.guest_rules.specs.MakeRoom.{lacks_block, is_locked, is_pinned, can_go, first_to_go, with_swap_slot, locked_to_go, behind}
use Rattle.guest_rules.specs.Fit.{Fit}
use Rattle.guest_rules.proofs.Cases.TurnCases.{RoomCase, room_gone, was_cleared, was_locked_to_go, room_missed, room_waited, had_no_page}
use Rattle.guest_rules.proofs.Cases.TurnCases.{page_out_missed, was_paged_out, page_out_failed, Has, SeeksRoom, Goes, PagesOut, IsRehinted}
use Rattle.guest_rules.proofs.Cases.FirstPage.{IsFirst, CanGo, first_from-Some, first_from-kept, can_go-parts}
use Rattle.guest_rules.proofs.Causes.Processors.{at_phase}
use Rattle.guest_rules.proofs.Kept.Changes.{InfoChange}
use Rattle.guest_rules.proofs.Kept.RowChanges.{changed_info, change-changed, only-changed, maps-changed, freed-free, freed-maps}
use Rattle.guest_rules.proofs.Kept.SyncTables.{locked_info, cleaned_info, change-locked, change-cleaned, only-locked, only-cleaned, maps-locked, maps-cleaned}
use Rattle.guest_rules.proofs.Kept.SwapLaws.{page_of-swapped}
use Rattle.guest_rules.proofs.Kept.Tables.{get_or-set_none}
use Rattle.guest_rules.proofs.Rows.Values.{may_used}
use Rattle.guest_rules.proofs.Ready.Ready.{can_be_used}
use Rattle.guest_rules.proofs.Fit.StepTold.{IsChanged, is_changed}
use Rattle.guest_rules.proofs.Fit.StepRoom.{locked_to_go-slotted, pages_out-needs}
use Rattle.guest_rules.proofs.Bound.WantedKept.{wanted-same}
use Rattle.guest_rules.proofs.Bound.Ranks.{IsShort, needs-short, Rank, has_command, has_none, room_clean, pages_out_own, start_rank, rank_of, PagesOutOwn}
use Rattle.guest_rules.proofs.Bound.RoomRanks.{IsUnclean, rank-seeks, rank-unclean, rank-pages_out}

-- ---- a page was freed

-- a tag that no page has has none after another tag lost its page
none-without_page : (cache : CacheView) (tag other : Tag) → page_of cache tag ≡ None → page_of (without_page cache other) tag ≡ None
unfolding without_page
none-without_page cache tag other none = elim (cases_eq (index_place cache tag) (index_place cache other)) [
  | inl same ↦ ap (λ i. get_or (set cache.index (index_place cache other) None) i None) same ∙ get_or-set_none cache.index (index_place cache other)
  | inr apart ↦ get_or-set_other cache.index (index_place cache other) (index_place cache tag) None None apart ∙ none
]

none-without_tag : (cache : CacheView) (tag : Tag) (other : Option Tag) → page_of cache tag ≡ None → page_of (without_tag cache other) tag ≡ None
none-without_tag cache tag None none = none
none-without_tag cache tag (Some other) none = none-without_page cache tag other none

none-freed : (parts : Parts) (page : ℕ) (tag : Tag) → page_of parts.cache tag ≡ None → page_of (freed parts page).cache tag ≡ None
unfolding freed
none-freed parts page tag none = none-without_tag parts.cache tag (info_at parts.pages page).tag none

-- the tables after a page was freed: it is free, no mapping changed, and no tag has a page that had none
record HasFreed (old new : Parts) (page : ℕ) : Type 0 where
  free : new.pages.free ≡ page ∷ old.pages.free
  maps : new.maps.slots ≡ old.maps.slots
  none : (tag : Tag) → page_of old.cache tag ≡ None → page_of new.cache tag ≡ None

has-freed : (parts : Parts) (page : ℕ) → HasFreed parts (freed parts page) page
has-freed parts page = record {
  free = freed-free parts page;
  maps = ap (λ (m : MapsView). m.slots) (freed-maps parts page) ∙ slots-without_entries_of parts.maps page;
  none = none-freed parts page;
}

has-handled : (parts : Parts) (page : ℕ) → HasFreed parts (handled parts page) page
unfolding handled
has-handled parts page = let k = has-freed parts page in record { free = k.free; maps = k.maps; none = k.none }

has-behind : (parts : Parts) (page : ℕ) → HasFreed parts (behind (freed parts page) page) page
unfolding behind
has-behind parts page = let k = has-freed parts page in record { free = k.free; maps = k.maps; none = k.none }

freed_rank : (g : GuestState) (w : StorageView) (cpu : ℕ) (op : Op) (page left : ℕ) (after : Parts) → SeeksRoom g cpu op → HasFreed g.parts after page → 4 ≤ left → Rank (with_parts g after) w cpu left
freed_rank g w cpu op page left after k freed h =
    has_command op k.starts.has.command
    (has_none k.tag k.starts.start (wanted-same g.parts after (process_of g.plan cpu) op freed.maps ∙ k.wants) (freed.none k.tag k.none)
    (λ full. let bad : page ∷ g.parts.pages.free ≡ [] = sym freed.free ∙ full in cc) h)

-- ---- a page was locked, to be written back

-- a page that can be written somewhere can go once it is clean
goes_clean : (untagged locked zero lacks dirty : Bool) → untagged ≡ false → locked ≡ false → zero ≡ true → dirty ≡ false
    → (not untagged && (not locked && (not (not zero) && not (dirty && lacks)))) ≡ true
goes_clean untagged locked zero lacks dirty a b c d = grind arith

can_go-clean : (parts : Parts) (info : PageInfo) (tag : Tag) → info.tag ≡ Some tag → info.owner ≡ None → info.pins ≡ 0 → info.dirty ≡ false → can_go parts info ≡ true
can_go-clean parts info tag tagged unlocked unpinned clean =
    goes_clean (is_none info.tag) (is_locked info) (nat_eq info.pins 0) (lacks_block parts.cache info.tag) info.dirty (ap is_none tagged) (ap (λ o. not (is_none o)) unlocked)
    (ap (λ n. nat_eq n 0) unpinned) clean

-- where no swap slot is free none is assigned
none-assigned : (cache : CacheView) (tag : Tag) → free_swap cache ≡ None → with_swap_slot cache (Some tag) ≡ cache
none-assigned cache (File file index) none = refl
none-assigned cache (Anon slot index) none = of (swap_slot cache (Anon slot index)) refl
  where
    of : (o : Option ℕ) → swap_slot cache (Anon slot index) ≡ o → with_swap_slot cache (Some (Anon slot index)) ≡ cache
    of (Some number) found = rw found refl
    of None fails =
        let w : with_swap_slot cache (Some (Anon slot index)) ≡ assigned cache (Anon slot index) (free_swap cache) = rw fails refl in
        w ∙ ap (assigned cache (Anon slot index)) none

and_false : (b : Bool) → (b && false) ≡ false
and_false true = refl
and_false false = refl

-- a tag that lacks no block once a page got its swap slot lacked none before
lacks-slot : (cache : CacheView) (tag : Tag) (other : Option Tag) → lacks_block (with_swap_slot cache (Some tag)) other ≡ false → lacks_block cache other ≡ false
lacks-slot cache tag None e = refl
lacks-slot cache tag (Some other) e = of (free_swap cache) refl
  where
    of : (o : Option ℕ) → free_swap cache ≡ o → lacks_block cache (Some other) ≡ false
    of (Some number) free = ap (λ (o : Option ℕ). is_none (backing_of cache other) && is_none o) free ∙ and_false (is_none (backing_of cache other))
    of None free = ap (λ (c : CacheView). lacks_block c (Some other)) (sym (none-assigned cache tag free)) ∙ e

goes_if_clean : (untagged locked pinned dirty lacks : Bool) → (not untagged && (not locked && (not pinned && not (dirty && true)))) ≡ true
    → (not untagged && (not locked && (not pinned && not (dirty && lacks)))) ≡ true
goes_if_clean untagged locked pinned dirty lacks e = grind arith

goes_as : (untagged locked pinned dirty lacks later : Bool) → (later ≡ false → lacks ≡ false) → (not untagged && (not locked && (not pinned && not (dirty && later)))) ≡ true
    → (not untagged && (not locked && (not pinned && not (dirty && lacks)))) ≡ true
goes_as untagged locked pinned dirty lacks true k e = goes_if_clean untagged locked pinned dirty lacks e
goes_as untagged locked pinned dirty lacks false k e = rw (k refl) e

-- so a page that can go then could go before
can_go-slot : (old new : Parts) (info : PageInfo) (tag : Tag) → new.cache ≡ with_swap_slot old.cache (Some tag) → can_go new info ≡ true → can_go old info ≡ true
can_go-slot old new info tag same passes =
    goes_as (is_none info.tag) (is_locked info) (is_pinned info) info.dirty (lacks_block old.cache info.tag) (lacks_block new.cache info.tag)
    (λ e. lacks-slot old.cache tag info.tag (ap (λ (c : CacheView). lacks_block c info.tag) (sym same) ∙ e)) passes

-- no tag has another page
page_of-slot : (cache : CacheView) (tag other : Tag) → page_of (with_swap_slot cache (Some tag)) other ≡ page_of cache other
page_of-slot cache (File file index) other = refl
page_of-slot cache (Anon slot index) other = of (swap_slot cache (Anon slot index)) refl
  where
    next : (o : Option ℕ) → page_of (assigned cache (Anon slot index) o) other ≡ page_of cache other
    next None = refl
    next (Some number) = page_of-swapped cache (assigned cache (Anon slot index) (Some number)) other refl refl

    of : (o : Option ℕ) → swap_slot cache (Anon slot index) ≡ o → page_of (with_swap_slot cache (Some (Anon slot index))) other ≡ page_of cache other
    of (Some number) found =
        let w : with_swap_slot cache (Some (Anon slot index)) ≡ cache = rw found refl in
        ap (λ (c : CacheView). page_of c other) w
    of None fails =
        let w : with_swap_slot cache (Some (Anon slot index)) ≡ assigned cache (Anon slot index) (free_swap cache) = rw fails refl in
        ap (λ (c : CacheView). page_of c other) w ∙ next (free_swap cache)

-- the tables in which the page that goes has its swap slot
abbrev to_go : Parts → (page : ℕ) → (changed : Bool) → Tag → Parts
to_go parts page changed tag = record (with_change parts page changed) { cache = with_swap_slot (with_change parts page changed).cache (Some tag) }

hand-written : (parts : Parts) (page cpu : ℕ) (changed : Bool) (tag : Tag) → (cleaned (locked (to_go parts page changed tag) page cpu) page).hand ≡ parts.hand
unfolding cleaned locked
hand-written parts page cpu true tag = refl
hand-written parts page cpu false tag = refl

-- a page that is locked to go is the first that can go once it is written back
goes_next : (g : GuestState) (cpu : ℕ) (tag : Tag) (page : ℕ) (changed : Bool) → Goes g tag page → first_to_go (cleaned (locked (to_go g.parts page changed tag) page cpu) page) ≡ Some page
goes_next g cpu tag page changed goes =
    first_from-kept g.parts after (can_go g.parts) (can_go after) page goes.first (record {
      hand = hand-written g.parts page cpu changed tag;
      size = cleans.size ∙ locks.size ∙ found.size;
      passes = can_go-clean after (info_at after.pages page) tag
          (ap (λ (i : PageInfo). i.tag) cleans.here ∙ ap (λ (i : PageInfo). i.tag) locks.here ∙ ap (λ (i : PageInfo). i.tag) found.here ∙ its.tag ∙ goes.has.tagged)
          (ap (λ (i : PageInfo). i.owner) cleans.here)
          (ap (λ (i : PageInfo). i.pins) cleans.here ∙ ap (λ (i : PageInfo). i.pins) locks.here ∙ ap (λ (i : PageInfo). i.pins) found.here ∙ its.pins ∙ can.unpinned)
          (ap (λ (i : PageInfo). i.dirty) cleans.here);
      worse = λ i lt passes. elim (cases_eq i page) [
        | inl same ↦ subst (λ n. can_go g.parts (info_at g.parts.pages n) ≡ true) (sym same) first.passes
        | inr other ↦
            can_go-slot g.parts after (info_at g.parts.pages i) tag cache (ap (can_go after) (sym (cleans.others i other ∙ locks.others i other ∙ found.others i other)) ∙ passes)
      ];
    })
  where
    middle : Parts
    middle = with_change g.parts page changed

    slotted : Parts
    slotted = to_go g.parts page changed tag

    held : Parts
    held = locked slotted page cpu

    after : Parts
    after = cleaned held page

    found : InfoChange g.parts.pages middle.pages page (changed_info changed (info_at g.parts.pages page))
    found = change-changed g.parts page changed goes.has.below

    locks : InfoChange middle.pages held.pages page (locked_info cpu (info_at middle.pages page))
    locks = change-locked slotted page cpu (rw found.size goes.has.below)

    cleans : InfoChange held.pages after.pages page (cleaned_info (info_at held.pages page))
    cleans = change-cleaned held page (rw (locks.size, found.size) goes.has.below)

    its : IsChanged (info_at g.parts.pages page) changed (changed_info changed (info_at g.parts.pages page))
    its = is_changed (info_at g.parts.pages page) changed

    first : IsFirst g.parts (can_go g.parts) page
    first = first_from-Some g.parts (can_go g.parts) page goes.first

    can : CanGo g.parts (info_at g.parts.pages page)
    can = can_go-parts g.parts (info_at g.parts.pages page) first.passes

    cache : after.cache ≡ with_swap_slot g.parts.cache (Some tag)
    cache = (only-cleaned held page).cache ∙ (only-locked slotted page cpu).cache ∙ ap (λ (c : CacheView). with_swap_slot c (Some tag)) (only-changed g.parts page changed).cache

-- g the guest before, w its storage after, cpu the processor, op its command, left how many turns are left
module _ (g : GuestState) (w : StorageView) (cpu : ℕ) (op : Op) (left : ℕ) where
  held_rank : (tag : Tag) (page : ℕ) (changed : Bool) → SeeksRoom g cpu op → Goes g tag page → (w.values page).changed ≡ false → 6 ≤ left
      → Rank (with_phase (with_parts g (locked (to_go g.parts page changed tag) page cpu)) cpu (AtRoom page)) w cpu left
  unfolding with_phase
  held_rank tag page changed k goes unchanged h =
      let middle = with_change g.parts page changed in
      let slotted = to_go g.parts page changed tag in
      let held = locked slotted page cpu in
      let at = at_phase g cpu op held (AtRoom page) k.starts.has in
      let only = only-locked slotted page cpu in
      let before = only-changed g.parts page changed in
      let slots = ap (λ (m : MapsView). m.slots) (maps-locked slotted page cpu ∙ maps-changed g.parts page changed) in
      has_command op at.command
      (pages_out_own page (record {
        phase = at.phase_is;
        tag = k.tag;
        wants = wanted-same g.parts held (process_of g.plan cpu) op slots ∙ k.wants;
        none = ap (λ (c : CacheView). page_of c k.tag) only.cache ∙ page_of-slot middle.cache tag k.tag ∙ ap (λ (c : CacheView). page_of c k.tag) before.cache ∙ k.none;
        full = only.free ∙ before.free ∙ k.full;
        next = goes_next g cpu tag page changed goes;
        unchanged = unchanged;
      }) h)

  locked_rank : (v : StorageView) (d : DiskView) (tag : Tag) (page : ℕ) (changed : Bool) → Fit g v d → SeeksRoom g cpu op → Goes g tag page → (w.values page).changed ≡ false → 6 ≤ left
      → Rank (with_phase (with_parts g (locked_to_go (with_change g.parts page changed) page cpu)) cpu (AtRoom page)) w cpu left
  locked_rank v d tag page changed f k goes unchanged h =
      let tagged : (info_at (with_change g.parts page changed).pages page).tag ≡ Some tag =
      ap (λ (i : PageInfo). i.tag) (change-changed g.parts page changed goes.has.below).here ∙ (is_changed (info_at g.parts.pages page) changed).tag ∙ goes.has.tagged in
      subst (λ (q : Parts). Rank (with_phase (with_parts g q) cpu (AtRoom page)) w cpu left)
      (sym (locked_to_go-slotted (with_change g.parts page changed) page cpu tag tagged))
      (held_rank tag page changed k goes unchanged h)

  -- ---- it was written back

  cleared_rank : (v : StorageView) (page : ℕ) → Has g cpu op → page < length g.parts.pages.infos → PagesOutOwn g v cpu op page → (w.values page).changed ≡ false → 5 ≤ left
      → Rank (with_phase (with_parts g (cleaned g.parts page)) cpu Start) w cpu left
  unfolding with_phase
  cleared_rank v page has below own unchanged h =
      let after = cleaned g.parts page in
      let at = at_phase g cpu op after Start has in
      let only = only-cleaned g.parts page in
      let slots = ap (λ (m : MapsView). m.slots) (maps-cleaned g.parts page) in
      has_command op at.command
      (room_clean page (record {
        needs = record {
          command = at.command;
          start = at.phase_is;
          tag = own.tag;
          wants = wanted-same g.parts after (process_of g.plan cpu) op slots ∙ own.wants;
          none = ap (λ (c : CacheView). page_of c own.tag) only.cache ∙ own.none;
        };
        full = only.free ∙ own.full;
        first = own.next;
        clean = ap (λ (i : PageInfo). i.dirty) (change-cleaned g.parts page below).here;
        unchanged = unchanged;
      }) h)

  started_rank : (after : Parts) → Has g cpu op → IsShort op → 7 ≤ left → Rank (with_phase (with_parts g after) cpu Start) w cpu left
  unfolding with_phase
  started_rank after has other h =
      let at = at_phase g cpu op after Start has in
      has_command op at.command (start_rank (with_phase (with_parts g after) cpu Start) w cpu op left at.command at.phase_is other h)

  paged_out_rank : (v : StorageView) (d : DiskView) (tag : Tag) (page : ℕ) (after : Parts) → Fit g v d → PagesOut g cpu op tag page
      → IsRehinted (cleaned g.parts page) page (v.values page) after (w.values page) → (PagesOutOwn g v cpu op page × (6 ≤ suc left)) ⊎ (8 ≤ suc left)
      → Rank (with_phase (with_parts g after) cpu Start) w cpu left
  paged_out_rank v d tag page after f k told (inl (own, h)) =
      let tables : after ≡ cleaned g.parts page = told.tables ∙ ap (with_change (cleaned g.parts page) page) own.unchanged in
      subst (λ (q : Parts). Rank (with_phase (with_parts g q) cpu Start) w cpu left) (sym tables)
      (cleared_rank v page k.has (f.locks.paging_out cpu page k.phase).below own (ap (λ (x : PageValue). x.changed) told.value) (omega (arith, h)))
  paged_out_rank v d tag page after f k told (inr h) = started_rank after k.has (needs-short op (pages_out-needs g cpu op tag page f.locks k)) (omega (arith, h))

-- ---- the steps

-- the page that goes was found as it was, so that it was dirty or changed before the turn
unclean : (g : GuestState) (v : StorageView) (d : DiskView) (tag : Tag) (page : ℕ) (found : PageValue) → Fit g v d → Goes g tag page → MayBecome (v.values page) found
    → is_lost found.contents ≡ false → (info_at (with_change g.parts page found.changed).pages page).dirty ≡ true → IsUnclean g v page
unclean g v d tag page found f goes may there dirty clean unchanged =
    let same : found ≡ v.values page = may_used (v.values page) found (can_be_used (flat_of g.plan g.journal) g v d page tag f goes.has).usage may there in
    let kept : found.changed ≡ false = ap (λ (x : PageValue). x.changed) same ∙ unchanged in
    let bad : true ≡ false = sym dirty ∙ ap (λ b. (info_at (with_change g.parts page b).pages page).dirty) kept ∙ clean in cc

pub room_step : (g : GuestState) (v w : StorageView) (d e : DiskView) (cpu : ℕ) (op : Op) (left : ℕ) (h : GuestState) → Fit g v d → RoomCase g cpu op v d h Moved w e → Rank g v cpu (suc left)
    → Rank h w cpu left
room_step g v w d e cpu op left h f (room_gone tag page found k goes back may lost unused eh et) rank =
    let few = rank-seeks g v cpu op (suc left) k (rank_of g v cpu op (suc left) k.starts.has.command rank) in
    rw eh (freed_rank g w cpu op page left (handled g.parts page) k (has-handled g.parts page) (omega (arith, few)))
room_step g v w d e cpu op left h f (was_cleared tag page found k goes back may there unchanged clean unused eh et) rank =
    let few = rank-seeks g v cpu op (suc left) k (rank_of g v cpu op (suc left) k.starts.has.command rank) in
    rw eh (freed_rank g w cpu op page left (behind (freed g.parts page) page) k (has-behind g.parts page) (omega (arith, few)))
room_step g v w d e cpu op left h f (was_locked_to_go tag page found k goes back may there dirty value eh et) rank =
    let few = rank-unclean g v cpu op tag page (suc left) k goes (unclean g v d tag page found f goes may there dirty) (rank_of g v cpu op (suc left) k.starts.has.command rank) in
    rw eh (locked_rank g w cpu op left v d tag page found.changed f k goes (ap (λ (x : PageValue). x.changed) value) (omega (arith, few)))
room_step g v w d e cpu op left h f (room_missed why k eh et may misses ee) rank = absurd (cc et)
room_step g v w d e cpu op left h f (room_waited page owner k none first locked eh et ew ee) rank = absurd (cc et)
room_step g v w d e cpu op left h f (had_no_page k none unlocked eh et ew ee) rank = absurd (cc et)
room_step g v w d e cpu op left h f (page_out_missed tag page why k eh et may misses ee) rank = absurd (cc et)
room_step g v w d e cpu op left h f (was_paged_out tag page bytes after k are written told eh et) rank =
    let few = rank-pages_out g v cpu op page (suc left) k.phase (rank_of g v cpu op (suc left) k.has.command rank) in
    rw eh (paged_out_rank g w cpu op left v d tag page after f k told few)
room_step g v w d e cpu op left h f (page_out_failed tag page cause after k back told why eh et) rank = absurd (cc et)

pub room_never_again : (g : GuestState) (v w : StorageView) (d e : DiskView) (cpu : ℕ) (op : Op) (h : GuestState) (why : Why) → v.quiet ≡ true → RoomCase g cpu op v d h (Again why) w e → ⊥
room_never_again g v w d e cpu op h why quiet (room_gone tag page found k goes back may lost unused eh et) = cc et
room_never_again g v w d e cpu op h why quiet (was_cleared tag page found k goes back may there unchanged clean unused eh et) = cc et
room_never_again g v w d e cpu op h why quiet (was_locked_to_go tag page found k goes back may there dirty value eh et) = cc et
room_never_again g v w d e cpu op h why quiet (room_missed why' k eh et may misses ee) = let bad : true ≡ false = sym quiet ∙ misses.not_quiet in cc
room_never_again g v w d e cpu op h why quiet (room_waited page owner k none first locked eh et ew ee) = cc et
room_never_again g v w d e cpu op h why quiet (had_no_page k none unlocked eh et ew ee) = cc et
room_never_again g v w d e cpu op h why quiet (page_out_missed tag page why' k eh et may misses ee) = let bad : true ≡ false = sym quiet ∙ misses.not_quiet in cc
room_never_again g v w d e cpu op h why quiet (was_paged_out tag page bytes after k are written told eh et) = cc et
room_never_again g v w d e cpu op h why quiet (page_out_failed tag page cause after k back told why' eh et) = cc et
