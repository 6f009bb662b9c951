-- What a run of `make_room` says in words.
use Rattle.std.specs.Prelude.{◌≡◌, ◌⊎◌, ◌<◌, ◌+◌, ◌&&◌, ◌||◌, nat_lt, if◌then◌else◌, ℕ, List, length, Bool, true, false, Option, Some, None, is_none, is_some, IsSome, refl}
use Rattle.std.specs.List.{position}
use Rattle.std.proofs.Common.{sym, ap, subst, inl, inr, ◌∙◌, set, get_or, length-set, get_or-set_same}
use Rattle.std.proofs.lemmas.List.Quantifiers.{position-Some}
use Rattle.cmm_types.specs.declared.page.Tag.{Tag}
use Rattle.cmm_types.specs.declared.page.Tag.TheVariants.{File, Anon}
use Rattle.cmm_io.specs.DiskView.{DiskView}
use Rattle.essa_state.specs.PageValue.{PageValue, MayBecome}
use Rattle.cmm_storage.specs.StorageView.{StorageView}
use Rattle.cmm_storage.specs.Views.{Seen}
use Rattle.guest_pages.specs.declared.info.PageInfo.{PageInfo}
use Rattle.guest_pages.specs.PagesView.{PagesView, info_at}
use Rattle.guest_cache.specs.CacheView.{CacheView, holds_page, swap_slot, free_swap, assigned, swap_block, backing_of}
use Rattle.guest_cache.specs.Laws.CacheLaws.{holds-itself}
use Rattle.guest_maps.specs.FirstPlace.{none_within}
use Rattle.guest_rules.specs.declared.parts.Parts.{Parts}
use Rattle.guest_rules.specs.declared.outcome.Room.{Room}
use Rattle.guest_rules.specs.declared.outcome.Room.TheVariants.{Freed, Locked, Waits, NoPage, Again}
use Rattle.guest_rules.specs.Calls.{CanMakeRoom}
use Rattle.guest_rules.specs.Rows.{freed, handled, with_change, backing_at}
use Rattle.guest_rules.specs.Syncs.{locked}
use Rattle.guest_rules.specs.MakeRoom.{lacks_block, can_go, first_to_go, first_locked, with_swap_slot, locked_to_go, behind, none_goes, room_from, make_room}
use Rattle.guest_rules.specs.Answers.{CanBeWrittenOut, IsFree, IsLockedFor, IsCleared, RoomAnswer}
use Rattle.guest_rules.proofs.Cases.FirstPage.{CanGo, first_from-Some, first_locked-owned, can_go-parts}
use Rattle.guest_rules.proofs.Cases.Stuck.{stuck, pinned_and_others}
use Rattle.guest_rules.proofs.Kept.RowChanges.{change-changed, change-freed, freed-faults, only-changed}
use Rattle.guest_rules.proofs.Kept.SyncTables.{change-locked}
use Rattle.guest_rules.proofs.Rows.ValueLaws.{may-unchanged}
use Rattle.guest_rules.proofs.Rows.RoomPage.{GoOutcome, WasCleared, WasLockedToGo, seen_go}
use Rattle.guest_rules.proofs.Fit.StepTold.{is_changed}
use Rattle.guest_rules.proofs.Rows.AnswerLaws.{discarded-is, dirty-after, freed-is_free, usable}

-- ---- a page that is locked to go has a block

-- the swap slot that was free is assigned to the tag
assigned-backs : (cache : CacheView) (slot index number : ℕ) → free_swap cache ≡ Some number → IsSome (backing_of (assigned cache (Anon slot index) (Some number)) (Anon slot index))
assigned-backs cache slot index number free = of (position (holds_page slot index) now) refl
  where
    now : List (Option Tag)
    now = set cache.swap number (Some (Anon slot index))

    below : number < length cache.swap
    below = (position-Some is_none cache.swap number None free).0

    of : (o : Option ℕ) → position (holds_page slot index) now ≡ o → IsSome (swap_block cache.files o)
    of (Some k) e = refl
    of None e =
        let no : holds_page slot index (get_or now number None) ≡ false = none_within (holds_page slot index) now None e number (rw length-set below) in
        let yes : holds_page slot index (get_or now number None) ≡ true =
        ap (holds_page slot index) (get_or-set_same cache.swap number (Some (Anon slot index)) None below) ∙ holds-itself slot index in
        let bad : true ≡ false = sym yes ∙ no in
        absurd cc

-- a tag that has a block, or for which there is a swap slot, has a block from then on
pub slotted : (cache : CacheView) (tag : Tag) → lacks_block cache (Some tag) ≡ false → IsSome (backing_of (with_swap_slot cache (Some tag)) tag)
slotted cache (File file index) e = refl
slotted cache (Anon slot index) e = of (swap_slot cache (Anon slot index)) refl
  where
    backs : CacheView → Type 0
    backs c = IsSome (backing_of c (Anon slot index))

    free : swap_slot cache (Anon slot index) ≡ None → (o : Option ℕ) → free_swap cache ≡ o → IsSome (backing_of (assigned cache (Anon slot index) o) (Anon slot index))
    free none (Some number) f = assigned-backs cache slot index number f
    free none None f =
        let bad : true ≡ false = sym (ap (λ o. is_none (swap_block cache.files o) && is_none (free_swap cache)) none ∙ ap (λ (o : Option ℕ). is_none o) f) ∙ e in
        absurd cc

    of : (o : Option ℕ) → swap_slot cache (Anon slot index) ≡ o → IsSome (backing_of (with_swap_slot cache (Some (Anon slot index))) (Anon slot index))
    of (Some number) found =
        let same : with_swap_slot cache (Some (Anon slot index)) ≡ cache = rw found refl in
        subst backs (sym same) (ap (λ o. is_some (swap_block cache.files o)) found)
    of None none =
        let same : with_swap_slot cache (Some (Anon slot index)) ≡ assigned cache (Anon slot index) (free_swap cache) = rw none refl in
        subst backs (sym same) (free none (free_swap cache) refl)

-- parts the guest's tables, page the page, cpu the processor
module _ (parts : Parts) (page cpu : ℕ) where
  to_go-cache : (locked_to_go parts page cpu).cache ≡ with_swap_slot parts.cache (info_at parts.pages page).tag
  unfolding locked_to_go
  to_go-cache = refl

  to_go-pages : (locked_to_go parts page cpu).pages ≡ (locked parts page cpu).pages
  unfolding locked_to_go
  to_go-pages = refl

  to_go-info : page < length parts.pages.infos → info_at (locked_to_go parts page cpu).pages page ≡ record (info_at parts.pages page) { owner = Some cpu }
  to_go-info below = ap (λ (p : PagesView). info_at p page) to_go-pages ∙ (change-locked parts page cpu below).here

  to_go-backed : (tag : Tag) → page < length parts.pages.infos → (info_at parts.pages page).tag ≡ Some tag → lacks_block parts.cache (Some tag) ≡ false
      → IsSome (backing_at (locked_to_go parts page cpu) page)
  to_go-backed tag below tagged has =
      let now : (info_at (locked_to_go parts page cpu).pages page).tag ≡ Some tag = ap (λ (i : PageInfo). i.tag) (to_go-info below) ∙ tagged in
      let at : backing_at (locked_to_go parts page cpu) page ≡ backing_of (locked_to_go parts page cpu).cache tag = rw now refl in
      let cache : (locked_to_go parts page cpu).cache ≡ with_swap_slot parts.cache (Some tag) = to_go-cache ∙ ap (with_swap_slot parts.cache) tagged in
      ap (λ o. is_some o) (at ∙ ap (λ (c : CacheView). backing_of c tag) cache) ∙ slotted parts.cache tag has

-- ---- the page that goes

not_both : (a b : Bool) → (a && b) ≡ false → a ≡ true → b ≡ false
not_both true b e a = e
not_both false b e a = let bad : false ≡ true = a in absurd cc

some_lacks : (o : Option ℕ) (b : Bool) → IsSome o → (is_none o && b) ≡ false
some_lacks (Some x) b some = refl
some_lacks None b some = let bad : false ≡ true = some in absurd cc

-- a page that can go and is dirty, or was found changed, can be written somewhere
pub placed : (parts : Parts) (page : ℕ) (v : StorageView) (found : PageValue) (tag : Tag) → CanGo parts (info_at parts.pages page) → CanBeWrittenOut parts page v → MayBecome (v.values page) found
    → (info_at parts.pages page).tag ≡ Some tag → (found.changed || (info_at parts.pages page).dirty) ≡ true → lacks_block parts.cache (Some tag) ≡ false
placed parts page v found tag goes can may tagged was = of (info_at parts.pages page).dirty refl found.changed refl was
  where
    -- it is dirty already
    known : (info_at parts.pages page).dirty ≡ true → lacks_block parts.cache (Some tag) ≡ false
    known dirty = ap (lacks_block parts.cache) (sym tagged) ∙ not_both (info_at parts.pages page).dirty (lacks_block parts.cache (info_at parts.pages page).tag) goes.placed dirty

    backed : ((info_at parts.pages page).dirty ≡ true) ⊎ IsSome (backing_at parts page) → lacks_block parts.cache (Some tag) ≡ false
    backed (inl dirty) = known dirty
    backed (inr some) =
        let at : backing_at parts page ≡ backing_of parts.cache tag = rw tagged refl in
        some_lacks (backing_of parts.cache tag) (is_none (free_swap parts.cache)) (ap (λ o. is_some o) (sym at) ∙ some)

    was_changed : (b : Bool) → (v.values page).changed ≡ b → found.changed ≡ true → (v.values page).changed ≡ true
    was_changed true e changed = e
    was_changed false e changed = let bad : true ≡ false = sym changed ∙ may-unchanged (v.values page) found may e in absurd cc

    of : (dirty : Bool) → (info_at parts.pages page).dirty ≡ dirty → (changed : Bool) → found.changed ≡ changed → (changed || dirty) ≡ true → lacks_block parts.cache (Some tag) ≡ false
    of true dirty changed e some = known dirty
    of false clean true changed some = backed (can.backed_by (was_changed (v.values page).changed refl changed))
    of false clean false unchanged some = let bad : false ≡ true = some in absurd cc

-- where the hand stands behind a page of so many
abbrev hand_behind : (page count : ℕ) → ℕ
hand_behind page count = if nat_lt (page + 1) count then page + 1 else 0

cleared-is : (parts : Parts) (page : ℕ) (v : StorageView) (d : DiskView) (a : Parts) (w : StorageView) (e : DiskView) → page < length parts.pages.infos → WasCleared parts page v d a w e
    → IsCleared parts page v a w
unfolding behind
cleared-is parts page v d a w e below k = record {
  was = record { clean = k.clean; found = k.found; may = k.may; unchanged = k.unchanged };
  free = subst (λ q. IsFree q page) (sym k.tables) (let is = freed-is_free parts page below in record { bare = is.bare; unshown = is.unshown; next = is.next });
  unused = k.unused.usage;
  hand = ap (λ (q : Parts). q.hand) k.tables ∙ ap (hand_behind page) (change-freed parts page below).size;
  faults = ap (λ (q : Parts). q.faults) k.tables ∙ freed-faults parts page;
}

-- the page is locked, and has a block
record GoesLocked (parts : Parts) (page cpu : ℕ) (v : StorageView) (a : Parts) (w : StorageView) : Type 0 where
  locks : IsLockedFor parts page cpu v a w
  backed : IsSome (backing_at a page)

locked-is : (parts : Parts) (page cpu : ℕ) (v : StorageView) (d : DiskView) (a : Parts) (w : StorageView) (e : DiskView) → page < length parts.pages.infos
    → CanGo parts (info_at parts.pages page) → CanBeWrittenOut parts page v → WasLockedToGo parts page cpu v d a w e → GoesLocked parts page cpu v a w
locked-is parts page cpu v d a w e below goes can k = record {
  locks = record {
    owner = ap (λ (q : Parts). (info_at q.pages page).owner) k.tables ∙ ap (λ (i : PageInfo). i.owner) info;
    dirty = ap (λ (q : Parts). (info_at q.pages page).dirty) k.tables ∙ ap (λ (i : PageInfo). i.dirty) info ∙ k.dirty;
    stable = ap (λ (x : PageValue). x.usage) k.value;
    unchanged = ap (λ (x : PageValue). x.changed) k.value;
    found = k.found;
    may = k.may;
    was = was;
  };
  backed = ap (λ (q : Parts). is_some (backing_at q page)) k.tables ∙ to_go-backed middle page cpu goes.tag inside tagged (ap (λ (c : CacheView). lacks_block c (Some goes.tag)) cache ∙ is_placed);
}
  where
    middle : Parts
    middle = with_change parts page k.found.changed

    inside : page < length middle.pages.infos
    inside = rw (change-changed parts page k.found.changed below).size below

    info : info_at (locked_to_go middle page cpu).pages page ≡ record (info_at middle.pages page) { owner = Some cpu }
    info = to_go-info middle page cpu inside

    tagged : (info_at middle.pages page).tag ≡ Some goes.tag
    tagged = ap (λ (i : PageInfo). i.tag) (change-changed parts page k.found.changed below).here ∙ (is_changed (info_at parts.pages page) k.found.changed).tag ∙ goes.tagged

    cache : middle.cache ≡ parts.cache
    cache = (only-changed parts page k.found.changed).cache

    was : (k.found.changed || (info_at parts.pages page).dirty) ≡ true
    was = sym (dirty-after parts page k.found.changed below) ∙ k.dirty

    is_placed : lacks_block parts.cache (Some goes.tag) ≡ false
    is_placed = placed parts page v k.found goes.tag goes can k.may goes.tagged was

handled-hand : (parts : Parts) (page : ℕ) → (handled parts page).hand ≡ parts.hand
unfolding handled freed
handled-hand parts page = refl

-- ---- room is made

pub make_room-says : (parts : Parts) (cpu : ℕ) (v : StorageView) (d : DiskView) (a : Parts) (r : Room) (w : StorageView) (e : DiskView)
    → CanMakeRoom parts v → ((page : ℕ) → first_to_go parts ≡ Some page → CanBeWrittenOut parts page v) → Seen (make_room parts cpu) v d (a, r) w e → RoomAnswer parts cpu v a r w
unfolding make_room
make_room-says parts cpu v d a r w e can written run = from (first_to_go parts) refl run
  where
    of : (page : ℕ) → first_to_go parts ≡ Some page → page < length parts.pages.infos → CanGo parts (info_at parts.pages page) → (r : Room) → GoOutcome parts page cpu v d a r w e
        → RoomAnswer parts cpu v a r w
    of page first below goes Freed (inl k) = (page, first, inl (discarded-is parts page v w d e a below k, ap (λ (q : Parts). q.hand) k.tables ∙ handled-hand parts page))
    of page first below goes Freed (inr k) = (page, first, inr (cleared-is parts page v d a w e below k))
    of page first below goes (Locked its) (same, k) =
        let is = locked-is parts page cpu v d a w e below goes (written page first) k in
        let there : (first_to_go parts ≡ Some page) × IsLockedFor parts page cpu v a w × IsSome (backing_at a page) = (first, is.locks, is.backed) in
        subst (λ q. (first_to_go parts ≡ Some q) × IsLockedFor parts q cpu v a w × IsSome (backing_at a q)) (sym same) there
    of page first below goes (Waits its owner) k = absurd k
    of page first below goes (NoPage pinned unslotted) k = absurd k
    of page first below goes (Again why) (tables, may, misses, disk) = (tables, misses)

    none : first_to_go parts ≡ None → (owned : Option ℕ) → first_locked parts ≡ owned → a ≡ parts → r ≡ none_goes parts owned → w ≡ v → RoomAnswer parts cpu v a r w
    none stays (Some page) found ea er em =
        let (owner, owned) = first_locked-owned parts page found in
        let waits : none_goes parts (Some page) ≡ Waits page owner = rw owned refl in
        rw (er ∙ waits) (stays, found, owned, ea, em)
    none stays None unlocked ea er em = rw er (stuck parts can.full can.tagged stays unlocked, refl, pinned_and_others parts, ea, em)

    from : (first : Option ℕ) → first_to_go parts ≡ first → Seen {A = Parts × Room} (room_from parts cpu first) v d (a, r) w e → RoomAnswer parts cpu v a r w
    from (Some page) first taken =
        let is = first_from-Some parts (can_go parts) page first in
        let filled = (written page first).filled in
        of page first is.below (can_go-parts parts (info_at parts.pages page) is.passes) r (seen_go parts page cpu v d a r w e is.below (usable parts page v filled) taken)
    from None stays (ea, em, ed) = none stays (first_locked parts) refl (ap (λ q. q.0) ea) (ap (λ q. q.1) ea) em
