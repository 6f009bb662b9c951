-- Fit after a turn that was to make room: a page was freed, or locked to be written back, or there was none.
use Rattle.std.proofs.Common.{◌≡◌, ◌<◌, ◌-◌, ◌||◌, ℕ, Bool, length, true, false, Option, Some, None, refl, ap, sym, ◌∙◌, inl, inr, subst, arith, length-set, get_or-set_same}
use Rattle.std.specs.Prelude.{IsSome}
use Rattle.cmm_types.specs.declared.page.Usage.{Usage}
use Rattle.cmm_types.specs.declared.page.Usage.TheVariants.{S}
use Rattle.cmm_types.specs.declared.page.Tag.{Tag}
use Rattle.cmm_types.specs.declared.command.Op.{Op}
use Rattle.cmm_types.specs.declared.command.Reply.TheVariants.{Fail}
use Rattle.cmm_types.specs.declared.command.Cause.TheVariants.{NoPage}
use Rattle.cmm_flat.specs.State.{FlatState}
use Rattle.cmm_flat.specs.Legal.{CanNeedPage, flat_of}
use Rattle.cmm_io.specs.DiskView.{DiskView}
use Rattle.essa_state.specs.PageValue.{PageValue, MayBecome, is_lost}
use Rattle.cmm_storage.specs.StorageView.{StorageView}
use Rattle.guest_pages.specs.declared.info.PageInfo.{PageInfo}
use Rattle.guest_pages.specs.PagesView.{info_at}
use Rattle.guest_cache.specs.CacheView.{CacheView, backing_of}
use Rattle.guest_rules.specs.declared.parts.Parts.{Parts}
use Rattle.guest_rules.specs.declared.processor.Phase.TheVariants.{Start, Room as AtRoom}
use Rattle.guest_rules.specs.GuestState.{GuestState, first_processor, processor_at, with_parts, with_phase, entered}
use Rattle.guest_rules.specs.Rows.{with_change}
use Rattle.guest_rules.specs.Syncs.{locked}
use Rattle.guest_rules.specs.MakeRoom.{can_go, first_to_go, first_locked, pinned_count, with_swap_slot, locked_to_go}
use Rattle.guest_rules.specs.Fit.{LocksFit, FitAt, Fit}
use Rattle.guest_rules.proofs.Cases.TurnCases.{GivenBack, SeeksRoom, Goes, PagesOut}
use Rattle.guest_rules.proofs.Cases.FirstPage.{first_from-Some, can_go-parts}
use Rattle.guest_rules.proofs.Cases.Stuck.{full-tagged, stuck}
use Rattle.guest_rules.proofs.Kept.Changes.{InfoChange, teardown_of}
use Rattle.guest_rules.proofs.Kept.RowChanges.{changed_info, change-changed, only-changed}
use Rattle.guest_rules.proofs.Rows.ValueLaws.{hint-dirty}
use Rattle.guest_rules.proofs.Rows.RoomAnswers.{slotted, placed}
use Rattle.guest_rules.proofs.Ready.Ready.{has_shows}
use Rattle.guest_rules.proofs.Ready.AnswerReady.{go-ready}
use Rattle.guest_rules.proofs.Fit.StepSwapped.{IsDirty, FitAt-slotted}
use Rattle.guest_rules.proofs.Kept.SyncTables.{only-locked}
use Rattle.guest_rules.proofs.Kept.LocksKept.{locks_none}
use Rattle.guest_rules.proofs.Kept.Unpinned.{begun-needs}
use Rattle.guest_rules.proofs.Fit.FitEntered.{Fit-entered}
use Rattle.guest_rules.proofs.Fit.SwapBound.{no_page_legal}
use Rattle.guest_rules.proofs.Fit.Replies.{refused-same}
use Rattle.guest_rules.proofs.Fit.StepTold.{IsChanged, is_changed, Fit-rehinted}
use Rattle.guest_rules.proofs.Fit.StepLocked.{HoldsPage, Fit-locked}

-- ---- a page that goes

-- the page that goes isn't pinned
pub goes-unpinned : (g : GuestState) (tag : Tag) (page : ℕ) → Goes g tag page → (info_at g.parts.pages page).pins ≡ 0
goes-unpinned g tag page goes = (can_go-parts g.parts (info_at g.parts.pages page) (first_from-Some g.parts (can_go g.parts) page goes.first).passes).unpinned

-- a command for which room is made needs a page
pub seeks-needs : (state : FlatState) (g : GuestState) (v : StorageView) (d : DiskView) (cpu : ℕ) (op : Op) → FitAt state g v d → SeeksRoom g cpu op → CanNeedPage op
seeks-needs state g v d cpu op f k = begun-needs state g v d cpu op k.tag f k.starts k.wants k.none

was_dirty : (parts : Parts) (page : ℕ) (changed : Bool) → (info_at (with_change parts page changed).pages page).dirty ≡ true → (changed || (info_at parts.pages page).dirty) ≡ true
was_dirty parts page true e = refl
was_dirty parts page false e = e

-- a dirty page's tag has a block, or there is one for it
goes-placed : (state : FlatState) (g : GuestState) (v : StorageView) (d : DiskView) (tag : Tag) (page : ℕ) (found : PageValue) → FitAt state g v d → Goes g tag page → MayBecome (v.values page) found
    → (info_at (with_change g.parts page found.changed).pages page).dirty ≡ true → IsSome (backing_of (with_swap_slot g.parts.cache (Some tag)) tag)
goes-placed state g v d tag page found f goes may dirty =
    let can = can_go-parts g.parts (info_at g.parts.pages page) (first_from-Some g.parts (can_go g.parts) page goes.first).passes in
    slotted g.parts.cache tag (placed g.parts page v found tag can (go-ready state g v d page tag f (has_shows state g v d page tag f goes.has)) may goes.has.tagged
    (was_dirty g.parts page found.changed dirty))

-- the cache alone has another swap slot
pub locked_to_go-slotted : (parts : Parts) (page cpu : ℕ) (tag : Tag) → (info_at parts.pages page).tag ≡ Some tag
    → locked_to_go parts page cpu ≡ locked (record parts { cache = with_swap_slot parts.cache (Some tag) }) page cpu
unfolding locked_to_go locked
locked_to_go-slotted parts page cpu tag tagged = ap (λ (o : Option Tag). record (locked parts page cpu) { cache = with_swap_slot parts.cache o }) tagged

-- a dirty page is locked, to be written back to make room. Its tag has a block from then on
pub Fit-locked_to_go : (state : FlatState) (g : GuestState) (v : StorageView) (d : DiskView) (w : StorageView) (e : DiskView) (cpu : ℕ) (op : Op) (tag : Tag) (page : ℕ) (found : PageValue)
    → FitAt state g v d → SeeksRoom g cpu op → Goes g tag page
    → GivenBack page v d w e → MayBecome (v.values page) found → is_lost found.contents ≡ false → (info_at (with_change g.parts page found.changed).pages page).dirty ≡ true
    → w.values page ≡ record found { usage = S; changed = false }
    → FitAt state (with_phase (with_parts g (locked_to_go (with_change g.parts page found.changed) page cpu)) cpu (AtRoom page)) w e
unfolding with_phase
Fit-locked_to_go state g v d w e cpu op tag page found f k goes back may there dirty value =
    subst (λ (q : Parts). FitAt state (with_phase (with_parts g q) cpu (AtRoom page)) w e) (sym (locked_to_go-slotted middle page cpu tag tagged))
    (Fit-locked state (with_parts g slotted) w e w e cpu page (AtRoom page) tag now_found (FitAt-slotted state (with_parts g middle) w e page tag told its)
    below (locks_none g cpu Start k.starts.start tt) (ap teardown_of (sym k.starts.start))
    (record { below = rw change.size goes.has.below; tagged = tagged; unlocked = ap (λ (i : PageInfo). i.owner) change.here ∙ is.owner ∙ goes.has.unlocked })
    (record { keeps = record { pages = refl; others = λ i n. inl refl; faults = omega arith; misses = omega arith; quiet = refl; tells = refl }; held = back.held; count = refl; blocks = refl })
    (inl (sym value)) there dirty value (inr (inr refl))
    (λ now. record {
      cpu_below = rw length-set below;
      op = op;
      command = rw (get_or-set_same g.processors cpu (record { place = (processor_at g cpu).place; phase = AtRoom page }) first_processor below) k.starts.has.command;
      needs = seeks-needs state g v d cpu op f k;
      below = now.below;
      owner = now.owner;
      uptodate = now.uptodate;
      tag = tag;
      tagged = now.tagged;
      block = block.0;
      backs = ap (λ (c : CacheView). backing_of c tag) ((only-locked slotted page cpu).cache ∙ ap (λ (c : CacheView). with_swap_slot c (Some tag)) cache) ∙ block.1;
    }))
  where
    below : cpu < length g.processors
    below = k.starts.has.below

    middle : Parts
    middle = with_change g.parts page found.changed

    slotted : Parts
    slotted = record middle { cache = with_swap_slot middle.cache (Some tag) }

    now_found : PageValue
    now_found = record found { usage = S; changed = false }

    change : InfoChange g.parts.pages middle.pages page (changed_info found.changed (info_at g.parts.pages page))
    change = change-changed g.parts page found.changed goes.has.below

    is : IsChanged (info_at g.parts.pages page) found.changed (changed_info found.changed (info_at g.parts.pages page))
    is = is_changed (info_at g.parts.pages page) found.changed

    tagged : (info_at middle.pages page).tag ≡ Some tag
    tagged = ap (λ (i : PageInfo). i.tag) change.here ∙ is.tag ∙ goes.has.tagged

    cache : middle.cache ≡ g.parts.cache
    cache = (only-changed g.parts page found.changed).cache

    its : IsDirty (with_parts g middle) page tag
    its = record { tagged = tagged; uptodate = ap (λ (i : PageInfo). i.uptodate) change.here ∙ is.uptodate ∙ f.locks.stale page tag goes.has.tagged goes.has.unlocked; dirty = dirty }

    -- its change bit has moved into what is known of it
    told : FitAt state (with_parts g middle) w e
    told = Fit-rehinted state g v d w e page tag found middle f goes.has back may (record {
      there = there;
      tables = refl;
      value = value ∙ ap (λ (u : Usage). let x : PageValue = record found { usage = u; changed = false } in x) (sym (hint-dirty (info_at middle.pages page) tag tagged dirty));
    })

    block : (block : ℕ) × (backing_of (with_swap_slot g.parts.cache (Some tag)) tag ≡ Some block)
    block = some_of (backing_of (with_swap_slot g.parts.cache (Some tag)) tag) (goes-placed state g v d tag page found f goes may dirty)
      where
        some_of : (o : Option ℕ) → IsSome o → (n : ℕ) × (o ≡ Some n)
        some_of None is = let bad : false ≡ true = is in absurd cc
        some_of (Some n) is = (n, refl)

-- ---- a page written back to make room

-- the processor has it locked
pub pages_out-holds : (g : GuestState) (cpu : ℕ) (op : Op) (tag : Tag) (page : ℕ) → LocksFit g → PagesOut g cpu op tag page → HoldsPage g cpu page tag
pages_out-holds g cpu op tag page f k =
    let is = f.paging_out cpu page k.phase in
    record { cpu_below = k.has.below; mine = inr (inr k.phase); shows = record { below = is.below; tagged = k.tagged; uptodate = is.uptodate } }

-- its command needs a page
pub pages_out-needs : (g : GuestState) (cpu : ℕ) (op : Op) (tag : Tag) (page : ℕ) → LocksFit g → PagesOut g cpu op tag page → CanNeedPage op
pages_out-needs g cpu op tag page f k =
    let is = f.paging_out cpu page k.phase in
    let both : Some is.op ≡ Some op = sym is.command ∙ k.has.command in
    let same : is.op ≡ op = cc in
    subst CanNeedPage same is.needs

-- ---- no page can go

pub Fit-no_page : (g : GuestState) (v : StorageView) (d : DiskView) (cpu : ℕ) (op : Op) → Fit g v d → SeeksRoom g cpu op → first_to_go g.parts ≡ None → first_locked g.parts ≡ None
    → Fit (entered g cpu op (Fail (NoPage (pinned_count g.parts) (length g.parts.pages.infos - pinned_count g.parts)))) v d
Fit-no_page g v d cpu op f k none unlocked =
    Fit-entered g v d cpu op (Fail (NoPage (pinned_count g.parts) (length g.parts.pages.infos - pinned_count g.parts))) f k.starts.has.below k.starts.start k.starts.has.command (
      seeks-needs (flat_of g.plan g.journal) g v d cpu op f k,
      refused-same g v d cpu op f k.starts.has ∙ k.starts.accepted,
      no_page_legal g v d f (stuck g.parts k.full (full-tagged g.parts f.pages k.full) none unlocked),
    )
