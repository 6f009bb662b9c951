-- Fit after a page was locked by a processor to be written back, or unlocked again.
use Rattle.std.proofs.Common.{◌≡◌, ◌<◌, ℕ, Bool, true, false, List, length, Some, None, refl, ap, sym, ◌∙◌, inl, inr, subst, arith}
use Rattle.std.proofs.lemmas.Option.{same_Some}
use Rattle.cmm_types.specs.declared.page.Usage.{Usage}
use Rattle.cmm_types.specs.declared.page.Usage.TheVariants.{S}
use Rattle.cmm_types.specs.declared.page.Tag.{Tag}
use Rattle.cmm_flat.specs.State.{FlatState}
use Rattle.cmm_io.specs.DiskView.{DiskView}
use Rattle.essa_state.specs.PageValue.{PageValue, Bytes, MayBecome, is_lost}
use Rattle.cmm_storage.specs.StorageView.{StorageView}
use Rattle.guest_pages.specs.declared.info.PageInfo.{PageInfo}
use Rattle.guest_pages.specs.PagesView.{info_at}
use Rattle.guest_cache.specs.CacheView.{CacheView, backing_of}
use Rattle.guest_rules.specs.declared.parts.Parts.{Parts}
use Rattle.guest_rules.specs.declared.processor.Phase.{Phase}
use Rattle.guest_rules.specs.declared.processor.Phase.TheVariants.{Start}
use Rattle.guest_rules.specs.declared.processor.Processor.{Processor}
use Rattle.guest_rules.specs.GuestState.{GuestState, processor_at, with_parts, with_phase}
use Rattle.guest_rules.specs.Hint.{hint}
use Rattle.guest_rules.specs.Rows.{with_change}
use Rattle.guest_rules.specs.Syncs.{locked, unlocked, cleaned}
use Rattle.guest_rules.specs.Fit.{HasLocked, LocksFit, FitAt, backing, current_bytes}
use Rattle.guest_rules.proofs.Cases.TurnCases.{GivenBack, HasPage, ShowsPage, IsRehinted, WrittenBack}
use Rattle.guest_rules.proofs.Rows.ValueLaws.{may-faults}
use Rattle.guest_rules.proofs.Kept.Changes.{InfoChange, InfoChange-trans, PhaseChange, teardown_of, change-with_phase}
use Rattle.guest_rules.proofs.Kept.RowChanges.{OnlyPages, changed_info, change-changed, only-changed, maps-changed}
use Rattle.guest_rules.proofs.Kept.SyncTables.{locked_info, unlocked_info, cleaned_info, change-locked, change-unlocked}
use Rattle.guest_rules.proofs.Kept.SyncTables.{change-cleaned, only-locked, only-unlocked, only-cleaned, maps-locked, maps-unlocked, maps-cleaned}
use Rattle.guest_rules.proofs.Kept.PageFits.{PageFits, PageFits-may}
use Rattle.guest_rules.proofs.Kept.Currents.{current_bytes-may}
use Rattle.guest_rules.proofs.Kept.PagesKept.{PagesFit-kept}
use Rattle.guest_rules.proofs.Kept.LocksKept.{PhaseFits, LocksPage, LockedPage, LocksFit-step, LocksFit-released, locked_by_none, blocks-kept}
use Rattle.guest_rules.proofs.Kept.SlotsKept.{SlotsFit-kept}
use Rattle.guest_rules.proofs.Kept.EntriesKept.{EntriesFit-info}
use Rattle.guest_rules.proofs.Kept.CurrentsKept.{current-kept, FlatFit-same}
use Rattle.guest_rules.proofs.Fit.FitMay.{infos-pages}
use Rattle.guest_rules.proofs.Fit.FitChanged.{TableStep, step-same, FitAt-step}
use Rattle.guest_rules.proofs.Fit.FoundBytes.{found-fits}
use Rattle.guest_rules.proofs.Kept.PinsKept.{PinsFit-info}
use Rattle.guest_rules.proofs.Kept.TeardownsKept.{locked-tears_nothing, keeps_torn-same, untagged-same}
use Rattle.guest_rules.proofs.Kept.SwapLaws.{has_block-slot}
use Rattle.guest_rules.proofs.Fit.StepTold.{IsChanged, IsWrittenBy, is_changed, not_lost, written_by-changed, PageFits-settled}
use Rattle.guest_rules.proofs.Fit.FitBlock.{WritesBytes, backing-written, FitAt-block}
use Rattle.guest_rules.proofs.Ready.Ready.{hint_locked, has_shows}

-- what a page holds is as it was
pub record SamePage (old new : PageInfo) : Type 0 where
  pub tag : new.tag ≡ old.tag
  pub uptodate : new.uptodate ≡ old.uptodate
  pub pins : new.pins ≡ old.pins

-- a page that is up to date was told its hint over tables in which its lock changed, and whether it is dirty
pub record IsSettled (g : GuestState) (v : StorageView) (d : DiskView) (w : StorageView) (e : DiskView) (page : ℕ) (tag : Tag) (found : PageValue) (after : Parts) (new : PageInfo) : Type 0 where
  pub back : GivenBack page v d w e
  pub shows : ShowsPage g tag page
  pub may : MayBecome (v.values page) found
  pub there : is_lost found.contents ≡ false
  pub value : w.values page ≡ record found { usage = hint new; changed = false }
  pub only : OnlyPages g.parts after
  pub maps : after.maps ≡ g.parts.maps
  pub change : InfoChange g.parts.pages after.pages page new
  pub same : SamePage (info_at g.parts.pages page) new
  pub writers : new.writers ≡ (info_at g.parts.pages page).writers
  pub clean : new.dirty ≡ false → found.contents ≡ Bytes (backing g.parts.cache d tag)
  pub written : IsWrittenBy g.parts.cache new

Fit-settled : (state : FlatState) (g : GuestState) (v : StorageView) (d : DiskView) (w : StorageView) (e : DiskView) (cpu page : ℕ) (phase : Phase) (tag : Tag) (found : PageValue) (after : Parts)
    (new : PageInfo) → FitAt state g v d
    → cpu < length g.processors → teardown_of phase ≡ teardown_of (processor_at g cpu).phase → IsSettled g v d w e page tag found after new
    → LocksFit (with_phase (with_parts g after) cpu phase) → FitAt state (with_phase (with_parts g after) cpu phase) w e
unfolding with_phase
Fit-settled state g v d w e cpu page phase tag found after new f below teardown s locks =
    FitAt-step state state g v d h w e cpu page 0 phase new f step
    (PagesFit-kept g.parts after page new tag f.pages s.shows.tagged (s.same.tag ∙ s.shows.tagged) s.only.free s.change s.only.cache)
    (SlotsFit-kept state state g.parts after f.slots refl (ap (λ m. m.slots) s.maps) (ap (λ m. length m.entries) s.maps) (ap (λ m. m.pinned) s.maps) (ap (λ m. m.pages) s.maps) s.change.size
    (ap (λ (c : CacheView). c.files) s.only.cache))
    (EntriesFit-info g.parts after page new f.entries s.change s.maps (λ t t_is u. (s.same.tag ∙ t_is, s.same.uptodate ∙ u)) s.writers)
    locks
    (FlatFit-same state g h v w d e f.flat refl (ap (λ (c : CacheView). c.files) s.only.cache) (ap (λ (c : CacheView). c.slots) s.only.cache) (ap (λ m. m.slots) s.maps)
    (current-kept g.parts after v w d e page (step-same state g v d h w e cpu page phase new f step) s.only.cache here))
    (record { handled = omega (arith, s.only.faults); counted = rw s.value (omega (arith, may-faults (v.values page) found s.may, not_lost found.contents found refl s.there)) })
  where
    h : GuestState
    h = with_phase (with_parts g after) cpu phase

    before : PageFits g.parts.cache d (info_at g.parts.pages page) (v.values page)
    before = found-fits state g v d page tag f s.shows.tagged

    here : (t : Tag) → (info_at g.parts.pages page).tag ≡ Some t
        → current_bytes (info_at after.pages page).uptodate (w.values page).contents (backing g.parts.cache d t)
        ≡ current_bytes (info_at g.parts.pages page).uptodate (v.values page).contents (backing g.parts.cache d t)
    here t e =
        ap (λ u. current_bytes u (w.values page).contents (backing g.parts.cache d t)) (ap (λ (i : PageInfo). i.uptodate) s.change.here ∙ s.same.uptodate)
        ∙ ap (λ c. current_bytes (info_at g.parts.pages page).uptodate c (backing g.parts.cache d t)) (ap (λ (x : PageValue). x.contents) s.value)
        ∙ current_bytes-may g.parts.cache d (info_at g.parts.pages page) (v.values page) found t before e s.may

    step : TableStep g v d h w e cpu page phase new
    step = record {
      back = s.back;
      below = rw (infos-pages g v d f.sizes) at s.shows.below;
      plan = refl;
      journal = refl;
      files = ap (λ (c : CacheView). c.files) s.only.cache;
      swap = ap (λ (c : CacheView). c.swap) s.only.cache;
      slots = ap (λ (c : CacheView). c.slots) s.only.cache;
      index = ap (λ (c : CacheView). length c.index) s.only.cache;
      info_change = s.change;
      phase_change = change-with_phase g.processors cpu phase below teardown;
      torn = keeps_torn-same g.parts.maps after.maps s.maps;
      untagged = untagged-same g.parts after.cache s.only.cache;
      mappings = ap (λ m. m.slots) s.maps;
      used = λ t e. f.tags.pages page t (sym s.same.tag ∙ e);
      pins = PinsFit-info g.parts after page new f.pins s.change s.only.cache
          (record { slots = ap (λ m. m.slots) s.maps; pinned = ap (λ m. m.pinned) s.maps }) s.same.tag s.same.pins (λ u. s.same.uptodate ∙ u);
      fits = rw s.value (PageFits-settled g.parts.cache d (info_at g.parts.pages page) new found tag
          (PageFits-may g.parts.cache d (info_at g.parts.pages page) (v.values page) found before s.may) s.same.tag s.shows.tagged s.shows.uptodate s.there s.clean s.written);
    }

-- one change of the tables after another
OnlyPages-trans : (a b c : Parts) → OnlyPages a b → OnlyPages b c → OnlyPages a c
OnlyPages-trans a b c one two = record { free = two.free ∙ one.free; cache = two.cache ∙ one.cache; faults = two.faults ∙ one.faults }

-- a dirty page is locked by a processor that had none locked, to be written back
pub Fit-locked : (state : FlatState) (g : GuestState) (v : StorageView) (d : DiskView) (w : StorageView) (e : DiskView) (cpu page : ℕ) (phase : Phase) (tag : Tag) (found : PageValue)
    → FitAt state g v d → cpu < length g.processors → ((i : ℕ) → HasLocked g cpu i → ⊥) → teardown_of phase ≡ teardown_of (processor_at g cpu).phase → HasPage g tag page
    → GivenBack page v d w e → MayBecome (v.values page) found → is_lost found.contents ≡ false → (info_at (with_change g.parts page found.changed).pages page).dirty ≡ true
    → w.values page ≡ record found { usage = S; changed = false } → LocksPage phase page
    → (LockedPage (with_phase (with_parts g (locked (with_change g.parts page found.changed) page cpu)) cpu phase) cpu page tag
    → PhaseFits (with_phase (with_parts g (locked (with_change g.parts page found.changed) page cpu)) cpu phase) cpu phase)
    → FitAt state (with_phase (with_parts g (locked (with_change g.parts page found.changed) page cpu)) cpu phase) w e
unfolding with_phase
Fit-locked state g v d w e cpu page phase tag found f below none teardown has back may there dirty value locks now =
    Fit-settled state g v d w e cpu page phase tag found after new f below teardown
    (record {
      back = back;
      shows = shows;
      may = may;
      there = there;
      value = value ∙ ap (λ (u : Usage). let x : PageValue = record found { usage = u; changed = false } in x) (sym (hint_locked new tag cpu tagged refl));
      only = OnlyPages-trans g.parts middle after (only-changed g.parts page found.changed) (only-locked middle page cpu);
      maps = maps-locked middle page cpu ∙ maps-changed g.parts page found.changed;
      change = change;
      same = record { tag = is.tag; uptodate = is.uptodate; pins = is.pins };
      writers = is.writers;
      clean = λ c. let bad : true ≡ false = sym dirty ∙ c in absurd cc;
      written = λ slot index e some. inl dirty;
    })
    (LocksFit-step g h cpu page phase new f.locks (record {
      plan = refl;
      info_change = change;
      phase_change = phases;
      blocks = blocks-kept g.parts.cache after.cache ((only-locked middle page cpu).cache ∙ (only-changed g.parts page found.changed).cache);
      only = λ q k. absurd (locked_by_none g page f.locks has.unlocked q k);
      own = λ i k. absurd (none i k);
      fits = record { clean = λ u. let bad : true ≡ false = sym (is.uptodate ∙ shows.uptodate) ∙ u in absurd cc; stale = λ t e none. is.uptodate ∙ shows.uptodate };
      now = now (record {
        below = rw change.size has.below;
        owner = ap (λ (i : PageInfo). i.owner) change.here;
        tagged = ap (λ (i : PageInfo). i.tag) change.here ∙ tagged;
        uptodate = ap (λ (i : PageInfo). i.uptodate) change.here ∙ is.uptodate ∙ shows.uptodate;
      });
      locked = λ q e.
          let both : Some cpu ≡ Some q = e in
          let same : cpu ≡ q = cc in
          subst (λ x. HasLocked h x page) same (subst (λ x. LocksPage x page) (sym (ap (λ (p : Processor). p.phase) phases.here)) locks);
    }))
  where
    middle : Parts
    middle = with_change g.parts page found.changed

    after : Parts
    after = locked middle page cpu

    h : GuestState
    h = with_phase (with_parts g after) cpu phase

    new : PageInfo
    new = locked_info cpu (info_at middle.pages page)

    first : InfoChange g.parts.pages middle.pages page (changed_info found.changed (info_at g.parts.pages page))
    first = change-changed g.parts page found.changed has.below

    change : InfoChange g.parts.pages after.pages page new
    change = InfoChange-trans g.parts.pages middle.pages after.pages page _ new first (change-locked middle page cpu (rw first.size has.below))

    phases : PhaseChange g.processors h.processors cpu phase
    phases = change-with_phase g.processors cpu phase below teardown

    is : IsChanged (info_at g.parts.pages page) found.changed (info_at middle.pages page)
    is = rw first.here (is_changed (info_at g.parts.pages page) found.changed)

    shows : ShowsPage g tag page
    shows = has_shows state g v d page tag f has

    tagged : new.tag ≡ Some tag
    tagged = is.tag ∙ has.tagged

-- a processor has the tag's page locked, to write it back
pub record HoldsPage (g : GuestState) (cpu page : ℕ) (tag : Tag) : Type 0 where
  pub cpu_below : cpu < length g.processors
  pub mine : HasLocked g cpu page
  pub shows : ShowsPage g tag page

-- a page that its processor has locked isn't locked any more, with these tables between
record IsReleased (g : GuestState) (page : ℕ) (middle : Parts) (dirty : Bool) : Type 0 where
  only : OnlyPages g.parts middle
  maps : middle.maps ≡ g.parts.maps
  change : InfoChange g.parts.pages middle.pages page (info_at middle.pages page)
  same : SamePage (info_at g.parts.pages page) (info_at middle.pages page)
  writers : (info_at middle.pages page).writers ≡ (info_at g.parts.pages page).writers
  unlocked_now : (info_at middle.pages page).owner ≡ None
  kept : (info_at middle.pages page).dirty ≡ dirty
  written : IsWrittenBy g.parts.cache (info_at middle.pages page)

-- its hint was told again; where it is clean its bytes are those that back its tag
Fit-released : (state : FlatState) (g : GuestState) (v : StorageView) (d : DiskView) (w : StorageView) (e : DiskView) (cpu page : ℕ) (tag : Tag) (middle after : Parts) (dirty : Bool)
    → FitAt state g v d → HoldsPage g cpu page tag
    → GivenBack page v d w e → IsReleased g page middle dirty → IsRehinted middle page (v.values page) after (w.values page)
    → (dirty ≡ false → (v.values page).changed ≡ false → (v.values page).contents ≡ Bytes (backing g.parts.cache d tag)) → FitAt state (with_phase (with_parts g after) cpu Start) w e
unfolding with_phase
Fit-released state g v d w e cpu page tag middle after dirty f k back r told clean =
    subst (λ (q : Parts). FitAt state (with_phase (with_parts g q) cpu Start) w e) (sym told.tables)
    (Fit-settled state g v d w e cpu page Start tag (v.values page) last new f k.cpu_below teardown
    (record {
      back = back;
      shows = k.shows;
      may = inl refl;
      there = told.there;
      value = told.value ∙ ap (λ (q : Parts). let x : PageValue = record (v.values page) { usage = hint (info_at q.pages page); changed = false } in x) told.tables
          ∙ ap (λ (i : PageInfo). let x : PageValue = record (v.values page) { usage = hint i; changed = false } in x) second.here;
      only = OnlyPages-trans g.parts middle last r.only (only-changed middle page changed);
      maps = maps-changed middle page changed ∙ r.maps;
      change = change;
      same = record { tag = is.tag ∙ r.same.tag; uptodate = is.uptodate ∙ r.same.uptodate; pins = is.pins ∙ r.same.pins };
      writers = is.writers ∙ r.writers;
      clean = λ c. let both = is.clean c in clean (sym r.kept ∙ both.0) both.1;
      written = written_by-changed g.parts.cache (info_at middle.pages page) changed r.written;
    })
    locks)
  where
    changed : Bool
    changed = (v.values page).changed

    last : Parts
    last = with_change middle page changed

    new : PageInfo
    new = changed_info changed (info_at middle.pages page)

    teardown : teardown_of Start ≡ teardown_of (processor_at g cpu).phase
    teardown = sym (locked-tears_nothing g cpu page k.mine)

    second : InfoChange middle.pages last.pages page new
    second = change-changed middle page changed (rw r.change.size k.shows.below)

    change : InfoChange g.parts.pages last.pages page new
    change = InfoChange-trans g.parts.pages middle.pages last.pages page (info_at middle.pages page) new r.change second

    is : IsChanged (info_at middle.pages page) changed new
    is = is_changed (info_at middle.pages page) changed

    uptodate : new.uptodate ≡ true
    uptodate = is.uptodate ∙ r.same.uptodate ∙ k.shows.uptodate

    locks : LocksFit (with_phase (with_parts g last) cpu Start)
    locks = LocksFit-released g (with_phase (with_parts g last) cpu Start) cpu page new f.locks refl change (change-with_phase g.processors cpu Start k.cpu_below teardown) (is.owner ∙ r.unlocked_now)
        k.mine
        (record { clean = λ u. let bad : true ≡ false = sym uptodate ∙ u in absurd cc; stale = λ t e none. uptodate })
        (blocks-kept g.parts.cache last.cache ((only-changed middle page changed).cache ∙ r.only.cache))

-- a page was written to its block
pub Fit-written_back : (state : FlatState) (g : GuestState) (v : StorageView) (d : DiskView) (w : StorageView) (e : DiskView) (cpu page : ℕ) (tag : Tag) (bytes : List ℕ) (after : Parts)
    → FitAt state g v d → HoldsPage g cpu page tag
    → (v.values page).contents ≡ Bytes bytes → WrittenBack page tag g.parts.cache bytes v d w e → IsRehinted (cleaned g.parts page) page (v.values page) after (w.values page)
    → FitAt state (with_phase (with_parts g after) cpu Start) w e
Fit-written_back state g v d w e cpu page tag bytes after f k are wrote told =
    Fit-released state g v e w e cpu page tag (cleaned g.parts page) after false (FitAt-block state g v d e page tag wrote.block bytes f writes) k
    (record { keeps = wrote.keeps; held = wrote.held; count = refl; blocks = refl })
    (record {
      only = only-cleaned g.parts page;
      maps = maps-cleaned g.parts page;
      change = record { size = change.size; here = refl; others = change.others };
      same = rw change.here (record { tag = refl; uptodate = refl; pins = refl });
      writers = ap (λ (i : PageInfo). i.writers) change.here;
      unlocked_now = ap (λ (i : PageInfo). i.owner) change.here;
      kept = ap (λ (i : PageInfo). i.dirty) change.here;
      written = λ slot index e some. inr (has_block-slot g.parts.cache slot index wrote.block (block_of (ap (λ (i : PageInfo). i.tag) (sym change.here) ∙ e)));
    })
    told (λ clean unchanged. are ∙ ap (λ b. Bytes b) (sym (backing-written state g v d e page tag wrote.block bytes f writes)))
  where
    block_of : {t : Tag} → (info_at g.parts.pages page).tag ≡ Some t → backing_of g.parts.cache t ≡ Some wrote.block
    block_of e = let both : Some _ ≡ Some tag = sym e ∙ k.shows.tagged in ap (backing_of g.parts.cache) (same_Some _ _ both) ∙ wrote.backs

    writes : WritesBytes g v d e page tag wrote.block bytes
    writes = record { tagged = k.shows.tagged; uptodate = k.shows.uptodate; are = are; backs = wrote.backs; count = wrote.count; blocks = wrote.blocks }

    change : InfoChange g.parts.pages (cleaned g.parts page).pages page (cleaned_info (info_at g.parts.pages page))
    change = change-cleaned g.parts page k.shows.below

-- a page couldn't be written back: it stays dirty
pub Fit-not_written : (state : FlatState) (g : GuestState) (v : StorageView) (d : DiskView) (w : StorageView) (e : DiskView) (cpu page : ℕ) (tag : Tag) (after : Parts) → FitAt state g v d
    → HoldsPage g cpu page tag
    → GivenBack page v d w e → IsRehinted (unlocked g.parts page) page (v.values page) after (w.values page) → FitAt state (with_phase (with_parts g after) cpu Start) w e
Fit-not_written state g v d w e cpu page tag after f k back told =
    Fit-released state g v d w e cpu page tag (unlocked g.parts page) after (info_at g.parts.pages page).dirty f k back
    (record {
      only = only-unlocked g.parts page;
      maps = maps-unlocked g.parts page;
      change = record { size = change.size; here = refl; others = change.others };
      same = rw change.here (record { tag = refl; uptodate = refl; pins = refl });
      writers = ap (λ (i : PageInfo). i.writers) change.here;
      unlocked_now = ap (λ (i : PageInfo). i.owner) change.here;
      kept = ap (λ (i : PageInfo). i.dirty) change.here;
      written = rw change.here (λ slot index e some. f.tags.written page slot index (rw (infos-pages g v d f.sizes) at k.shows.below) e (inr some));
    })
    told (λ clean unchanged. (found-fits state g v d page tag f k.shows.tagged).same tag k.shows.tagged k.shows.uptodate clean unchanged told.there)
  where
    change : InfoChange g.parts.pages (unlocked g.parts page).pages page (unlocked_info (info_at g.parts.pages page))
    change = change-unlocked g.parts page k.shows.below
