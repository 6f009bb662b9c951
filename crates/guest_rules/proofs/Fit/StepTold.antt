-- Fit after a page that was made stable was told its hint again: its change bit has moved into what is known of it.
use Rattle.std.proofs.Common.{◌≡◌, ◌⊎◌, ◌<◌, ◌≤◌, ℕ, Bool, true, false, length, Some, inl, inr, refl, ap, sym, subst, ◌∙◌, arith}
use Rattle.cmm_types.specs.declared.page.Usage.{Usage}
use Rattle.cmm_types.specs.declared.page.Tag.{Tag}
use Rattle.cmm_types.specs.declared.page.Tag.TheVariants.{Anon}
use Rattle.cmm_io.specs.DiskView.{DiskView}
use Rattle.cmm_flat.specs.State.{FlatState, IsSound}
use Rattle.essa_state.specs.PageValue.{PageValue, Contents, Bytes, Blank, Lost, MayBecome, StandsWith, is_blank, is_lost}
use Rattle.cmm_storage.specs.StorageView.{StorageView}
use Rattle.guest_pages.specs.declared.info.PageInfo.{PageInfo}
use Rattle.guest_pages.specs.PagesView.{info_at}
use Rattle.guest_cache.specs.CacheView.{CacheView}
use Rattle.guest_rules.specs.declared.parts.Parts.{Parts}
use Rattle.guest_rules.specs.GuestState.{GuestState, processor_at, with_parts}
use Rattle.guest_rules.specs.Hint.{hint}
use Rattle.guest_rules.specs.Rows.{with_change}
use Rattle.guest_rules.specs.Fit.{FitAt, SlotsFit, EntriesFit, PinsFit, FlatFit, backing, current_bytes, one_if_lost}
use Rattle.guest_rules.proofs.Cases.TurnCases.{GivenBack, HasPage, ShowsPage, IsRehinted}
use Rattle.guest_rules.proofs.Rows.ValueLaws.{may-faults}
use Rattle.guest_rules.proofs.Kept.Changes.{InfoChange, InfoChange-trans, change-nothing}
use Rattle.guest_rules.proofs.Kept.RowChanges.{OnlyPages, changed_info, change-changed, only-changed, maps-changed}
use Rattle.guest_rules.proofs.Kept.PageFits.{PageFits, IsDirtyOrSlotted, EachPageFits-from, PageFits-may}
use Rattle.guest_rules.proofs.Kept.FlatTags.{KeepsOwn, flat_page-kept}
use Rattle.guest_rules.proofs.Kept.Currents.{current_bytes-may}
use Rattle.guest_rules.proofs.Kept.PagesKept.{PagesFit-kept}
use Rattle.guest_rules.proofs.Kept.LocksKept.{blocks-kept, LocksFit-kept}
use Rattle.guest_rules.proofs.Kept.SlotsKept.{SlotsFit-kept}
use Rattle.guest_rules.proofs.Kept.PinsKept.{PinsFit-info}
use Rattle.guest_rules.proofs.Kept.EntriesKept.{EntriesFit-info}
use Rattle.guest_rules.proofs.Kept.TeardownsKept.{KeepsTorn, keeps_torn-same, untagged-same}
use Rattle.guest_rules.proofs.Kept.CurrentsKept.{current-kept, FlatFit-same}
use Rattle.guest_rules.proofs.Ready.Ready.{has_shows}
use Rattle.guest_rules.proofs.Fit.FitMay.{infos-pages}
use Rattle.guest_rules.proofs.Fit.FitChanged.{TableStep, step-same, FitAt-step}

-- what a page holds, and who may use it, is as it was, but that it may be dirty now
pub record KeepsPage (old info : PageInfo) : Type 0 where
  pub tag : info.tag ≡ old.tag
  pub uptodate : info.uptodate ≡ old.uptodate
  pub dirty : info.dirty ≡ false → old.dirty ≡ false
  pub owner : info.owner ≡ old.owner

pub KeepsPage-refl : (info : PageInfo) → KeepsPage info info
KeepsPage-refl info = record { tag = refl; uptodate = refl; dirty = λ e. e; owner = refl }

-- where the change bit moved to
pub record IsChanged (info : PageInfo) (changed : Bool) (new : PageInfo) : Type 0 where
  pub tag : new.tag ≡ info.tag
  pub uptodate : new.uptodate ≡ info.uptodate
  pub owner : new.owner ≡ info.owner
  pub pins : new.pins ≡ info.pins
  pub writers : new.writers ≡ info.writers
  pub clean : new.dirty ≡ false → (info.dirty ≡ false) × (changed ≡ false)

pub is_changed : (info : PageInfo) (changed : Bool) → IsChanged info changed (changed_info changed info)
is_changed info true = record { tag = refl; uptodate = refl; owner = refl; pins = refl; writers = refl; clean = λ e. let bad : true ≡ false = e in absurd cc }
is_changed info false = record { tag = refl; uptodate = refl; owner = refl; pins = refl; writers = refl; clean = λ e. (e, refl) }

bytes-stand : (contents : Contents) (usage : Usage) → is_blank contents ≡ false → is_lost contents ≡ false → StandsWith contents usage false
bytes-stand (Bytes bytes) usage blank lost = tt
bytes-stand Blank usage blank lost = let bad : true ≡ false = blank in absurd cc
bytes-stand Lost usage blank lost = let bad : true ≡ false = lost in absurd cc

pub not_lost : (contents : Contents) (value : PageValue) → value.contents ≡ contents → is_lost contents ≡ false → one_if_lost value ≡ 0
not_lost (Bytes bytes) value e there = rw (e, one_if_lost) refl
not_lost Blank value e there = rw (e, one_if_lost) refl
not_lost Lost value e there = let bad : true ≡ false = there in absurd cc

-- an anonymous page that an entry allows stores to is dirty or has a swap slot
abbrev pub IsWrittenBy : CacheView → PageInfo → Type 0
IsWrittenBy cache info = (slot index : ℕ) → info.tag ≡ Some (Anon slot index) → 1 ≤ info.writers → IsDirtyOrSlotted cache info slot index

-- also after its change bit has moved into what is known of it
pub written_by-changed : (cache : CacheView) (info : PageInfo) (changed : Bool) → IsWrittenBy cache info → IsWrittenBy cache (changed_info changed info)
written_by-changed cache info true was slot index e some = inl refl
written_by-changed cache info false was slot index e some = was slot index e some

-- a page that is up to date, found there and left with its hint; where it is clean it has what backs its tag
pub PageFits-settled : (cache : CacheView) (d : DiskView) (old new : PageInfo) (found : PageValue) (tag : Tag) → PageFits cache d old found → new.tag ≡ old.tag → old.tag ≡ Some tag
    → old.uptodate ≡ true → is_lost found.contents ≡ false
    → (new.dirty ≡ false → found.contents ≡ Bytes (backing cache d tag)) → IsWrittenBy cache new → PageFits cache d new (record found { usage = hint new; changed = false })
PageFits-settled cache d old new found tag s tags tagged uptodate there clean writers = record {
  is_value = bytes-stand found.contents (hint new) (s.not_blank tag tagged uptodate) there;
  hinted = refl;
  volatile = λ u. refl;
  unused = λ u. refl;
  not_blank = λ t e u. s.not_blank t (sym tags ∙ e) uptodate;
  whole = λ t all e u are. s.whole t all (sym tags ∙ e) uptodate are;
  written = λ slot index e some. by_writers slot index e some;
  same = λ t e u c unchanged kept. clean c ∙ ap (λ (x : Tag). Bytes (backing cache d x)) (let both : Some tag ≡ Some t = sym tagged ∙ sym tags ∙ e in cc);
}
  where
    by_writers : (slot index : ℕ) → new.tag ≡ Some (Anon slot index) → (false ≡ true) ⊎ (1 ≤ new.writers) → IsDirtyOrSlotted cache new slot index
    by_writers slot index e (inl bad) = absurd (cc bad)
    by_writers slot index e (inr some) = writers slot index e some

PageFits-told : (cache : CacheView) (d : DiskView) (old info new : PageInfo) (found : PageValue) (tag : Tag) → PageFits cache d old found → KeepsPage old info → IsChanged info found.changed new
    → old.tag ≡ Some tag → old.uptodate ≡ true
    → is_lost found.contents ≡ false → IsWrittenBy cache info → PageFits cache d new (record found { usage = hint new; changed = false })
PageFits-told cache d old info new found tag s keeps changed tagged uptodate there writers =
    PageFits-settled cache d old new found tag s (changed.tag ∙ keeps.tag) tagged uptodate there
    (λ clean. let k = changed.clean clean in s.same tag tagged uptodate (keeps.dirty k.0) k.1 there)
    (λ slot index e some. still_written slot index new.dirty refl (writers slot index (sym changed.tag ∙ e) (rw changed.writers at some)))
  where
    still_written : (slot index : ℕ) (b : Bool) → new.dirty ≡ b → IsDirtyOrSlotted cache info slot index → IsDirtyOrSlotted cache new slot index
    still_written slot index true e was = inl e
    still_written slot index false e (inl dirty) = let bad : true ≡ false = sym dirty ∙ (changed.clean e).0 in absurd cc
    still_written slot index false e (inr some) = inr some

-- the tables between, in which at most the page's writers and pins changed, and the flat state that they fit
pub record Middle (state later : FlatState) (g : GuestState) (middle : Parts) (page : ℕ) : Type 0 where
  pub files : later.files ≡ state.files
  pub own : KeepsOwn state later
  pub sound : IsSound later
  pub only : OnlyPages g.parts middle
  pub change : InfoChange g.parts.pages middle.pages page (info_at middle.pages page)
  pub keeps : KeepsPage (info_at g.parts.pages page) (info_at middle.pages page)
  pub slots : SlotsFit later middle
  pub entries : EntriesFit middle
  pub torn : KeepsTorn g.parts.maps middle.maps
  pub mappings : middle.maps.slots ≡ g.parts.maps.slots
  pub written : IsWrittenBy g.parts.cache (info_at middle.pages page)
  pub pins : PinsFit middle

-- the page was found there, and left so
record IsTold (middle : Parts) (page : ℕ) (found left : PageValue) : Type 0 where
  there : is_lost found.contents ≡ false
  value : left ≡ record found { usage = hint (info_at (with_change middle page found.changed).pages page); changed = false }

-- another flat state with the same bytes
FlatFit-bytes : (state later : FlatState) (g : GuestState) (v : StorageView) (d : DiskView) → FlatFit state g v d → later.files ≡ state.files → KeepsOwn state later → IsSound later
    → FlatFit later g v d
FlatFit-bytes state later g v d f files own sound = record { lengths = rw files f.lengths; sound = sound; pages = λ tag is. flat_page-kept state later g.parts tag files own is ∙ f.pages tag is }

Fit-changed : (state later : FlatState) (g : GuestState) (v : StorageView) (d : DiskView) (w : StorageView) (e : DiskView) (page : ℕ) (tag : Tag) (found : PageValue) (middle : Parts)
    → FitAt state g v d → ShowsPage g tag page → GivenBack page v d w e
    → MayBecome (v.values page) found → Middle state later g middle page → IsTold middle page found (w.values page) → FitAt later (with_parts g (with_change middle page found.changed)) w e
Fit-changed state later g v d w e page tag found middle f has back may mid told =
    FitAt-step state later g v d h w e 0 page 0 (processor_at g 0).phase new f step
    (PagesFit-kept g.parts after page new tag f.pages has.tagged (tags ∙ has.tagged) (only.free ∙ mid.only.free) change cache)
    (SlotsFit-kept later later middle after mid.slots refl (ap (λ m. m.slots) maps) (ap (λ m. length m.entries) maps) (ap (λ m. m.pinned) maps) (ap (λ m. m.pages) maps) last.size
    (ap (λ (c : CacheView). c.files) only.cache))
    (EntriesFit-info middle after page new mid.entries last maps (λ t t_is u. (changed.tag ∙ t_is, changed.uptodate ∙ u)) changed.writers)
    (LocksFit-kept g h page new f.locks refl refl change tags (changed.owner ∙ mid.keeps.owner) uptodates (λ u. let bad : true ≡ false = sym uptodate ∙ sym uptodates ∙ u in cc)
    (blocks-kept g.parts.cache h.parts.cache cache))
    (FlatFit-same later g h v w d e (FlatFit-bytes state later g v d f.flat mid.files mid.own mid.sound) refl (ap (λ (c : CacheView). c.files) cache) (ap (λ (c : CacheView). c.slots) cache) slots
    (current-kept g.parts after v w d e page (step-same state g v d h w e 0 page (processor_at g 0).phase new f step) cache here))
    (record { handled = omega (arith, only.faults, mid.only.faults); counted = rw told.value (omega (arith, may-faults (v.values page) found may, not_lost found.contents found refl told.there)) })
  where
    after : Parts
    after = with_change middle page found.changed

    h : GuestState
    h = with_parts g after

    new : PageInfo
    new = changed_info found.changed (info_at middle.pages page)

    changed : IsChanged (info_at middle.pages page) found.changed new
    changed = is_changed (info_at middle.pages page) found.changed

    only : OnlyPages middle after
    only = only-changed middle page found.changed

    maps : after.maps ≡ middle.maps
    maps = maps-changed middle page found.changed

    cache : after.cache ≡ g.parts.cache
    cache = only.cache ∙ mid.only.cache

    last : InfoChange middle.pages after.pages page new
    last = change-changed middle page found.changed (rw mid.change.size has.below)

    change : InfoChange g.parts.pages after.pages page new
    change = InfoChange-trans g.parts.pages middle.pages after.pages page (info_at middle.pages page) new mid.change last

    slots : after.maps.slots ≡ g.parts.maps.slots
    slots = ap (λ m. m.slots) maps ∙ mid.mappings

    tags : new.tag ≡ (info_at g.parts.pages page).tag
    tags = changed.tag ∙ mid.keeps.tag

    uptodates : new.uptodate ≡ (info_at g.parts.pages page).uptodate
    uptodates = changed.uptodate ∙ mid.keeps.uptodate

    uptodate : (info_at g.parts.pages page).uptodate ≡ true
    uptodate = has.uptodate

    below : page < v.pages
    below = rw (infos-pages g v d f.sizes) at has.below

    before : PageFits g.parts.cache d (info_at g.parts.pages page) (v.values page)
    before = (EachPageFits-from g.parts v d (infos-pages g v d f.sizes) f.tags f.hints f.contents).each page below

    fits : PageFits g.parts.cache d new (w.values page)
    fits =
        let s = PageFits-told g.parts.cache d (info_at g.parts.pages page) (info_at middle.pages page) new found tag
        (PageFits-may g.parts.cache d (info_at g.parts.pages page) (v.values page) found before may) mid.keeps changed has.tagged uptodate told.there mid.written in
        subst (λ (x : PageValue). PageFits g.parts.cache d new x) (sym (told.value ∙ ap (λ (i : PageInfo). let x : PageValue = record found { usage = hint i; changed = false } in x) last.here)) s

    contents : (w.values page).contents ≡ found.contents
    contents = ap (λ (x : PageValue). x.contents) told.value

    here : (t : Tag) → (info_at g.parts.pages page).tag ≡ Some t
        → current_bytes (info_at after.pages page).uptodate (w.values page).contents (backing g.parts.cache d t)
        ≡ current_bytes (info_at g.parts.pages page).uptodate (v.values page).contents (backing g.parts.cache d t)
    here t e =
        ap (λ u. current_bytes u (w.values page).contents (backing g.parts.cache d t)) (ap (λ (i : PageInfo). i.uptodate) change.here ∙ uptodates)
        ∙ ap (λ c. current_bytes (info_at g.parts.pages page).uptodate c (backing g.parts.cache d t)) contents
        ∙ current_bytes-may g.parts.cache d (info_at g.parts.pages page) (v.values page) found t before e may

    step : TableStep g v d h w e 0 page (processor_at g 0).phase new
    step = record {
      back = back;
      below = below;
      plan = refl;
      journal = refl;
      files = ap (λ (c : CacheView). c.files) cache;
      swap = ap (λ (c : CacheView). c.swap) cache;
      slots = ap (λ (c : CacheView). c.slots) cache;
      index = ap (λ (c : CacheView). length c.index) cache;
      info_change = change;
      phase_change = change-nothing g.processors 0 (processor_at g 0).phase refl;
      torn = subst (KeepsTorn g.parts.maps) (sym maps) mid.torn;
      untagged = untagged-same g.parts after.cache cache;
      mappings = slots;
      used = λ t e. f.tags.pages page t (sym tags ∙ e);
      pins = PinsFit-info middle after page new mid.pins last only.cache (record { slots = ap (λ m. m.slots) maps; pinned = ap (λ m. m.pinned) maps }) changed.tag changed.pins
          (λ u. changed.uptodate ∙ u);
      fits = fits;
    }

-- the page, which may be locked, was found there, and its hint was told over the tables between
pub Fit-told : (state later : FlatState) (g : GuestState) (v : StorageView) (d : DiskView) (w : StorageView) (e : DiskView) (page : ℕ) (tag : Tag) (found : PageValue) (middle after : Parts)
    → FitAt state g v d → ShowsPage g tag page → GivenBack page v d w e
    → MayBecome (v.values page) found → Middle state later g middle page → IsRehinted middle page found after (w.values page) → FitAt later (with_parts g after) w e
Fit-told state later g v d w e page tag found middle after f has back may mid told =
    subst (λ (q : Parts). FitAt later (with_parts g q) w e) (sym told.tables)
    (Fit-changed state later g v d w e page tag found middle f has back may mid
    (record { there = told.there; value = told.value ∙ ap (λ (q : Parts). let x : PageValue = record found { usage = hint (info_at q.pages page); changed = false } in x) told.tables }))

-- the tables themselves
pub Fit-rehinted : (state : FlatState) (g : GuestState) (v : StorageView) (d : DiskView) (w : StorageView) (e : DiskView) (page : ℕ) (tag : Tag) (found : PageValue) (after : Parts)
    → FitAt state g v d → HasPage g tag page → GivenBack page v d w e
    → MayBecome (v.values page) found → IsRehinted g.parts page found after (w.values page) → FitAt state (with_parts g after) w e
Fit-rehinted state g v d w e page tag found after f has back may told =
    Fit-told state state g v d w e page tag found g.parts after f (has_shows state g v d page tag f has) back may (record {
      files = refl;
      own = λ process number. refl;
      sound = f.flat.sound;
      only = record { free = refl; cache = refl; faults = refl };
      change = record { size = refl; here = refl; others = λ i n. refl };
      keeps = KeepsPage-refl (info_at g.parts.pages page);
      slots = f.slots;
      entries = f.entries;
      torn = keeps_torn-same g.parts.maps g.parts.maps refl;
      mappings = refl;
      written = λ slot index e some. f.tags.written page slot index (rw (infos-pages g v d f.sizes) at has.below) e (inr some);
      pins = f.pins;
    })
    told
