-- Fit after a page with a tag was freed: handled after a discard, given up after a failure, or clean where room is made.
use Rattle.std.proofs.Common.{◌≡◌, ◌<◌, ◌≤◌, ◌+◌, ℕ, true, false, length, Some, None, refl, ap, sym, ◌∙◌, inl, inr, subst, position, arith}
use Rattle.cmm_types.specs.declared.page.Tag.{Tag}
use Rattle.cmm_types.specs.declared.page.Tag.TheVariants.{Anon}
use Rattle.cmm_types.specs.declared.command.TheConstants.{MAX_MAPPING_PAGES}
use Rattle.cmm_io.specs.DiskView.{DiskView}
use Rattle.cmm_flat.specs.State.{FlatState}
use Rattle.essa_state.specs.PageValue.{PageValue, Contents, Bytes, Blank, Lost, IsMadeUnused, MayBecome, is_lost}
use Rattle.cmm_storage.specs.StorageView.{StorageView}
use Rattle.guest_pages.specs.PagesView.{PagesView, info_at, free_info}
use Rattle.guest_maps.specs.MapsView.{MapsView, slot_at, pinned_at, tag_of, without_entries_of}
use Rattle.guest_maps.specs.declared.slot.Slot.{Slot}
use Rattle.guest_maps.specs.declared.slot.Shown.{Shown}
use Rattle.guest_maps.specs.declared.slot.Shown.TheVariants.{File as OfFile, Anon as OfItsOwn}
use Rattle.guest_cache.specs.CacheView.{page_of, holds_page}
use Rattle.guest_maps.specs.Laws.MapsLaws.{slots-without_entries_of, pinned-without_entries_of, pages-without_entries_of}
use Rattle.guest_rules.specs.declared.processor.Phase.{Phase}
use Rattle.guest_rules.specs.declared.processor.Phase.TheVariants.{Start, Fill}
use Rattle.guest_rules.specs.GuestState.{GuestState, processor_at, with_parts, with_phase}
use Rattle.guest_rules.specs.Rows.{freed, handled}
use Rattle.guest_rules.specs.MakeRoom.{behind}
use Rattle.guest_rules.specs.declared.parts.Parts.{Parts}
use Rattle.guest_rules.specs.Fit.{LocksFit, FitAt, IsFlatTag, backing, current_bytes, one_if_lost}
use Rattle.guest_rules.proofs.Cases.TurnCases.{GivenBack, HasPage}
use Rattle.guest_rules.proofs.Rows.ValueLaws.{may-faults, lost_of}
use Rattle.guest_rules.proofs.Kept.Changes.{InfoChange, IndexChange, PhaseChange, teardown_of, change-without_page, change-with_phase, change-nothing, cases_tag}
use Rattle.guest_rules.proofs.Kept.RowChanges.{change-freed, freed-free, freed-cache, freed-faults, freed-maps, handled-pages, handled-cache, handled-maps}
use Rattle.guest_rules.proofs.Kept.PageFits.{PageFits, PageFits-free, PageFits-may, EachPageFits-from}
use Rattle.guest_rules.proofs.Kept.Currents.{current_bytes-may, current_bytes-stale, current_bytes-lost}
use Rattle.guest_rules.proofs.Kept.PagesKept.{PagesFit-freed}
use Rattle.guest_rules.proofs.Kept.LocksKept.{KeepsBlocks, blocks-same, LockInfo, LocksFit-released, LocksFit-unlocked}
use Rattle.guest_rules.proofs.Kept.EntryLaws.{length-without}
use Rattle.guest_rules.proofs.Kept.SlotsKept.{SlotsFit-kept}
use Rattle.guest_rules.proofs.Kept.PinsKept.{SamePlaces, PinsFit-freed}
use Rattle.guest_rules.proofs.Kept.TeardownsKept.{KeepsTorn, keeps_torn-without}
use Rattle.guest_rules.proofs.Kept.FlatTags.{own-is_tag, never_live}
use Rattle.guest_rules.proofs.Kept.PinLaws.{pins_within-none}
use Rattle.guest_rules.proofs.Cases.WantedTags.{shows_at}
use Rattle.guest_rules.proofs.Kept.Unpinned.{stale-unpinned, lost-unpinned}
use Rattle.guest_rules.proofs.Kept.EntriesKept.{EntriesFit-freed}
use Rattle.guest_rules.proofs.Kept.CurrentsKept.{current-freed, FlatFit-same}
use Rattle.guest_rules.proofs.Fit.FitMay.{infos-pages}
use Rattle.guest_rules.proofs.Fit.FitChanged.{TableStep, FaultStep, step-same, FitAt-step}

-- a page with a tag becomes a free one, whose value is unused
Fit-freed : (state : FlatState) (g : GuestState) (v : StorageView) (d : DiskView) (h : GuestState) (w : StorageView) (e : DiskView) (cpu page more : ℕ) (phase_after : Phase) (tag : Tag)
    → FitAt state g v d → GivenBack page v d w e → page < length g.parts.pages.infos
    → (info_at g.parts.pages page).tag ≡ Some tag → h.plan ≡ g.plan → h.journal ≡ g.journal → h.parts.pages ≡ (freed g.parts page).pages → h.parts.cache ≡ (freed g.parts page).cache
    → h.parts.maps ≡ (freed g.parts page).maps
    → PhaseChange g.processors h.processors cpu phase_after → PageFits g.parts.cache d free_info (w.values page)
    → (InfoChange g.parts.pages h.parts.pages page free_info → KeepsBlocks g.parts.cache h.parts.cache → LocksFit h)
    → (IsFlatTag g.parts tag → current_bytes (info_at g.parts.pages page).uptodate (v.values page).contents (backing g.parts.cache d tag) ≡ backing g.parts.cache d tag)
    → (info_at g.parts.pages page).pins ≡ 0
    → FaultStep more g v h w page → FitAt state h w e
Fit-freed state g v d h w e cpu page more phase_after tag f back within tagged plan journal pages cache maps phase fits locks behind unpinned faults =
    FitAt-step state state g v d h w e cpu page more phase_after free_info f step
    (PagesFit-freed g.parts h.parts page tag f.pages within tagged (ap (λ (p : PagesView). p.free) pages ∙ freed-free g.parts page) change index)
    (SlotsFit-kept state state g.parts h.parts f.slots refl places.slots (ap (λ (m : MapsView). length m.entries) without ∙ length-without g.parts.maps page) places.pinned
    (ap (λ (m : MapsView). m.pages) without ∙ pages-without_entries_of g.parts.maps page) change.size index.files)
    (EntriesFit-freed g.parts h.parts page f.entries change without)
    (locks change (blocks-same g.parts.cache h.parts.cache index.files index.swap))
    (FlatFit-same state g h v w d e f.flat plan index.files index.slots places.slots
    (current-freed g.parts h.parts v w d e page tag (step-same state g v d h w e cpu page phase_after free_info f step) index tagged behind)) faults
  where
    index : IndexChange g.parts.cache h.parts.cache tag None
    index = rw (cache, freed-cache g.parts page tag tagged) (change-without_page g.parts.cache tag (record { whole = f.sizes.index }) (f.pages.indexed page tag tagged).0)

    change : InfoChange g.parts.pages h.parts.pages page free_info
    change = rw pages (change-freed g.parts page within)

    without : h.parts.maps ≡ without_entries_of g.parts.maps page
    without = maps ∙ freed-maps g.parts page

    places : SamePlaces g.parts.maps h.parts.maps
    places = record {
      slots = ap (λ (m : MapsView). m.slots) without ∙ slots-without_entries_of g.parts.maps page;
      pinned = ap (λ (m : MapsView). m.pinned) without ∙ pinned-without_entries_of g.parts.maps page;
    }

    step : TableStep g v d h w e cpu page phase_after free_info
    step = record {
      back = back;
      below = rw (infos-pages g v d f.sizes) at within;
      plan = plan;
      journal = journal;
      files = index.files;
      swap = index.swap;
      slots = index.slots;
      index = index.size;
      info_change = change;
      phase_change = phase;
      torn = subst (KeepsTorn g.parts.maps) (sym without) (keeps_torn-without g.parts.maps page);
      untagged = λ s i mapping at torn below was. (
        elim (cases_tag (Anon s i) tag) [
          | inl z ↦ ap (page_of h.parts.cache) z ∙ index.here
          | inr n ↦ index.others (Anon s i) (own-is_tag state g v d f.sizes f.slots s i mapping at below) n ∙ was.0
        ],
        ap (λ tags. position (holds_page s i) tags) index.swap ∙ was.1,
      );
      mappings = places.slots;
      used = λ t e. let bad : None ≡ Some t = e in absurd cc;
      pins = PinsFit-freed state g.parts h.parts page tag f.pins f.pages f.slots f.sizes.slots tagged unpinned change index places;
      fits = fits;
    }

-- a free page isn't locked
free_lock : LockInfo free_info
free_lock = record { clean = λ u. refl; stale = λ t e none. let bad : None ≡ Some t = e in absurd cc }

-- an unused value is that of a free page, and isn't lost
PageFits-unused : (g : GuestState) (d : DiskView) (old new : PageValue) → IsMadeUnused old new → PageFits g.parts.cache d free_info new
PageFits-unused g d old new u = PageFits-free g.parts.cache d new u.usage u.changed u.stands

unused-kept : (old new : PageValue) → IsMadeUnused old new → one_if_lost new ≡ 0
unused-kept old new u = lost_of new (rw u.changed u.stands)

lost-one : (contents : Contents) (x : PageValue) → x.contents ≡ contents → is_lost contents ≡ true → one_if_lost x ≡ 1
lost-one (Bytes bytes) x e lost = absurd cc
lost-one Blank x e lost = absurd cc
lost-one Lost x e lost = rw (e, one_if_lost) refl

handled-faults : (g : GuestState) (page : ℕ) → (handled g.parts page).faults ≤ g.parts.faults + 1
unfolding handled
handled-faults g page = omega arith

-- a discarded page is handled
pub Fit-gone : (state : FlatState) (g : GuestState) (v : StorageView) (d : DiskView) (w : StorageView) (e : DiskView) (tag : Tag) (page : ℕ) (found : PageValue) → FitAt state g v d
    → HasPage g tag page → GivenBack page v d w e → MayBecome (v.values page) found → is_lost found.contents ≡ true → IsMadeUnused found (w.values page)
    → FitAt state (with_parts g (handled g.parts page)) w e
Fit-gone state g v d w e tag page found f has back may lost unused =
    Fit-freed state g v d (with_parts g (handled g.parts page)) w e 0 page 1 (processor_at g 0).phase tag f back has.below has.tagged refl refl (handled-pages g.parts page)
    (handled-cache g.parts page) (handled-maps g.parts page)
    (change-nothing g.processors 0 (processor_at g 0).phase refl) (PageFits-unused g d found (w.values page) unused)
    (λ change blocks. LocksFit-unlocked g (with_parts g (handled g.parts page)) page free_info f.locks refl refl change has.unlocked refl free_lock blocks) (λ flat. behind)
    (lost-unpinned state g v d page tag found f has.below has.tagged may lost)
    (record {
      handled = handled-faults g page;
      counted = omega
          (arith, may-faults (v.values page) found may, lost-one found.contents found refl lost, unused-kept found (w.values page) unused, unused.count);
    })
  where
    fits : PageFits g.parts.cache d (info_at g.parts.pages page) (v.values page)
    fits = (EachPageFits-from g.parts v d (infos-pages g v d f.sizes) f.tags f.hints f.contents).each page (rw (infos-pages g v d f.sizes) at has.below)

    behind : current_bytes (info_at g.parts.pages page).uptodate (v.values page).contents (backing g.parts.cache d tag) ≡ backing g.parts.cache d tag
    behind =
        sym (current_bytes-may g.parts.cache d (info_at g.parts.pages page) (v.values page) found tag fits has.tagged may)
        ∙ current_bytes-lost (info_at g.parts.pages page).uptodate found.contents (backing g.parts.cache d tag) lost

-- the hand is no part of fit
behind-pages : (parts : Parts) (page : ℕ) → (behind parts page).pages ≡ parts.pages
unfolding behind
behind-pages parts page = refl

behind-cache : (parts : Parts) (page : ℕ) → (behind parts page).cache ≡ parts.cache
unfolding behind
behind-cache parts page = refl

behind-maps : (parts : Parts) (page : ℕ) → (behind parts page).maps ≡ parts.maps
unfolding behind
behind-maps parts page = refl

behind-faults : (parts : Parts) (page : ℕ) → (behind parts page).faults ≡ parts.faults
unfolding behind
behind-faults parts page = refl

-- state the flat machine's state, g the guest, v its storage, d its disk
module _ (state : FlatState) (g : GuestState) (v : StorageView) (d : DiskView) where
  -- a clean page that isn't pinned is freed to make room: its block has its bytes
  pub Fit-cleared : (w : StorageView) (e : DiskView) (tag : Tag) (page : ℕ) (found : PageValue) → FitAt state g v d → HasPage g tag page → (info_at g.parts.pages page).pins ≡ 0
      → GivenBack page v d w e → MayBecome (v.values page) found → is_lost found.contents ≡ false → found.changed ≡ false → (info_at g.parts.pages page).dirty ≡ false
      → IsMadeUnused found (w.values page) → FitAt state (with_parts g (behind (freed g.parts page) page)) w e
  Fit-cleared w e tag page found f has unpinned back may there unchanged clean unused =
      Fit-freed state g v d (with_parts g after) w e 0 page 0 (processor_at g 0).phase tag f back has.below has.tagged refl refl (behind-pages (freed g.parts page) page)
      (behind-cache (freed g.parts page) page) (behind-maps (freed g.parts page) page)
      (change-nothing g.processors 0 (processor_at g 0).phase refl) (PageFits-unused g d found (w.values page) unused)
      (λ change blocks. LocksFit-unlocked g (with_parts g after) page free_info f.locks refl refl change has.unlocked refl free_lock blocks) (λ flat. backed) unpinned
      (record {
        handled = omega (arith, behind-faults (freed g.parts page) page, freed-faults g.parts page);
        counted = omega (arith, may-faults (v.values page) found may, unused-kept found (w.values page) unused, unused.count);
      })
    where
      after : Parts
      after = behind (freed g.parts page) page

      uptodate : (info_at g.parts.pages page).uptodate ≡ true
      uptodate = f.locks.stale page tag has.tagged has.unlocked

      fits : PageFits g.parts.cache d (info_at g.parts.pages page) (v.values page)
      fits = (EachPageFits-from g.parts v d (infos-pages g v d f.sizes) f.tags f.hints f.contents).each page (rw (infos-pages g v d f.sizes) at has.below)

      -- the page has what its block has
      same : found.contents ≡ Bytes (backing g.parts.cache d tag)
      same = (PageFits-may g.parts.cache d (info_at g.parts.pages page) (v.values page) found fits may).same tag has.tagged uptodate clean unchanged there

      backed : current_bytes (info_at g.parts.pages page).uptodate (v.values page).contents (backing g.parts.cache d tag) ≡ backing g.parts.cache d tag
      backed =
          sym (current_bytes-may g.parts.cache d (info_at g.parts.pages page) (v.values page) found tag fits has.tagged may)
          ∙ ap (λ u. current_bytes u found.contents (backing g.parts.cache d tag)) uptodate
          ∙ ap (λ c. current_bytes true c (backing g.parts.cache d tag)) same

  -- nothing that is pinned maps a page of a mapping that is torn down
  torn-unpinned : (page slot index : ℕ) (mapping : Slot) → FitAt state g v d → slot_at g.parts.maps slot ≡ Some mapping → mapping.live ≡ false
      → (info_at g.parts.pages page).tag ≡ Some (Anon slot index) → (info_at g.parts.pages page).pins ≡ 0
  torn-unpinned page slot index mapping f at torn tagged =
      f.pins.counted page (Anon slot index) tagged
      ∙ pins_within-none g.parts.maps (Anon slot index) (length g.parts.maps.slots) MAX_MAPPING_PAGES
      (λ s i lt pinned mapped.
      let k = shows_at state g.parts s i (Anon slot index) f.slots mapped in
      let same : slot ≡ s = own_slot k.mapping.shown s i slot index k.is in
      let bad : false ≡ true = sym (f.teardowns.unpinned slot i mapping at torn lt) ∙ ap (λ x. pinned_at g.parts.maps x i) same ∙ pinned in cc)
    where
      own_slot : (shown : Shown) (s i slot index : ℕ) → Anon slot index ≡ tag_of shown s i → slot ≡ s
      own_slot (OfFile file first writable) s i slot index e = absurd (cc e)
      own_slot OfItsOwn s i slot index e = cc

  -- a page is taken off a mapping of pages of its own that is torn down: its bytes go with it
  pub Fit-torn_off : (w : StorageView) (e : DiskView) (slot index page : ℕ) (mapping : Slot) (found : PageValue) → FitAt state g v d → slot_at g.parts.maps slot ≡ Some mapping → mapping.live ≡ false
      → HasPage g (Anon slot index) page → GivenBack page v d w e → MayBecome (v.values page) found → IsMadeUnused found (w.values page) → FitAt state (with_parts g (freed g.parts page)) w e
  Fit-torn_off w e slot index page mapping found f at torn has back may unused =
      Fit-freed state g v d (with_parts g (freed g.parts page)) w e 0 page 0 (processor_at g 0).phase (Anon slot index) f back has.below has.tagged refl refl refl refl refl
      (change-nothing g.processors 0 (processor_at g 0).phase refl) (PageFits-unused g d found (w.values page) unused)
      (λ change blocks. LocksFit-unlocked g (with_parts g (freed g.parts page)) page free_info f.locks refl refl change has.unlocked refl free_lock blocks)
      (λ flat. absurd (never_live g.parts slot index mapping at torn flat)) (torn-unpinned page slot index mapping f at torn has.tagged)
      (record {
        handled = omega (arith, freed-faults g.parts page);
        counted = omega (arith, may-faults (v.values page) found may, unused-kept found (w.values page) unused, unused.count);
      })

  -- a page that couldn't be filled is free, and its processor is in phase Start
  pub Fit-given_up : (w : StorageView) (e : DiskView) (cpu page : ℕ) → FitAt state g v d → cpu < length g.processors → (processor_at g cpu).phase ≡ Fill page → GivenBack page v d w e
      → IsMadeUnused (v.values page) (w.values page) → FitAt state (with_phase (with_parts g (freed g.parts page)) cpu Start) w e
  unfolding with_phase
  Fit-given_up w e cpu page f below phase back unused =
      let k = (f.locks.filling cpu page phase).1 in
      let phases = change-with_phase g.processors cpu Start below (ap teardown_of (sym phase)) in
      Fit-freed state g v d (with_phase (with_parts g (freed g.parts page)) cpu Start) w e cpu page 0 Start k.tag f back k.below k.tagged refl refl refl refl refl
      phases
      (PageFits-unused g d (v.values page) (w.values page) unused)
      (λ change blocks. LocksFit-released g (with_phase (with_parts g (freed g.parts page)) cpu Start) cpu page free_info f.locks refl change phases refl
      (inl phase) free_lock blocks)
      (λ flat. current_bytes-stale (info_at g.parts.pages page).uptodate (v.values page).contents (backing g.parts.cache d k.tag) k.stale)
      (stale-unpinned g.parts page k.tag f.pins f.pages k.tagged k.stale)
      (record { handled = omega (arith, freed-faults g.parts page); counted = omega (arith, unused-kept (v.values page) (w.values page) unused, unused.count) })
