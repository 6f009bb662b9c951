-- Fit after a swap slot was assigned to the tag of a dirty page, or isn't any more that of a page that was taken off its mapping.
use Rattle.std.proofs.Common.{◌≡◌, ◌≢◌, ◌⊎◌, ◌<◌, ℕ, Bool, true, false, List, length, Option, Some, None, is_none, refl, ap, sym, ◌∙◌, inl, inr, subst, length-set}
use Rattle.std.proofs.lemmas.Bool.{cases_eq}
use Rattle.std.proofs.lemmas.List.Quantifiers.{position-Some}
use Rattle.std.proofs.lemmas.Option.{same_Some}
use Rattle.cmm_types.specs.declared.page.Tag.{Tag}
use Rattle.cmm_types.specs.declared.page.Tag.TheVariants.{File, Anon}
use Rattle.cmm_io.specs.DiskView.{DiskView}
use Rattle.cmm_flat.specs.State.{FlatState}
use Rattle.essa_state.specs.PageValue.{Contents, Bytes, Blank, Lost, is_lost}
use Rattle.cmm_storage.specs.StorageView.{StorageView}
use Rattle.guest_pages.specs.PagesView.{info_at}
use Rattle.guest_cache.specs.CacheView.{CacheView, page_of, IsAnonymous, swap_slot, swap_block, free_swap, assigned, unassigned, backing_of}
use Rattle.guest_maps.specs.declared.slot.Slot.{Slot}
use Rattle.guest_maps.specs.MapsView.{slot_at}
use Rattle.guest_rules.specs.GuestState.{GuestState, with_parts}
use Rattle.guest_rules.specs.Rows.{released}
use Rattle.guest_rules.specs.MakeRoom.{with_swap_slot}
use Rattle.guest_rules.specs.Fit.{FitAt, IsSyncing, IsFlatTag, IsUsedTag, backed, backing, current, current_at, current_bytes, IsUntagged}
use Rattle.guest_rules.proofs.Rows.ValueLaws.{hint-dirty}
use Rattle.guest_rules.proofs.Rows.Values.{stable_there}
use Rattle.guest_rules.proofs.Kept.Changes.{IsTag-same, cases_tag}
use Rattle.guest_rules.proofs.Kept.PageFits.{IsDirtyOrSlotted, tagged-below}
use Rattle.guest_rules.proofs.Kept.SwapLaws.{SwapChange, swap_tag, swap-here, swap-others, page_of-swapped, swap_slot-is, swap_slot-nowhere}
use Rattle.guest_rules.proofs.Kept.SwapLaws.{swap_slot-other, swap_slot-released, backing_of-other, distinct-assigned, distinct-released, kept-slot}
use Rattle.guest_rules.proofs.Kept.SlotsKept.{SlotsFit-kept}
use Rattle.guest_rules.proofs.Kept.TagsKept.{TagsStand}
use Rattle.guest_rules.proofs.Kept.FlatTags.{IsFlatTag-same, never_live}
use Rattle.guest_rules.proofs.Kept.TeardownsKept.{KeepsUntagged, keeps_tearing-all, keeps_torn-same, TeardownsFit-kept}
use Rattle.guest_rules.proofs.Kept.Untagged.{untagged-unassigned}
use Rattle.guest_rules.proofs.Fit.FitMay.{infos-pages}

abbrev with_cache : GuestState → CacheView → GuestState
with_cache g cache = with_parts g (record g.parts { cache = cache })

-- other swap slots, where each page's tag has the block that it had, or had none and the page is dirty
pub record SwapStep (g : GuestState) (v : StorageView) (d : DiskView) (cache : CacheView) : Type 0 where
  pub files : cache.files ≡ g.parts.cache.files
  pub slots : cache.slots ≡ g.parts.cache.slots
  pub index : cache.index ≡ g.parts.cache.index
  pub size : length cache.swap ≡ length g.parts.cache.swap
  pub backs : (page : ℕ) (tag : Tag) → (info_at g.parts.pages page).tag ≡ Some tag
      → (backing_of cache tag ≡ backing_of g.parts.cache tag) ⊎ (((info_at g.parts.pages page).dirty ≡ true) × (backing_of g.parts.cache tag ≡ None))
  pub currents : (tag : Tag) → IsFlatTag g.parts tag → current (record g.parts { cache = cache }) v d tag ≡ current g.parts v d tag
  pub untagged : KeepsUntagged g.parts cache
  pub tags : TagsStand (record g.parts { cache = cache })

FitAt-swapped : (state : FlatState) (g : GuestState) (v : StorageView) (d : DiskView) (cache : CacheView) → FitAt state g v d → SwapStep g v d cache → FitAt state (with_cache g cache) v d
FitAt-swapped state g v d cache f step = record {
  sizes = record {
    range = f.sizes.range;
    infos = f.sizes.infos;
    pages = f.sizes.pages;
    processors = f.sizes.processors;
    files = step.files ∙ f.sizes.files;
    swap = step.size ∙ f.sizes.swap;
    slots = step.slots ∙ f.sizes.slots;
    index = rw (step.index, step.files, step.slots) f.sizes.index;
    blocks = f.sizes.blocks;
  };
  pages = record {
    once = f.pages.once;
    free = f.pages.free;
    stacked = f.pages.stacked;
    bare = f.pages.bare;
    indexed = λ page tag e. let k = f.pages.indexed page tag e in (IsTag-same g.parts.cache cache tag step.files step.slots k.0, same_page tag ∙ k.1);
    found = λ page tag is e. f.pages.found page tag (IsTag-same cache g.parts.cache tag (sym step.files) (sym step.slots) is) (sym (same_page tag) ∙ e);
  };
  slots = SlotsFit-kept state state g.parts h.parts f.slots refl refl refl refl refl refl step.files;
  entries = record {
    entry = λ slot index pte lt e.
        let k = f.entries.entry slot index pte lt e in record { place = k.place; tag = k.tag; mapped = k.mapped; tagged = k.tagged; uptodate = k.uptodate; writable = k.writable };
    writers = f.entries.writers;
  };
  pins = record {
    counted = f.pins.counted;
    kept = λ slot index tag lt p m. let k = f.pins.kept slot index tag lt p m in record { page = k.page; there = same_page tag ∙ k.there; uptodate = k.uptodate };
  };
  tags = record {
    pages = step.tags.pages;
    swapped = step.tags.swapped;
    distinct = step.tags.distinct;
    written = λ page slot index lt e some. written page slot index e (f.tags.written page slot index lt e some);
  };
  locks = record {
    stale_clean = f.locks.stale_clean;
    filling = λ q i e.
        let was = f.locks.filling q i e in
        (was.0, record { op = was.1.op; command = was.1.command; needs = was.1.needs; below = was.1.below; owner = was.1.owner; stale = was.1.stale; tag = was.1.tag; tagged = was.1.tagged });
    paging_out = λ q i e.
        let was = f.locks.paging_out q i e in record {
          cpu_below = was.cpu_below;
          op = was.op;
          command = was.command;
          needs = was.needs;
          below = was.below;
          owner = was.owner;
          uptodate = was.uptodate;
          tag = was.tag;
          tagged = was.tagged;
          block = was.block;
          backs = still_backed i was.tag was.block was.tagged was.backs;
        };
    syncing = λ q index e. let was = f.locks.syncing q index e in (was.0, syncing q was.0 index was.1);
    writing = λ q index i e.
        let was = f.locks.writing q index i e in
        record { file = was.file; syncing = syncing q was.file index was.syncing; below = was.below; owner = was.owner; tagged = was.tagged; uptodate = was.uptodate };
    locked = f.locks.locked;
    stale = f.locks.stale;
  };
  teardowns = TeardownsFit-kept state g h f.slots f.teardowns (keeps_tearing-all g h refl refl) (keeps_torn-same g.parts.maps g.parts.maps refl) step.untagged;
  hints = record { none_held = f.hints.none_held; values = f.hints.values; hints = f.hints.hints; volatile = f.hints.volatile; unused = f.hints.unused };
  contents = record {
    tells = f.contents.tells;
    told = f.contents.told;
    blocks = f.contents.blocks;
    not_blank = f.contents.not_blank;
    whole = f.contents.whole;
    same = λ page tag lt e u clean unchanged there. f.contents.same page tag lt e u clean unchanged there ∙ ap (λ b. Bytes b) (same_backing page tag e clean (step.backs page tag e));
  };
  flat = record {
    lengths = f.flat.lengths;
    sound = f.flat.sound;
    pages = λ tag is. let was = IsFlatTag-same h.parts g.parts tag (sym step.files) (sym step.slots) refl is in f.flat.pages tag was ∙ sym (step.currents tag was);
  };
  journal = record { legal = f.journal.legal; places = f.journal.places; within = f.journal.within; counted = f.journal.counted; ended = f.journal.ended };
  faults = f.faults;
}
  where
    h : GuestState
    h = with_cache g cache

    same_page : (tag : Tag) → page_of cache tag ≡ page_of g.parts.cache tag
    same_page tag = page_of-swapped g.parts.cache cache tag step.files step.index

    syncing : (q file index : ℕ) → IsSyncing g q file index → IsSyncing h q file index
    syncing q file index was = record { cpu_below = was.cpu_below; command = was.command; file_below = was.file_below; within = was.within }

    still_backed : (page : ℕ) (tag : Tag) (block : ℕ) → (info_at g.parts.pages page).tag ≡ Some tag → backing_of g.parts.cache tag ≡ Some block → backing_of cache tag ≡ Some block
    still_backed page tag block e at = of (step.backs page tag e)
      where
        of : (backing_of cache tag ≡ backing_of g.parts.cache tag) ⊎ (((info_at g.parts.pages page).dirty ≡ true) × (backing_of g.parts.cache tag ≡ None)) → backing_of cache tag ≡ Some block
        of (inl same) = same ∙ at
        of (inr none) = let bad : None ≡ Some block = sym none.1 ∙ at in absurd cc

    same_backing : (page : ℕ) (tag : Tag) → (info_at g.parts.pages page).tag ≡ Some tag → (info_at g.parts.pages page).dirty ≡ false
        → (backing_of cache tag ≡ backing_of g.parts.cache tag) ⊎ (((info_at g.parts.pages page).dirty ≡ true) × (backing_of g.parts.cache tag ≡ None))
        → backing g.parts.cache d tag ≡ backing cache d tag
    same_backing page tag e clean (inl same) = ap (backed d.blocks) (sym same)
    same_backing page tag e clean (inr none) = let bad : true ≡ false = sym none.0 ∙ clean in absurd cc

    written : (page slot index : ℕ) → (info_at g.parts.pages page).tag ≡ Some (Anon slot index) → IsDirtyOrSlotted g.parts.cache (info_at g.parts.pages page) slot index
        → IsDirtyOrSlotted cache (info_at g.parts.pages page) slot index
    written page slot index e (inl dirty) = inl dirty
    written page slot index e (inr some) = of (step.backs page (Anon slot index) e)
      where
        of : (backing_of cache (Anon slot index) ≡ backing_of g.parts.cache (Anon slot index))
            ⊎ (((info_at g.parts.pages page).dirty ≡ true) × (backing_of g.parts.cache (Anon slot index) ≡ None)) → IsDirtyOrSlotted cache (info_at g.parts.pages page) slot index
        of (inl same) = inr (kept-slot g.parts.cache cache slot index same some)
        of (inr none) = inl none.0

-- ---- a dirty page gets a swap slot

no_tag : (o : Option Tag) → is_none o ≡ true → o ≡ None
no_tag None e = refl
no_tag (Some tag) e = let bad : false ≡ true = e in absurd cc

-- of a page that is there what backs it doesn't count
behind-any : (uptodate : Bool) (contents : Contents) (a b : List ℕ) → uptodate ≡ true → is_lost contents ≡ false → current_bytes uptodate contents a ≡ current_bytes uptodate contents b
behind-any true (Bytes bytes) a b u there = refl
behind-any true Blank a b u there = refl
behind-any true Lost a b u there = let bad : true ≡ false = there in absurd cc
behind-any false contents a b u there = let bad : false ≡ true = u in absurd cc

-- a page that is dirty and up to date
pub record IsDirty (g : GuestState) (page : ℕ) (tag : Tag) : Type 0 where
  pub tagged : (info_at g.parts.pages page).tag ≡ Some tag
  pub uptodate : (info_at g.parts.pages page).uptodate ≡ true
  pub dirty : (info_at g.parts.pages page).dirty ≡ true

-- state the flat machine's state, g the guest, v its storage, d its disk
module _ (state : FlatState) (g : GuestState) (v : StorageView) (d : DiskView) where
  assigned-step : (page slot index number : ℕ) → FitAt state g v d → IsDirty g page (Anon slot index) → swap_slot g.parts.cache (Anon slot index) ≡ None → free_swap g.parts.cache ≡ Some number
      → SwapStep g v d (assigned g.parts.cache (Anon slot index) (Some number))
  assigned-step page slot index number f k none free = record {
    files = refl;
    slots = refl;
    index = refl;
    size = length-set old.swap number (Some tag);
    backs = λ p t e. elim (cases_tag t tag) [
      | inl z ↦ inr (ap (λ q. (info_at g.parts.pages q).dirty) (its_page p t e z) ∙ k.dirty, ap (backing_of old) z ∙ ap (λ o. backing_of_slot o) none)
      | inr n ↦ inl (backing_of-other old new t refl (others t n))
    ];
    currents = λ t is. elim (cases_tag t tag) [
      | inl z ↦ ap (current (record g.parts { cache = new }) v d) z ∙ here ∙ sym (ap (current g.parts v d) z)
      | inr n ↦
          ap (λ o. current_at g.parts v o (backing new d t)) (page_of-swapped old new t refl refl)
          ∙ ap (λ o. current_at g.parts v (page_of old t) (backed d.blocks o)) (backing_of-other old new t refl (others t n))
    ];
    untagged = λ s i mapping at torn below was. elim (cases_tag (Anon s i) tag) [
      | inl z ↦ let bad : None ≡ Some page = sym was.0 ∙ ap (page_of old) z ∙ (f.pages.indexed page tag k.tagged).1 in absurd cc
      | inr n ↦ (page_of-swapped old new (Anon s i) refl refl ∙ was.0, others (Anon s i) n ∙ was.1)
    ];
    tags = record {
      pages = f.tags.pages;
      swapped = λ other t e. elim (cases_eq other number) [
        | inl z ↦
            let both : Some tag ≡ Some t = sym (swap-here old new number (Some tag) change) ∙ ap (swap_tag new) (sym z) ∙ e in
            subst (λ x. IsAnonymous x × IsUsedTag g.parts.maps x) (same_Some _ _ both) (tt, f.tags.pages page tag k.tagged)
        | inr n ↦ f.tags.swapped other t (sym (swap-others old new number (Some tag) change other n) ∙ e)
      ];
      distinct = distinct-assigned old new number tag change f.tags.distinct (λ other e. swap_slot-nowhere old slot index other none e);
    };
  }
    where
      tag : Tag
      tag = Anon slot index

      old : CacheView
      old = g.parts.cache

      new : CacheView
      new = assigned old tag (Some number)

      backing_of_slot : Option ℕ → Option ℕ
      backing_of_slot o = swap_block old.files o

      is_free : (number < length old.swap) × (is_none (swap_tag old number) ≡ true)
      is_free = let at = position-Some is_none old.swap number None free in (at.0, at.1)

      change : SwapChange old new number (Some tag)
      change = record { below = is_free.0; files = refl; slots = refl; index = refl; swap = refl }

      its_page : (p : ℕ) (t : Tag) → (info_at g.parts.pages p).tag ≡ Some t → t ≡ tag → p ≡ page
      its_page p t e z = same_Some p page (sym (f.pages.indexed p t e).1 ∙ ap (page_of old) z ∙ (f.pages.indexed page tag k.tagged).1)

      others : (t : Tag) → t ≢ tag → swap_slot new t ≡ swap_slot old t
      others t n =
          swap_slot-other old new number (Some tag) t change (λ e. let bad : None ≡ Some t = sym (no_tag (swap_tag old number) is_free.1) ∙ e in cc) (λ e. n (sym (same_Some _ _ e)))

      below : page < v.pages
      below = rw (infos-pages g v d f.sizes) at (tagged-below g.parts.pages page tag k.tagged)

      there : is_lost (v.values page).contents ≡ false
      there = stable_there (v.values page) (f.hints.hints page below ∙ hint-dirty (info_at g.parts.pages page) tag k.tagged k.dirty) (f.hints.values page below)

      here : current (record g.parts { cache = new }) v d tag ≡ current g.parts v d tag
      here =
          ap (λ o. current_at g.parts v o (backing new d tag)) (page_of-swapped old new tag refl refl ∙ (f.pages.indexed page tag k.tagged).1)
          ∙ behind-any (info_at g.parts.pages page).uptodate (v.values page).contents (backing new d tag) (backing old d tag) k.uptodate there
          ∙ ap (λ o. current_at g.parts v o (backing old d tag)) (sym (f.pages.indexed page tag k.tagged).1)

  -- a swap slot is assigned to an anonymous page's tag where it has none and one is free
  pub FitAt-slotted : (page : ℕ) (tag : Tag) → FitAt state g v d → IsDirty g page tag → FitAt state (with_parts g (record g.parts { cache = with_swap_slot g.parts.cache (Some tag) })) v d
  FitAt-slotted page (File file index) f k = f
  FitAt-slotted page (Anon slot index) f k = of (swap_slot g.parts.cache (Anon slot index)) refl
    where
      next : (o : Option ℕ) → swap_slot g.parts.cache (Anon slot index) ≡ None → free_swap g.parts.cache ≡ o → FitAt state (with_cache g (assigned g.parts.cache (Anon slot index) o)) v d
      next None none free = f
      next (Some number) none free =
          FitAt-swapped state g v d (assigned g.parts.cache (Anon slot index) (Some number)) f (assigned-step page slot index number f k none free)

      of : (o : Option ℕ) → swap_slot g.parts.cache (Anon slot index) ≡ o → FitAt state (with_cache g (with_swap_slot g.parts.cache (Some (Anon slot index)))) v d
      of (Some number) e =
          let w : with_swap_slot g.parts.cache (Some (Anon slot index)) ≡ g.parts.cache = rw e refl in
          subst (λ (c : CacheView). FitAt state (with_cache g c) v d) (sym w) f
      of None e =
          let w : with_swap_slot g.parts.cache (Some (Anon slot index)) ≡ assigned g.parts.cache (Anon slot index) (free_swap g.parts.cache) = rw e refl in
          subst (λ (c : CacheView). FitAt state (with_cache g c) v d) (sym w) (next (free_swap g.parts.cache) e refl)

  -- ---- a tag that no page has loses its swap slot

  released-step : (slot index number : ℕ) (mapping : Slot) → FitAt state g v d → slot_at g.parts.maps slot ≡ Some mapping → mapping.live ≡ false → page_of g.parts.cache (Anon slot index) ≡ None
      → swap_slot g.parts.cache (Anon slot index) ≡ Some number → SwapStep g v d (unassigned g.parts.cache (Some number))
  released-step slot index number mapping f at torn none has = record {
    files = refl;
    slots = refl;
    index = refl;
    size = length-set old.swap number None;
    backs = λ p t e. inl (backing_of-other old new t refl (others t (λ z. let bad : None ≡ Some p = sym none ∙ ap (page_of old) (sym z) ∙ (f.pages.indexed p t e).1 in cc)));
    currents = λ t is.
        let n : t ≢ tag = λ z. never_live g.parts slot index mapping at torn (subst (IsFlatTag g.parts) z is) in
        ap (λ o. current_at g.parts v o (backing new d t)) (page_of-swapped old new t refl refl)
        ∙ ap (λ o. current_at g.parts v (page_of old t) (backed d.blocks o)) (backing_of-other old new t refl (others t n));
    untagged = λ s i m there dead below was. elim (cases_tag (Anon s i) tag) [
      | inl z ↦ (page_of-swapped old new (Anon s i) refl refl ∙ was.0, ap (swap_slot new) z ∙ swap_slot-released old new slot index number change f.tags.distinct its)
      | inr n ↦ (page_of-swapped old new (Anon s i) refl refl ∙ was.0, others (Anon s i) n ∙ was.1)
    ];
    tags = record {
      pages = f.tags.pages;
      swapped = λ other t e. elim (cases_eq other number) [
        | inl z ↦ let bad : None ≡ Some t = sym (swap-here old new number None change) ∙ ap (swap_tag new) (sym z) ∙ e in absurd cc
        | inr n ↦ f.tags.swapped other t (sym (swap-others old new number None change other n) ∙ e)
      ];
      distinct = distinct-released old new number change f.tags.distinct;
    };
  }
    where
      tag : Tag
      tag = Anon slot index

      old : CacheView
      old = g.parts.cache

      new : CacheView
      new = unassigned old (Some number)

      its : swap_tag old number ≡ Some tag
      its = (swap_slot-is old slot index number has).1

      change : SwapChange old new number None
      change = record { below = (swap_slot-is old slot index number has).0; files = refl; slots = refl; index = refl; swap = refl }

      others : (t : Tag) → t ≢ tag → swap_slot new t ≡ swap_slot old t
      others t n = swap_slot-other old new number None t change (λ e. n (same_Some _ _ (sym e ∙ its))) (λ e. let bad : None ≡ Some t = e in cc)

  -- the swap slot of a page that was taken off its mapping is free
  pub FitAt-released : (slot index : ℕ) (mapping : Slot) → FitAt state g v d → slot_at g.parts.maps slot ≡ Some mapping → mapping.live ≡ false → page_of g.parts.cache (Anon slot index) ≡ None
      → FitAt state (with_parts g (released g.parts slot index)) v d
  unfolding released
  FitAt-released slot index mapping f at torn none = of (swap_slot g.parts.cache (Anon slot index)) refl
    where
      of : (o : Option ℕ) → swap_slot g.parts.cache (Anon slot index) ≡ o → FitAt state (with_cache g (unassigned g.parts.cache o)) v d
      of None e = f
      of (Some number) e = FitAt-swapped state g v d (unassigned g.parts.cache (Some number)) f (released-step slot index number mapping f at torn none e)

  -- then it has neither a page nor a swap slot
  pub released-untagged : (slot index : ℕ) → FitAt state g v d → page_of g.parts.cache (Anon slot index) ≡ None → IsUntagged (released g.parts slot index).cache slot index
  unfolding released
  released-untagged slot index f none = untagged-unassigned g.parts.cache slot index f.tags.distinct none
