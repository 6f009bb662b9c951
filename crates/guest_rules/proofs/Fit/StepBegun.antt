-- Fit after a free page got the tag that a command wants.
use Rattle.std.proofs.Common.{◌≡◌, ◌≢◌, ◌⊎◌, ◌<◌, ◌≤◌, ℕ, Bool, true, false, List, ◌∷◌, drop, length, Some, None, inl, inr, refl, ap, sym, ◌∙◌, subst, position, arith}
use Rattle.std.proofs.lemmas.Option.{same_Some}
use Rattle.cmm_types.specs.declared.page.Usage.TheVariants.{S, U, V}
use Rattle.cmm_types.specs.declared.page.Tag.{Tag}
use Rattle.cmm_types.specs.declared.page.Tag.TheVariants.{Anon}
use Rattle.cmm_types.specs.declared.command.Op.{Op}
use Rattle.cmm_io.specs.DiskView.{DiskView}
use Rattle.cmm_flat.specs.State.{FlatState}
use Rattle.essa_state.specs.PageValue.{PageValue, Contents, Bytes, Blank, Lost, IsValue, MayBecome, StandsWith, made_stable, stable_contents}
use Rattle.essa_state.specs.Laws.PageValueLaws.{MayBecome-is_value}
use Rattle.cmm_storage.specs.StorageView.{StorageView}
use Rattle.guest_pages.specs.declared.info.PageInfo.{PageInfo}
use Rattle.guest_pages.specs.PagesView.{info_at, free_info}
use Rattle.guest_pages.specs.Laws.PagesLaws.{Contains-first}
use Rattle.guest_cache.specs.CacheView.{IsTag, page_of, holds_page, swap_slot}
use Rattle.guest_maps.specs.declared.slot.Slot.{Slot}
use Rattle.guest_maps.specs.MapsView.{slot_at}
use Rattle.guest_rules.specs.declared.processor.Phase.TheVariants.{Fill}
use Rattle.guest_rules.specs.GuestState.{GuestState, with_parts, with_phase}
use Rattle.guest_rules.specs.Hint.{hint}
use Rattle.guest_rules.specs.Turns.{begun}
use Rattle.guest_rules.specs.Fit.{FitAt, IsFlatTag, IsUsedTag, one_if_lost}
use Rattle.guest_rules.proofs.Kept.FlatTags.{own-is_tag, never_live, flat-used}
use Rattle.guest_rules.proofs.Cases.TurnCases.{GivenBack, Starts, Wants}
use Rattle.guest_rules.proofs.Rows.ValueLaws.{hint-free, hint-stale, may-usage, may-unchanged, may-faults}
use Rattle.guest_rules.proofs.Kept.Changes.{InfoChange, IndexChange, PhaseChange, teardown_of, change-with_page, change-with_phase}
use Rattle.guest_rules.proofs.Kept.RowChanges.{begun_info, change-begun, begun-free}
use Rattle.guest_rules.proofs.Kept.PageFits.{PageFits}
use Rattle.guest_rules.proofs.Kept.PagesKept.{PagesFit-begun}
use Rattle.guest_rules.proofs.Kept.LocksKept.{blocks-same, LocksFit-begun}
use Rattle.guest_rules.proofs.Kept.SlotsKept.{SlotsFit-kept}
use Rattle.guest_rules.proofs.Kept.EntriesKept.{EntriesFit-info}
use Rattle.guest_rules.proofs.Kept.CurrentsKept.{current-begun, FlatFit-same}
use Rattle.guest_rules.proofs.Fit.FitMay.{infos-pages}
use Rattle.guest_rules.proofs.Fit.FitChanged.{TableStep, step-same, FitAt-step}
use Rattle.guest_rules.proofs.Cases.WantedTags.{IsWanted, is_wanted}
use Rattle.guest_rules.proofs.Kept.PinsKept.{PinsFit-begun}
use Rattle.guest_rules.proofs.Kept.TeardownsKept.{keeps_torn-same}
use Rattle.guest_rules.proofs.Kept.Unpinned.{begun-needs}

-- a free page is unchanged after it was made stable, where it isn't a page of bytes
stable-stands : (contents : Contents) (changed : Bool) → StandsWith contents U changed → StandsWith (stable_contents contents) S changed
stable-stands (Bytes bytes) changed h = tt
stable-stands Blank changed h = (refl, h.1)
stable-stands Lost changed h = (refl, h.1)

-- a page that was begun is neither changed nor shown
never_written : (b : Bool) → b ≡ false → (b ≡ true) ⊎ (1 ≤ 0) → ⊥
never_written b unchanged (inl changed) = let bad : false ≡ true = sym unchanged ∙ changed in cc
never_written b unchanged (inr some) = omega (arith, some)

-- a free page that was made stable
PageFits-begun : (g : GuestState) (d : DiskView) (cpu : ℕ) (tag : Tag) (found : PageValue) → found.changed ≡ false → found.usage ≡ U → IsValue found
    → PageFits g.parts.cache d (begun_info tag cpu) (made_stable found)
PageFits-begun g d cpu tag found unchanged unused is = record {
  is_value = stable-stands found.contents found.changed (rw unused at is);
  hinted = sym (hint-stale (begun_info tag cpu) tag refl refl);
  volatile = λ v. let bad : S ≡ V = v in absurd cc;
  unused = λ v. let bad : S ≡ U = v in absurd cc;
  not_blank = λ t e u. let bad : false ≡ true = u in absurd cc;
  whole = λ t all e u are. let bad : false ≡ true = u in absurd cc;
  same = λ t e u clean unchanged there. let bad : false ≡ true = u in absurd cc;
  written = λ slot index e some. absurd (never_written found.changed unchanged some);
}

stable-kept : (found : PageValue) → one_if_lost (made_stable found) ≡ 0
stable-kept found = of found.contents
  where
    of : (contents : Contents) → one_if_lost (record { usage = S; changed = false; contents = stable_contents contents; count = 0 }) ≡ 0
    of (Bytes bytes) = refl
    of Blank = refl
    of Lost = refl

pub Fit-begun : (state : FlatState) (g : GuestState) (v : StorageView) (d : DiskView) (w : StorageView) (e : DiskView) (cpu : ℕ) (op : Op) (tag : Tag) (page : ℕ) (rest : List ℕ)
    (found : PageValue) → FitAt state g v d → Starts g cpu op
    → Wants g cpu op tag → page_of g.parts.cache tag ≡ None → g.parts.pages.free ≡ page ∷ rest → GivenBack page v d w e → MayBecome (v.values page) found → w.values page ≡ made_stable found
    → FitAt state (with_phase (with_parts g (begun g.parts page tag cpu)) cpu (Fill page)) w e
unfolding with_phase begun
Fit-begun state g v d w e cpu op tag page rest found f starts wants none top back may value =
    FitAt-step state state g v d h w e cpu page 0 (Fill page) (begun_info tag cpu) f step
    (PagesFit-begun g.parts h.parts page rest (begun_info tag cpu) tag f.pages top (begun-free g.parts page tag cpu ∙ ap (drop 1) top) change index refl wanted.is_tag none)
    (SlotsFit-kept state state g.parts h.parts f.slots refl refl refl refl refl change.size index.files)
    (EntriesFit-info g.parts h.parts page (begun_info tag cpu) f.entries change refl (λ t t_is u. let bad : None ≡ Some t = sym free.1 ∙ t_is in absurd cc)
    (ap (λ (i : PageInfo). i.writers) (sym bare)))
    (LocksFit-begun g h cpu page op (begun_info tag cpu) tag f.locks refl starts.has.below within starts.has.command (begun-needs state g v d cpu op tag f starts wants none) starts.start
    (ap (λ (i : PageInfo). i.owner) bare) change phase refl refl refl refl (blocks-same g.parts.cache h.parts.cache index.files index.swap))
    (FlatFit-same state g h v w d e f.flat refl index.files index.slots refl
    (current-begun g.parts h.parts v w d e page tag (step-same state g v d h w e cpu page (Fill page) (begun_info tag cpu) f step) index free.1 none (ap (λ (i : PageInfo). i.uptodate) change.here)))
    (record { handled = omega arith; counted = rw value (omega (arith, may-faults (v.values page) found may, stable-kept found)) })
  where
    h : GuestState
    h = with_phase (with_parts g (begun g.parts page tag cpu)) cpu (Fill page)

    free : (page < length g.parts.pages.infos) × ((info_at g.parts.pages page).tag ≡ None)
    free = f.pages.free page (rw top (Contains-first page rest))

    within : page < length g.parts.pages.infos
    within = free.0

    bare : info_at g.parts.pages page ≡ free_info
    bare = f.pages.bare page free.1

    below : page < v.pages
    below = rw (infos-pages g v d f.sizes) at within

    wanted : IsWanted g.parts tag
    wanted = is_wanted state g v d cpu op tag f.sizes f.slots starts wants

    index : IndexChange g.parts.cache (begun g.parts page tag cpu).cache tag (Some page)
    index = change-with_page g.parts.cache tag page (record { whole = f.sizes.index }) wanted.is_tag

    change : InfoChange g.parts.pages (begun g.parts page tag cpu).pages page (begun_info tag cpu)
    change = change-begun g.parts page tag cpu within

    phase : PhaseChange g.processors h.processors cpu (Fill page)
    phase = change-with_phase g.processors cpu (Fill page) starts.has.below (ap teardown_of (sym starts.start))

    was_unused : (v.values page).usage ≡ U
    was_unused = f.hints.hints page below ∙ ap hint bare ∙ hint-free

    unused : found.usage ≡ U
    unused = may-usage (v.values page) found may ∙ was_unused

    unchanged : found.changed ≡ false
    unchanged = may-unchanged (v.values page) found may (f.hints.unused page below was_unused)

    -- a page of a mapping that is torn down has a place in the index, and isn't wanted
    torn_tag : (s i : ℕ) (mapping : Slot) → slot_at g.parts.maps s ≡ Some mapping → i < mapping.count → IsTag g.parts.cache (Anon s i)
    torn_tag s i mapping at within = own-is_tag state g v d f.sizes f.slots s i mapping at within

    apart : (s i : ℕ) (mapping : Slot) → slot_at g.parts.maps s ≡ Some mapping → mapping.live ≡ false → Anon s i ≢ tag
    apart s i mapping at torn z = never_live g.parts s i mapping at torn (subst (IsFlatTag g.parts) (sym z) wanted.flat)

    swap_kept : (s i : ℕ) → swap_slot h.parts.cache (Anon s i) ≡ swap_slot g.parts.cache (Anon s i)
    swap_kept s i = ap (λ tags. position (holds_page s i) tags) index.swap

    step : TableStep g v d h w e cpu page (Fill page) (begun_info tag cpu)
    step = record {
      back = back;
      below = below;
      plan = refl;
      journal = refl;
      files = index.files;
      swap = index.swap;
      slots = index.slots;
      index = index.size;
      info_change = change;
      phase_change = phase;
      torn = keeps_torn-same g.parts.maps g.parts.maps refl;
      untagged = λ s i mapping at torn within was. (index.others (Anon s i) (torn_tag s i mapping at within) (apart s i mapping at torn) ∙ was.0, swap_kept s i ∙ was.1);
      mappings = refl;
      used = λ t e. subst (IsUsedTag g.parts.maps) (same_Some _ _ e) (flat-used g.parts tag wanted.flat);
      pins = PinsFit-begun state g.parts h.parts page tag (begun_info tag cpu) f.pins f.pages f.slots f.sizes.slots bare none refl refl change index (record { slots = refl; pinned = refl });
      fits = rw value (PageFits-begun g d cpu tag found unchanged unused (MayBecome-is_value (v.values page) found (f.hints.values page below) may));
    }
