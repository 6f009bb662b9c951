-- Fit of the whole guest, from fit of its parts, where one page changed.
use Rattle.std.proofs.Common.{◌≡◌, ◌≢◌, ◌<◌, ◌≤◌, ◌+◌, ℕ, length, Some, ap, sym, ◌∙◌, inl, inr, subst, arith}
use Rattle.std.specs.List.{sum_by}
use Rattle.std.proofs.lemmas.Bool.{cases_eq}
use Rattle.cmm_io.specs.DiskView.{DiskView}
use Rattle.cmm_flat.specs.State.{FlatState}
use Rattle.cmm_flat.specs.Legal.{start_of, progress_of, walk_of}
use Rattle.essa_state.specs.PageValue.{MayBecome}
use Rattle.cmm_storage.specs.StorageView.{StorageView}
use Rattle.guest_pages.specs.declared.info.PageInfo.{PageInfo}
use Rattle.guest_pages.specs.PagesView.{info_at}
use Rattle.cmm_types.specs.declared.page.Tag.{Tag}
use Rattle.guest_maps.specs.MapsView.{slot_at}
use Rattle.guest_rules.specs.declared.processor.Phase.{Phase}
use Rattle.guest_rules.specs.declared.processor.Phase.TheVariants.{Teardown}
use Rattle.guest_rules.specs.declared.processor.Processor.{Processor}
use Rattle.guest_rules.specs.GuestState.{GuestState, processor_at}
use Rattle.guest_rules.specs.Fit.{PagesFit, SlotsFit, EntriesFit, PinsFit, FlatFit, LocksFit, TeardownsFit, JournalFit, FaultsFit, FitAt, IsUsedTag, one_if_lost, entries_of, own_pages, command_count}
use Rattle.guest_rules.proofs.Cases.TurnCases.{GivenBack}
use Rattle.guest_rules.proofs.Rows.ValueLaws.{may-faults}
use Rattle.guest_rules.proofs.Kept.Faults.{sum_below-more}
use Rattle.guest_rules.proofs.Kept.Changes.{InfoChange, PhaseChange, same-answered}
use Rattle.guest_rules.proofs.Kept.PageFits.{PageFits, EachPageFits, PageFits-may, PageFits-same, EachPageFits-from, HintsFit-from, ContentsFit-from}
use Rattle.guest_rules.proofs.Kept.TagsKept.{tags_stand, TagsFit-from, TagsStand-info}
use Rattle.guest_rules.proofs.Kept.FlatTags.{flat_tag-is}
use Rattle.guest_rules.proofs.Kept.TeardownsKept.{KeepsTorn, KeepsTearing, KeepsUntagged, keeps_tearing-phase, TeardownsFit-kept}
use Rattle.guest_rules.proofs.Kept.Currents.{SameCurrent}
use Rattle.guest_rules.proofs.Fit.FitMay.{infos-pages}

-- a processor that tears a mapping down did so before, and this one has as many pages of its own
abbrev pub KeepsEnded : GuestState → GuestState → Type 0
KeepsEnded g h = (cpu slot index : ℕ) → (processor_at h cpu).phase ≡ Teardown slot index
    → (at : ℕ) × ((processor_at g cpu).phase ≡ Teardown slot at) × (own_pages (slot_at h.parts.maps slot) ≡ own_pages (slot_at g.parts.maps slot))

pub keeps_ended : (g h : GuestState) → TeardownsFit g → KeepsTearing g h → KeepsTorn g.parts.maps h.parts.maps → KeepsEnded g h
keeps_ended g h f kept torn cpu slot index e =
    let before : (processor_at g cpu).phase ≡ Teardown slot index = ap (λ (p : Processor). p.phase) (sym (kept.was cpu slot index e)) ∙ e in
    let k = f.tearing cpu slot index before in
    (index, before, ap own_pages (torn.stays slot k.mapping k.at k.torn ∙ sym k.at))

-- the same journal, of which each processor has as many entries
pub JournalFit-kept : (g h : GuestState) → JournalFit g → h.plan ≡ g.plan → h.journal ≡ g.journal → length h.processors ≡ length g.processors
    → ((q : ℕ) → entries_of (processor_at h q) ≡ entries_of (processor_at g q)) → sum_by entries_of h.processors ≡ sum_by entries_of g.processors → KeepsEnded g h → JournalFit h
JournalFit-kept g h f plan journal size same sums ended = record {
  legal = rw (plan, journal) f.legal;
  places = λ q below.
      let was : (progress_of (walk_of h.plan (start_of h.plan) h.journal) q).next ≡ entries_of (processor_at g q) = rw (plan, journal) (f.places q (rw size at below)) in
      was ∙ sym (same q);
  within = λ q below.
      let was : entries_of (processor_at g q) ≤ command_count h.plan q = rw plan (f.within q (rw size at below)) in
      subst (λ n. n ≤ command_count h.plan q) (sym (same q)) was;
  counted = ap length journal ∙ f.counted ∙ sym sums;
  ended = λ q slot index e.
      let was = ended q slot index e in
      let before : (progress_of (walk_of h.plan (start_of h.plan) h.journal) q).ended ≡ own_pages (slot_at g.parts.maps slot) = rw (plan, journal) (f.ended q slot was.0 was.1) in
      before ∙ sym was.2;
}

-- only a processor's phase changed, and not what it tears down
pub JournalFit-phase : (g h : GuestState) (cpu : ℕ) (phase : Phase) → JournalFit g → TeardownsFit g → h.plan ≡ g.plan → h.journal ≡ g.journal → PhaseChange g.processors h.processors cpu phase
    → KeepsTorn g.parts.maps h.parts.maps → JournalFit h
JournalFit-phase g h cpu phase f teardowns plan journal change torn =
    JournalFit-kept g h f plan journal change.size same change.entries (keeps_ended g h teardowns (keeps_tearing-phase g h cpu phase plan change) torn)
  where
    same : (q : ℕ) → entries_of (processor_at h q) ≡ entries_of (processor_at g q)
    same q = elim (cases_eq q cpu) [
      | inl z ↦
          ap (λ x. entries_of (processor_at h x)) z ∙ ap entries_of change.here
          ∙ ap (λ n. (processor_at g cpu).place + n) (same-answered phase (processor_at g cpu).phase change.teardown)
          ∙ ap (λ x. entries_of (processor_at g x)) (sym z)
      | inr n ↦ ap entries_of (change.others q n)
    ]

-- what one step of the tables leaves and changes: one page's info and value, one processor's phase
pub record TableStep (g : GuestState) (v : StorageView) (d : DiskView) (h : GuestState) (w : StorageView) (e : DiskView) (cpu page : ℕ) (phase : Phase) (info : PageInfo) : Type 0 where
  pub back : GivenBack page v d w e
  pub below : page < v.pages
  pub plan : h.plan ≡ g.plan
  pub journal : h.journal ≡ g.journal
  pub files : h.parts.cache.files ≡ g.parts.cache.files
  pub swap : h.parts.cache.swap ≡ g.parts.cache.swap
  pub slots : h.parts.cache.slots ≡ g.parts.cache.slots
  pub index : length h.parts.cache.index ≡ length g.parts.cache.index
  pub info_change : InfoChange g.parts.pages h.parts.pages page info
  pub phase_change : PhaseChange g.processors h.processors cpu phase
  pub torn : KeepsTorn g.parts.maps h.parts.maps
  pub untagged : KeepsUntagged g.parts h.parts.cache
  pub mappings : h.parts.maps.slots ≡ g.parts.maps.slots
  pub used : (tag : Tag) → info.tag ≡ Some tag → IsUsedTag g.parts.maps tag
  pub pins : PinsFit h.parts
  pub fits : PageFits g.parts.cache d info (w.values page)

-- so many discards are handled in the step
pub record FaultStep (more : ℕ) (g : GuestState) (v : StorageView) (h : GuestState) (w : StorageView) (page : ℕ) : Type 0 where
  pub handled : h.parts.faults ≤ g.parts.faults + more
  pub counted : (v.values page).count + one_if_lost (w.values page) + more ≤ (w.values page).count + one_if_lost (v.values page)

FaultsFit-step : (g h : GuestState) (v w : StorageView) (more page : ℕ) → FaultsFit g.parts v → w.pages ≡ v.pages → page < v.pages → ((i : ℕ) → i ≢ page → MayBecome (v.values i) (w.values i))
    → FaultStep more g v h w page → FaultsFit h.parts w
FaultsFit-step g h v w more page f pages below others step =
    let sums = sum_below-more (λ i. (v.values i).count) (λ i. one_if_lost (w.values i)) (λ i. (w.values i).count) (λ i. one_if_lost (v.values i)) more page v.pages below
    (λ i _ n. may-faults (v.values i) (w.values i) (others i n)) step.counted in
    rw pages (omega (arith, sums, step.handled, f))

-- what fit of the guest before gives of its pages, and what the step keeps of their bytes
pub step-same : (state : FlatState) (g : GuestState) (v : StorageView) (d : DiskView) (h : GuestState) (w : StorageView) (e : DiskView) (cpu page : ℕ) (phase : Phase) (info : PageInfo)
    → FitAt state g v d
    → TableStep g v d h w e cpu page phase info → SameCurrent g.parts v d h.parts w e page
step-same state g v d h w e cpu page phase info f step = record {
  fits = EachPageFits-from g.parts v d (infos-pages g v d f.sizes) f.tags f.hints f.contents;
  pages = f.pages;
  flat_is = flat_tag-is state g v d f.sizes f.slots;
  files = step.files;
  swap = step.swap;
  blocks = step.back.blocks;
  infos = step.info_change.others;
  values = step.back.keeps.others;
}

pub FitAt-step : (state later : FlatState) (g : GuestState) (v : StorageView) (d : DiskView) (h : GuestState) (w : StorageView) (e : DiskView) (cpu page more : ℕ) (phase : Phase)
    (info : PageInfo) → FitAt state g v d
    → TableStep g v d h w e cpu page phase info → PagesFit h.parts → SlotsFit later h.parts → EntriesFit h.parts → LocksFit h → FlatFit later h w e → FaultStep more g v h w page → FitAt later h w e
FitAt-step state later g v d h w e cpu page more phase info f step pages slots entries locks flat faults = record {
  sizes = record {
    range = rw step.plan f.sizes.range;
    infos = rw (step.plan, step.info_change.size) f.sizes.infos;
    pages = rw (step.plan, step.back.keeps.pages) f.sizes.pages;
    processors = rw (step.plan, step.phase_change.size) f.sizes.processors;
    files = rw (step.plan, step.files) f.sizes.files;
    swap = rw (step.plan, step.swap) f.sizes.swap;
    slots = rw step.slots f.sizes.slots;
    index = rw (step.index, step.files, step.slots) f.sizes.index;
    blocks = rw (step.plan, step.back.count) f.sizes.blocks;
  };
  pages = pages;
  slots = slots;
  entries = entries;
  pins = step.pins;
  tags = TagsFit-from h.parts w e (TagsStand-info g.parts h.parts page info (tags_stand g.parts v f.tags) step.info_change step.swap step.mappings step.used) fits;
  locks = locks;
  teardowns = TeardownsFit-kept state g h f.slots f.teardowns (keeps_tearing-phase g h cpu phase step.plan step.phase_change) step.torn step.untagged;
  hints = HintsFit-from h.parts w e step.back.held fits;
  contents = ContentsFit-from h.parts w e (step.back.keeps.tells ∙ f.contents.tells) f.contents.told.0 (step.back.blocks ∙ f.contents.told.1)
      (rw (step.back.count, step.back.blocks) f.contents.blocks) fits;
  flat = flat;
  journal = JournalFit-phase g h cpu phase f.journal f.teardowns step.plan step.journal step.phase_change step.torn;
  faults = FaultsFit-step g h v w more page f.faults step.back.keeps.pages step.below step.back.keeps.others faults;
}
  where
    size : length g.parts.pages.infos ≡ v.pages
    size = infos-pages g v d f.sizes

    before : EachPageFits g.parts v d
    before = EachPageFits-from g.parts v d size f.tags f.hints f.contents

    fits : EachPageFits h.parts w e
    fits = record {
      size = step.info_change.size ∙ size ∙ sym step.back.keeps.pages;
      each = λ i lt. elim (cases_eq i page) [
        | inl z ↦ rw (z, step.info_change.here) (PageFits-same g.parts.cache h.parts.cache d e info (w.values page) step.files step.swap step.back.blocks step.fits)
        | inr n ↦
            rw (step.info_change.others i n) (PageFits-same g.parts.cache h.parts.cache d e (info_at g.parts.pages i) (w.values i) step.files step.swap step.back.blocks
            (PageFits-may g.parts.cache d (info_at g.parts.pages i) (v.values i) (w.values i) (before.each i (rw step.back.keeps.pages at lt)) (step.back.keeps.others i n)))
      ];
    }
