-- A guest before its first turn fits.
use Rattle.std.proofs.Common.{◌≡◌, ◌<◌, ◌≤◌, ◌+◌, ◌*◌, ℕ, zero, suc, List, [], ◌∷◌, map, get_or, Contains, Some, None, refl, ap, sym, ◌∙◌, subst, arith}
use Rattle.std.specs.List.{range_with_len, sum_by}
use Rattle.std.proofs.lemmas.List.{length-map, length-replicate}
use Rattle.std.proofs.lemmas.List.FromFn.{length-range_with_len, get_or-range_with_len}
use Rattle.std.proofs.lemmas.List.Sums.{sum_by-cons}
use Rattle.cmm_types.specs.declared.page.TheConstants.{PAGE}
use Rattle.std.specs.FinMap as finite
use Rattle.cmm_types.specs.declared.page.Tag.{Tag}
use Rattle.cmm_types.specs.declared.page.Tag.TheVariants.{File, Anon}
use Rattle.cmm_flat.specs.Laws.SoundLaws.{sound_without}
use Rattle.guest_rules.proofs.Kept.FlatTags.{is_own}
use Rattle.cmm_types.specs.declared.plan.TheConstants.{MAX_MAPPING_SLOTS}
use Rattle.cmm_types.specs.declared.plan.CpuPlan.{CpuPlan}
use Rattle.cmm_types.specs.declared.plan.GuestPlan.{GuestPlan}
use Rattle.cmm_types.specs.InRange.{GuestInRange}
use Rattle.cmm_io.specs.DiskOf.{disk_of}
use Rattle.cmm_io.specs.DiskView.{DiskView, AreBlocks}
use Rattle.cmm_io.proofs.DiskBlocks.{whole_disk, length-disk_of}
use Rattle.cmm_types.specs.Bytes.{bytes_at}
use Rattle.cmm_flat.specs.State.{FlatState, opening, file_at}
use Rattle.cmm_flat.specs.Legal.{Progress, at_start as at_first}
use Rattle.essa_state.specs.PageValue.{PageValue, opening_value}
use Rattle.cmm_storage.specs.StorageView.{StorageView}
use Rattle.guest_pages.specs.declared.info.PageInfo.{PageInfo}
use Rattle.guest_pages.specs.PagesView.{free_info, AreDistinct}
use Rattle.guest_cache.specs.CacheView.{IsTag}
use Rattle.guest_cache.specs.Laws.CacheLaws.{IsCache-opening, page_of-opening}
use Rattle.guest_rules.specs.declared.parts.Parts.{Parts}
use Rattle.guest_rules.specs.declared.processor.Phase.TheVariants.{Start, Fill, Room as AtRoom, Sync as AtSync, SyncWrite, Teardown}
use Rattle.guest_rules.specs.declared.processor.Processor.{Processor}
use Rattle.guest_rules.specs.GuestState.{first_processor, processor_at, opening_guest}
use Rattle.guest_rules.specs.Fresh.{AreFresh}
use Rattle.guest_rules.specs.Fit.{PagesFit, LocksFit, TeardownsFit, FlatFit, JournalFit, FaultsFit, Fit, IsFlatTag, flat_page, backing, current, current_at, one_if_lost, command_count, entries_of}
use Rattle.guest_rules.proofs.Kept.Faults.{sum_below-le}
use Rattle.guest_rules.proofs.Kept.PageFits.{EachPageFits, PageFits-free, HintsFit-from, ContentsFit-from}
use Rattle.guest_rules.proofs.Kept.TagsKept.{TagsFit-from}
use Rattle.guest_rules.proofs.Opening.OpeningMaps.{none_slot, SlotsFit-opening, EntriesFit-opening, PinsFit-opening, TagsStand-opening, info-opening}
use Rattle.guest_rules.proofs.Opening.OpeningFiles.{planned_pages, opening-page, opening-lengths}

-- a list of one value, read at that value as default
all-same : {X A : Type 0} (xs : List A) (x : X) (i : ℕ) → get_or (map (λ a. x) xs) i x ≡ x
all-same [] x i = refl
all-same (a ∷ xs) x zero = refl
all-same (a ∷ xs) x (suc i) = all-same xs x i

-- numbers that are counted up
in_range : (from count x : ℕ) → Contains (range_with_len from count) x → (from ≤ x) × (x < from + count)
in_range from count x (k, below, at) =
    let size : k < count = rw length-range_with_len at below in
    let is : from + k ≡ x = sym (get_or-range_with_len from count k x size) ∙ at in
    (omega (arith, is, size), omega (arith, is, size))

AreDistinct-range : (from count : ℕ) → AreDistinct (range_with_len from count)
AreDistinct-range from zero = tt {0}
AreDistinct-range from (suc count) = (λ there. absurd (omega (arith, (in_range (from + 1) count from there).0)), AreDistinct-range (from + 1) count)

PagesFit-opening : (plan : GuestPlan) → PagesFit (opening_guest plan).parts
PagesFit-opening plan = record {
  once = AreDistinct-range 0 plan.pages;
  free = λ page there. (rw length-replicate (omega (arith, (in_range 0 plan.pages page there).1)), ap (λ (i : PageInfo). i.tag) (info-opening plan.pages page));
  stacked = λ page below none.
      let within : page < plan.pages = rw length-replicate at below in
      (page, rw length-range_with_len within, get_or-range_with_len 0 plan.pages page page within ∙ (omega arith));
  bare = λ page none. info-opening plan.pages page;
  indexed = λ page tag some. let bad : None ≡ Some tag = ap (λ (i : PageInfo). i.tag) (sym (info-opening plan.pages page)) ∙ some in absurd cc;
  found = λ page tag is some. let bad : None ≡ Some page = sym (page_of-opening (planned_pages plan.files) plan.swap MAX_MAPPING_SLOTS tag is) ∙ some in absurd cc;
}

processor-opening : (plan : GuestPlan) (cpu : ℕ) → processor_at (opening_guest plan) cpu ≡ first_processor
processor-opening plan cpu = all-same plan.cpus first_processor cpu

LocksFit-opening : (plan : GuestPlan) → LocksFit (opening_guest plan)
LocksFit-opening plan = record {
  stale_clean = λ page u. ap (λ (i : PageInfo). i.dirty) (info-opening plan.pages page);
  filling = λ cpu page phase. let bad : Start ≡ Fill page = ap (λ (p : Processor). p.phase) (sym (processor-opening plan cpu)) ∙ phase in absurd cc;
  paging_out = λ cpu page phase. let bad : Start ≡ AtRoom page = ap (λ (p : Processor). p.phase) (sym (processor-opening plan cpu)) ∙ phase in absurd cc;
  syncing = λ cpu index phase. let bad : Start ≡ AtSync index = ap (λ (p : Processor). p.phase) (sym (processor-opening plan cpu)) ∙ phase in absurd cc;
  writing = λ cpu index page phase. let bad : Start ≡ SyncWrite index page = ap (λ (p : Processor). p.phase) (sym (processor-opening plan cpu)) ∙ phase in absurd cc;
  locked = λ cpu page owner. let bad : None ≡ Some cpu = ap (λ (i : PageInfo). i.owner) (sym (info-opening plan.pages page)) ∙ owner in absurd cc;
  stale = λ page tag some none. let bad : None ≡ Some tag = ap (λ (i : PageInfo). i.tag) (sym (info-opening plan.pages page)) ∙ some in absurd cc;
}

TeardownsFit-opening : (plan : GuestPlan) → TeardownsFit (opening_guest plan)
TeardownsFit-opening plan = record {
  tearing = λ cpu slot index phase. absurd (none cpu slot index phase);
  torn = λ slot mapping e not_live. absurd (none_slot plan slot mapping e);
  alone = λ cpu other slot index at phase phase'. absurd (none cpu slot index phase);
  unpinned = λ slot index mapping e not_live below. absurd (none_slot plan slot mapping e);
}
  where
    none : (cpu slot index : ℕ) → (processor_at (opening_guest plan) cpu).phase ≡ Teardown slot index → ⊥
    none cpu slot index phase = let bad : Start ≡ Teardown slot index = ap (λ (p : Processor). p.phase) (sym (processor-opening plan cpu)) ∙ phase in cc

no_entry : (cpus : List CpuPlan) → sum_by entries_of (map (λ cpu. first_processor) cpus) ≡ 0
no_entry [] = refl
no_entry (cpu ∷ cpus) = sum_by-cons entries_of first_processor (map (λ c. first_processor) cpus) ∙ (omega (arith, no_entry cpus))

JournalFit-opening : (plan : GuestPlan) → JournalFit (opening_guest plan)
JournalFit-opening plan = record {
  legal = tt {0};
  places = λ cpu below. ap (λ (p : Progress). p.next) (all-same plan.cpus at_first cpu) ∙ sym (entries cpu);
  within = λ cpu below. subst (λ n. n ≤ command_count plan cpu) (sym (entries cpu)) (omega arith);
  counted = sym (no_entry plan.cpus);
  ended = λ cpu slot index phase. (let bad : Start ≡ Teardown slot index = ap (λ (p : Processor). p.phase) (sym (processor-opening plan cpu)) ∙ phase in absurd cc);
}
  where
    entries : (cpu : ℕ) → entries_of (processor_at (opening_guest plan) cpu) ≡ 0
    entries cpu = ap entries_of (processor-opening plan cpu)

FaultsFit-opening : (plan : GuestPlan) (v : StorageView) → ((page : ℕ) → page < v.pages → v.values page ≡ opening_value) → FaultsFit (opening_guest plan).parts v
FaultsFit-opening plan v fresh =
    let sums = sum_below-le (λ page. one_if_lost (v.values page)) (λ page. 0) (λ page. (v.values page).count) (λ page. 0) v.pages
    (λ page below. subst (λ x. one_if_lost x + 0 ≤ x.count + 0) (sym (fresh page below)) (omega arith)) in
    omega (arith, sums)

pub Fit-opening : (plan : GuestPlan) (v : StorageView) (d : DiskView) → GuestInRange plan → AreFresh plan v d → Fit (opening_guest plan) v d
Fit-opening plan v d range fresh = record {
  sizes = record {
    range = range;
    infos = length-replicate plan.pages free_info;
    pages = fresh.pages;
    processors = length-map plan.cpus (λ cpu. first_processor);
    files = refl;
    swap = length-replicate plan.swap None;
    slots = refl;
    index = (IsCache-opening (planned_pages plan.files) plan.swap MAX_MAPPING_SLOTS).whole;
    blocks = fresh.count;
  };
  pages = PagesFit-opening plan;
  slots = SlotsFit-opening plan;
  entries = EntriesFit-opening plan;
  pins = PinsFit-opening plan;
  tags = TagsFit-from parts v d (TagsStand-opening plan) fits;
  locks = LocksFit-opening plan;
  teardowns = TeardownsFit-opening plan;
  hints = HintsFit-from parts v d fresh.none_held fits;
  contents = ContentsFit-from parts v d fresh.tells (disk_of plan.files plan.swap) fresh.blocks blocks fits;
  flat = backed;
  journal = JournalFit-opening plan;
  faults = FaultsFit-opening plan v fresh.values;
}
  where
    parts : Parts
    parts = (opening_guest plan).parts

    flat : FlatState
    flat = opening plan.files

    fits : EachPageFits parts v d
    fits = record {
      size = length-replicate plan.pages free_info ∙ sym fresh.pages;
      each = λ page below.
          let is = fresh.values page below in
          rw (info-opening plan.pages page) (PageFits-free parts.cache d (v.values page) (ap (λ (x : PageValue). x.usage) is) (ap (λ (x : PageValue). x.changed) is) (rw is (refl, refl)));
    }

    blocks : AreBlocks d.count d.blocks
    blocks = rw fresh.blocks (length-disk_of plan.files plan.swap ∙ sym fresh.count, whole_disk plan.files plan.swap range.files.each)

    block : (file index : ℕ) → IsTag parts.cache (File file index) → bytes_at (file_at flat.files file) (PAGE * index) PAGE ≡ backing parts.cache d (File file index)
    block file index is = rw fresh.blocks (opening-page plan.files plan.swap file index is.0 is.1)

    backed : FlatFit flat (opening_guest plan) v d
    backed = record {
      lengths = opening-lengths plan.files range.files.each;
      sound = sound_without (opening plan.files).files finite.empty refl;
      pages = of;
    }
      where
        of : (tag : Tag) → IsFlatTag parts tag → flat_page flat parts.maps tag ≡ current parts v d tag
        of (File file index) is =
            let none = page_of-opening (planned_pages plan.files) plan.swap MAX_MAPPING_SLOTS (File file index) is in
            block file index is ∙ ap (λ o. current_at parts v o (backing parts.cache d (File file index))) (sym none)
        of (Anon slot index) is = let k = is_own parts.maps slot index is in absurd (none_slot plan slot k.mapping k.at)
