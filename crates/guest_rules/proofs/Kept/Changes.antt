-- What one change of a guest's tables leaves: one page's info, one place of the index, one processor's phase.
use Rattle.std.proofs.Common.{◌≡◌, ◌≢◌, ◌⊎◌, ◌<◌, ℕ, List, length, get_or, set, Option, Some, None, refl, ap, sym, ◌∙◌, inl, inr, arith, get_or-set_same, get_or-set_other, length-set}
use Rattle.std.proofs.lemmas.Bool.{cases_eq}
use Rattle.std.proofs.lemmas.List.Sums.{sum_by-set}
use Rattle.std.specs.List.{sum_by}
use Rattle.std.proofs.lemmas.Option.{same_Some}
use Rattle.cmm_types.specs.declared.page.Tag.{Tag}
use Rattle.cmm_types.specs.declared.page.Tag.TheVariants.{File, Anon}
use Rattle.guest_pages.specs.declared.info.PageInfo.{PageInfo}
use Rattle.guest_pages.specs.PagesView.{PagesView, info_at, with_info}
use Rattle.guest_pages.specs.Laws.PagesLaws.{info_at-with_info_same, info_at-with_info_other, length-with_info}
use Rattle.guest_cache.specs.CacheView.{CacheView, IsTag, index_place, page_of, with_page, without_page}
use Rattle.guest_cache.specs.Laws.CacheLaws.{IsCache, page_of-with_page_same, page_of-with_page_other, page_of-without_page_same, page_of-without_page_other}
use Rattle.guest_rules.specs.declared.processor.Phase.{Phase}
use Rattle.guest_rules.specs.declared.processor.Phase.TheVariants.{Start, Fill, Room as AtRoom, Sync as AtSync, SyncWrite, Teardown}
use Rattle.guest_rules.specs.declared.processor.Processor.{Processor}
use Rattle.guest_rules.specs.GuestState.{first_processor}
use Rattle.guest_rules.specs.Fit.{answered_early, entries_of}

-- one page's info is another
pub record InfoChange (old new : PagesView) (page : ℕ) (info : PageInfo) : Type 0 where
  pub size : length new.infos ≡ length old.infos
  pub here : info_at new page ≡ info
  pub others : (i : ℕ) → i ≢ page → info_at new i ≡ info_at old i

pub change-with_info : (pages : PagesView) (page : ℕ) (info : PageInfo) → page < length pages.infos → InfoChange pages (with_info pages page info) page info
change-with_info pages page info below = record {
  size = length-with_info pages page info;
  here = info_at-with_info_same pages page info below;
  others = λ i other. info_at-with_info_other pages page i info other;
}

-- one info after another of the same page
pub InfoChange-trans : (a b c : PagesView) (page : ℕ) (first second : PageInfo) → InfoChange a b page first → InfoChange b c page second → InfoChange a c page second
InfoChange-trans a b c page first second one two = record { size = two.size ∙ one.size; here = two.here; others = λ i other. two.others i other ∙ one.others i other }

-- one tag's page is another; the index is for the same tags
pub record IndexChange (old new : CacheView) (tag : Tag) (page : Option ℕ) : Type 0 where
  pub files : new.files ≡ old.files
  pub swap : new.swap ≡ old.swap
  pub slots : new.slots ≡ old.slots
  pub size : length new.index ≡ length old.index
  pub here : page_of new tag ≡ page
  pub others : (t : Tag) → IsTag old t → t ≢ tag → page_of new t ≡ page_of old t

-- a page gets a tag
pub change-with_page : (cache : CacheView) (tag : Tag) (page : ℕ) → IsCache cache → IsTag cache tag → IndexChange cache (with_page cache tag page) tag (Some page)
unfolding with_page
change-with_page cache tag page sound is = record {
  files = refl;
  swap = refl;
  slots = refl;
  size = length-set cache.index (index_place cache tag) (Some page);
  here = page_of-with_page_same cache tag page sound is;
  others = λ t is_t other. page_of-with_page_other cache tag t page is is_t other;
}

-- no page has the tag any more
pub change-without_page : (cache : CacheView) (tag : Tag) → IsCache cache → IsTag cache tag → IndexChange cache (without_page cache tag) tag None
unfolding without_page
change-without_page cache tag sound is = record {
  files = refl;
  swap = refl;
  slots = refl;
  size = length-set cache.index (index_place cache tag) None;
  here = page_of-without_page_same cache tag sound is;
  others = λ t is_t other. page_of-without_page_other cache tag t is is_t other;
}

-- tags of one cache are tags of another with the same files and slots
pub IsTag-same : (old new : CacheView) (tag : Tag) → new.files ≡ old.files → new.slots ≡ old.slots → IsTag old tag → IsTag new tag
IsTag-same old new (File file index) files slots is = (rw files is.0, rw files is.1)
IsTag-same old new (Anon slot index) files slots is = (rw slots is.0, is.1)

pub cases_tag : (a b : Tag) → (a ≡ b) ⊎ (a ≢ b)
cases_tag (File file index) (File file' index') = elim (cases_eq file file') [
  | inl f ↦ elim (cases_eq index index') [ inl i ↦ inl (λ k. File (f k) (i k)) | inr n ↦ inr (λ e. n cc) ]
  | inr n ↦ inr (λ e. n cc)
]
cases_tag (File file index) (Anon slot index') = inr (λ e. cc)
cases_tag (Anon slot index) (File file index') = inr (λ e. cc)
cases_tag (Anon slot index) (Anon slot' index') = elim (cases_eq slot slot') [
  | inl s ↦ elim (cases_eq index index') [ inl i ↦ inl (λ k. Anon (s k) (i k)) | inr n ↦ inr (λ e. n cc) ]
  | inr n ↦ inr (λ e. n cc)
]

-- what a processor in this phase tears down: the mapping that was in a slot, at a page
abbrev pub teardown_of : Phase → Option (ℕ × ℕ)
teardown_of Start = None
teardown_of (Fill page) = None
teardown_of (AtRoom page) = None
teardown_of (AtSync index) = None
teardown_of (SyncWrite index page) = None
teardown_of (Teardown slot index) = Some (slot, index)

pub teardown-is : (phase : Phase) (slot index : ℕ) → teardown_of phase ≡ Some (slot, index) → phase ≡ Teardown slot index
teardown-is Start slot index e = absurd (cc e)
teardown-is (Fill page) slot index e = absurd (cc e)
teardown-is (AtRoom page) slot index e = absurd (cc e)
teardown-is (AtSync at) slot index e = absurd (cc e)
teardown-is (SyncWrite at page) slot index e = absurd (cc e)
teardown-is (Teardown s i) slot index e = let both = same_Some _ _ e in λ k. Teardown (both k).0 (both k).1

-- two phases that tear the same down
pub same-teardown : (a b : Phase) (slot index : ℕ) → teardown_of a ≡ teardown_of b → a ≡ Teardown slot index → b ≡ Teardown slot index
same-teardown a b slot index same is = teardown-is b slot index (sym same ∙ ap teardown_of is)

abbrev early_of : Option (ℕ × ℕ) → ℕ
early_of None = 0
early_of (Some at) = 1

answered-is : (phase : Phase) → answered_early phase ≡ early_of (teardown_of phase)
answered-is Start = refl
answered-is (Fill page) = refl
answered-is (AtRoom page) = refl
answered-is (AtSync index) = refl
answered-is (SyncWrite index page) = refl
answered-is (Teardown slot index) = refl

-- where as much is torn down, as much is answered early
pub same-answered : (a b : Phase) → teardown_of a ≡ teardown_of b → answered_early a ≡ answered_early b
same-answered a b same = answered-is a ∙ ap early_of same ∙ sym (answered-is b)

-- one processor's phase is another, in which it tears down what it did; where they are is the same
pub record PhaseChange (old new : List Processor) (cpu : ℕ) (phase : Phase) : Type 0 where
  pub size : length new ≡ length old
  pub here : get_or new cpu first_processor ≡ record { place = (get_or old cpu first_processor).place; phase = phase }
  pub others : (q : ℕ) → q ≢ cpu → get_or new q first_processor ≡ get_or old q first_processor
  pub teardown : teardown_of phase ≡ teardown_of (get_or old cpu first_processor).phase
  pub entries : sum_by entries_of new ≡ sum_by entries_of old

pub change-with_phase : (old : List Processor) (cpu : ℕ) (phase : Phase) → cpu < length old → teardown_of phase ≡ teardown_of (get_or old cpu first_processor).phase
    → PhaseChange old (set old cpu (record { place = (get_or old cpu first_processor).place; phase = phase })) cpu phase
change-with_phase old cpu phase below teardown =
    let new : Processor = record { place = (get_or old cpu first_processor).place; phase = phase } in
    record {
      size = length-set old cpu new;
      here = get_or-set_same old cpu new first_processor below;
      others = λ q other. get_or-set_other old cpu q new first_processor other;
      teardown = teardown;
      entries = omega (arith, sum_by-set entries_of old cpu new first_processor below, same-answered phase (get_or old cpu first_processor).phase teardown);
    }

-- a phase that it had already
pub change-nothing : (old : List Processor) (cpu : ℕ) (phase : Phase) → (get_or old cpu first_processor).phase ≡ phase → PhaseChange old old cpu phase
change-nothing old cpu phase e = record {
  size = refl;
  here = ap (λ (p : Phase). let new : Processor = record { place = (get_or old cpu first_processor).place; phase = p } in new) e;
  others =
      λ q other. refl;
  teardown = ap teardown_of (sym e);
  entries = refl;
}
