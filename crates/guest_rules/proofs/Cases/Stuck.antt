-- Where no page is free: none can go and none is locked exactly where each is pinned, or holds bytes that can be written nowhere.
use Rattle.std.specs.Prelude.{◌≡◌, ◌≢◌, ◌⊎◌, ◌<◌, ℕ, ◌+◌, ◌-◌, [], length, Bool, true, false, not, ◌&&◌, Option, Some, None, is_none, nat_eq, Contains, refl}
use Rattle.std.proofs.Common.{arith, inl, inr, sym, ap, subst, ◌∙◌}
use Rattle.std.proofs.lemmas.Bool.{and_parts}
use Rattle.std.proofs.lemmas.Bool.Decides.{nat_tests}
use Rattle.std.proofs.lemmas.List.Sums.{count_by-le-length}
use Rattle.cmm_types.specs.declared.page.Tag.{Tag}
use Rattle.cmm_types.specs.declared.page.Tag.TheVariants.{File, Anon}
use Rattle.guest_pages.specs.declared.info.PageInfo.{PageInfo}
use Rattle.guest_pages.specs.PagesView.{info_at}
use Rattle.guest_cache.specs.CacheView.{swap_slot, swap_block, free_swap}
use Rattle.guest_rules.specs.declared.parts.Parts.{Parts}
use Rattle.guest_rules.specs.MakeRoom.{lacks_block, is_unslotted, is_pinned, is_locked, can_go, first_to_go, first_locked, pinned_count}
use Rattle.guest_rules.specs.Stuck.{IsUnslotted, IsStuck}
use Rattle.guest_rules.specs.Fit.{PagesFit}
use Rattle.guest_rules.proofs.Cases.FirstPage.{first_from-None, first_from-none, cannot_go}

-- where no page is free, each has a tag
pub full-tagged : (parts : Parts) → PagesFit parts → parts.pages.free ≡ [] → (page : ℕ) → page < length parts.pages.infos → (info_at parts.pages page).tag ≢ None
full-tagged parts f full page below none =
    let bad : Contains {X = ℕ} [] page = subst (λ q. Contains q page) full (f.stacked page below none) in
    let past : bad.0 < 0 = bad.1 in omega (arith, past)

-- ---- from the want of a page that can go

is_none-None : {T : Type 0} (o : Option T) → is_none o ≡ true → o ≡ None
is_none-None None e = refl
is_none-None (Some x) e = let bad : false ≡ true = e in absurd cc

has_some : {T : Type 0} (o : Option T) → o ≢ None → (x : T) × (o ≡ Some x)
has_some None some = absurd (some refl)
has_some (Some x) some = (x, refl)

unlocked-None : (info : PageInfo) → is_locked info ≡ false → info.owner ≡ None
unlocked-None info e = of info.owner e
  where
    of : (o : Option ℕ) → not (is_none o) ≡ false → o ≡ None
    of None e = refl
    of (Some owner) e = let bad : true ≡ false = e in absurd cc

no_swap : (files : _) (number : Option ℕ) → is_none (swap_block files number) ≡ true → number ≡ None
no_swap files None e = refl
no_swap files (Some number) e = let bad : false ≡ true = e in absurd cc

-- a page's bytes can be written nowhere, so its tag is anonymous, has no swap slot, and all are assigned
unslotted-tagged : (parts : Parts) (page : ℕ) (tag : Tag) → (info_at parts.pages page).tag ≡ Some tag → (info_at parts.pages page).dirty ≡ true → lacks_block parts.cache (Some tag) ≡ true
    → IsUnslotted parts page
unslotted-tagged parts page (File file index) tagged dirty lacks = let bad : false ≡ true = lacks in absurd cc
unslotted-tagged parts page (Anon slot index) tagged dirty lacks =
    let both = and_parts (is_none (swap_block parts.cache.files (swap_slot parts.cache (Anon slot index)))) (is_none (free_swap parts.cache)) lacks in
    record {
      dirty = dirty;
      slot = slot;
      index = index;
      tagged = tagged;
      none = no_swap parts.cache.files (swap_slot parts.cache (Anon slot index)) both.0;
      all_assigned = is_none-None (free_swap parts.cache) both.1;
    }

is_unslotted-is : (parts : Parts) (page : ℕ) (tag : Tag) → (info_at parts.pages page).tag ≡ Some tag → is_unslotted parts (info_at parts.pages page) ≡ true → IsUnslotted parts page
is_unslotted-is parts page tag tagged e =
    let both = and_parts (info_at parts.pages page).dirty (lacks_block parts.cache (info_at parts.pages page).tag) e in
    unslotted-tagged parts page tag tagged both.0 (ap (lacks_block parts.cache) (sym tagged) ∙ both.1)

-- no page is free, none can go and none is locked: so each is pinned, or has bytes that can be written nowhere
pub stuck : (parts : Parts) → parts.pages.free ≡ [] → ((page : ℕ) → page < length parts.pages.infos → (info_at parts.pages page).tag ≢ None) → first_to_go parts ≡ None → first_locked parts ≡ None
    → IsStuck parts
stuck parts full tagged none unlocked = record {
  full = full;
  unlocked = free_of_locks;
  fast = λ page below.
      let tag = has_some (info_at parts.pages page).tag (tagged page below) in
      of page tag.0 tag.1 (cannot_go parts (info_at parts.pages page) tag.0 tag.1 (free_of_locks page below) (first_from-None parts (can_go parts) none page below));
}
  where
    free_of_locks : (page : ℕ) → page < length parts.pages.infos → (info_at parts.pages page).owner ≡ None
    free_of_locks page below = unlocked-None (info_at parts.pages page) (first_from-None parts is_locked unlocked page below)

    of : (page : ℕ) (tag : Tag) → (info_at parts.pages page).tag ≡ Some tag → ((info_at parts.pages page).pins ≢ 0) ⊎ (is_unslotted parts (info_at parts.pages page) ≡ true)
        → ((info_at parts.pages page).pins ≢ 0) ⊎ IsUnslotted parts page
    of page tag is (inl pinned) = inl pinned
    of page tag is (inr lacks) = inr (is_unslotted-is parts page tag is lacks)

-- ---- and the other way round

stays_pinned : (untagged locked zero unslotted : Bool) → zero ≡ false → (not untagged && (not locked && (not (not zero) && not unslotted))) ≡ false
stays_pinned untagged locked zero unslotted e = grind arith

stays_unslotted : (untagged locked pinned dirty lacks : Bool) → dirty ≡ true → lacks ≡ true → (not untagged && (not locked && (not pinned && not (dirty && lacks)))) ≡ false
stays_unslotted untagged locked pinned dirty lacks d l = grind arith

nonzero : (n : ℕ) → n ≢ 0 → nat_eq n 0 ≡ false
nonzero n some = grind (arith, nat_tests)

lacks : (parts : Parts) (page : ℕ) → (k : IsUnslotted parts page) → lacks_block parts.cache (info_at parts.pages page).tag ≡ true
lacks parts page k =
    ap (lacks_block parts.cache) k.tagged
    ∙ ap (λ n. is_none (swap_block parts.cache.files n) && is_none (free_swap parts.cache)) k.none
    ∙ ap is_none k.all_assigned

stays : (parts : Parts) (page : ℕ) → ((info_at parts.pages page).pins ≢ 0) ⊎ IsUnslotted parts page → can_go parts (info_at parts.pages page) ≡ false
stays parts page (inl pinned) =
    let info = info_at parts.pages page in
    stays_pinned (is_none info.tag) (is_locked info) (nat_eq info.pins 0) (is_unslotted parts info) (nonzero info.pins pinned)
stays parts page (inr k) =
    let info = info_at parts.pages page in
    stays_unslotted (is_none info.tag) (is_locked info) (is_pinned info) info.dirty (lacks_block parts.cache info.tag) k.dirty (lacks parts page k)

pub stuck-none_goes : (parts : Parts) → IsStuck parts → (first_to_go parts ≡ None) × (first_locked parts ≡ None)
stuck-none_goes parts k = (
  first_from-none parts (can_go parts) (λ page below. stays parts page (k.fast page below)),
  first_from-none parts is_locked (λ page below. ap (λ o. not (is_none o)) (k.unlocked page below)),
)

-- the pinned pages and all others are all of them
pub pinned_and_others : (parts : Parts) → pinned_count parts + (length parts.pages.infos - pinned_count parts) ≡ length parts.pages.infos
pinned_and_others parts = omega (arith, count_by-le-length is_pinned parts.pages.infos)
