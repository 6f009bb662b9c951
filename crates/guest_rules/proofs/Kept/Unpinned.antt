-- Which pages have no pins: those that aren't up to date, and those that are lost. So the page of an unpin is always there.
use Rattle.std.proofs.Common.{◌≡◌, ◌≢◌, ◌<◌, ℕ, Bool, true, false, length, Some, None, is_none, nat_eq, if◌then◌else◌, ◌&&◌, not, refl, ap, sym, ◌∙◌, inl, inr, arith}
use Rattle.std.proofs.lemmas.Bool.{cases_eq, eqb-true, false_from_ne_true}
use Rattle.cmm_types.specs.declared.page.Usage.{Usage}
use Rattle.cmm_types.specs.declared.page.Usage.TheVariants.{S, P, V}
use Rattle.cmm_types.specs.declared.page.Tag.{Tag}
use Rattle.cmm_types.specs.declared.command.TheConstants.{MAX_MAPPING_PAGES}
use Rattle.cmm_types.specs.declared.command.Op.{Op}
use Rattle.cmm_types.specs.declared.command.Op.TheVariants.{Read, Write, Load, Store, Pin, Unpin}
use Rattle.cmm_io.specs.DiskView.{DiskView}
use Rattle.cmm_flat.specs.State.{FlatState}
use Rattle.cmm_flat.specs.Legal.{process_of, CanNeedPage}
use Rattle.essa_state.specs.PageValue.{PageValue, MayBecome, is_lost}
use Rattle.cmm_storage.specs.StorageView.{StorageView}
use Rattle.guest_pages.specs.declared.info.PageInfo.{PageInfo}
use Rattle.guest_pages.specs.PagesView.{info_at}
use Rattle.guest_cache.specs.CacheView.{page_of}
use Rattle.guest_maps.specs.MapsView.{find_slot}
use Rattle.guest_rules.specs.declared.parts.Parts.{Parts}
use Rattle.guest_rules.specs.Hint.{hint}
use Rattle.guest_rules.specs.GuestState.{GuestState}
use Rattle.guest_rules.specs.Fit.{PagesFit, PinsFit, FitAt}
use Rattle.guest_rules.proofs.Cases.TurnCases.{Starts, Wants}
use Rattle.guest_rules.proofs.Kept.PinLaws.{pins_within-none}
use Rattle.guest_rules.proofs.Fit.FitMay.{infos-pages}
use Rattle.guest_rules.proofs.Rows.Values.{may_stable, stable_there}
use Rattle.guest_rules.proofs.Cases.WantedTags.{tag_in-Some}
use Rattle.guest_rules.proofs.Cases.Placed.{pin-place}

-- what is pinned is up to date
pub stale-unpinned : (parts : Parts) (page : ℕ) (tag : Tag) → PinsFit parts → PagesFit parts → (info_at parts.pages page).tag ≡ Some tag → (info_at parts.pages page).uptodate ≡ false
    → (info_at parts.pages page).pins ≡ 0
stale-unpinned parts page tag f pages tagged stale =
    f.counted page tag tagged
    ∙ pins_within-none parts.maps tag (length parts.maps.slots) MAX_MAPPING_PAGES
    (λ slot index below pinned mapped.
    let k = f.kept slot index tag below pinned mapped in
    let both : Some k.page ≡ Some page = sym k.there ∙ (pages.indexed page tag tagged).1 in
    let same : k.page ≡ page = cc in
    let bad : true ≡ false = sym k.uptodate ∙ ap (λ q. (info_at parts.pages q).uptodate) same ∙ stale in cc)

-- a pinned page is stable
pub hint-pinned : (info : PageInfo) (tag : Tag) → info.tag ≡ Some tag → info.pins ≢ 0 → hint info ≡ S
unfolding hint
hint-pinned info tag tagged pinned =
    let no : nat_eq info.pins 0 ≡ false = false_from_ne_true (nat_eq info.pins 0) (λ t. pinned (eqb-true info.pins 0 t)) in
    rw (tagged, no) (of info.uptodate info.dirty (is_none info.owner))
  where
    told : Bool → Usage
    told again = if again then (if nat_eq info.writers 0 then V else P) else S

    of : (a b c : Bool) → told (a && (not b && (c && false))) ≡ S
    of true true c = refl
    of true false true = refl
    of true false false = refl
    of false b c = refl

-- and so it is never lost
pub lost-unpinned : (state : FlatState) (g : GuestState) (v : StorageView) (d : DiskView) (page : ℕ) (tag : Tag) (found : PageValue) → FitAt state g v d → page < length g.parts.pages.infos
    → (info_at g.parts.pages page).tag ≡ Some tag
    → MayBecome (v.values page) found → is_lost found.contents ≡ true → (info_at g.parts.pages page).pins ≡ 0
lost-unpinned state g v d page tag found f within tagged may lost = elim (cases_eq (info_at g.parts.pages page).pins 0) [
  | inl z ↦ z
  | inr n ↦
      let below : page < v.pages = rw (infos-pages g v d f.sizes) at within in
      let stable = f.hints.hints page below ∙ hint-pinned (info_at g.parts.pages page) tag tagged n in
      let there = stable_there (v.values page) stable (f.hints.values page below) in
      let bad : true ≡ false = sym lost ∙ ap (λ (q : PageValue). is_lost q.contents) (may_stable (v.values page) found stable may) ∙ there in absurd cc
]

-- a command whose tag is on no page needs one
pub begun-needs : (state : FlatState) (g : GuestState) (v : StorageView) (d : DiskView) (cpu : ℕ) (op : Op) (tag : Tag) → FitAt state g v d → Starts g cpu op → Wants g cpu op tag
    → page_of g.parts.cache tag ≡ None → CanNeedPage op
begun-needs state g v d cpu (Read file off len) tag f starts wants none = tt
begun-needs state g v d cpu (Write file off bytes) tag f starts wants none = tt
begun-needs state g v d cpu (Load number off len) tag f starts wants none = tt
begun-needs state g v d cpu (Store number off bytes) tag f starts wants none = tt
begun-needs state g v d cpu (Pin number index) tag f starts wants none = tt
begun-needs state g v d cpu (Unpin number index) tag f starts wants none =
    let k = tag_in-Some g.parts (find_slot g.parts.maps (process_of g.plan cpu) number) index tag wants in
    let its = pin-place g cpu false number index k.0 starts k.1 in
    let few : index < MAX_MAPPING_PAGES = omega (arith, its.below, (f.slots.shown k.0 its.mapping its.at).0) in
    let kept = f.pins.kept k.0 index tag few its.was k.2 in
    let bad : None ≡ Some kept.page = sym none ∙ kept.there in absurd cc
begun-needs state g v d cpu op tag f starts wants none = let bad : None ≡ Some tag = wants in absurd cc
