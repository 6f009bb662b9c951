-- The current bytes of a tag: what the host may do keeps them.
use Rattle.std.proofs.Common.{◌≡◌, ◌≢◌, ◌<◌, ℕ, Bool, true, false, not, ◌&&◌, List, Option, Some, None, refl, ap, sym, ◌∙◌, inl, inr, nat_eq, if◌then◌else◌, is_none}
use Rattle.cmm_types.specs.declared.page.Usage.TheVariants.{S, P, V}
use Rattle.cmm_types.specs.declared.page.Tag.{Tag}
use Rattle.cmm_io.specs.DiskView.{DiskView}
use Rattle.essa_state.specs.PageValue.{PageValue, Contents, Bytes, Blank, Lost, MayBecome, may_lose, is_lost}
use Rattle.cmm_storage.specs.StorageView.{StorageView}
use Rattle.guest_pages.specs.declared.info.PageInfo.{PageInfo}
use Rattle.guest_pages.specs.PagesView.{info_at}
use Rattle.guest_cache.specs.CacheView.{CacheView, IsTag, page_of}
use Rattle.guest_rules.specs.declared.parts.Parts.{Parts}
use Rattle.guest_rules.specs.Hint.{hint, can_be_fetched_again}
use Rattle.guest_rules.specs.Fit.{PagesFit, IsFlatTag, backing, current_bytes, current_at, current}
use Rattle.guest_rules.proofs.Rows.ValueLaws.{hint-tagged}
use Rattle.guest_rules.proofs.Kept.PageFits.{PageFits, EachPageFits, backing-same}

clean_if : (u d n p w : Bool) → may_lose (if (u && (not d && (n && p))) then (if w then V else P) else S) false ≡ true → (u ≡ true) × (d ≡ false)
clean_if true false n p w e = (refl, refl)
clean_if true true n p w e = let bad : false ≡ true = e in absurd cc
clean_if false d n p w e = let bad : false ≡ true = e in absurd cc

never_lost : (u d n p w : Bool) → may_lose (if (u && (not d && (n && p))) then (if w then V else P) else S) true ≡ true → (if (u && (not d && (n && p))) then (if w then V else P) else S) ≡ V
never_lost true false true true true e = refl
never_lost true false true true false e = let bad : false ≡ true = e in absurd cc
never_lost true false true false w e = let bad : false ≡ true = e in absurd cc
never_lost true false false p w e = let bad : false ≡ true = e in absurd cc
never_lost true true n p w e = let bad : false ≡ true = e in absurd cc
never_lost false d n p w e = let bad : false ≡ true = e in absurd cc

-- what may be lost is clean
pub record CanBeLost (info : PageInfo) (value : PageValue) : Type 0 where
  pub uptodate : info.uptodate ≡ true
  pub clean : info.dirty ≡ false
  pub unchanged : value.changed ≡ false

unchanged_if : (b : Bool) → (b ≡ true → b ≡ false) → b ≡ false
unchanged_if true f = f refl
unchanged_if false f = refl

pub can_be_lost : (cache : CacheView) (d : DiskView) (info : PageInfo) (x : PageValue) (tag : Tag) → PageFits cache d info x → info.tag ≡ Some tag → may_lose x.usage x.changed ≡ true
    → CanBeLost info x
unfolding hint
can_be_lost cache d info x tag s tagged lose =
    record { uptodate = parts.0; clean = parts.1; unchanged = unchanged }
  where
    usage : x.usage ≡ (if can_be_fetched_again info then (if nat_eq info.writers 0 then V else P) else S)
    usage = s.hinted ∙ (rw tagged refl)

    unchanged : x.changed ≡ false
    unchanged = unchanged_if x.changed (λ c. s.volatile (usage
        ∙ never_lost info.uptodate info.dirty (is_none info.owner) (nat_eq info.pins 0) (nat_eq info.writers 0) (ap (λ u. may_lose u true) (sym usage) ∙ ap (λ b. may_lose x.usage b) (sym c) ∙ lose)))

    parts : (info.uptodate ≡ true) × (info.dirty ≡ false)
    parts = clean_if info.uptodate info.dirty (is_none info.owner) (nat_eq info.pins 0) (nat_eq info.writers 0)
        (ap (λ u. may_lose u false) (sym usage) ∙ ap (λ b. may_lose x.usage b) (sym unchanged) ∙ lose)

-- the bytes that count, of a page with a tag, stay through what the host may do
pub current_bytes-may : (cache : CacheView) (d : DiskView) (info : PageInfo) (x y : PageValue) (tag : Tag) → PageFits cache d info x → info.tag ≡ Some tag → MayBecome x y
    → current_bytes info.uptodate y.contents (backing cache d tag) ≡ current_bytes info.uptodate x.contents (backing cache d tag)
current_bytes-may cache d info x y tag s tagged (inl e) = ap (λ (z : PageValue). current_bytes info.uptodate z.contents (backing cache d tag)) e
current_bytes-may cache d info x y tag s tagged (inr (inl lost)) =
    let can = can_be_lost cache d info x tag s tagged lost.allowed in
    ap (λ (z : PageValue). current_bytes info.uptodate z.contents (backing cache d tag)) lost.value
    ∙ ap (λ u. current_bytes u Lost (backing cache d tag)) can.uptodate
    ∙ sym (ap (λ u. current_bytes u x.contents (backing cache d tag)) can.uptodate
    ∙ ap (λ c. current_bytes true c (backing cache d tag)) (s.same tag tagged can.uptodate can.clean can.unchanged lost.there))
current_bytes-may cache d info x y tag s tagged (inr (inr other)) = absurd (hint-tagged info tag tagged (sym s.hinted ∙ other.unused))

-- of a page that isn't up to date what backs it counts, and of a lost one
pub current_bytes-stale : (uptodate : Bool) (contents : Contents) (behind : List ℕ) → uptodate ≡ false → current_bytes uptodate contents behind ≡ behind
current_bytes-stale uptodate contents behind e = ap (λ u. current_bytes u contents behind) e

pub current_bytes-lost : (uptodate : Bool) (contents : Contents) (behind : List ℕ) → is_lost contents ≡ true → current_bytes uptodate contents behind ≡ behind
current_bytes-lost false contents behind e = refl
current_bytes-lost true (Bytes bytes) behind e = let bad : false ≡ true = e in absurd cc
current_bytes-lost true Blank behind e = let bad : false ≡ true = e in absurd cc
current_bytes-lost true Lost behind e = refl

-- current bytes where each tag's page has the same ones
pub record SameCurrent (old : Parts) (v : StorageView) (d : DiskView) (new : Parts) (w : StorageView) (e : DiskView) (page : ℕ) : Type 0 where
  pub fits : EachPageFits old v d
  pub pages : PagesFit old
  pub flat_is : (tag : Tag) → IsFlatTag old tag → IsTag old.cache tag
  pub files : new.cache.files ≡ old.cache.files
  pub swap : new.cache.swap ≡ old.cache.swap
  pub blocks : e.blocks ≡ d.blocks
  pub infos : (i : ℕ) → i ≢ page → info_at new.pages i ≡ info_at old.pages i
  pub values : (i : ℕ) → i ≢ page → MayBecome (v.values i) (w.values i)

pub current-other : (old new : Parts) (v w : StorageView) (d e : DiskView) (page : ℕ) (tag : Tag) → SameCurrent old v d new w e page → IsTag old.cache tag → page_of old.cache tag ≢ Some page
    → page_of new.cache tag ≡ page_of old.cache tag
    → current new w e tag ≡ current old v d tag
current-other old new v w d e page tag k is other same = ap (λ o. current_at new w o (backing new.cache e tag)) same
    ∙ ap (current_at new w (page_of old.cache tag)) (backing-same old.cache new.cache d e tag k.files k.swap k.blocks) ∙ of (page_of old.cache tag) refl
  where
    of : (o : Option ℕ) → page_of old.cache tag ≡ o → current_at new w o (backing old.cache d tag) ≡ current_at old v o (backing old.cache d tag)
    of None z = refl
    of (Some i) z =
        let n : i ≢ page = λ q. other (z ∙ ap (λ x. Some x) q) in
        let here = k.pages.found i tag is z in
        let below : i < v.pages = rw k.fits.size at here.0 in
        ap (λ (info : PageInfo). current_bytes info.uptodate (w.values i).contents (backing old.cache d tag)) (k.infos i n)
        ∙ current_bytes-may old.cache d (info_at old.pages i) (v.values i) (w.values i) tag (k.fits.each i below) here.1 (k.values i n)
