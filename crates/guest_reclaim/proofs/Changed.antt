-- A page stays in use where its change bit moves into what is known of it.
use Rattle.std.specs.Prelude.{◌≡◌, ◌<◌, ℕ, List, Bool, true, false, Option, Contains, IfSome, refl}
use Rattle.std.proofs.Common.{sym, ap, subst, ◌∙◌}
use Rattle.cmm_types.specs.declared.page.Tag.{Tag}
use Rattle.guest_pages.specs.declared.info.PageInfo.{PageInfo}
use Rattle.guest_pages.specs.PagesView.{info_at}
use Rattle.guest_cache.specs.CacheView.{CacheView, IsTag}
use Rattle.guest_maps.specs.MapsView.{MapsView}
use Rattle.guest_rules.specs.declared.parts.Parts.{Parts}
use Rattle.guest_rules.specs.Rows.{with_change}
use Rattle.guest_rules.specs.Calls.{IsInUse}
use Rattle.guest_rules.proofs.Kept.RowChanges.{change-changed, changed_info, only-changed, maps-changed}

changed_tag : (changed : Bool) (info : PageInfo) → (changed_info changed info).tag ≡ info.tag
changed_tag true info = refl
changed_tag false info = refl

pub in_use-changed : (parts : Parts) (page : ℕ) (changed : Bool) → IsInUse parts page → IsInUse (with_change parts page changed) page
in_use-changed parts page changed k =
    let c = change-changed parts page changed k.below in
    let only = only-changed parts page changed in
    let same : (info_at (with_change parts page changed).pages page).tag ≡ (info_at parts.pages page).tag = ap (λ (i : PageInfo). i.tag) c.here ∙ changed_tag changed (info_at parts.pages page) in
    record {
      below = subst (λ n. page < n) (sym c.size) k.below;
      shown = subst (λ (maps : MapsView). page < maps.pages) (sym (maps-changed parts page changed)) k.shown;
      not_free = λ there. k.not_free (subst (λ (free : List ℕ). Contains free page) only.free there);
      tag = subst (λ (o : Option Tag). IfSome o (λ tag. IsTag (with_change parts page changed).cache tag)) (sym same)
          (subst (λ (cache : CacheView). IfSome (info_at parts.pages page).tag (λ tag. IsTag cache tag)) (sym only.cache) k.tag);
    }
