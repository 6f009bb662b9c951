-- Room can be made on three pages of a file of which none is free.
use Rattle.std.specs.Prelude.{◌≡◌, ◌<◌, ℕ, zero, suc, [], ◌∷◌, length, Contains, Option, Some, None, IfSome}
use Rattle.std.proofs.Common.{arith, sym, ap, subst, ◌∙◌}
use Rattle.cmm_types.specs.declared.page.Tag.{Tag}
use Rattle.cmm_types.specs.declared.page.Tag.TheVariants.{File}
use Rattle.cmm_storage.specs.StorageView.{StorageView}
use Rattle.guest_pages.specs.declared.info.PageInfo.{PageInfo}
use Rattle.guest_pages.specs.PagesView.{PagesView, info_at}
use Rattle.guest_cache.specs.CacheView.{CacheView, IsTag, opening_cache}
use Rattle.guest_rules.specs.declared.parts.Parts.{Parts}
use Rattle.guest_rules.specs.Calls.{CanMakeRoom}

abbrev three : (a b c : PageInfo) → PagesView
three a b c = record { infos = a ∷ b ∷ c ∷ []; free = [] }

-- each has the tag of the file's page of its number
tags : (a b c : PageInfo) → a.tag ≡ Some (File 0 0) → b.tag ≡ Some (File 0 1) → c.tag ≡ Some (File 0 2) → (page : ℕ) → page < 3 → (info_at (three a b c) page).tag ≡ Some (File 0 page)
tags a b c ta tb tc zero below = ta
tags a b c ta tb tc (suc zero) below = tb
tags a b c ta tb tc (suc (suc zero)) below = tc
tags a b c ta tb tc (suc (suc (suc page))) below = absurd (omega (arith, below))

-- a storage of three pages holds none
pub record IsReady (v : StorageView) : Type 0 where
  pub pages : v.pages ≡ 3
  pub none_held : v.held ≡ None

pub three_can : (parts : Parts) (v : StorageView) (a b c : PageInfo) → parts.pages ≡ record { infos = a ∷ b ∷ c ∷ []; free = [] } → parts.cache ≡ opening_cache (3 ∷ []) 0 0 → parts.maps.pages ≡ 3
    → a.tag ≡ Some (File 0 0) → b.tag ≡ Some (File 0 1) → c.tag ≡ Some (File 0 2) → IsReady v → CanMakeRoom parts v
three_can parts v a b c pages cache maps ta tb tc ready = record {
  full = ap (λ (p : PagesView). p.free) pages;
  tagged = λ page below none. let bad : Some (File 0 page) ≡ None = sym (tagged page (few page below)) ∙ none in cc;
  takes = λ page below. record {
    in_use = record {
      below = below;
      shown = omega (arith, few page below, maps);
      not_free = λ there. omega (arith, (subst (λ (p : PagesView). Contains p.free page) pages there).1);
      tag = subst (λ (o : Option Tag). IfSome o (λ tag. IsTag parts.cache tag)) (sym (tagged page (few page below)))
          (subst (λ (k : CacheView). IsTag k (File 0 page)) (sym cache) (omega arith, few page below));
    };
    there = omega (arith, few page below, ready.pages);
    none_held = ready.none_held;
  };
  none_held = ready.none_held;
}
  where
    few : (page : ℕ) → page < length parts.pages.infos → page < 3
    few page below = subst (λ (p : PagesView). page < length p.infos) pages below

    tagged : (page : ℕ) → page < 3 → (info_at parts.pages page).tag ≡ Some (File 0 page)
    tagged page below = ap (λ (p : PagesView). (info_at p page).tag) pages ∙ tags a b c ta tb tc page below
