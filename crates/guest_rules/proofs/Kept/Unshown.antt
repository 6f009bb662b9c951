-- A page that isn't up to date has no writers: no entry shows it.
use Rattle.std.proofs.Common.{◌≡◌, ◌<◌, ◌/◌, ◌%◌, ◌&&◌, ℕ, Bool, true, false, get_or, Option, Some, None, refl, ap, sym, ◌∙◌, arith}
use Rattle.std.specs.Prelude.{◌==◌}
use Rattle.std.proofs.lemmas.Bool.{eqb-true, false_from_ne_true}
use Rattle.cmm_types.specs.declared.command.TheConstants.{MAX_MAPPING_PAGES}
use Rattle.guest_pages.specs.PagesView.{info_at}
use Rattle.guest_maps.specs.declared.slot.Pte.{Pte}
use Rattle.guest_maps.specs.MapsView.{entry_at, place_at, stores_to}
use Rattle.guest_rules.specs.declared.parts.Parts.{Parts}
use Rattle.guest_rules.specs.Fit.{EntriesFit}
use Rattle.guest_rules.proofs.Cases.MapsFound.{none_counted}

true_and : (a b : Bool) → (a && b) ≡ true → b ≡ true
true_and true b e = e
true_and false b e = let bad : false ≡ true = e in absurd cc

-- an entry that could be stored through shows its page
stores-entry : (page : ℕ) (o : Option Pte) → stores_to page o ≡ true → (pte : Pte) × (o ≡ Some pte) × (pte.page ≡ page)
stores-entry page None e = let bad : false ≡ true = e in absurd cc
stores-entry page (Some pte) e = (pte, refl, eqb-true pte.page page (true_and pte.writable (pte.page == page) e))

place-whole : (i : ℕ) → place_at (i / MAX_MAPPING_PAGES) (i % MAX_MAPPING_PAGES) ≡ i
place-whole i = omega arith

pub stale-unshown : (parts : Parts) (page : ℕ) → EntriesFit parts → (info_at parts.pages page).uptodate ≡ false → (info_at parts.pages page).writers ≡ 0
stale-unshown parts page f stale = f.writers page ∙ none_counted (stores_to page) None parts.maps.entries (λ i below. false_from_ne_true _ (none i))
  where
    none : (i : ℕ) → stores_to page (get_or parts.maps.entries i None) ≡ true → ⊥
    none i t =
        let slot = i / MAX_MAPPING_PAGES in
        let index = i % MAX_MAPPING_PAGES in
        let k = stores-entry page (get_or parts.maps.entries i None) t in
        let e : entry_at parts.maps slot index ≡ Some k.0 = ap (λ n. get_or parts.maps.entries n None) (place-whole i) ∙ k.1 in
        let within : index < MAX_MAPPING_PAGES = omega arith in
        let its = f.entry slot index k.0 within e in
        let bad : true ≡ false = sym its.uptodate ∙ ap (λ q. (info_at parts.pages q).uptodate) k.2 ∙ stale in cc
