-- A page of a mapping slot without a swap slot gets the least free one.
use Rattle.std.specs.Prelude.{◌≡◌, ℕ, Bool, true, false, not, Option, Some, None, is_some, refl}
use Rattle.std.proofs.Common.{ap, ◌∙◌}
use Rattle.cmm_types.specs.declared.page.Tag.TheVariants.{Anon}
use Rattle.guest_cache.specs.CacheView.{CacheView, swap_slot, free_swap, assigned}
use Rattle.guest_rules.specs.MakeRoom.{with_swap_slot}

-- its swap slot was looked up
module _ (cache : CacheView) (slot index : ℕ) where
  pub slot_given : (found : Option ℕ) (none : Bool) → swap_slot cache (Anon slot index) ≡ found → is_some found ≡ not none → none ≡ true
      → with_swap_slot cache (Some (Anon slot index)) ≡ assigned cache (Anon slot index) (free_swap cache)
  slot_given None none at test so = rw at refl
  slot_given (Some number) none at test so = let bad : true ≡ false = test ∙ ap not so in absurd cc

  pub slot_there : (found : Option ℕ) (none : Bool) → swap_slot cache (Anon slot index) ≡ found → is_some found ≡ not none → none ≡ false → with_swap_slot cache (Some (Anon slot index)) ≡ cache
  slot_there None none at test so = let bad : false ≡ true = test ∙ ap not so in absurd cc
  slot_there (Some number) none at test so = rw at refl
