use Rattle.std.proofs.Common.{◌≡◌, ◌<◌, None, Some, is_none, set, sym, subst, arith, ◌∙◌}
use Rattle.std.specs.List.{position}
use Rattle.std.proofs.lemmas.List.{length-set}
use Rattle.std.proofs.lemmas.List.Quantifiers.{position-Some}
use Rattle.cmm_types.specs.declared.page.Tag.{Tag}
use Rattle.cmm_types.specs.declared.page.Tag.TheVariants.{Anon}
use Rattle.guest_cache.specs.CacheView.{CacheView, holds_page, swap_slot, free_swap}
use Rattle.guest_cache.specs.SwapTable.{IsSwapIndex}
use Rattle.guest_cache.proofs.Swaps.{IsTable-assigned}
use Rattle.guest_cache.proofs.FreeSlots.{free-set}
use Rattle.guest_cache.proofs.cache.Cache.set_swap.Goals as goal

pub invariant_of-self : goal.invariant_of-self
invariant_of-self c =
    let tag : Tag = Anon c.args.slot c.args.index in
    let swap = c.self.inside.swap.items in
    let below : c.args.slot < c.self.inside.slots = subst (λ (cache : CacheView). c.args.slot < cache.slots) (sym c.self.view_is) c.requires.slot in
    let none : position (holds_page c.args.slot c.args.index) swap ≡ None = subst (λ (cache : CacheView). swap_slot cache (Anon c.args.slot c.args.index) ≡ None) (sym c.self.view_is) c.requires.new in
    let least : position is_none swap ≡ Some c.args.number = subst (λ (cache : CacheView). free_swap cache ≡ Some c.args.number) (sym c.self.view_is) c.requires.least in
    let is = position-Some is_none swap c.args.number None least in
    let size = length-set swap c.args.number (Some tag) in
    let sound = c.self.invariant in (
      sound.0,
      sound.1,
      omega (arith, size, sound.2),
      sound.3,
      sound.4,
      subst (λ swapped. IsSwapIndex c.self.inside.slots (set swap c.args.number (Some tag)) swapped) (sym c.set.ensures)
          (IsTable-assigned c.self.inside.slots swap c.self.inside.swapped c.args.slot c.args.index c.args.number below c.requires.index sound.5 is.0 is.1 none),
      c.set-2.ensures ∙ free-set swap c.self.inside.free c.args.number (Some tag) sound.6,
    )
