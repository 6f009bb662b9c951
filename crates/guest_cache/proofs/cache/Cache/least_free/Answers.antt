use Rattle.std.proofs.Common.{◌≡◌, ◌<◌, Some, None, length, ap, subst, ◌∙◌}
use Rattle.marks.specs.Marking.{NoneMarked}
use Rattle.guest_cache.specs.CacheView.{CacheView, free_swap}
use Rattle.guest_cache.proofs.FreeSlots.{free-count, least_free-marked}
use Rattle.guest_cache.proofs.cache.Cache.least_free.Goals as goal

pub returns-in-Some : goal.returns-in-Some
returns-in-Some c =
    let count : c.len.result ≡ length c.self.inside.swap.items = c.len.ensures ∙ free-count c.self.inside.swap.items c.self.inside.free c.self.invariant.6 in
    let below : c.in-Some.number < length c.self.inside.swap.items = subst (λ n. c.in-Some.number < n) count c.in-Some.ensures.within.1 in
    least_free-marked c.self.inside.swap.items c.self.inside.free (Some c.in-Some.number) c.self.invariant.6 tt (c.in-Some.ensures.within.0, below) c.in-Some.ensures.marked c.in-Some.ensures.first
    ∙ ap (λ (cache : CacheView). free_swap cache) c.self.view_is

pub returns-in-None : goal.returns-in-None
returns-in-None c =
    let count : c.len.result ≡ length c.self.inside.swap.items = c.len.ensures ∙ free-count c.self.inside.swap.items c.self.inside.free c.self.invariant.6 in
    let none : NoneMarked c.self.inside.free 0 (length c.self.inside.swap.items) = subst (λ n. NoneMarked c.self.inside.free 0 n) count c.in-None.ensures.none in
    least_free-marked c.self.inside.swap.items c.self.inside.free None c.self.invariant.6 none tt tt tt ∙ ap (λ (cache : CacheView). free_swap cache) c.self.view_is
