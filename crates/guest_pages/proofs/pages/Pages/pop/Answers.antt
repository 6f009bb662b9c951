use Rattle.std.proofs.Common.{arith}
use Rattle.guest_pages.proofs.Stack.{distinct_popped, below_popped}
use Rattle.guest_pages.proofs.pages.Pages.pop.Goals as goal

pub invariant_of-self : goal.invariant_of-self
invariant_of-self c = (
  distinct_popped _ _ c.pop.result c.pop.ensures.items c.self.invariant.0,
  below_popped _ _ _ c.pop.result c.pop.ensures.items c.self.invariant.1,
  omega (arith, c.pop.ensures.capacity),
  c.self.invariant.3,
)
