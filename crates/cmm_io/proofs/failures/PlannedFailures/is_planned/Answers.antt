use Rattle.std.proofs.Common.{◌∙◌, ap, sym, rules}
use Rattle.std.specs.Ordering.{nat_cmp}
use Rattle.std.proofs.lemmas.List.Sorted.{searched}
use Rattle.std.proofs.lemmas.Fn.{always_returns_same}
use Rattle.cmm_io.specs.FailurePlan.{is_in}
use Rattle.cmm_io.proofs.Planned.{is_in-in_order, is_in-searched}
use Rattle.cmm_io.proofs.failures.PlannedFailures.is_planned.Goals as goal

pub returns : goal.returns
returns c =
    let compares = c.binary_search_by.ensures.position (λ n. nat_cmp n c.args.call) (always_returns_same _ _ _ (λ a r f called. search rules)) in
    let ascending = c.self.invariant in
    c.is_ok.ensures.value
    ∙ is_in-searched _ c.args.call c.binary_search_by.result (searched _ _ _ compares (λ i j. rw c.deref.ensures.value (ascending i j 0)))
    ∙ ap (λ ns. is_in ns c.args.call) c.deref.ensures.value
    ∙ sym (is_in-in_order c.self.inside.numbers.items c.args.call)
    ∙ ap (λ p. is_in p.planned c.args.call) c.self.view_is
