use Rattle.std.proofs.Common.{ap}
use Rattle.std.proofs.lemmas.List.Sorted.{IsNonDecreasingBy-from_sort}
use Rattle.cmm_io.proofs.Planned.{in_order-permutation}
use Rattle.cmm_io.proofs.failures.PlannedFailures.new.Goals as goal

pub invariant_of-result : goal.invariant_of-result
invariant_of-result c = IsNonDecreasingBy-from_sort (λ n. n) _ c.sort_unstable.ensures.sorted

pub returns : goal.returns
returns c = ap (λ ns. record { calls = 0; planned = ns; faults = 0 }) (in_order-permutation _ _ c.sort_unstable.ensures.permutation)
