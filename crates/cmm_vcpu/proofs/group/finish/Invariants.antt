use Rattle.std.specs.Prelude.{◌≡◌}
use Rattle.cmm_vcpu.specs.KernelState.{words_of, own_words, pool_of}
use Rattle.cmm_vcpu.proofs.group.finish.Given as goal

abbrev pub invariant-loop : goal.invariant-loop
invariant-loop g l =
    (goal.iterator-loop g).can_next l.iterator' × (goal.iterator-loop g).is_finite l.iterator'
    × (l.kernel.guest.plan ≡ l.fn.kernel.guest.plan) × (words_of l.kernel ≡ words_of l.fn.kernel) × (own_words l.kernel ≡ own_words l.fn.kernel) × (pool_of l.kernel ≡ pool_of l.fn.kernel)
