use Rattle.std.specs.Prelude.{◌≡◌}
use Rattle.cmm_vcpu.specs.KernelState.{words_of, own_words, pool_of}
use Rattle.cmm_vcpu.proofs.group.round.Given as goal

abbrev pub invariant-loop-cpu : goal.invariant-loop-cpu
invariant-loop-cpu l =
    (l.kernel.guest.plan ≡ l.fn.kernel.guest.plan)
    × (words_of l.kernel ≡ words_of l.fn.kernel)
    × (own_words l.kernel ≡ own_words l.fn.kernel)
    × (pool_of l.kernel ≡ pool_of l.fn.kernel)
