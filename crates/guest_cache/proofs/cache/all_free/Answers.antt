use Rattle.std.proofs.Common.{arith}
use Rattle.guest_cache.proofs.FreeSlots.{all-marked}
use Rattle.guest_cache.proofs.cache.all_free.Goals as goal

pub returns : goal.returns
returns c =
    all-marked c.loop-number.free c.args.count c.loop-number.invariant.0
    (λ k below. c.loop-number.invariant.1 k (omega (arith, below, c.loop-number-test.false, c.loop-number.auto.number-end)))
