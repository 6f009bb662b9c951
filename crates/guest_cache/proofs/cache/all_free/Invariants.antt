use Rattle.std.proofs.Common.{◌≡◌, ◌<◌, ℕ, length, get_or, true, false}
use Rattle.guest_cache.proofs.cache.all_free.Given as goal

abbrev pub invariant-loop-number : goal.invariant-loop-number
invariant-loop-number l = (length l.free ≡ l.count) × ((k : ℕ) → k < l.number → get_or l.free k false ≡ true)
