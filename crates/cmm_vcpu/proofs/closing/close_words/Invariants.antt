use Rattle.std.specs.Prelude.{◌≡◌}
use Rattle.cmm_vcpu.proofs.closing.close_words.Given as goal

abbrev pub invariant-loop-page : goal.invariant-loop-page
invariant-loop-page l = (l.words ≡ l.fn.words) × (l.host ≡ l.fn.host) × (l.seat.pool ≡ l.fn.seat.pool)
