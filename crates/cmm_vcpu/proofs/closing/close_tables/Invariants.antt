use Rattle.std.specs.Prelude.{◌≡◌}
use Rattle.cmm_vcpu.proofs.closing.close_tables.Given as goal

abbrev pub invariant-loop-guest : goal.invariant-loop-guest
invariant-loop-guest l = (l.words ≡ l.fn.words) × (l.hosts ≡ l.fn.hosts) × (l.seat.pool ≡ l.fn.seat.pool)
