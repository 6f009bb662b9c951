use Rattle.std.specs.Prelude.{◌≡◌}
use Rattle.cmm_vcpu.proofs.OpenGroups.{ReclaimersSo}
use Rattle.cmm_vcpu.proofs.opening.add_reclaimers.Given as goal

-- the groups before and the reclaimers so far
abbrev pub invariant-loop : goal.invariant-loop
invariant-loop l =
    (l.tables.words.items ≡ l.fn.tables.words.items) × (l.tables.hosts.items ≡ l.fn.tables.hosts.items) × (l.seat ≡ l.fn.seat)
    × ReclaimersSo l.fn.tables.words.items l.pool l.fn.groups.items l.groups.items l.counter
