use Rattle.std.specs.Prelude.{◌≡◌}
use Rattle.cmm_vcpu.proofs.OpenGroups.{GuestsSo}
use Rattle.cmm_vcpu.proofs.opening.open_guests.Given as goal

-- the groups of the guests so far
abbrev pub invariant-loop-plan : goal.invariant-loop-plan
invariant-loop-plan l =
    (l.tables.words.items ≡ l.fn.tables.words.items) × (l.tables.hosts.items ≡ l.fn.tables.hosts.items) × (l.seat ≡ l.fn.seat)
    × GuestsSo l.plans l.fn.tables.words.items l.pool l.fn.tables.guests.items l.tables.guests.items l.groups.items l.plan-index
