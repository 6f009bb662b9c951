use Rattle.std.proofs.Common.{◌≡◌, take}
use Rattle.cmm_vcpu.specs.Opening.{AreTables}
use Rattle.cmm_vcpu.proofs.open.open_tables.Given as goal

-- the words of the plans so far
abbrev pub invariant-loop-plan : goal.invariant-loop-plan
invariant-loop-plan l = (l.seat ≡ l.fn.seat) × AreTables (take l.plan-index l.plans) l.pool l.tables.words.items l.tables.guests.items l.tables.hosts.items
