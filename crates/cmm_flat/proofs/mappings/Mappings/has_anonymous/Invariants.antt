use Rattle.std.proofs.Common.{◌≡◌, ◌-◌}
use Rattle.cmm_flat.specs.Legal.{anonymous_pages}
use Rattle.cmm_flat.proofs.Totals.{total}
use Rattle.cmm_flat.proofs.mappings.Mappings.has_anonymous.Given as goal

abbrev pub invariant-loop-mapping : goal.invariant-loop-mapping
invariant-loop-mapping l = l.left - total anonymous_pages l.mapping-iterator ≡ l.count - total anonymous_pages l.initial.mapping-iterator
