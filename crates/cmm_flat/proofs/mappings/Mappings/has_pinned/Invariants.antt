use Rattle.std.proofs.Common.{◌≡◌, ◌-◌}
use Rattle.cmm_flat.specs.Legal.{pinned_pages}
use Rattle.cmm_flat.proofs.Totals.{total}
use Rattle.cmm_flat.proofs.mappings.Mappings.has_pinned.Given as goal

abbrev pub invariant-loop-mapping : goal.invariant-loop-mapping
invariant-loop-mapping l = l.left - total pinned_pages l.mapping-iterator ≡ l.count - total pinned_pages l.initial.mapping-iterator
