use Rattle.std.proofs.Common.{sym, ap, ◌∙◌}
use Rattle.std.specs.FinMap as finite
use Rattle.cmm_flat.specs.declared.mapping.Mapping.{Mapping}
use Rattle.cmm_flat.specs.Mapping.{key_cmp}
use Rattle.cmm_flat.proofs.mappings.Mappings.new.Goals as goal

pub invariant_of-result : goal.invariant_of-result
invariant_of-result c = sym (ap (λ es. finite.len (finite.from_entries {R = key_cmp} es)) c.new.ensures.empty ∙ finite.len-empty key_cmp Mapping)
