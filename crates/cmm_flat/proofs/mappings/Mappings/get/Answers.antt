use Rattle.std.proofs.Common.{sym, ap, ◌∙◌}
use Rattle.std.specs.FinMap as finite
use Rattle.cmm_flat.proofs.Keys.{get_key}
use Rattle.cmm_flat.proofs.mappings.Mappings.get.Goals as goal

pub returns : goal.returns
returns c = c.get.ensures.value ∙ sym (get_key c.self.inside.live.entries c.args.key) ∙ ap (λ m. finite.get m c.args.key) c.self.view_is
