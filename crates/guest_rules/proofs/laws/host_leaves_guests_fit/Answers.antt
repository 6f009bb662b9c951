use Rattle.cmm_flat.specs.Legal.{flat_of}
use Rattle.guest_rules.proofs.Fit.FitMay.{FitAt-may}
use Rattle.guest_rules.proofs.laws.host_leaves_guests_fit.Goals as goal

pub returns : goal.returns
returns c g v d w e fit may = FitAt-may (flat_of g.plan g.journal) g v d w e fit may
