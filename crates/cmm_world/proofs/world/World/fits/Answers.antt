use Rattle.std.proofs.Common.{refl, subst}
use Rattle.cmm_world.specs.WorldView.{WorldView}
use Rattle.cmm_world.specs.WorldFit.{WorldFit}
use Rattle.cmm_world.specs.Failures.{WorldCounted}
use Rattle.cmm_world.proofs.world.World.fits.Goals as goal

pub returns : goal.returns
returns c = record {
  plans = refl;
  room = refl;
  fit = subst (λ (v : WorldView). WorldFit v.state) c.self.view_is c.self.invariant.0.fit;
  failures = subst (λ (v : WorldView). WorldCounted v.state) c.self.view_is c.self.invariant.0.failures;
}
