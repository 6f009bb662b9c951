use Rattle.cmm_vcpu.proofs.Lost.{loses, lost_few}
use Rattle.cmm_vcpu.proofs.closing.close_pool.Goals as goal

pub returns-clause-lost : goal.returns-clause-lost
returns-clause-lost c = loses c.args.pool c.args.region _ c.close.new.into.items _ c.close.result c.close_region.result c.requires.region c.requires.can c.close.ensures.frames c.close_region.ensures

pub returns-clause-few : goal.returns-clause-few
returns-clause-few c = lost_few c.args.pool c.close_region.result (returns-clause-lost c)
