use Rattle.std.proofs.Common.{sym, ap, ◌∙◌}
use Rattle.cmm_flat.specs.Flat.{flat_step}
use Rattle.cmm_flat.proofs.flat.Flat.step.Goals as goal

pub returns-in-Read-clause-ok : goal.returns-in-Read-clause-ok
returns-in-Read-clause-ok c = c.read.ensures c.args.process ∙ ap (flat_step c.args.self.now c.args.process) (sym c.in-Read.is)

pub returns-in-Write-clause-ok : goal.returns-in-Write-clause-ok
returns-in-Write-clause-ok c = c.write.ensures c.args.process ∙ ap (flat_step c.args.self.now c.args.process) (sym c.in-Write.is)

pub returns-in-Sync-clause-ok : goal.returns-in-Sync-clause-ok
returns-in-Sync-clause-ok c = c.sync.ensures c.args.process ∙ ap (flat_step c.args.self.now c.args.process) (sym c.in-Sync.is)
