use Rattle.std.proofs.Common.{sym, ap, ◌∙◌}
use Rattle.cmm_flat.specs.Flat.{refusal_of}
use Rattle.cmm_flat.proofs.flat.Flat.refusal.Goals as goal

pub returns-in-Sync : goal.returns-in-Sync
returns-in-Sync c = c.refusal_of_sync.ensures c.args.process ∙ ap (refusal_of c.args.self.now c.args.process) (sym c.in-Sync.is)

pub returns-in-MapFile : goal.returns-in-MapFile
returns-in-MapFile c = c.refusal_of_map_file.ensures c.in-MapFile.writable ∙ ap (refusal_of c.args.self.now c.args.process) (sym c.in-MapFile.is)

pub returns-in-MapAnon : goal.returns-in-MapAnon
returns-in-MapAnon c = c.refusal_of_map_anon.ensures c.in-MapAnon.count ∙ ap (refusal_of c.args.self.now c.args.process) (sym c.in-MapAnon.is)
