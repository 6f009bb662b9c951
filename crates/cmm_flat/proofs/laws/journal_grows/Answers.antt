use Rattle.cmm_flat.specs.Legal.{start_of}
use Rattle.cmm_flat.specs.Laws.LegalLaws.{walk_of-push, LegalFrom-push}
use Rattle.cmm_flat.proofs.laws.journal_grows.Goals as goal

pub returns-clause-legal : goal.returns-clause-legal
returns-clause-legal c plan journal entry legal next = LegalFrom-push plan (start_of plan) journal entry legal next

pub returns-clause-leads : goal.returns-clause-leads
returns-clause-leads c = walk_of-push
