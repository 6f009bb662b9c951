use Rattle.cmm_generate.proofs.PutInTurn.{text_is, reads_back}
use Rattle.cmm_generate.proofs.text.scenario_text.Goals as goal

pub returns-clause-text : goal.returns-clause-text
returns-clause-text c = text_is _ c.args.plan.now _ c.in_ok-tree.ensures c.in_ok-text.ensures.text

pub returns-clause-reads_back : goal.returns-clause-reads_back
returns-clause-reads_back c = reads_back _ c.args.plan.now _ c.in_ok-tree.ensures c.in_ok-text.ensures.utf8 c.in_ok-text.ensures.reads_back
