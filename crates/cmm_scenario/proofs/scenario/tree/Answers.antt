use Rattle.std.proofs.Common.{◌≡◌, ◌≢◌, Option, Some, None, IfOk, IfErr, sym, ap, ◌∙◌, subst}
use Rattle.json.specs.declared.error.Error.TheVariants.{OutOfMemory}
use Rattle.serde_json.specs.Data.{Data}
use Rattle.serde_json.specs.Read.{read}
use Rattle.cmm_scenario.specs.Borrowed.{view}
use Rattle.cmm_scenario.specs.Scenario.{tree_of}
use Rattle.cmm_scenario.proofs.Meanings.{tree_of-text, tree_of-no_text}
use Rattle.cmm_scenario.proofs.scenario.tree.Goals as goal

pub returns-in-Ok-clause-ok : goal.returns-in-Ok-clause-ok
returns-in-Ok-clause-ok c =
    let same : read c.in-Ok.text.now ≡ tree_of c.args.bytes.now = ap read c.in-Ok.ensures.cases.0 ∙ sym (tree_of-text c.args.bytes.now c.in-Ok.ensures.cases.1) in
    subst (λ (tree : Option Data). IfOk c.tree_of_text.result (λ value. tree ≡ Some (view value))) same c.tree_of_text.ensures.ok

pub returns-in-Ok-clause-refused : goal.returns-in-Ok-clause-refused
returns-in-Ok-clause-refused c =
    let same : read c.in-Ok.text.now ≡ tree_of c.args.bytes.now = ap read c.in-Ok.ensures.cases.0 ∙ sym (tree_of-text c.args.bytes.now c.in-Ok.ensures.cases.1) in
    subst (λ (tree : Option Data). IfErr c.tree_of_text.result (λ e. e ≢ OutOfMemory → tree ≡ None)) same c.tree_of_text.ensures.refused

pub returns-in-Err-clause-refused : goal.returns-in-Err-clause-refused
returns-in-Err-clause-refused c other = tree_of-no_text c.args.bytes.now c.in-Err.ensures.cases.0
