use Rattle.std.proofs.Common.{sym, ◌∙◌, true, false}
use Rattle.cmm_scenario.specs.Borrowed.{view, members_data}
use Rattle.cmm_scenario.specs.Lent.{texts}
use Rattle.cmm_scenario.proofs.Keys.{keys-all_among, known_keys_given}
use Rattle.cmm_scenario.proofs.tree.known_keys.Goals as goal

pub returns-then-all_among : goal.returns-then-all_among
returns-then-all_among c =
    let members = c.in-Some.members.now in
    sym (known_keys_given (texts c.args.names.now) (view c.args.value.now) (members_data members) true c.in-Some.ensures
    (sym (keys-all_among c.args.names.now members) ∙ sym c.all_among.ensures ∙ c.if-all_among.true))

pub returns-else-all_among : goal.returns-else-all_among
returns-else-all_among c =
    let members = c.in-Some.members.now in
    sym (known_keys_given (texts c.args.names.now) (view c.args.value.now) (members_data members) false c.in-Some.ensures
    (sym (keys-all_among c.args.names.now members) ∙ sym c.all_among.ensures ∙ c.if-all_among.false))
