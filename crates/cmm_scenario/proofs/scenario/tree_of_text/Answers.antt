use Rattle.std.proofs.Common.{◌≡◌, true, false, Some, sym, ap, ◌∙◌}
use Rattle.json.specs.Json.{value}
use Rattle.json.specs.Lex.{tokens}
use Rattle.json.specs.Value.{value_view}
use Rattle.cmm_scenario.proofs.DataOf.{read-and_more, read-whole}
use Rattle.cmm_scenario.proofs.scenario.tree_of_text.Goals as goal

pub returns-then-is_some-clause-refused : goal.returns-then-is_some-clause-refused
returns-then-is_some-clause-refused c never =
    let read : value 127 (tokens c.args.text.now) ≡ Some (value_view c.in_ok-value.value, c.read.new.reader) = ap (value 127) (sym c.in_ok-reader.ensures.ok) ∙ c.in_ok-value.ensures.ok in
    read-and_more c.args.text.now (value_view c.in_ok-value.value) c.read.new.reader c.next.new.self c.next.result c.next.ensures.value (sym c.is_some.ensures ∙ c.if-is_some.true) read

pub returns-then-not-numbers_fit-clause-refused : goal.returns-then-not-numbers_fit-clause-refused
returns-then-not-numbers_fit-clause-refused c never =
    let read : value 127 (tokens c.args.text.now) ≡ Some (value_view c.in_ok-value.value, c.read.new.reader) = ap (value 127) (sym c.in_ok-reader.ensures.ok) ∙ c.in_ok-value.ensures.ok in
    read-whole c.args.text.now (value_view c.in_ok-value.value) c.read.new.reader c.next.new.self c.next.result false c.next.ensures.value (sym c.is_some.ensures ∙ c.if-is_some.false) read
    (sym c.numbers_fit.ensures ∙ c.if-not-numbers_fit.true)

pub returns-clause-ok : goal.returns-clause-ok
returns-clause-ok c =
    let read : value 127 (tokens c.args.text.now) ≡ Some (value_view c.in_ok-value.value, c.read.new.reader) = ap (value 127) (sym c.in_ok-reader.ensures.ok) ∙ c.in_ok-value.ensures.ok in
    read-whole c.args.text.now (value_view c.in_ok-value.value) c.read.new.reader c.next.new.self c.next.result true c.next.ensures.value (sym c.is_some.ensures ∙ c.if-is_some.false) read
    (sym c.numbers_fit.ensures ∙ c.if-not-numbers_fit.false)
