use Rattle.std.proofs.Common.{◌≡◌, false, map, Some, string_bytes, subst, rules}
use Rattle.std.specs.List.{list_any}
use Rattle.cmm_line.specs.Words.{is_option, rest_of, Takes}
use Rattle.cmm_line.proofs.Lines.{option_line, no_line, named_line, none_options, other_count}
use Rattle.cmm_line.proofs.line.line_of.Goals as goal

pub returns-then-has_option-clause-is : goal.returns-then-has_option-clause-is
returns-then-has_option-clause-is c = option_line (map string_bytes c.args.words.now) (search rules)

pub read_words-requires : goal.read_words-requires
read_words-requires c = none_options string_bytes c.args.words.now (search rules)

pub returns-in-Some-clause-is : goal.returns-in-Some-clause-is
returns-in-Some-clause-is c =
    let words = map string_bytes c.args.words.now in
    let plain : list_any is_option words ≡ false = search rules in
    let is : Takes words (Some c.in-Some.words) = subst (Takes words) c.in-Some.is c.in_ok-words.ensures in
    named_line words c.in-Some.words.name.now (rest_of c.in-Some.words) c.line_named.result plain is c.line_named.ensures.is

pub returns-in-None-clause-is : goal.returns-in-None-clause-is
returns-in-None-clause-is c =
    let words = map string_bytes c.args.words.now in
    let plain : list_any is_option words ≡ false = search rules in
    no_line words plain (other_count words (subst (Takes words) c.in-None.is c.in_ok-words.ensures))
