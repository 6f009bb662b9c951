use Rattle.std.proofs.Common.{◌≡◌, ◌∙◌, Bool, true, false, codes, map, string_bytes, ap, subst, sym}
use Rattle.std.specs.Str.{bytes_eq}
use Rattle.cmm_line.specs.Line.{begins_run}
use Rattle.cmm_line.proofs.FirstWord.{first_word, no_word, run_is, other_is}
use Rattle.cmm_line.proofs.line.begins_run.Goals as goal

begins : (c : goal.After-is_run) → c.is_run.result ≡ begins_run (map string_bytes c.args.words.now)
begins c = c.is_run.ensures ∙ ap (λ w. bytes_eq w (codes "run")) c.as_str.ensures.value ∙ first_word string_bytes c.args.words.now c.word-item.result c.in-len1-up.len_at_least c.word-item.is

pub returns-in-len1-up-clause-is : goal.returns-in-len1-up-clause-is
returns-in-len1-up-clause-is c = begins c

pub returns-in-len1-up-clause-run : goal.returns-in-len1-up-clause-run
returns-in-len1-up-clause-run c = λ yes. run_is (map string_bytes c.args.words.now) (subst (λ b. b ≡ true) (begins c) yes)

pub returns-in-len1-up-clause-other : goal.returns-in-len1-up-clause-other
returns-in-len1-up-clause-other c = λ no. other_is (map string_bytes c.args.words.now) (subst (λ b. b ≡ false) (begins c) no)

pub returns-in-empty-clause-is : goal.returns-in-empty-clause-is
returns-in-empty-clause-is c = no_word string_bytes c.args.words.now c.in-empty.len_below

pub returns-in-empty-clause-other : goal.returns-in-empty-clause-other
returns-in-empty-clause-other c = λ no. other_is (map string_bytes c.args.words.now) (subst (λ b. b ≡ false) (no_word string_bytes c.args.words.now c.in-empty.len_below) no)
