use Rattle.std.proofs.Common.{◌≡◌, ◌∙◌, ◌+◌, true, false, get_or, sym, ap}
use Rattle.cmm_io.specs.FailurePlan.{is_in}
use Rattle.cmm_check.proofs.Distinct.{others, distinct-again, distinct-new, distinct-none}
use Rattle.cmm_check.proofs.journal.+distinct.Goals as goal

pub returns-in-empty-clause-value : goal.returns-in-empty-clause-value
returns-in-empty-clause-value t c = sym (distinct-none c.args.numbers.now c.in-empty.len_below)

pub returns-then-contains-clause-value : goal.returns-then-contains-clause-value
returns-then-contains-clause-value t c =
    let found : is_in (others c.args.numbers.now) (get_or c.args.numbers.now 0 0) ≡ true = sym c.contains.ensures.value ∙ c.if-contains.true in
    c.distinct-others.ensures.value ∙ sym (distinct-again c.args.numbers.now c.in-len1-up.len_at_least found)

pub returns-else-contains-clause-value : goal.returns-else-contains-clause-value
returns-else-contains-clause-value t c =
    let none : is_in (others c.args.numbers.now) (get_or c.args.numbers.now 0 0) ≡ false = sym c.contains.ensures.value ∙ c.if-contains.false in
    ap (λ n. n + 1) c.distinct-others.ensures.value ∙ sym (distinct-new c.args.numbers.now c.in-len1-up.len_at_least none)
