use Rattle.std.proofs.Common.{rules, ◌≡◌, ◌∙◌, ◌++◌, ap}
use Rattle.std.specs.Prelude.{codes, decimal}
use Rattle.cmm_report.proofs.Joined.{add_on}
use Rattle.cmm_report.proofs.texts.add_answer.Goals as goal

pub returns-then-paging-clause-text : goal.returns-then-paging-clause-text
returns-then-paging-clause-text c =
    let line = c.args.line.now in
    let count : c.from.result ≡ c.in-Reclaimed.count = search rules in
    let one : c.add-in-Reclaimed.new.self ≡ line ++ codes "reclaimed " = c.add-in-Reclaimed.ensures.text in
    let two = add_on line (codes "reclaimed ") c.add-in-Reclaimed.new.self (decimal c.in-Reclaimed.count) c.add_number.new.self one
    (c.add_number.ensures.text ∙ ap (λ k. c.add-in-Reclaimed.new.self ++ decimal k) count) in
    let three = add_on line _ c.add_number.new.self (codes " failed paging") c.add-then-paging.new.self two c.add-then-paging.ensures.text in
    rw (c.in-Reclaimed.is, c.if-paging.true) three
