use Rattle.std.proofs.Common.{rules, ◌≡◌, ◌∙◌, ◌++◌, ap}
use Rattle.std.specs.Prelude.{codes, decimal}
use Rattle.cmm_report.proofs.Joined.{add_on}
use Rattle.cmm_report.proofs.texts.add_cause.Goals as goal

pub returns-in-NoPage-clause-text : goal.returns-in-NoPage-clause-text
returns-in-NoPage-clause-text c =
    let line = c.args.line.now in
    let pinned : c.from.result ≡ c.in-NoPage.pinned = search rules in
    let unslotted : c.from-in-NoPage.result ≡ c.in-NoPage.unslotted = search rules in
    let one : c.add-in-NoPage.new.self ≡ line ++ codes "fail nopage " = c.add-in-NoPage.ensures.text in
    let two = add_on line (codes "fail nopage ") c.add-in-NoPage.new.self (decimal c.in-NoPage.pinned) c.add_number.new.self one
    (c.add_number.ensures.text ∙ ap (λ k. c.add-in-NoPage.new.self ++ decimal k) pinned) in
    let three = add_on line _ c.add_number.new.self (codes " ") c.add-in-NoPage-2.new.self two c.add-in-NoPage-2.ensures.text in
    let four = add_on line _ c.add-in-NoPage-2.new.self (decimal c.in-NoPage.unslotted) c.add_number-in-NoPage.new.self three
    (c.add_number-in-NoPage.ensures.text ∙ ap (λ k. c.add-in-NoPage-2.new.self ++ decimal k) unslotted) in
    rw c.in-NoPage.is four
