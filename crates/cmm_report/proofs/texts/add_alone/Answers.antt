use Rattle.std.proofs.Common.{rules, ◌≡◌, ◌∙◌, ◌++◌, ap}
use Rattle.std.specs.Prelude.{codes, decimal}
use Rattle.cmm_report.proofs.Joined.{add_on}
use Rattle.cmm_report.proofs.texts.add_alone.Goals as goal

pub returns-in-Finished-clause-text : goal.returns-in-Finished-clause-text
returns-in-Finished-clause-text c =
    let n : c.from.result ≡ c.in-Finished.turns = search rules in
    let one : c.add.new.self ≡ c.args.line.now ++ codes "alone finished " = c.add.ensures.text in
    let two : c.add_number.new.self ≡ c.add.new.self ++ decimal c.in-Finished.turns = c.add_number.ensures.text ∙ ap (λ k. c.add.new.self ++ decimal k) n in
    rw c.in-Finished.is (add_on c.args.line.now (codes "alone finished ") c.add.new.self (decimal c.in-Finished.turns) c.add_number.new.self one two)

pub returns-in-Waits-clause-text : goal.returns-in-Waits-clause-text
returns-in-Waits-clause-text c =
    let line = c.args.line.now in
    let turns : c.from-in-Waits.result ≡ c.in-Waits.turns = search rules in
    let page : c.from-in-Waits-2.result ≡ c.in-Waits.page = search rules in
    let owner : c.from-in-Waits-3.result ≡ c.in-Waits.owner = search rules in
    let one : c.add-in-Waits.new.self ≡ line ++ codes "alone waits " = c.add-in-Waits.ensures.text in
    let two = add_on line (codes "alone waits ") c.add-in-Waits.new.self (decimal c.in-Waits.turns) c.add_number-in-Waits.new.self one
    (c.add_number-in-Waits.ensures.text ∙ ap (λ k. c.add-in-Waits.new.self ++ decimal k) turns) in
    let three = add_on line _ c.add_number-in-Waits.new.self (codes " ") c.add-in-Waits-2.new.self two c.add-in-Waits-2.ensures.text in
    let four = add_on line _ c.add-in-Waits-2.new.self (decimal c.in-Waits.page) c.add_number-in-Waits-2.new.self three
    (c.add_number-in-Waits-2.ensures.text ∙ ap (λ k. c.add-in-Waits-2.new.self ++ decimal k) page) in
    let five = add_on line _ c.add_number-in-Waits-2.new.self (codes " ") c.add-in-Waits-3.new.self four c.add-in-Waits-3.ensures.text in
    let six = add_on line _ c.add-in-Waits-3.new.self (decimal c.in-Waits.owner) c.add_number-in-Waits-3.new.self five
    (c.add_number-in-Waits-3.ensures.text ∙ ap (λ k. c.add-in-Waits-3.new.self ++ decimal k) owner) in
    rw c.in-Waits.is six
