use Rattle.std.specs.Prelude.{◌≡◌, List, [], ◌∷◌, ◌++◌, All}
use Rattle.std.proofs.Common.{rules, arith, ap, sym, subst, ◌∙◌}
use Rattle.atomic_table.specs.Seated.{TableId}
use Rattle.state_words.specs.SeatView.{WordsView}
use Rattle.host_shared.specs.Bodies.{BodyParts, body_house}
use Rattle.host_shared_tests.proofs.opening.close.Goals as goal

pub give_all-lent-requires-clause-house : goal.give_all-lent-requires-clause-house
give_all-lent-requires-clause-house c =
    let back = c.close-busy.ensures.bodies in
    let w : WordsView = c.args.hosted.host.words in
    let table : c.in-Some.table ≡ w = search rules in
    let housed : All (λ (v : WordsView). v.house ≡ c.args.hosted.pool.table) (w ∷ []) =
    subst (All (λ (v : WordsView). v.house ≡ c.args.hosted.pool.table)) c.requires.words c.requires.bound.can.housed in
    let house : c.in-Some.table.house ≡ c.args.hosted.pool.table = ap (λ (v : WordsView). v.house) table ∙ housed 0 w (omega arith) in
    let before : c.in_ok-home.home.items ≡ [] = search rules in
    let items : c.close-busy.new.into.items ≡ back.got = back.items ∙ ap (λ (bs : List BodyParts). bs ++ back.got) before in
    subst (All (λ (b : BodyParts). body_house b ≡ c.args.hosted.pool.table)) (sym items)
    (subst (λ (h : TableId). All (λ (b : BodyParts). body_house b ≡ h) back.got) house back.housed)
