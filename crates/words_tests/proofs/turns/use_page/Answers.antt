use Rattle.state_words.specs.Accesses.{Leads}
use Rattle.state_words.specs.Laws.AccessLaws.{ForSome-held}
use Rattle.words_tests.specs.Sheets.{sheet_body}
use Rattle.words_tests.proofs.Uses.{used}
use Rattle.words_tests.proofs.turns.use_page.Goals as goal

pub release-requires-clause-leads : goal.release-requires-clause-leads
release-requires-clause-leads c =
    let body = sheet_body c.args.sheet in
    let body' = sheet_body c.touch-touched.new.self in
    ForSome-held (λ h. Leads h.word h.body c.apply_order-left.result.0 body') _ (record { page = c.args.page; word = c.args.word; body = body }) c.requires.held
    (used c.args.word body c.apply_order-stable.result.0 c.touch-touched.result c.apply_order-left.result.0 body' c.if-keeps.code
    c.apply_order-stable.ensures.word c.touch-touched.ensures.word c.touch-touched.ensures.body c.apply_order-left.ensures.word)
