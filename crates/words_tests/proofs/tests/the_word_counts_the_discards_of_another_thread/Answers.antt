use Rattle.std.proofs.Common.{rules, ◌≡◌, [], ◌∷◌, None, sym, refl, subst}
use Rattle.std.specs.Prelude.{All}
use Rattle.state_words.specs.WordsRule.{FitsStart}
use Rattle.words_tests.specs.Sheets.{SheetView, sheet_body, house_of}
use Rattle.words_tests.proofs.Uses.{two_start}
use Rattle.words_tests.proofs.tests.the_word_counts_the_discards_of_another_thread.Goals as goal

pub open-requires-clause-start : goal.open-requires-clause-start
open-requires-clause-start g c =
    let sheet : SheetView = record { pool = 7; frame = None; block = 0 } in
    let items : c.push-2.new.self.items ≡ sheet ∷ sheet ∷ [] = search rules in
    (house_of sheet, subst (All (FitsStart sheet_body house_of (house_of sheet))) (sym items) (two_start sheet refl))
