-- What is left when a guest's words are closed.
use Rattle.std.specs.Prelude.{◌≡◌, ℕ, ◌+◌, List, ◌++◌, length, All, count_by, Bool, Option}
use mathlib.Core.Option.{some}
use lib.ListN.{get_elem?}
use Rattle.essa_state.specs.Layout.{fields_at}
use Rattle.essa_state.specs.PageBody.{Body}
use Rattle.atomic_table.specs.Table.{State}
use Rattle.atomic_table.specs.Seated.{TableId}
use Rattle.state_words.specs.SeatView.{SeatView, WordsView}
use Rattle.state_words.specs.WordsRule.{WordsRule}

-- whether the word that is this number has the busy bit
abbrev pub is_busy_number : ℕ → Bool
is_busy_number raw = (fields_at raw).busy

-- the last state of the words meets the rule, the guest's seat knew this, and so many words were busy
pub record IsLast {D : Type 0} (body : D → Body) (house_of : D → TableId) (words : WordsView) (guest : SeatView) (busy : ℕ) : Type 0 where
  pub state : State (Option D) SeatView
  pub rule : WordsRule body house_of words.house state
  pub whole : length state.words ≡ words.pages
  pub seat : ℕ
  pub guest_there : get_elem? state.views seat ≡ some guest
  pub counted : count_by is_busy_number state.words ≡ busy

-- the list got a body of this house for each page but the busy ones
pub record HasComeBack {D : Type 0} (house_of : D → TableId) (house : TableId) (before after : List D) (busy pages : ℕ) : Type 0 where
  pub got : List D
  pub items : after ≡ before ++ got
  pub housed : All (λ b. house_of b ≡ house) got
  pub count : length got + busy ≡ pages
