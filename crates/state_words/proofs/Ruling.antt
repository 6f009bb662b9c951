-- Which seat holds a page, by the rule.
use Rattle.std.proofs.Common.{◌≡◌, ℕ, ◌<◌, List, length, sym, ap, ◌∙◌, true, false, Option, Some, None, slice_index}
use Rattle.std.proofs.lemmas.Option.{same_Some}
use mathlib.Core.Option.{some}
use lib.ListN.{get_elem?}
use Rattle.essa_state.specs.Laws.LayoutLaws.{fields_at-number}
use Rattle.essa_state.specs.PageValue.{PageValue}
use Rattle.essa_state.specs.PageBody.{Body}
use Rattle.atomic_table.specs.Table.{State}
use Rattle.atomic_table.specs.Seated.{TableId}
use Rattle.state_words.specs.SeatView.{Guest, SeatView, value_at, busied}
use Rattle.state_words.specs.WordsRule.{SeatHolds, HasHolder, PageFits, WordsRule}
use Rattle.state_words.specs.Closing.{is_busy_number}

module _ {D : Type 0} (body : D → Body) (house_of : D → TableId) (house : TableId) where
  pub held_where_busy : (s : State (Option D) SeatView) (page : ℕ) → WordsRule body house_of house s → page < length s.words → is_busy_number (slice_index s.words page) ≡ true → HasHolder s.views page
  held_where_busy s page r inside busy = go (r.by page) (r.pages page inside)
    where
      go : (o : Option ℕ) → PageFits body house_of house s (value_at r.values page) page o → HasHolder s.views page
      go None h = absurd (let bad : false ≡ true = sym (ap (λ q. q.busy) (fields_at-number (slice_index s.words page) h.word h.written) ∙ h.free) ∙ busy in cc)
      go (Some seat) h = (seat, h)

  pub busy_where_held : (s : State (Option D) SeatView) (page : ℕ) → WordsRule body house_of house s → HasHolder s.views page → is_busy_number (slice_index s.words page) ≡ true
  busy_where_held s page r (seat, h) =
      let f = ((r.seats seat h.view h.there).holds h.hold h.held).1 in
      ap (λ q. q.busy) (fields_at-number (slice_index s.words page) (busied h.hold.word) (ap (slice_index s.words) (sym h.of_page) ∙ f.written))

  pub one_holder : (s : State (Option D) SeatView) (page i j : ℕ) → WordsRule body house_of house s → SeatHolds s.views i page → SeatHolds s.views j page → i ≡ j
  one_holder s page i j r h k =
      let by_i : r.by page ≡ Some i = ap r.by (sym h.of_page) ∙ ((r.seats i h.view h.there).holds h.hold h.held).0 in
      let by_j : r.by page ≡ Some j = ap r.by (sym k.of_page) ∙ ((r.seats j k.view k.there).holds k.hold k.held).0 in
      same_Some i j (sym by_i ∙ by_j)

  pub one_guest : (s : State (Option D) SeatView) (i j : ℕ) (v w : SeatView) (vs ws : List PageValue) → WordsRule body house_of house s → get_elem? s.views i ≡ some v → v.role ≡ Guest vs
      → get_elem? s.views j ≡ some w → w.role ≡ Guest ws → i ≡ j
  one_guest s i j v w vs ws r at role at' role' = ((r.seats i v at).guests vs role).0 ∙ sym ((r.seats j w at').guests ws role').0
