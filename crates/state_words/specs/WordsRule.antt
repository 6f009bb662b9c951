-- The rule over a guest's words, the bodies of its pages and the views of all seats.
use Rattle.std.specs.Prelude.{◌≡◌, ℕ, ◌<◌, List, length, slice_index, true, false, Option, Some, None}
use mathlib.Core.Option.{some}
use mathlib.Core.Option as maybe
use lib.ListN.{get_elem?}
use Rattle.essa_state.specs.declared.fields.Fields.{Fields}
use Rattle.essa_state.specs.StateWord.{is_permitted, number_of, opening_word}
use Rattle.essa_state.specs.PageValue.{PageValue, MayBecome}
use Rattle.essa_state.specs.PageBody.{Body, FitsWord, actual}
use Rattle.atomic_table.specs.Table.{State}
use Rattle.atomic_table.specs.Seated.{TableId}
use Rattle.state_words.specs.SeatView.{Hold, found_value, Guest, SeatView, value_at, is_spent, busied}

-- a free page's word, and its body, which is at home, is of the house and fits the word. The guest's value of the page
-- may have become what they are
pub record IsHome {D : Type 0} (body : D → Body) (house_of : D → TableId) (house : TableId) (words : List ℕ) (homes : List (maybe.Option (Option D))) (page : ℕ) (value : PageValue) : Type 0 where
  pub word : Fields
  pub there : D
  pub written : slice_index words page ≡ number_of word
  pub permitted : is_permitted word ≡ true
  pub free : word.busy ≡ false
  pub home : get_elem? homes page ≡ some (some (Some there))
  pub fits : FitsWord word (body there)
  pub housed : house_of there ≡ house
  pub may : MayBecome value (actual word (body there))

-- a page that is held has the word that its claim found, with the busy bit, and that word was free and fitted the body
-- found. The guest's value of the page may have become what the claim found
pub record HoldFits (words : List ℕ) (values : List PageValue) (h : Hold) : Type 0 where
  pub within : h.page < length words
  pub written : slice_index words h.page ≡ number_of (busied h.word)
  pub permitted : is_permitted h.word ≡ true
  pub free : h.word.busy ≡ false
  pub fits : FitsWord h.word h.body
  pub may : MayBecome (value_at values h.page) (found_value h)

-- the seat number `seat` has this view. `by` says which seat holds a page. A view that holds one fits it, and the
-- guest's value of a page that its own seat holds is the one that the claim found
pub record ViewFits (house : TableId) (words : List ℕ) (values : List PageValue) (guest : ℕ) (by : ℕ → Option ℕ) (seat : ℕ) (v : SeatView) : Type 0 where
  pub guests : (vs : List PageValue) → v.role ≡ Guest vs → (seat ≡ guest) × (vs ≡ values)
  pub housed : is_spent v.role ≡ false → v.house ≡ house
  pub holds : (h : Hold) → v.held ≡ Some h → (by h.page ≡ Some seat) × HoldFits words values h
  pub own : (h : Hold) (vs : List PageValue) → v.held ≡ Some h → v.role ≡ Guest vs → value_at values h.page ≡ found_value h

-- the seat holds the page
pub record SeatHolds (views : List SeatView) (seat page : ℕ) : Type 0 where
  pub view : SeatView
  pub hold : Hold
  pub there : get_elem? views seat ≡ some view
  pub held : view.held ≡ Some hold
  pub of_page : hold.page ≡ page

-- some seat holds the page
abbrev pub HasHolder : List SeatView → ℕ → Type 0
HasHolder views page = (seat : ℕ) × SeatHolds views seat page

module _ {D : Type 0} (body : D → Body) (house_of : D → TableId) where
  -- a page is free and its body at home, or some seat holds it
  abbrev pub PageFits : (house : TableId) (s : State (Option D) SeatView) (value : PageValue) (page : ℕ) → Option ℕ → Type 0
  PageFits house s value page None = IsHome body house_of house s.words s.homes page value
  PageFits house s value page (Some seat) = SeatHolds s.views seat page

module _ {D : Type 0} (body : D → Body) (house_of : D → TableId) where
  -- one seat, number `guest`, is the guest's and knows the values; each page is free, or held by the one seat that
  -- `by` names
  pub record WordsRule (house : TableId) (s : State (Option D) SeatView) : Type 0 where
    pub guest : ℕ
    pub values : List PageValue
    pub by : ℕ → Option ℕ
    pub whole : length s.homes ≡ length s.words
    pub valued : length values ≡ length s.words
    pub guest_there : (v : SeatView) × (get_elem? s.views guest ≡ some v) × (v.role ≡ Guest values)
    pub pages : (page : ℕ) → page < length s.words → PageFits body house_of house s (value_at values page) page (by page)
    pub seats : (seat : ℕ) (v : SeatView) → get_elem? s.views seat ≡ some v → ViewFits house s.words values guest by seat v

-- the body of an unused page without contents, of this house
abbrev pub FitsStart : {D : Type 0} (body : D → Body) (house_of : D → TableId) → TableId → D → Type 0
FitsStart body house_of house there = FitsWord opening_word (body there) × (house_of there ≡ house)
