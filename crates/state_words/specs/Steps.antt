-- What the calls of a seat make of its view.
use Rattle.std.specs.Prelude.{◌≡◌, ℕ, ◌≤◌, slice_set, Bool, true, Option, Some, None, Result, Ok, Err, is_ok}
use Rattle.cmm_types.specs.declared.page.Move.{Move}
use Rattle.cmm_types.specs.declared.page.Refused.{Refused}
use Rattle.essa_state.specs.declared.fields.Fields.{Fields}
use Rattle.essa_state.specs.StateWord.{is_permitted, number_of}
use Rattle.essa_state.specs.Moves.{move_answer}
use Rattle.essa_state.specs.PageValue.{PageValue, MayBecome}
use Rattle.essa_state.specs.PageBody.{Body, FitsWord, actual, moved_body}
use Rattle.state_words.specs.SeatView.{Hold, Role, Guest, Host, Spent, SeatStep, Looked, Tried, Left, Moved, SeatView, value_at, noted}

-- the guest finds out what its page has become, or leaves this in it
abbrev pub role_with : Role → ℕ → PageValue → Role
role_with (Guest values) page value = Guest (slice_set values page value)
role_with Host page value = Host
role_with Spent page value = Spent

-- the view after a claim that found this word and this body, where nobody held the page
abbrev pub claimed_view : SeatView → ℕ → Fields → Body → SeatView
claimed_view v page word body = record {
  role = role_with v.role page (actual word body);
  held = Some record { page = page; word = word; body = body };
  house = v.house;
  steps = noted v (Tried page word);
}

-- the view after a claim that found the page busy: only the record has grown
abbrev pub tried_view : SeatView → ℕ → Fields → SeatView
tried_view v page word = record v { steps = noted v (Tried page word) }

-- the view after a load of this word
abbrev pub looked_view : SeatView → ℕ → Fields → SeatView
looked_view v page word = record v { steps = noted v (Looked page word) }

-- the view after the held page was given back, for the guest's seat with this value
abbrev pub released_view : SeatView → ℕ → PageValue → SeatStep → SeatView
released_view v page value s = record { role = role_with v.role page value; held = None; house = v.house; steps = noted v s }

abbrev pub left_view : SeatView → ℕ → PageValue → SeatView
left_view v page value = released_view v page value (Left page)

abbrev pub moved_view : SeatView → ℕ → Option Move → SeatView
moved_view v page action = record v { held = None; steps = noted v (Moved page action) }

-- one claim of the page and no other step, which found the page busy or not
pub record HasTried (page : ℕ) (v : SeatView) (busy : Bool) (w : SeatView) : Type 0 where
  pub word : Fields
  pub found : word.busy ≡ busy
  pub steps : w.steps ≡ noted v (Tried page word)

-- a claim found this number, which is a permitted word with the busy bit
pub record FindsBusy (page : ℕ) (v : SeatView) (raw : ℕ) (w : SeatView) : Type 0 where
  pub word : Fields
  pub permitted : is_permitted word ≡ true
  pub written : number_of word ≡ raw
  pub busy : word.busy ≡ true
  pub view : w ≡ tried_view v page word

-- the guest has to expect this value of the page
abbrev pub IsExpected : Role → ℕ → PageValue → Type 0
IsExpected (Guest values) page value = MayBecome (value_at values page) value
IsExpected Host page value = Unit {0}
IsExpected Spent page value = Unit {0}

-- the word says at least as many discards as the guest knows of
abbrev pub HasCounted : Role → ℕ → Fields → Type 0
HasCounted (Guest values) page word = (value_at values page).count ≤ word.count
HasCounted Host page word = Unit {0}
HasCounted Spent page word = Unit {0}

-- no move, or one that isn't refused
abbrev pub IsAllowedOn : Option Move → Fields → Type 0
IsAllowedOn None word = Unit {0}
IsAllowedOn (Some action) word = is_ok (move_answer word action) ≡ true

abbrev pub ok_or : Fields → Result Fields Refused → Fields
ok_or word (Ok moved) = moved
ok_or word (Err why) = word

-- the word and the body after the move, or after none
abbrev pub word_after : Option Move → Fields → Fields
word_after None word = word
word_after (Some action) word = ok_or word (move_answer word action)

abbrev pub body_after : Option Move → Body → Body
body_after None body = body
body_after (Some action) body = moved_body action body

-- the value of a held page after the move, or after none
abbrev pub moved_value : Option Move → Hold → PageValue
moved_value action h = actual (word_after action h.word) (body_after action h.body)

-- a body that fits the moved word and has the bytes that this word needs. Other bytes, as those of a resident page's
-- block, are free
pub record IsMovedBody (action : Option Move) (h : Hold) (there : Body) : Type 0 where
  pub fits : FitsWord (word_after action h.word) there
  pub bytes : actual (word_after action h.word) there ≡ moved_value action h
