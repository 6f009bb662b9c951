-- What a seat at a guest's words knows: its role, the page that it holds, and its own steps.
use Rattle.std.specs.Prelude.{◌≡◌, ℕ, ◌<◌, List, [], ◌∷◌, ◌++◌, length, replicate, slice_index_or, Bool, true, false, Option, Some, None}
use Rattle.std.specs.Option.{ForSome}
use Rattle.cmm_types.specs.declared.page.Move.{Move}
use Rattle.essa_state.specs.declared.fields.Fields.{Fields}
use Rattle.essa_state.specs.PageValue.{PageValue, opening_value}
use Rattle.essa_state.specs.PageBody.{Body, actual}
use Rattle.atomic_table.specs.Seated.{TableId}

-- a page that a seat holds, with the word and the body that its claim found
pub record Hold : Type 0 where
  pub page : ℕ
  pub word : Fields
  pub body : Body

-- the value that the page had when it was claimed
abbrev pub found_value : Hold → PageValue
found_value h = actual h.word h.body

-- the one seat of the guest, with what the guest last left or found in each page; a seat of the host; or one that
-- was joined to another
pub data Role : Type 0 where
  Guest : List PageValue → Role
  Host : Role
  Spent : Role

-- a load and a claim, each with its page and the word found; a release by the guest's seat, with its page; and one by
-- a host's seat, with its page and its move or none
pub data SeatStep : Type 0 where
  Looked : (page : ℕ) → Fields → SeatStep
  Tried : (page : ℕ) → Fields → SeatStep
  Left : (page : ℕ) → SeatStep
  Moved : (page : ℕ) → Option Move → SeatStep

-- `house` is that of the words, and `steps` are the seat's own ones, the oldest first
pub record SeatView : Type 0 where
  pub role : Role
  pub held : Option Hold
  pub house : TableId
  pub steps : List SeatStep

-- which words they are, how many pages they have, and where the bodies' frames come from
pub record WordsView : Type 0 where
  pub id : TableId
  pub pages : ℕ
  pub house : TableId

-- a seat, and the words that it is of
pub record Seated : Type 0 where
  pub words : WordsView
  pub view : SeatView

abbrev pub words_at : TableId → TableId → WordsView
words_at id house = record { id = id; pages = id.words; house = house }

abbrev pub seated_at : TableId → SeatView → Seated
seated_at id v = record { words = words_at id v.house; view = v }

abbrev pub value_at : List PageValue → ℕ → PageValue
value_at values page = slice_index_or values page opening_value

-- what the guest's seat knows of the pages' values
abbrev pub guest_values : Role → List PageValue
guest_values (Guest values) = values
guest_values Host = []
guest_values Spent = []

abbrev pub is_guest : Role → Bool
is_guest (Guest values) = true
is_guest Host = false
is_guest Spent = false

abbrev pub is_host : Role → Bool
is_host (Guest values) = false
is_host Host = true
is_host Spent = false

abbrev pub is_spent : Role → Bool
is_spent (Guest values) = false
is_spent Host = false
is_spent Spent = true

-- the view holds this page
pub record HoldsPage (v : SeatView) (page : ℕ) : Type 0 where
  pub hold : Hold
  pub held : v.held ≡ Some hold
  pub of_page : hold.page ≡ page

-- the guest's seat has a value for each page, and holds a page of its words or none
pub record IsGuestSeat (s : Seated) : Type 0 where
  pub guest : is_guest s.view.role ≡ true
  pub valued : length (guest_values s.view.role) ≡ s.words.pages
  pub placed : ForSome s.view.held (λ h. h.page < s.words.pages)

-- a host's seat holds a page of its words or none
pub record IsHostSeat (s : Seated) : Type 0 where
  pub host : is_host s.view.role ≡ true
  pub placed : ForSome s.view.held (λ h. h.page < s.words.pages)

-- the record with one more step
abbrev pub noted : SeatView → SeatStep → List SeatStep
noted v s = v.steps ++ s ∷ []

abbrev pub guest_first : ℕ → TableId → SeatView
guest_first pages house = record { role = Guest (replicate pages opening_value); held = None; house = house; steps = [] }

abbrev pub host_first : TableId → SeatView
host_first house = record { role = Host; held = None; house = house; steps = [] }

-- what is left of a seat that was joined to another; it stands in too for the views of a type that has no value
abbrev pub no_view : SeatView
no_view = record {
  role = Spent;
  held = None;
  house = record { words = 0; slots = 0; views_name = 0; atom = 0; block = 0; offset = 0; slot_names = [] };
  steps = [];
}

-- the word while somebody holds the page
abbrev pub busied : Fields → Fields
busied w = record w { busy = true }

-- the slots that a seat has between two calls: that of the page that it holds, which is empty
abbrev pub hand_of : {D : Type 0} → Option Hold → List (ℕ × Option D)
hand_of None = []
hand_of (Some h) = (h.page, None) ∷ []
