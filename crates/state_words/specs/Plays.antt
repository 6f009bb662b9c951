-- What each atomic step on the words tells the seat that makes it, and what the calls between two steps make of it.
use Rattle.std.specs.Prelude.{◌≡◌, ℕ, [], ◌∷◌, true, false, Option, Some, None}
use Rattle.cmm_types.specs.declared.page.Move.{Move}
use Rattle.essa_state.specs.declared.fields.Fields.{Fields}
use Rattle.essa_state.specs.StateWord.{is_permitted, number_of}
use Rattle.essa_state.specs.PageBody.{Body, FitsWord, actual}
use Rattle.atomic_table.specs.Table.{Me, Step}
use Rattle.atomic_table.specs.Seated.{TableId}
use Rattle.state_words.specs.SeatView.{SeatStep, Left, Moved, SeatView}
use Rattle.state_words.specs.Steps.{IsExpected, HasCounted, claimed_view, tried_view, looked_view, released_view}

-- the page was claimed, and its slot taken with this body in it
pub record Got {D : Type 0} (body : D → Body) (house_of : D → TableId) (page : ℕ) (word : Fields) (m : Me (Option D) SeatView) (m' : Me (Option D) SeatView) : Type 0 where
  pub there : D
  pub fits : FitsWord word (body there)
  pub housed : house_of there ≡ m.0.house
  pub expected : IsExpected m.0.role page (actual word (body there))
  pub view : m'.0 ≡ claimed_view m.0 page word (body there)
  pub hand : m'.1 ≡ (page, Some there) ∷ m.1

-- what a claim found: the page is held now where the word wasn't busy, and only the record grew where it was
abbrev pub Claims : {D : Type 0} (body : D → Body) (house_of : D → TableId) → ℕ → ℕ → Me (Option D) SeatView → Me (Option D) SeatView → Type 0
Claims body house_of page n m m' =
    (word : Fields) × (is_permitted word ≡ true) × (number_of word ≡ n)
    × (word.busy ≡ false → Got body house_of page word m m')
    × (word.busy ≡ true → m' ≡ (tried_view m.0 page word, m.1))

abbrev pub claims : {D : Type 0} (body : D → Body) (house_of : D → TableId) → Step (Option D) → Me (Option D) SeatView → ℕ → Me (Option D) SeatView → Type 0
claims body house_of st m n m' = Claims body house_of st.word n m m'

-- a claim that won, once the body is taken out of the slot
pub record IsClaimed {D : Type 0} (body : D → Body) (house_of : D → TableId) (page : ℕ) (m : Me (Option D) SeatView) (word : Fields) (there : D) (m' : Me (Option D) SeatView) : Type 0 where
  pub free : word.busy ≡ false
  pub fits : FitsWord word (body there)
  pub housed : house_of there ≡ m.0.house
  pub expected : IsExpected m.0.role page (actual word (body there))
  pub view : m'.0 ≡ claimed_view m.0 page word (body there)
  pub hand : m'.1 ≡ (page, None) ∷ []

-- a claim that found the page busy
pub record IsBusyFound {D : Type 0} (page : ℕ) (m : Me (Option D) SeatView) (raw : ℕ) (m' : Me (Option D) SeatView) : Type 0 where
  pub word : Fields
  pub permitted : is_permitted word ≡ true
  pub written : number_of word ≡ raw
  pub busy : word.busy ≡ true
  pub me : m' ≡ (tried_view m.0 page word, m.1)

-- a release: the slot goes home with the body in hand, and the word is the one stored
pub record Releases {D : Type 0} (body : D → Body) (page : ℕ) (note : SeatStep) (raw : ℕ) (m : Me (Option D) SeatView) (m' : Me (Option D) SeatView) : Type 0 where
  pub word : Fields
  pub there : D
  pub written : number_of word ≡ raw
  pub hand : m.1 ≡ (page, Some there) ∷ []
  pub view : m'.0 ≡ released_view m.0 page (actual word (body there)) note
  pub empty : m'.1 ≡ []

abbrev pub leaves : {D : Type 0} (body : D → Body) → Step (Option D) → Me (Option D) SeatView → ℕ → Me (Option D) SeatView → Type 0
leaves body st m n m' = Releases body st.word (Left st.word) n m m'

abbrev pub moves : {D : Type 0} (body : D → Body) → Option Move → Step (Option D) → Me (Option D) SeatView → ℕ → Me (Option D) SeatView → Type 0
moves body action st m n m' = Releases body st.word (Moved st.word action) n m m'

-- a load: only the record has grown
pub record Looks {D : Type 0} (page : ℕ) (m : Me (Option D) SeatView) (raw : ℕ) (m' : Me (Option D) SeatView) : Type 0 where
  pub word : Fields
  pub permitted : is_permitted word ≡ true
  pub written : number_of word ≡ raw
  pub counted : HasCounted m.0.role page word
  pub me : m' ≡ (looked_view m.0 page word, m.1)

abbrev pub looks : {D : Type 0} → Step (Option D) → Me (Option D) SeatView → ℕ → Me (Option D) SeatView → Type 0
looks st m n m' = Looks st.word m n m'

-- a load's answer
pub record LooksAt {D : Type 0} (page : ℕ) (m : Me (Option D) SeatView) (word : Fields) (m' : Me (Option D) SeatView) : Type 0 where
  pub counted : HasCounted m.0.role page word
  pub me : m' ≡ (looked_view m.0 page word, m.1)
