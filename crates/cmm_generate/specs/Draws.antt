-- The generator's number, and what is drawn by it.
use Rattle.std.specs.Prelude.{◌≡◌, ℕ, zero, suc, ◌+◌, ◌*◌, ◌/◌, ◌%◌, ◌^◌, List, [], ◌∷◌, ◌++◌}

-- what was drawn, and the number from then on
pub record Drawn (A : Type 0) : Type 0 where
  pub value : A
  pub number : ℕ

-- the number at a draw determines what is drawn
abbrev pub Draw : Type 0 → Type 0
Draw A = ℕ → Drawn A

-- no draw
abbrev pub give : {A : Type 0} → A → Draw A
give value number = record { value = value; number = number }

-- one draw, and then the next, which may depend on what the first gave
infixl 10 ◌>>=◌
abbrev pub ◌>>=◌ : {A B : Type 0} → Draw A → (A → Draw B) → Draw B
(draw >>= next) number = next (draw number).value (draw number).number

abbrev pub next_number : ℕ → ℕ
next_number number = (number * 6364136223846793005 + 1442695040888963407) % 2 ^ 64

-- a number below a limit
unfoldable pub below : ℕ → Draw ℕ
below limit number = record { value = next_number number / 2 ^ 33 % limit; number = next_number number }

-- the lists that are drawn for 0, for 1 and so on, so many of them, end to end
unfoldable pub in_turn : {A : Type 0} → (ℕ → Draw (List A)) → ℕ → Draw (List A)
in_turn draw zero = give []
in_turn draw (suc j) = do
  before ← in_turn draw j
  its ← draw j
  give (before ++ its)

-- a list of one item
abbrev pub single : {A : Type 0} → Draw A → Draw (List A)
single draw = do
  x ← draw
  give (x ∷ [])

-- the same draw so many times
abbrev pub times : {A : Type 0} → ℕ → Draw A → Draw (List A)
times count draw = in_turn (λ j. single draw) count

-- the draw gave this value, and led from the one number to the other
abbrev pub Draws : {A : Type 0} → Draw A → ℕ → ℕ → A → Type 0
Draws draw old new value = draw old ≡ record { value = value; number = new }

-- the draw gave a list, which was appended to another
abbrev pub Appended : {A : Type 0} → Draw (List A) → ℕ → ℕ → List A → List A → Type 0
Appended draw old new before after = (new ≡ (draw old).number) × (after ≡ before ++ (draw old).value)
