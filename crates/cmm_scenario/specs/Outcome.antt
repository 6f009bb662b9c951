-- Steps of reading, one after another, up to the first that fails.
use Rattle.std.specs.Prelude.{◌≡◌, Bool, if◌then◌else◌, Result, Ok, Err}

-- the second step, where the first gave a value
infixl 10 ◌>>=◌
abbrev pub ◌>>=◌ : {A B E : Type 0} → Result A E → (A → Result B E) → Result B E
(Ok x) >>= f = f x
(Err e) >>= f = Err e

-- the value where a test holds, and else this fault
abbrev pub checked : {A E : Type 0} → Bool → A → E → Result A E
checked holds x fault = if holds then Ok x else Err fault

-- a result, its value seen in another way, is this one
abbrev pub ReadsAs : {X Y E : Type 0} → (X → Y) → Result X E → Result Y E → Type 0
ReadsAs view (Ok x) read = read ≡ Ok (view x)
ReadsAs view (Err e) read = read ≡ Err e
