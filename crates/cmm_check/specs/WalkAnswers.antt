-- What a walk over lines answers: by its definition, unless memory runs out.
use Rattle.std.specs.Prelude.{◌≡◌, ℕ, Bool, true, false, List, Option, Some, None, Result, Ok, Err}
use Rattle.cmm_check.specs.declared.lines.Stop.{Stop}
use Rattle.cmm_check.specs.declared.lines.Stop.TheVariants.{Unfit, Memory}

-- the walk's answer, its value seen in another way, is what the definition gives
abbrev pub GivesPart : {X Y : Type 0} → (X → Y) → Result X Stop → Result Y (List ℕ) → Type 0
GivesPart view (Ok x) part = part ≡ Ok (view x)
GivesPart view (Err (Unfit text)) part = part ≡ Err text.now
GivesPart view (Err (Memory failed)) part = Unit {0}

-- whether a line fits, and where it leads then
abbrev pub TakesLine : {S : Type 0} → Option S → Bool → S → Type 0
TakesLine None fits after = fits ≡ false
TakesLine (Some next) fits after = (fits ≡ true) × (after ≡ next)
