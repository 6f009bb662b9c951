-- The path of a fault in the whole scenario.
use Rattle.std.specs.Prelude.{ℕ, List, [], ◌∷◌}

-- the path of the whole value is a slash
abbrev pub root_path : List ℕ → List ℕ
root_path [] = 47 ∷ []
root_path (slash ∷ path) = slash ∷ path
