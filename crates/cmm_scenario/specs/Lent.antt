-- A list of borrowed texts.
use Rattle.std.specs.Prelude.{ℕ, List, map, Bool}
use Rattle.std.specs.List.{list_any}
use Rattle.std.specs.Str.{bytes_eq}
use denote.Ref.{Bor}

abbrev pub texts : List (Bor (List ℕ)) → List (List ℕ)
texts = map (λ name. name.now)

abbrev pub is_lent : List (Bor (List ℕ)) → List ℕ → Bool
is_lent names name = list_any (λ known. bytes_eq name known.now) names
