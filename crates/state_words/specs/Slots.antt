-- The bodies in a table's slots.
use Rattle.std.specs.Prelude.{List, [], ◌∷◌, ◌++◌, Option}
use Rattle.std.specs.Option.{option_to_list}

abbrev pub bodies_in : {B : Type 0} → List (Option B) → List B
bodies_in [] = []
bodies_in (slot ∷ slots) = option_to_list slot ++ bodies_in slots
