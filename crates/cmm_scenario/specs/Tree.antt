-- Reading numbers, objects and lists of the tree that a JSON text is, each up to its first fault.
use Rattle.std.specs.Prelude.{ℕ, suc, ◌&&◌, nat_le, List, [], ◌∷◌, length, Bool, true, Option, Some, None, option_and_then, Result, Ok, Err, decimal}
use Rattle.std.specs.List.{list_any}
use Rattle.std.specs.Str.{bytes_eq}
use Rattle.std.specs.Option.{ok_or}
use Rattle.serde_json.specs.Data.{Data, Items, no_items, item, Members, no_members, member}
use Rattle.serde_json.specs.Find.{get, as_number, as_u64, as_array, as_object}
use Rattle.cmm_scenario.specs.declared.fault.Kind.{Kind}
use Rattle.cmm_scenario.specs.declared.fault.Kind.TheVariants.{Missing, Unknown, Type_, Range}
use Rattle.cmm_scenario.specs.declared.error.ScenarioError.{ScenarioError}
use Rattle.cmm_scenario.specs.Outcome.{◌>>=◌, checked}
use Rattle.cmm_scenario.specs.Words.{within}
use Rattle.cmm_scenario.specs.Faults.{here, inside}

-- a whole number of JSON, without sign, point or exponent, that fits 64 bits
unfoldable pub whole_number : Data → Result ℕ Kind
whole_number tree = ok_or (option_and_then as_u64 (as_number tree)) Type_

-- a whole number in a range, both ends included
unfoldable pub number_in : ℕ → ℕ → Data → Result ℕ Kind
number_in low high tree = do
  number ← whole_number tree
  within low high number

abbrev pub number : ℕ → ℕ → Data → Result ℕ ScenarioError
number low high tree = here (number_in low high tree)

-- ---- objects

-- one of the names
abbrev pub is_among : List (List ℕ) → List ℕ → Bool
is_among names name = list_any (bytes_eq name) names

abbrev pub all_among : List (List ℕ) → Members → Bool
all_among names no_members = true
all_among names (member name tree members) = is_among names name && all_among names members

-- an object, each of whose keys is one of these
unfoldable pub known_keys : List (List ℕ) → Data → Result (Unit {0}) Kind
known_keys names tree = do
  members ← ok_or (as_object tree) Type_
  checked (all_among names members) tt Unknown

abbrev pub required : {A : Type 0} → (Data → Result A ScenarioError) → Option Data → Result A ScenarioError
required read None = here (Err Missing)
required read (Some tree) = read tree

abbrev pub optional : {A : Type 0} → A → (Data → Result A ScenarioError) → Option Data → Result A ScenarioError
optional default read None = Ok default
optional default read (Some tree) = read tree

-- the member of a key that must be there
abbrev pub member_of : {A : Type 0} → List ℕ → (Data → Result A ScenarioError) → Data → Result A ScenarioError
member_of key read tree = inside key (required read (get key tree))

-- the member of a key, or the default where it is absent
abbrev pub member_or : {A : Type 0} → List ℕ → A → (Data → Result A ScenarioError) → Data → Result A ScenarioError
member_or key default read tree = inside key (optional default read (get key tree))

-- ---- lists

abbrev pub trees_of : Items → List Data
trees_of no_items = []
trees_of (item tree items) = tree ∷ trees_of items

-- the items from some place on, each of which is named by its place
unfoldable pub each_from : {A : Type 0} → ℕ → (Data → Result A ScenarioError) → List Data → Result (List A) ScenarioError
each_from place read [] = Ok []
each_from place read (tree ∷ trees) = do
  x ← inside (decimal place) (read tree)
  xs ← each_from (suc place) read trees
  Ok (x ∷ xs)

-- a list of so many items
unfoldable pub list_of : {A : Type 0} → ℕ → ℕ → (Data → Result A ScenarioError) → Data → Result (List A) ScenarioError
list_of low high read tree = do
  items ← here (ok_or (as_array tree) Type_)
  trees ← here (checked (nat_le low (length (trees_of items)) && nat_le (length (trees_of items)) high) (trees_of items) Range)
  each_from 0 read trees
