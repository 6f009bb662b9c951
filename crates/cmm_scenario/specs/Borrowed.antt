-- The data that a JSON value with borrowed texts stands for, and whether each of its numbers is one. For private clauses.
use Rattle.std.specs.Prelude.{ℕ, ◌&&◌, List, Bool, true, false, unwrap_or, is_some}
use Rattle.std.specs.Borrow.{Bor}
use Rattle.std.specs.Float.{binary64}
use Rattle.fast_float.specs.Text.{scan, nearest}
use Rattle.json.specs.Json as json
use Rattle.json.specs.Value.{value_view, items_view, members_view}
use Rattle.json.specs.declared.value.Value.{Value}
use Rattle.json.specs.declared.error.Error.{Error}
use Rattle.json.specs.declared.error.Error.TheVariants.{Invalid, OutOfMemory, TooLong, DuplicateKey}
use Rattle.serde_json.specs.Data.{Num, float, Data, null, boolean, number, string, array, object, Items, no_items, item, Members, no_members, put}
use Rattle.serde_json.specs.Read.{number_of}
use Rattle.cmm_scenario.specs.declared.error.ScenarioError.{ScenarioError}
use Rattle.cmm_scenario.specs.declared.error.ScenarioError.TheVariants.{NotJson, NoMemory}

-- the number that a text writes, where one that is too large for a float is seen as some float
abbrev pub number_or_float : List ℕ → Num
number_or_float s = unwrap_or (number_of s) (float (nearest binary64 false (scan s)))

abbrev mutual
  pub data_of : json.Json → Data
  data_of json.null = null
  data_of (json.boolean b) = boolean b
  data_of (json.number s) = number (number_or_float s)
  data_of (json.string s) = string s
  data_of (json.array js) = array (data_of_items js)
  data_of (json.object ms) = object (data_of_members ms no_members)

  pub data_of_items : json.Items → Items
  data_of_items json.no_items = no_items
  data_of_items (json.item j js) = item (data_of j) (data_of_items js)

  -- the members go in one after another, so the last value of a key stays
  pub data_of_members : json.Members → Members → Members
  data_of_members json.no_members found = found
  data_of_members (json.member k j ms) found = data_of_members ms (put k (data_of j) found)

-- no number is too large for a float
abbrev mutual
  pub numbers_fit : json.Json → Bool
  numbers_fit json.null = true
  numbers_fit (json.boolean b) = true
  numbers_fit (json.number s) = is_some (number_of s)
  numbers_fit (json.string s) = true
  numbers_fit (json.array js) = items_fit js
  numbers_fit (json.object ms) = members_fit ms

  pub items_fit : json.Items → Bool
  items_fit json.no_items = true
  items_fit (json.item j js) = numbers_fit j && items_fit js

  pub members_fit : json.Members → Bool
  members_fit json.no_members = true
  members_fit (json.member k j ms) = numbers_fit j && members_fit ms

abbrev pub view : {A : Type 0} → Value A → Data
view value = data_of (value_view value)

abbrev pub items_data : {A : Type 0} → List (Value A) → Items
items_data values = data_of_items (items_view values)

abbrev pub members_data : {A : Type 0} → List (Bor (List ℕ) × Value A) → Members
members_data members = data_of_members (members_view members) no_members

-- what is told of bytes that were not read as a value
abbrev pub refusal : Error → ScenarioError
refusal Invalid = NotJson
refusal OutOfMemory = NoMemory
refusal TooLong = NotJson
refusal DuplicateKey = NotJson
