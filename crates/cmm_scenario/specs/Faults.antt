-- Where a fault lies: at the value that is read, or inside one of its members or items.
use Rattle.std.specs.Prelude.{◌≡◌, ℕ, List, [], ◌∷◌, ◌++◌, Result, Ok, Err}
use Rattle.cmm_scenario.specs.Paths.{root_path}
use Rattle.cmm_scenario.specs.declared.fault.Kind.{Kind}
use Rattle.cmm_scenario.specs.declared.error.ScenarioError.{ScenarioError}
use Rattle.cmm_scenario.specs.declared.error.ScenarioError.TheVariants.{NotJson, Fault, NoMemory}

-- a fault of the value itself has an empty path
abbrev pub here : {A : Type 0} → Result A Kind → Result A ScenarioError
here (Ok x) = Ok x
here (Err kind) = Err (Fault [] kind)

-- a fault's path, seen from the object or the list around it: a slash, the name of the member or the place of the item, and the path in there
abbrev pub error_inside : List ℕ → ScenarioError → ScenarioError
error_inside name NotJson = NotJson
error_inside name (Fault path kind) = Fault (47 ∷ name ++ path) kind
error_inside name NoMemory = NoMemory

abbrev pub inside : {A : Type 0} → List ℕ → Result A ScenarioError → Result A ScenarioError
inside name (Ok x) = Ok x
inside name (Err e) = Err (error_inside name e)

abbrev pub error_at_root : ScenarioError → ScenarioError
error_at_root NotJson = NotJson
error_at_root (Fault path kind) = Fault (root_path path) kind
error_at_root NoMemory = NoMemory

abbrev pub at_root : {A : Type 0} → Result A ScenarioError → Result A ScenarioError
at_root (Ok x) = Ok x
at_root (Err e) = Err (error_at_root e)

-- an answer is what reading gives, unless memory ran out
abbrev pub Fails : {A : Type 0} → ScenarioError → Result A ScenarioError → Type 0
Fails NotJson read = read ≡ Err NotJson
Fails (Fault path kind) read = read ≡ Err (Fault path kind)
Fails NoMemory read = Unit {0}

abbrev pub Gives : {A : Type 0} → Result A ScenarioError → Result A ScenarioError → Type 0
Gives (Ok x) read = read ≡ Ok x
Gives (Err e) read = Fails e read
