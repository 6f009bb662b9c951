-- A list of values is read item by item.
use Rattle.std.proofs.Common.{◌≡◌, ℕ, suc, ◌+◌, ◌<◌, List, [], ◌∷◌, ◌++◌, map, length, drop, get_or, Result, Ok, Err, refl, sym, ap, ◌∙◌, append_assoc, subst, add-one, drop-cons, ◌≤◌}
use Rattle.std.proofs.lemmas.List.{append-nil, length-map, drop_all}
use Rattle.std.specs.Prelude.{decimal}
use Rattle.serde_json.specs.Data.{Data}
use Rattle.serde_json.specs.View.{items_of}
use Rattle.json.specs.declared.value.Value.{Value}
use Rattle.cmm_scenario.specs.Borrowed.{view, items_data}
use Rattle.cmm_scenario.specs.declared.error.ScenarioError.{ScenarioError}
use Rattle.cmm_scenario.specs.declared.error.ScenarioError.TheVariants.{NotJson, Fault, NoMemory}
use Rattle.cmm_scenario.specs.Outcome.{◌>>=◌}
use Rattle.cmm_scenario.specs.Faults.{error_inside, Fails, Gives}
use Rattle.cmm_scenario.specs.Tree.{trees_of, each_from}

pub trees_of-items_of : (trees : List Data) → trees_of (items_of trees) ≡ trees
trees_of-items_of [] = refl
trees_of-items_of (tree ∷ trees) = ap (λ (rest : List Data). tree ∷ rest) (trees_of-items_of trees)

pub trees_of-items_data : {R : Type 0} → (values : List (Value R)) → trees_of (items_data values) ≡ map view values
trees_of-items_data [] = refl
trees_of-items_data (value ∷ values) = ap (λ (rest : List Data). view value ∷ rest) (trees_of-items_data values)

pub length-trees_of : {R : Type 0} → (values : List (Value R)) → length (trees_of (items_data values)) ≡ length values
length-trees_of values = rw (trees_of-items_data values) (simp length-map)

pub ruleset trees = (trees_of-items_data, length-trees_of)

-- what was read before, and what is still read
abbrev pub with_front : {A : Type 0} → List A → Result (List A) ScenarioError → Result (List A) ScenarioError
with_front front read = read >>= λ items. Ok (front ++ items)

regroup : {A : Type 0} (front : List A) (x : A) (read : Result (List A) ScenarioError) → with_front front (read >>= λ xs. Ok (x ∷ xs)) ≡ with_front (front ++ x ∷ []) read
regroup {A} front x (Ok xs) = ap (λ (ys : List A). Ok ys) (sym (append_assoc front (x ∷ []) xs))
regroup front x (Err e) = refl

first_of_rest : {R : Type 0} → (list : List (Value R)) (place : ℕ) (v : Value R) → place < length list → v ≡ get_or list place v → drop place list ≡ v ∷ drop (suc place) list
first_of_rest {R} list place v lt is = drop-cons list place v lt ∙ ap (λ (w : Value R). w ∷ drop (suc place) list) (sym is)

-- one more item was read
pub item_read : {A R : Type 0} (read : Data → Result A ScenarioError) (list : List (Value R)) (place : ℕ) (front : List A) (v : Value R) (x : A) → place < length list → v ≡ get_or list place v
    → read (view v) ≡ Ok x → with_front front (each_from place read (map view (drop place list))) ≡ with_front (front ++ x ∷ []) (each_from (place + 1) read (map view (drop (place + 1) list)))
unfolding each_from
item_read read list place front v x lt is e = rw (add-one, first_of_rest list place v lt is, e) (regroup front x (each_from (suc place) read (map view (drop (suc place) list))))

-- no item is left
pub items_read : {A R : Type 0} (read : Data → Result A ScenarioError) (list : List (Value R)) (place : ℕ) (front : List A) (whole : Result (List A) ScenarioError) → length list ≤ place
    → with_front front (each_from place read (map view (drop place list))) ≡ whole → whole ≡ Ok front
unfolding each_from
items_read {A} read list place front whole past e =
    let none : drop place list ≡ [] = drop_all place list past in
    let end : with_front front (each_from place read (map view (drop place list))) ≡ Ok (front ++ []) = rw none refl in
    sym e ∙ end ∙ ap (λ (xs : List A). Ok xs) (append-nil front)

no_memory_given : {A : Type 0} (result whole : Result A ScenarioError) → Gives result (Err NoMemory) → Gives result whole
no_memory_given (Ok x) whole h = absurd cc
no_memory_given (Err NotJson) whole h = absurd cc
no_memory_given (Err (Fault path kind)) whole h = absurd cc
no_memory_given (Err NoMemory) whole h = tt

-- an item was not read
pub item_fault_given : {A R : Type 0} (result : Result (List A) ScenarioError) (read : Data → Result A ScenarioError) (list : List (Value R)) (place : ℕ) (front : List A) (v : Value R)
    (e : ScenarioError) (whole : Result (List A) ScenarioError) → place < length list → v ≡ get_or list place v → Fails e (read (view v)) → Gives result (Err (error_inside (decimal place) e))
    → with_front front (each_from place read (map view (drop place list))) ≡ whole → Gives result whole
unfolding each_from
item_fault_given {A} result read list place front v NotJson whole lt is fails given e =
    let fault : with_front front (each_from place read (map view (drop place list))) ≡ Err NotJson = rw (first_of_rest list place v lt is, fails) refl in
    subst (λ (r : Result (List A) ScenarioError). Gives result r) (sym fault ∙ e) given
item_fault_given {A} result read list place front v (Fault path kind) whole lt is fails given e =
    let fault : with_front front (each_from place read (map view (drop place list))) ≡ Err (error_inside (decimal place) (Fault path kind)) = rw (first_of_rest list place v lt is, fails) refl in
    subst (λ (r : Result (List A) ScenarioError). Gives result r) (sym fault ∙ e) given
item_fault_given result read list place front v NoMemory whole lt is fails given e = no_memory_given result whole given
