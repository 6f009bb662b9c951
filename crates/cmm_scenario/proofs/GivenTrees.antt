-- What holds of each number, member and item that is read.
use Rattle.std.proofs.Common.{◌≡◌, ℕ, suc, ◌≤◌, List, [], ◌∷◌, length, Option, Some, None, Result, Ok, Err, refl, arith}
use Rattle.std.specs.Prelude.{◌&&◌, nat_le, decimal, All}
use Rattle.std.specs.Option.{ok_or}
use Rattle.std.proofs.lemmas.Bool.{and_parts, leb-true}
use Rattle.serde_json.specs.Data.{Data}
use Rattle.serde_json.specs.Find.{get, as_array}
use Rattle.cmm_scenario.specs.declared.fault.Kind.{Kind}
use Rattle.cmm_scenario.specs.declared.fault.Kind.TheVariants.{Type_, Range}
use Rattle.cmm_scenario.specs.declared.error.ScenarioError.{ScenarioError}
use Rattle.cmm_scenario.specs.Outcome.{checked}
use Rattle.cmm_scenario.specs.Faults.{here, inside}
use Rattle.cmm_scenario.specs.Tree.{whole_number, number_in, number, required, optional, member_of, member_or, trees_of, each_from, list_of}
use Rattle.cmm_scenario.proofs.Given.{Given, given_next, given_any, given_map, given_checked, All-cons}
use Rattle.cmm_scenario.proofs.GivenWords.{Between, within-given}

pub here-given : {A : Type 0} (P : A → Type 0) (r : Result A Kind) → Given P r → Given P (here r)
here-given P (Ok x) h = h
here-given P (Err k) h = tt

pub inside-given : {A : Type 0} (P : A → Type 0) (name : List ℕ) (r : Result A ScenarioError) → Given P r → Given P (inside name r)
inside-given P name (Ok x) h = h
inside-given P name (Err e) h = tt

-- each value that is read
abbrev pub Reads : {A : Type 0} → (A → Type 0) → (Data → Result A ScenarioError) → Type 0
Reads P read = (tree : Data) → Given P (read tree)

required-given : {A : Type 0} (P : A → Type 0) (read : Data → Result A ScenarioError) (member : Option Data) → Reads P read → Given P (required read member)
required-given P read None h = tt
required-given P read (Some tree) h = h tree

optional-given : {A : Type 0} (P : A → Type 0) (default : A) (read : Data → Result A ScenarioError) (member : Option Data) → P default → Reads P read → Given P (optional default read member)
optional-given P default read None d h = d
optional-given P default read (Some tree) d h = h tree

pub member-given : {A : Type 0} (P : A → Type 0) (key : List ℕ) (read : Data → Result A ScenarioError) (tree : Data) → Reads P read → Given P (member_of key read tree)
member-given P key read tree h = inside-given P key (required read (get key tree)) (required-given P read (get key tree) h)

pub member_or-given : {A : Type 0} (P : A → Type 0) (key : List ℕ) (default : A) (read : Data → Result A ScenarioError) (tree : Data) → P default → Reads P read
    → Given P (member_or key default read tree)
member_or-given P key default read tree d h = inside-given P key (optional default read (get key tree)) (optional-given P default read (get key tree) d h)

number_in-given : (low high : ℕ) (tree : Data) → Given (Between low high) (number_in low high tree)
unfolding number_in
number_in-given low high tree = given_any (Between low high) (whole_number tree) _ (λ n. within-given low high n)

pub number-given : (low high : ℕ) → Reads (Between low high) (number low high)
number-given low high tree = here-given (Between low high) (number_in low high tree) (number_in-given low high tree)

-- so many items, of each of which P holds
pub record AreItems {A : Type 0} (P : A → Type 0) (count : ℕ) (items : List A) : Type 0 where
  pub len : length items ≡ count
  pub each : All P items

no_items : {A : Type 0} (P : A → Type 0) → AreItems P 0 []
no_items P = record { len = refl; each = λ k d lt. absurd (omega arith) }

each-given : {A : Type 0} (P : A → Type 0) (read : Data → Result A ScenarioError) → Reads P read → (place : ℕ) (trees : List Data) → Given (AreItems P (length trees)) (each_from place read trees)
unfolding each_from
each-given P read h place [] = no_items P
each-given P read h place (tree ∷ trees) =
    given_next P (AreItems P (length (tree ∷ trees))) (inside (decimal place) (read tree)) _ (inside-given P (decimal place) (read tree) (h tree)) (λ x p.
    given_next (AreItems P (length trees)) (AreItems P (length (tree ∷ trees))) (each_from (suc place) read trees) _ (each-given P read h (suc place) trees) (λ xs ps.
    record { len = omega (arith, ps.len); each = All-cons P x xs p ps.each }))

-- a list of a length in a range, of each of whose items P holds
pub record IsList {A : Type 0} (P : A → Type 0) (low high : ℕ) (items : List A) : Type 0 where
  pub some : low ≤ length items
  pub few : length items ≤ high
  pub each : All P items

pub list-given : {A : Type 0} (P : A → Type 0) (low high : ℕ) (read : Data → Result A ScenarioError) → Reads P read → Reads (IsList P low high) (list_of low high read)
unfolding list_of
list-given P low high read h tree =
    given_any (IsList P low high) (here (ok_or (as_array tree) Type_)) _ (λ items.
    let count = length (trees_of items) in
    let fits = nat_le low count && nat_le count high in
    given_next (λ trees. Between low high (length trees)) (IsList P low high) (here (checked fits (trees_of items) Range)) _
    (here-given (λ trees. Between low high (length trees)) (checked fits (trees_of items) Range)
    (given_checked (λ trees. Between low high (length trees)) fits (trees_of items) Range
    (λ t. (leb-true low count (and_parts (nat_le low count) (nat_le count high) t).0, leb-true count high (and_parts (nat_le low count) (nat_le count high) t).1))))
    (λ trees b. given_map (AreItems P (length trees)) (IsList P low high) (each_from 0 read trees)
    (λ xs ps. record { some = omega (arith, b.0, ps.len); few = omega (arith, b.1, ps.len); each = ps.each }) (each-given P read h 0 trees)))
