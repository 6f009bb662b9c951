-- What bytes mean, by their tree.
use Rattle.std.proofs.Common.{◌≡◌, ◌≢◌, ℕ, Bool, true, false, List, Option, Some, None, refl, ap}
use Rattle.std.specs.Prelude.{if◌then◌else◌}
use Rattle.std.specs.Str.{IsUtf8, is_utf8}
use Rattle.std.proofs.lemmas.Str.{IsUtf8-from_is_utf8, is_utf8-from_IsUtf8}
use Rattle.json.specs.declared.error.Error.{Error}
use Rattle.json.specs.declared.error.Error.TheVariants.{Invalid, OutOfMemory, TooLong, DuplicateKey}
use Rattle.serde_json.specs.Data.{Data}
use Rattle.serde_json.specs.Read.{read}
use Rattle.cmm_scenario.specs.Borrowed.{refusal}
use Rattle.cmm_scenario.specs.Faults.{at_root, Fails}
use Rattle.cmm_scenario.specs.Plans.{whole_plan_of}
use Rattle.cmm_scenario.specs.Scenario.{tree_of, scenario_of_tree, scenario_of}

pub scenario_of-tree : (bytes : List ℕ) (tree : Data) → IsUtf8 bytes → read bytes ≡ Some tree → scenario_of bytes ≡ at_root (whole_plan_of tree)
unfolding scenario_of tree_of
scenario_of-tree bytes tree utf8 e = rw (is_utf8-from_IsUtf8 bytes utf8, e) refl

pub tree_of-text : (bytes : List ℕ) → IsUtf8 bytes → tree_of bytes ≡ read bytes
unfolding tree_of
tree_of-text bytes utf8 = rw (is_utf8-from_IsUtf8 bytes utf8) refl

no_text : (utf8 : Bool) (tree : Option Data) → (utf8 ≡ true → ⊥) → (if utf8 then tree else None) ≡ None
no_text true tree not = absurd (not refl)
no_text false tree not = refl

pub tree_of-no_text : (bytes : List ℕ) → (IsUtf8 bytes → ⊥) → tree_of bytes ≡ None
unfolding tree_of
tree_of-no_text bytes not = no_text (is_utf8 bytes) (read bytes) (λ utf8. not (IsUtf8-from_is_utf8 bytes utf8))

pub scenario_of-tree_of : (bytes : List ℕ) (tree : Option Data) → tree_of bytes ≡ tree → scenario_of bytes ≡ scenario_of_tree tree
unfolding scenario_of
scenario_of-tree_of bytes tree e = ap scenario_of_tree e

pub Fails-refusal : (bytes : List ℕ) (e : Error) → (e ≢ OutOfMemory → tree_of bytes ≡ None) → Fails (refusal e) (scenario_of bytes)
Fails-refusal bytes Invalid none = scenario_of-tree_of bytes None (none (λ is. cc))
Fails-refusal bytes OutOfMemory none = tt
Fails-refusal bytes TooLong none = scenario_of-tree_of bytes None (none (λ is. cc))
Fails-refusal bytes DuplicateKey none = scenario_of-tree_of bytes None (none (λ is. cc))
