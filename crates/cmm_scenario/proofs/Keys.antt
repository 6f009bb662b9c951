-- The keys of an object, in the order of its text.
use Rattle.std.proofs.Common.{◌≡◌, ℕ, Bool, true, false, List, [], ◌∷◌, bytes_eq, Ordering, Less, Equal, Greater, nat_cmp, is_eq, refl, sym, ap, ◌∙◌, Some}
use Rattle.std.specs.Prelude.{◌||◌, ◌&&◌}
use Rattle.std.specs.List.{list_all}
use Rattle.std.specs.Ordering.{match_ordering}
use Rattle.std.specs.Cmp.Lexicographic.{slice_cmp}
use Rattle.std.proofs.lemmas.Slice.Eq.{bytes_eq-Decides}
use Rattle.std.proofs.lemmas.Map.Text.{is_eq-slice_cmp}
use denote.Ref.{Bor}
use Rattle.json.specs.Json as json
use Rattle.json.specs.Value.{members_view}
use Rattle.json.specs.declared.value.Value.{Value}
use Rattle.serde_json.specs.Data.{Data, Members, no_members, member, put}
use Rattle.serde_json.specs.Find.{as_object}
use Rattle.cmm_scenario.specs.declared.fault.Kind.TheVariants.{Unknown}
use Rattle.cmm_scenario.specs.Outcome.{checked}
use Rattle.cmm_scenario.specs.Tree.{is_among, all_among, known_keys}
use Rattle.cmm_scenario.specs.Lent.{is_lent, texts}
use Rattle.cmm_scenario.specs.Borrowed.{data_of, data_of_members, members_data}

pub is_lent-is_among : (names : List (Bor (List ℕ))) (name : List ℕ) → is_lent names name ≡ is_among (texts names) name
is_lent-is_among [] name = refl
is_lent-is_among (n ∷ names) name = ap (λ (b : Bool). bytes_eq name n.now || b) (is_lent-is_among names name)

-- each key in a text is one of the names
abbrev keys_among : List (List ℕ) → json.Members → Bool
keys_among names json.no_members = true
keys_among names (json.member k j ms) = is_among names k && keys_among names ms

twice : (a b : Bool) → (a && b) ≡ (a && (a && b))
twice true b = refl
twice false b = refl

swapped : (a b c : Bool) → (b && (a && c)) ≡ (a && (b && c))
swapped true b c = refl
swapped false true c = refl
swapped false false c = refl

all_among-put_at : (names : List (List ℕ)) (k l : List ℕ) (d e : Data) (ms : Members) (o : Ordering) → slice_cmp nat_cmp k l ≡ o
    → all_among names (put k d ms) ≡ (is_among names k && all_among names ms)
    → all_among names (match_ordering o (member k d (member l e ms)) (member l d ms) (member l e (put k d ms))) ≡ (is_among names k && all_among names (member l e ms))
all_among-put_at names k l d e ms Less is later = refl
all_among-put_at names k l d e ms Equal is later =
    let same : k ≡ l = (bytes_eq-Decides k l).0 (sym (is_eq-slice_cmp k l) ∙ ap is_eq is) in
    twice (is_among names l) (all_among names ms) ∙ ap (λ q. is_among names q && all_among names (member l e ms)) (sym same)
all_among-put_at names k l d e ms Greater is later =
    ap (λ (b : Bool). is_among names l && b) later ∙ swapped (is_among names k) (is_among names l) (all_among names ms)

all_among-put : (names : List (List ℕ)) (k : List ℕ) (d : Data) (ms : Members) → all_among names (put k d ms) ≡ (is_among names k && all_among names ms)
all_among-put names k d no_members = refl
all_among-put names k d (member l e ms) = all_among-put_at names k l d e ms (slice_cmp nat_cmp k l) refl (all_among-put names k d ms)

regroup : (a b c : Bool) → (b && (a && c)) ≡ ((a && b) && c)
regroup true b c = refl
regroup false true c = refl
regroup false false c = refl

all_among-data_of : (names : List (List ℕ)) (ms : json.Members) (found : Members) → all_among names (data_of_members ms found) ≡ (keys_among names ms && all_among names found)
all_among-data_of names json.no_members found = refl
all_among-data_of names (json.member k j ms) found =
    all_among-data_of names ms (put k (data_of j) found) ∙ ap (λ (b : Bool). keys_among names ms && b) (all_among-put names k (data_of j) found)
    ∙ regroup (is_among names k) (keys_among names ms) (all_among names found)

and_true : (b : Bool) → (b && true) ≡ b
and_true true = refl
and_true false = refl

list_all-keys_among : {R : Type 0} → (names : List (Bor (List ℕ))) (members : List (Bor (List ℕ) × Value R))
    → list_all (λ member. is_lent names member.0.now) members ≡ keys_among (texts names) (members_view members)
list_all-keys_among names [] = refl
list_all-keys_among names (m ∷ members) = rw (is_lent-is_among names m.0.now, list_all-keys_among names members) refl

pub keys-all_among : {R : Type 0} → (names : List (Bor (List ℕ))) (members : List (Bor (List ℕ) × Value R))
    → list_all (λ member. is_lent names member.0.now) members ≡ all_among (texts names) (members_data members)
keys-all_among names members =
    list_all-keys_among names members ∙ sym (all_among-data_of (texts names) (members_view members) no_members ∙ and_true (keys_among (texts names) (members_view members)))

pub known_keys_given : (names : List (List ℕ)) (tree : Data) (members : Members) (known : Bool) → Some members ≡ as_object tree → all_among names members ≡ known
    → known_keys names tree ≡ checked known tt Unknown
unfolding known_keys
known_keys_given names tree _ known object all = rw (← object, all) refl
