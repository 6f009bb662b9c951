-- A value with borrowed texts has the data that its JSON has, where its numbers fit.
use Rattle.std.proofs.Common.{◌≡◌, ℕ, Bool, true, false, cond, List, get_or, drop, Option, Some, None, option_map, option_and_then, ℤ, Float, bytes_eq, ◌==◌, refl, sym, ap, ◌∙◌, subst}
use Rattle.std.specs.Prelude.{◌&&◌, if◌then◌else◌, unwrap_or, is_some}
use Rattle.std.proofs.lemmas.Bool.{false≢true}
use Rattle.std.proofs.lemmas.Slice.Eq.{bytes_eq-Decides}
use Rattle.fast_float.specs.Text.{scan}
use Rattle.json.specs.Token.{Token}
use Rattle.json.specs.Lex.{tokens}
use Rattle.json.specs.Json as json
use Rattle.json.specs.Reads.{Yields}
use Rattle.json.specs.declared.token.Token as declared
use Rattle.json.specs.Value.{value_view}
use Rattle.json.specs.declared.value.Value.{Value}
use denote.Ref.{Bor}
use Rattle.json.specs.Find as json_find
use Rattle.json.specs.Find.{later_or}
use Rattle.serde_json.specs.Data.{Num, negative, float, Data, number, array, object, item, Members, no_members, put}
use Rattle.serde_json.specs.Find.{get, get_member, as_u64}
use Rattle.serde_json.specs.Read.{number_of, number_from, of_json, of_items, of_members, read}
use Rattle.serde_json.proofs.Views.{get_member-put, get_member-put_other}
use Rattle.cmm_scenario.specs.Borrowed.{number_or_float, data_of, data_of_items, data_of_members, numbers_fit, items_fit, members_fit, view}

-- ---- the whole value

-- x, where a test holds
abbrev pub given : {A : Type 0} → Bool → A → Option A
given b x = if b then Some x else None

given-map : {A B : Type 0} (f : A → B) (b : Bool) (x : A) → option_map f (given b x) ≡ given b (f x)
given-map f true x = refl
given-map f false x = refl

given-then : {A B : Type 0} (f : A → Option B) (b c : Bool) (x : A) (y : B) → f x ≡ given c y → option_and_then f (given b x) ≡ given (b && c) y
given-then f true c x y e = e
given-then f false c x y e = refl

number-given : (n : Option Num) (x : Num) → option_map number n ≡ given (is_some n) (number (unwrap_or n x))
number-given None x = refl
number-given (Some n) x = refl

mutual
  pub of_json-given : (j : json.Json) → of_json j ≡ given (numbers_fit j) (data_of j)
  of_json-given json.null = refl
  of_json-given (json.boolean b) = refl
  of_json-given (json.number s) = number-given (number_of s) _
  of_json-given (json.string s) = refl
  of_json-given (json.array js) = ap (option_map array) (of_items-given js) ∙ given-map array (items_fit js) (data_of_items js)
  of_json-given (json.object ms) = ap (option_map object) (of_members-given ms no_members) ∙ given-map object (members_fit ms) (data_of_members ms no_members)

  of_items-given : (js : json.Items) → of_items js ≡ given (items_fit js) (data_of_items js)
  of_items-given json.no_items = refl
  of_items-given (json.item j js) =
      ap (option_and_then (λ d. option_map (item d) (of_items js))) (of_json-given j)
      ∙ given-then (λ d. option_map (item d) (of_items js)) (numbers_fit j) (items_fit js) (data_of j) (item (data_of j) (data_of_items js))
      (ap (option_map (item (data_of j))) (of_items-given js) ∙ given-map (item (data_of j)) (items_fit js) (data_of_items js))

  of_members-given : (ms : json.Members) (found : Members) → of_members ms found ≡ given (members_fit ms) (data_of_members ms found)
  of_members-given json.no_members found = refl
  of_members-given (json.member k j ms) found =
      ap (option_and_then (λ d. of_members ms (put k d found))) (of_json-given j)
      ∙ given-then (λ d. of_members ms (put k d found)) (numbers_fit j) (members_fit ms) (data_of j) (data_of_members ms (put k (data_of j) found))
      (of_members-given ms (put k (data_of j) found))

-- what the text has behind its value
abbrev whole : Option (json.Json × List Token) → Option Data
whole o = option_and_then of_json (option_and_then (λ p. json.if_last p.0 p.1) o)

pub read-and_more : (text : List ℕ) (j : json.Json) (rest new : List Token) (next : Option declared.Token) → Yields rest next new → is_some next ≡ true
    → json.value 127 (tokens text) ≡ Some (j, rest) → read text ≡ None
read-and_more text j rest new None last some e = absurd (false≢true some)
read-and_more text j rest new (Some t) more some e = ap whole (e ∙ ap (λ r. Some (j, r)) more)

pub read-whole : (text : List ℕ) (j : json.Json) (rest new : List Token) (next : Option declared.Token) (fit : Bool) → Yields rest next new → is_some next ≡ false
    → json.value 127 (tokens text) ≡ Some (j, rest) → numbers_fit j ≡ fit → read text ≡ given fit (data_of j)
read-whole text j rest new None fit last none e fits = ap whole (e ∙ ap (λ r. Some (j, r)) last.0) ∙ of_json-given j ∙ ap (λ b. given b (data_of j)) fits
read-whole text j rest new (Some t) fit more none e fits = absurd (false≢true (sym none))

-- ---- looking into it

-- the later of two
abbrev later : Option Data → Option Data → Option Data
later None earlier = earlier
later (Some d) earlier = Some d

found_at : (later_one : Option json.Json) (j : json.Json) (same : Bool) (before : Option Data)
    → later (option_map data_of later_one) (cond same (Some (data_of j)) before) ≡ later (option_map data_of (later_or later_one (cond same (Some j) None))) before
found_at None j true before = refl
found_at None j false before = refl
found_at (Some i) j same before = refl

different : (k key : List ℕ) → bytes_eq k key ≡ false → key ≡ k → ⊥
different k key e same = let yes : bytes_eq k key ≡ true = (bytes_eq-Decides k key).1 (sym same) in absurd (cc)

get_member-put_at : (key k : List ℕ) (d : Data) (found : Members) (same : Bool) → bytes_eq k key ≡ same → get_member key (put k d found) ≡ cond same (Some d) (get_member key found)
get_member-put_at key k d found true e = subst (λ q. get_member q (put k d found) ≡ Some d) ((bytes_eq-Decides k key).0 e) (get_member-put k d found)
get_member-put_at key k d found false e = get_member-put_other key k d found (different k key e)

get_member-data_of : (key : List ℕ) (ms : json.Members) (found : Members)
    → get_member key (data_of_members ms found) ≡ later (option_map data_of (json_find.get_member key ms)) (get_member key found)
get_member-data_of key json.no_members found = refl
get_member-data_of key (json.member k j ms) found =
    get_member-data_of key ms (put k (data_of j) found)
    ∙ ap (later (option_map data_of (json_find.get_member key ms))) (get_member-put_at key k (data_of j) found (bytes_eq k key) refl)
    ∙ found_at (json_find.get_member key ms) j (bytes_eq k key) (get_member key found)

or_none : (o : Option Data) → later o None ≡ o
or_none None = refl
or_none (Some d) = refl

pub get-data_of : (key : List ℕ) (j : json.Json) → get key (data_of j) ≡ option_map data_of (json_find.get key j)
get-data_of key json.null = refl
get-data_of key (json.boolean b) = refl
get-data_of key (json.number s) = refl
get-data_of key (json.string s) = refl
get-data_of key (json.array js) = refl
get-data_of key (json.object ms) = get_member-data_of key ms no_members ∙ or_none _

pub get-view : {R : Type 0} (key : List ℕ) (found : Option (Bor (Value R))) (j : json.Json) → option_map (λ v. value_view v.now) found ≡ json_find.get key j
    → option_map (λ v. view v.now) found ≡ get key (data_of j)
get-view {R} key found j e = seen found ∙ ap (option_map data_of) e ∙ sym (get-data_of key j)
  where
    seen : (o : Option (Bor (Value R))) → option_map (λ v. view v.now) o ≡ option_map data_of (option_map (λ v. value_view v.now) o)
    seen None = refl
    seen (Some v) = refl

-- ---- numbers

pub number_of-minus : (s : List ℕ) → (get_or s 0 0 == 45) ≡ true → number_of s ≡ number_from true (scan (drop 1 s))
unfolding number_of
number_of-minus s e = rw e refl

pub number_of-no_minus : (s : List ℕ) → (get_or s 0 0 == 45) ≡ false → number_of s ≡ number_from false (scan s)
unfolding number_of
number_of-no_minus s e = rw e refl

as_u64-or_float : (n : Option Num) (x : Float) → as_u64 (unwrap_or n (float x)) ≡ option_and_then as_u64 n
as_u64-or_float None x = refl
as_u64-or_float (Some n) x = refl

pub as_u64-number_or_float : (s : List ℕ) → as_u64 (number_or_float s) ≡ option_and_then as_u64 (number_of s)
as_u64-number_or_float s = as_u64-or_float (number_of s) _

no_u64 : (small finite : Bool) (z : ℤ) (x : Float) → option_and_then as_u64 (if small then Some (negative z) else (if finite then Some (float x) else None)) ≡ None
no_u64 true finite z x = refl
no_u64 false true z x = refl
no_u64 false false z x = refl

pub as_u64-minus : (s : List ℕ) → (get_or s 0 0 == 45) ≡ true → as_u64 (number_or_float s) ≡ None
as_u64-minus s e = as_u64-number_or_float s ∙ ap (option_and_then as_u64) (number_of-minus s e) ∙ no_u64 _ _ _ _
