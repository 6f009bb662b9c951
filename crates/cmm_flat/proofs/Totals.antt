-- A sum over the live mappings is the total of the tree's values.
use Rattle.std.proofs.Common.{◌≡◌, ◌+◌, ◌-◌, ℕ, inl, inr, true, false, List, [], ◌∷◌, map, Some, None, cond, refl, ap, sym, ◌∙◌, arith}
use Rattle.std.specs.Prelude.{◌==◌, nat_eq, nat_le}
use Rattle.std.specs.List.{AllByRecursion}
use Rattle.std.specs.List.Sorted.{IsStrictlySortedBy}
use Rattle.std.specs.Ordering.{is_eq}
use Rattle.std.specs.declared.cmp.Ordering.TheVariants.{Less}
use Rattle.std.specs.FinMap.{FinMap, entries, from_entries, find, get, insert, get-from_entries}
use Rattle.std.proofs.lemmas.Map.Keys.{sorted_head, sorted_tail}
use Rattle.std.proofs.lemmas.Bool.{cases_lt, eq-eqb, ne_eqb, le-leb, lt-leb}
use Rattle.cmm_flat.specs.declared.mapping.MappingKey.{MappingKey}
use Rattle.cmm_flat.specs.declared.mapping.Mapping.{Mapping}
use Rattle.cmm_flat.specs.Mapping.{key_cmp}
use Rattle.cmm_flat.specs.Laws.KeyLaws.{keys_total}
use Rattle.cmm_flat.specs.Legal.{sum_over}
use Rattle.cmm_flat.specs.Laws.SumLaws.{number_before, sum_over-empty, sum_over-insert}

-- the total of a number over mappings
abbrev pub total : (Mapping → ℕ) → List Mapping → ℕ
total number [] = 0
total number (mapping ∷ mappings) = number mapping + total number mappings

none_later : (k : MappingKey) (es : List (MappingKey × Mapping)) → AllByRecursion (λ y. key_cmp k y ≡ Less) (map (λ e. e.0) es) → find key_cmp k es ≡ None
none_later k [] above = refl
none_later k (e ∷ es) above = ap (λ r. cond (is_eq r) (Some e.1) (find key_cmp k es)) above.0 ∙ none_later k es above.1

whole_sum : (number : MappingKey × Mapping → ℕ) (es : List (MappingKey × Mapping)) → IsStrictlySortedBy key_cmp (map (λ e. e.0) es)
    → sum_over number (entries (from_entries {R = key_cmp} es)) ≡ sum_over number es
whole_sum number [] sorted = sum_over-empty number
whole_sum number (e ∷ es) sorted =
    let keys = map (λ (x : MappingKey × Mapping). x.0) es in
    let none : get (from_entries {R = key_cmp} es) e.0 ≡ None = get-from_entries keys_total es e.0 ∙ none_later e.0 es (sorted_head key_cmp e.0 keys sorted) in
    let before : number_before number e.0 (get (from_entries {R = key_cmp} es) e.0) ≡ 0 = ap (number_before number e.0) none in
    let more : sum_over number (entries (insert (from_entries {R = key_cmp} es) e.0 e.1)) + number_before number e.0 (get (from_entries {R = key_cmp} es) e.0)
    ≡ sum_over number (entries (from_entries {R = key_cmp} es)) + number e =
    sum_over-insert number (from_entries es) e.0 e.1 in
    let rest = whole_sum number es (sorted_tail key_cmp e.0 keys sorted) in
    omega (arith, before, more, rest)

of_values : (number : Mapping → ℕ) (es : List (MappingKey × Mapping)) → sum_over (λ live. number live.1) es ≡ total number (map (λ e. e.1) es)
of_values number [] = refl
of_values number (e ∷ es) = ap (λ n. number e.1 + n) (of_values number es)

-- the total of a tree's values is the sum over the map that the tree is seen as
pub total_of : (number : Mapping → ℕ) (es : List (MappingKey × Mapping)) (m : FinMap key_cmp Mapping) → IsStrictlySortedBy key_cmp (map (λ e. e.0) es) → from_entries es ≡ m
    → sum_over (λ live. number live.1) (entries m) ≡ total number (map (λ e. e.1) es)
total_of number es m sorted seen =
    ap (λ (n : FinMap key_cmp Mapping). sum_over (λ live. number live.1) (entries n)) (sym seen) ∙ whole_sum (λ live. number live.1) es sorted ∙ of_values number es

-- nothing is left exactly where the total is reached
pub reached : (count left all : ℕ) → left ≡ count - all → (left == 0) ≡ nat_le count all
reached count left all e =
    elim (cases_lt all count) [
      | inl short ↦
          let some : nat_eq left 0 ≡ false = ne_eqb left 0 (λ h. omega arith) in
          let past : nat_le count all ≡ false = lt-leb count all short in
          some ∙ sym past
      | inr enough ↦
          let none : nat_eq left 0 ≡ true = eq-eqb left 0 (omega arith) in
          let within : nat_le count all ≡ true = le-leb count all enough in
          none ∙ sym within
    ]
