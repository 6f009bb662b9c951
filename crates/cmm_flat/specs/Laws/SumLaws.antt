-- Laws of sums over the live mappings: what an insert and a removal make of them.
use Rattle.std.proofs.Common.{◌≡◌, ◌+◌, ◌&&◌, ℕ, List, [], ◌∷◌, Option, Some, None, Bool, true, false, cond, T, refl, ap, sym, ◌∙◌, subst, arith}
use Rattle.std.proofs.lemmas.List.{nil_from_length}
use Rattle.std.specs.Ordering.{eq_by_cmp, is_lt, is_eq}
use Rattle.std.specs.declared.cmp.Ordering.{Ordering}
use Rattle.std.specs.declared.cmp.Ordering.TheVariants.{Less, Equal, Greater}
use Rattle.std.specs.Cmp.{tied_itself}
use Rattle.std.specs.FinMap.{FinMap, entries, entries_sorted, entries-insert, empty, get, insert, remove, get-entries, get-insert, get-remove, same_map, len-entries, len-empty, find, put, is_sorted}
use Rattle.std.specs.FinMap.Entries.{below_all, by_order}
use Rattle.cmm_flat.specs.declared.mapping.MappingKey.{MappingKey}
use Rattle.cmm_flat.specs.declared.mapping.Mapping.{Mapping}
use Rattle.cmm_flat.specs.Mapping.{key_cmp}
use Rattle.cmm_flat.specs.Laws.KeyLaws.{exact_keys, keys_total}
use Rattle.cmm_flat.specs.Legal.{sum_over}

-- the number of what was at a key; 0 where nothing was
abbrev pub number_before : (MappingKey × Mapping → ℕ) → MappingKey → Option Mapping → ℕ
number_before number key None = 0
number_before number key (Some mapping) = number (key, mapping)

first : (a b : Bool) → T (a && b) → T a
first true b h = tt
first false b h = absurd h

second : (a b : Bool) → T (a && b) → T b
second true b h = h
second false b h = absurd h

less : (o : Ordering) → T (is_lt o) → o ≡ Less
less Less h = refl
less Equal h = absurd h
less Greater h = absurd h

missing : (k x : MappingKey) (es : List (MappingKey × Mapping)) → key_cmp k x ≡ Less → T (below_all key_cmp x es) → find key_cmp k es ≡ None
missing k x [] p h = refl
missing k x (e ∷ es) p h =
    ap (λ r. cond (is_eq r) (Some e.1) (find key_cmp k es)) (keys_total.trans k x e.0 p (less _ (first _ _ h))) ∙ missing k x es p (second _ _ h)

sum_over-put : (number : MappingKey × Mapping → ℕ) (k : MappingKey) (v : Mapping) (es : List (MappingKey × Mapping)) → T (is_sorted key_cmp es)
    → sum_over number (put key_cmp k v es) + number_before number k (find key_cmp k es) ≡ sum_over number es + number (k, v)
sum_over-put number k v [] sorted = omega arith
sum_over-put number k v (e ∷ es) sorted =
    elim (key_cmp k e.0) as (λ r. key_cmp k e.0 ≡ r → sum_over number (by_order r ((k, v) ∷ e ∷ es) ((e.0, v) ∷ es) (e ∷ put key_cmp k v es)) + number_before number k
    (cond (is_eq r) (Some e.1) (find key_cmp k es)) ≡ number e + sum_over number es + number (k, v)) [
      | Less ↦ λ p. subst (λ o. number (k, v) + (number e + sum_over number es) + number_before number k o ≡ number e + sum_over number es + number (k, v))
          (sym (missing k e.0 es p (first _ _ sorted))) (omega arith)
      | Equal ↦ λ p.
          let same : k ≡ e.0 = exact_keys k e.0 p in
          let new : number (e.0, v) ≡ number (k, v) = ap (λ (q : MappingKey). number (q, v)) (sym same) in
          let old : number (k, e.1) ≡ number e = ap (λ (q : MappingKey). number (q, e.1)) same in
          omega (arith, new, old)
      | Greater ↦ λ p. let rest = sum_over-put number k v es (second _ _ sorted) in omega (arith, rest)
    ] refl

pub sum_over-empty : (number : MappingKey × Mapping → ℕ) → sum_over number (entries (empty {R = key_cmp})) ≡ 0
sum_over-empty number = ap (sum_over number) (nil_from_length (entries (empty {X = Mapping} {R = key_cmp})) (sym (len-entries empty) ∙ len-empty key_cmp Mapping))

-- an insert adds the new mapping's number, in key of the old one's
pub sum_over-insert : (number : MappingKey × Mapping → ℕ) (m : FinMap key_cmp Mapping) (k : MappingKey) (v : Mapping)
    → sum_over number (entries (insert m k v)) + number_before number k (get m k) ≡ sum_over number (entries m) + number (k, v)
sum_over-insert number m k v =
    ap (λ es. sum_over number es + number_before number k (get m k)) (entries-insert keys_total m k v)
    ∙ ap (λ o. sum_over number (put key_cmp k v (entries m)) + number_before number k o) (get-entries m k)
    ∙ sum_over-put number k v (entries m) (entries_sorted m)

back_again : (m : FinMap key_cmp Mapping) (k : MappingKey) (v : Mapping) → get m k ≡ Some v → insert (remove m k) k v ≡ m
back_again m k v at = same_map keys_total exact_keys _ _ (λ q.
    get-insert keys_total (remove m k) k v q ∙ ap (cond (eq_by_cmp key_cmp q k) (Some v)) (get-remove keys_total m k q)
    ∙ elim (key_cmp q k) as (λ r. key_cmp q k ≡ r → cond (is_eq r) (Some v) (cond (is_eq r) None (get m q)) ≡ get m q) [
      | Less ↦ λ _. refl
      | Equal ↦ λ p. sym (ap (get m) (exact_keys q k p) ∙ at)
      | Greater ↦ λ _. refl
    ] refl)

-- a removal takes away the number of what was there
pub sum_over-remove : (number : MappingKey × Mapping → ℕ) (m : FinMap key_cmp Mapping) (k : MappingKey) (v : Mapping) → get m k ≡ Some v
    → sum_over number (entries (remove m k)) + number (k, v) ≡ sum_over number (entries m)
sum_over-remove number m k v at =
    let gone : get (remove m k) k ≡ None = get-remove keys_total m k k ∙ ap (λ r. cond (is_eq r) None (get m k)) (tied_itself keys_total k) in
    let back : sum_over number (entries (insert (remove m k) k v)) + 0 ≡ sum_over number (entries (remove m k)) + number (k, v) =
    ap (λ o. sum_over number (entries (insert (remove m k) k v)) + number_before number k o) (sym gone) ∙ sum_over-insert number (remove m k) k v in
    let whole : sum_over number (entries (insert (remove m k) k v)) ≡ sum_over number (entries m) = ap (λ (n : FinMap key_cmp Mapping). sum_over number (entries n)) (back_again m k v at) in
    omega (arith, back, whole)
