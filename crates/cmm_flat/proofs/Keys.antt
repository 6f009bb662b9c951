-- The standard library's map by key as a finite map, and what a change at one key makes of it.
use Rattle.std.proofs.Common.{◌≡◌, List, [], ◌∷◌, Option, Some, None, cond, refl, ap, sym, ◌∙◌, is_some}
use Rattle.std.specs.Cmp.{eq_by_cmp_equiv}
use Rattle.std.specs.Map.{lookup}
use Rattle.std.specs.BTreeMap.{is_at}
use Rattle.std.specs.FinMap.{FinMap, find, get, insert, remove, contains_key, from_entries, get-insert, get-remove, get-from_entries, same_map}
use Rattle.cmm_flat.specs.declared.mapping.MappingKey.{MappingKey}
use Rattle.cmm_flat.specs.Mapping.{key_cmp}
use Rattle.cmm_flat.specs.Laws.KeyLaws.{exact_keys, keys_total}

module _ {X : Type 0} where
  -- what a list of entries has at a key
  abbrev pub found : List (MappingKey × X) → MappingKey → Option X
  found es q = lookup (is_at (key_cmp q)) es

  find_key : (es : List (MappingKey × X)) (q : MappingKey) → find key_cmp q es ≡ found es q
  find_key [] q = refl
  find_key (e ∷ es) q = ap (cond (is_at (key_cmp q) e.0) (Some e.1)) (find_key es q)

  pub get_key : (es : List (MappingKey × X)) (q : MappingKey) → get (from_entries {R = key_cmp} es) q ≡ found es q
  get_key es q = get-from_entries keys_total es q ∙ find_key es q

  -- entries that differ at one key make maps that differ there
  pub one_given : (es fs : List (MappingKey × X)) (p : MappingKey) (v : X) → ((q : MappingKey) → found fs q ≡ cond (is_at (key_cmp p) q) (Some v) (found es q))
      → from_entries {R = key_cmp} fs ≡ insert (from_entries es) p v
  one_given es fs p v h = same_map keys_total exact_keys _ _ (λ q.
      get_key fs q ∙ h q ∙ ap (λ b. cond b (Some v) (found es q)) ((eq_by_cmp_equiv keys_total).symm p q)
      ∙ sym (get-insert keys_total (from_entries es) p v q ∙ ap (cond (is_at (key_cmp q) p) (Some v)) (get_key es q)))

  pub one_taken : (es fs : List (MappingKey × X)) (p : MappingKey) → ((q : MappingKey) → found fs q ≡ cond (is_at (key_cmp p) q) None (found es q))
      → from_entries {R = key_cmp} fs ≡ remove (from_entries es) p
  one_taken es fs p h = same_map keys_total exact_keys _ _ (λ q.
      get_key fs q ∙ h q ∙ ap (λ b. cond b None (found es q)) ((eq_by_cmp_equiv keys_total).symm p q)
      ∙ sym (get-remove keys_total (from_entries es) p q ∙ ap (cond (is_at (key_cmp q) p) None) (get_key es q)))

  -- what a finite map of entries has there is what the entries have there
  pub key_found : (es : List (MappingKey × X)) (p : MappingKey) → contains_key (from_entries {R = key_cmp} es) p ≡ is_some (found es p)
  key_found es p = ap is_some (get_key es p)

  -- the same through the value that the entries are seen as
  pub here : (m : FinMap key_cmp X) (es : List (MappingKey × X)) (p : MappingKey) (o : Option X) → from_entries es ≡ m → o ≡ found es p → get m p ≡ o
  here m es p o is at = ap (λ (n : FinMap key_cmp X). get n p) (sym is) ∙ get_key es p ∙ sym at

  pub same_value : (o : Option X) (x y : X) → o ≡ Some x → o ≡ Some y → x ≡ y
  same_value o x y a b = cc

  pub no_value : {P : Type 0} (o : Option X) (x : X) → o ≡ None → o ≡ Some x → P
  no_value o x a b = cc
