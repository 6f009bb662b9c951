-- Laws of a finite map by key.
use Rattle.std.proofs.Common.{◌≡◌, ◌+◌, ◌-◌, ◌≤◌, ℕ, zero, suc, cond, true, false, refl, ap, sym, ◌∙◌, is_some, arith}
use Rattle.std.specs.Ordering.{nat_cmp}
use Rattle.std.specs.Cmp.{IsTotalOrder, nat_cmp_total}
use Rattle.std.specs.FinMap.{FinMap, insert, remove, len, contains_key, len-insert, len-remove, empty_of_len, get-empty}
use Rattle.std.proofs.lemmas.Map.Lookups.{CmpEqualImpliesEq, exact_pairs, exact_unsigned}
use Rattle.std.proofs.lemmas.Bool.{false≢true}
use Rattle.std.proofs.lemmas.Cmp.{on_total, then_total}
use Rattle.cmm_flat.specs.declared.mapping.MappingKey.{MappingKey}
use Rattle.cmm_flat.specs.Mapping.{key_cmp}

-- keys that compare alike are one
pub exact_keys : CmpEqualImpliesEq key_cmp
exact_keys a b h = ap (λ (p : ℕ × ℕ). record { process = p.0; map = p.1 }) (exact_pairs nat_cmp nat_cmp exact_unsigned exact_unsigned (a.process, a.map) (b.process, b.map) h)

pub keys_total : IsTotalOrder key_cmp
keys_total = then_total (on_total (λ p. p.process) nat_cmp_total) (on_total (λ p. p.map) nat_cmp_total)

module _ {X : Type 0} where
  pub one_more : (m : FinMap key_cmp X) (p : MappingKey) (v : X) → contains_key m p ≡ false → len (insert m p v) ≡ len m + 1
  one_more m p v new = len-insert keys_total m p v ∙ ap (λ b. cond b (len m) (len m + 1)) new

  pub as_many : (m : FinMap key_cmp X) (p : MappingKey) (v : X) → contains_key m p ≡ true → len (insert m p v) ≡ len m
  as_many m p v old = len-insert keys_total m p v ∙ ap (λ b. cond b (len m) (len m + 1)) old

  pub one_less : (m : FinMap key_cmp X) (p : MappingKey) → contains_key m p ≡ true → len (remove m p) ≡ len m - 1
  one_less m p old = len-remove keys_total m p ∙ ap (λ b. cond b (len m - 1) (len m)) old

  pub none_less : (m : FinMap key_cmp X) (p : MappingKey) → contains_key m p ≡ false → len (remove m p) ≡ len m
  none_less m p new = len-remove keys_total m p ∙ ap (λ b. cond b (len m - 1) (len m)) new

  not_empty : (m : FinMap key_cmp X) (p : MappingKey) (n : ℕ) → len m ≡ n → contains_key m p ≡ true → 1 ≤ n
  not_empty m p zero none old = absurd (false≢true (sym (ap is_some (get-empty {X = X} key_cmp p)) ∙ ap (λ (x : FinMap key_cmp X). contains_key x p) (sym (empty_of_len m none)) ∙ old))
  not_empty m p (suc n) some old = omega arith

  pub some_live : (m : FinMap key_cmp X) (p : MappingKey) → contains_key m p ≡ true → 1 ≤ len m
  some_live m p old = not_empty m p (len m) refl old
