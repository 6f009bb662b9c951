-- A run that reaches the number of words has found all of them out.
use Rattle.std.proofs.Common.{◌≡◌, ℕ, suc, ◌+◌, ◌<◌, ◌≤◌, ◌≢◌, ◌⊎◌, inl, inr, ⊎_elim, List, [], ◌∷◌, cond, sym, ap, subst, arith, eq-eqb, ne_eqb, lt-ltb, le-ltb}
use Rattle.std.specs.Prelude.{All}
use Rattle.std.specs.List.{Contains}
use mathlib.Core.Logic.{dite}
use native.Mathlib.Decide.{ℕ_discrete, dec_le}
use Rattle.frame_pool.specs.Plays.{recorded, run_with, next_round, found_out_at}
use Rattle.frame_pool.specs.FoundOut.{noted_all, DryFoundAll}
use Rattle.frame_pool.specs.declared.view.PoolView.{PoolView}

-- of the words that were found out so far, `seen`, the run has the last ones before `next`, round the end of n words
record HasRun (n : ℕ) (seen : ℕ → Type 0) (v : PoolView) : Type 0 where
  short : v.run < n
  each : (k : ℕ) → k < n → (k < v.next → v.next ≤ k + v.run) → (v.next ≤ k → v.next + n ≤ k + v.run) → seen k

module _ (n i : ℕ) (v : PoolView) where
  run_on : i ≡ v.next → run_with v i ≡ v.run + 1
  run_on e = ap (λ b. cond b (v.run + 1) 1) (eq-eqb i v.next e)

  run_anew : i ≢ v.next → run_with v i ≡ 1
  run_anew ne = ap (λ b. cond b (v.run + 1) 1) (ne_eqb i v.next ne)

  after_inside : i + 1 < n → next_round n i ≡ i + 1
  after_inside h = ap (λ b. cond b (i + 1) 0) (lt-ltb (i + 1) n h)

  after_end : n ≤ i + 1 → next_round n i ≡ 0
  after_end h = ap (λ b. cond b (i + 1) 0) (le-ltb (i + 1) n h)

  goes_on : run_with v i < n → found_out_at n i v ≡ recorded v (run_with v i) (next_round n i) v.dry
  goes_on h = ap (λ b. cond b (recorded v (run_with v i) (next_round n i) v.dry) (recorded v 0 (next_round n i) (v.dry + 1))) (lt-ltb (run_with v i) n h)

  ends : n ≤ run_with v i → found_out_at n i v ≡ recorded v 0 (next_round n i) (v.dry + 1)
  ends h = ap (λ b. cond b (recorded v (run_with v i) (next_round n i) v.dry) (recorded v 0 (next_round n i) (v.dry + 1))) (le-ltb (run_with v i) n h)

  -- a word of the new run but i was in the old one
  earlier : (k : ℕ) → i < n → k < n → k ≢ i → v.run < n → (k < next_round n i → next_round n i ≤ k + run_with v i) → (next_round n i ≤ k → next_round n i + n ≤ k + run_with v i)
      → (k < v.next → v.next ≤ k + v.run) × (v.next ≤ k → v.next + n ≤ k + v.run)
  earlier k near below other short before behind = dite (ℕ_discrete i v.next)
      (λ same. dite (dec_le (i + 2) n)
      (λ inside. let at = after_inside (omega arith) in let run = run_on same in
      ((λ h. omega (arith, at, run, before (omega (arith, at)))), λ h. omega (arith, at, run, behind (omega (arith, at)))))
      (λ end. let at = after_end (omega arith) in let run = run_on same in
      ((λ h. omega (arith, at, run, behind (omega (arith, at)))), λ h. omega (arith, at, run, behind (omega (arith, at))))))
      (λ ne. let run = run_anew ne in absurd (dite (dec_le (i + 2) n)
      (λ inside. let at = after_inside (omega arith) in dite (dec_le (k + 1) (next_round n i)) (λ h. omega (arith, at, run, before (omega arith))) (λ h. omega (arith, at, run, behind (omega arith))))
      (λ end. let at = after_end (omega arith) in omega (arith, at, run, behind (omega (arith, at))))))

module _ (n : ℕ) where
  -- one more word was found out
  runs : (seen : ℕ → Type 0) (i : ℕ) (v : PoolView) → i < n → HasRun n seen v → run_with v i < n → HasRun n (λ k. seen k ⊎ (k ≡ i)) (recorded v (run_with v i) (next_round n i) v.dry)
  runs seen i v near has more = record {
    short = more;
    each = λ k below before behind. dite (ℕ_discrete k i) (λ e. inr e) (λ ne. let old = earlier n i v k near below ne has.short before behind in inl (has.each k below old.0 old.1));
  }

  -- the run is whole
  whole : (seen : ℕ → Type 0) (i : ℕ) (v : PoolView) → i < n → HasRun n seen v → n ≤ run_with v i → (k : ℕ) → k < n → seen k ⊎ (k ≡ i)
  whole seen i v near has all k below = dite (ℕ_discrete k i) (λ e. inr e) (λ ne. inl (dite (ℕ_discrete i v.next)
      (λ same. let run = run_on n i v same in has.each k below (λ h. omega (arith, run, has.short)) (λ h. omega (arith, run, has.short)))
      (λ other. absurd (omega (arith, run_anew n i v other)))))

  found_all : (found : List ℕ) (seen : ℕ → Type 0) (v : PoolView) → HasRun n seen v → All (λ i. i < n) found → v.dry < (noted_all n found v).dry → (k : ℕ) → k < n → seen k ⊎ Contains found k
  found_all [] seen v has each rose k below = absurd (omega arith)
  found_all (i ∷ rest) seen v has each rose k below =
      let near : i < n = each 0 i (omega arith) in
      dite (dec_le (run_with v i + 1) n)
      (λ more.
      let is = goes_on n i v (omega arith) in
      let rises : v.dry < (noted_all n rest (recorded v (run_with v i) (next_round n i) v.dry)).dry = subst (λ (w : PoolView). v.dry < (noted_all n rest w).dry) is rose in
      ⊎_elim (λ (t : seen k ⊎ (k ≡ i)). first k t)
      (λ (t : Contains rest k). inr (suc t.0, omega (arith, t.1), t.2))
      (found_all rest (λ k. seen k ⊎ (k ≡ i)) (recorded v (run_with v i) (next_round n i) v.dry) (runs seen i v near has (omega arith)) (λ j d h. each (suc j) d (omega arith)) rises k below))
      (λ last. first k (whole seen i v near has (omega arith) k below)) where
        first : (k : ℕ) → seen k ⊎ (k ≡ i) → seen k ⊎ Contains (i ∷ rest) k
        first k t = ⊎_elim (λ (s : seen k). inl s) (λ (e : k ≡ i). inr (0, omega arith, sym e)) t

pub dry_found_all : DryFoundAll
dry_found_all n found v none each rose k below =
    ⊎_elim (λ (t : ⊥). absurd t) (λ (t : Contains found k). t)
    (found_all n found (λ _. ⊥) v (record { short = omega (arith, none); each = λ j near before behind. nothing j near before behind }) each rose k below) where
      nothing : (j : ℕ) → j < n → (j < v.next → v.next ≤ j + v.run) → (v.next ≤ j → v.next + n ≤ j + v.run) → ⊥
      nothing j near before behind = dite (dec_le (j + 1) v.next) (λ h. omega (arith, none, before (omega arith))) (λ h. omega (arith, none, behind (omega arith)))
