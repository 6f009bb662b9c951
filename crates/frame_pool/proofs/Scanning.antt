-- A seat that goes round the frame words.
use Rattle.std.proofs.Common.{◌≡◌, ℕ, ◌+◌, ◌<◌, ◌≤◌, [], ◌∙◌, eqb, eq-eqb, sym, refl, ap, subst, arith, cond, lt-ltb, le-ltb}
use Rattle.std.specs.Prelude.{true, false, nat_lt}
use mathlib.Core.Logic.{dite}
use native.Mathlib.Decide.{ℕ_discrete, dec_le}
use Rattle.frame_pool.specs.Plays.{PoolSeated, view, recorded, found_out_at, run_with, next_round}
use Rattle.frame_pool.specs.Seats.{IsIdle, IsScanning}
use Rattle.frame_pool.specs.declared.view.PoolView.{PoolView}
use Rattle.frame_pool.specs.declared.view.Named.TheVariants.{Idle}

-- before the first word
pub starts : (n at : ℕ) (m : PoolSeated) → 0 < n → IsIdle m → IsScanning n 0 at m.0 m
starts n at m some idle = record {
  idle = idle ∙ ap (λ (r : ℕ). (view m.0.region Idle r m.0.next m.0.dry m.0.taken m.0.given, [])) (sym none_yet);
  some_left = λ _. (none_yet, refl);
  none_left = λ e. absurd (omega arith);
  place = λ ne. absurd (ne refl);
} where
  none_yet : m.0.run ≡ 0
  none_yet = ap (λ (x : PoolSeated). x.0.run) idle

-- one more word in order
longer : (n k at : ℕ) (v : PoolView) (m : PoolSeated) → IsScanning n k at v m → k < n → run_with m.0 at ≡ k + 1
longer n k at v m scan left = dite (ℕ_discrete k 0)
    (λ e. elim (eqb at m.0.next) as (λ b. cond b (m.0.run + 1) 1 ≡ k + 1) [
      | true ↦ omega (arith, (scan.some_left left).0)
      | false ↦ omega arith
    ])
    (λ ne. ap (λ b. cond b (m.0.run + 1) 1) (eq-eqb at m.0.next (sym (scan.place ne))) ∙ omega (arith, (scan.some_left left).0))

-- a word was found out
pub goes_on : (n k at : ℕ) (v : PoolView) (m m' : PoolSeated) → IsScanning n k at v m → k < n → m' ≡ (found_out_at n at m.0, []) → IsScanning n (k + 1) (next_round n at) v m'
goes_on n k at v m m' scan left is = subst (IsScanning n (k + 1) (next_round n at) v) (sym is) (dite (dec_le (k + 2) n)
    (λ more. subst (λ (x : PoolView). IsScanning n (k + 1) (next_round n at) v (x, [])) (sym (on more)) (record {
      idle = ap (λ (x : PoolView). (view x.region x.named (k + 1) (next_round n at) m.0.dry x.taken x.given, [])) here;
      some_left = λ _. (refl, (scan.some_left left).1);
      none_left = λ e. absurd (omega arith);
      place = λ _. refl;
    }))
    (λ last. subst (λ (x : PoolView). IsScanning n (k + 1) (next_round n at) v (x, [])) (sym (off last)) (record {
      idle = ap (λ (x : PoolView). (view x.region x.named 0 (next_round n at) (m.0.dry + 1) x.taken x.given, [])) here;
      some_left = λ h. absurd (last (omega arith));
      none_left = λ _. (refl, ap (λ (d : ℕ). d + 1) (scan.some_left left).1);
      place = λ _. refl;
    }))) where
      run : run_with m.0 at ≡ k + 1
      run = longer n k at v m scan left

      here : m.0 ≡ view v.region Idle m.0.run m.0.next m.0.dry v.taken v.given
      here = ap (λ (x : PoolSeated). x.0) scan.idle

      on : k + 2 ≤ n → found_out_at n at m.0 ≡ recorded m.0 (k + 1) (next_round n at) m.0.dry
      on more = ap (λ (r : ℕ). cond (nat_lt r n) (recorded m.0 r (next_round n at) m.0.dry) (recorded m.0 0 (next_round n at) (m.0.dry + 1))) run
          ∙ ap (λ b. cond b (recorded m.0 (k + 1) (next_round n at) m.0.dry) (recorded m.0 0 (next_round n at) (m.0.dry + 1))) (lt-ltb (k + 1) n (omega arith))

      off : ¬ (k + 2 ≤ n) → found_out_at n at m.0 ≡ recorded m.0 0 (next_round n at) (m.0.dry + 1)
      off last = ap (λ (r : ℕ). cond (nat_lt r n) (recorded m.0 r (next_round n at) m.0.dry) (recorded m.0 0 (next_round n at) (m.0.dry + 1))) run
          ∙ ap (λ b. cond b (recorded m.0 (k + 1) (next_round n at) m.0.dry) (recorded m.0 0 (next_round n at) (m.0.dry + 1))) (le-ltb (k + 1) n (omega arith))
