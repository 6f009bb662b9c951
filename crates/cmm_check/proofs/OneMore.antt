-- One more line of a loop over lines.
use Rattle.std.proofs.Common.{◌≡◌, ◌∙◌, ℕ, suc, ◌+◌, ◌-◌, ◌<◌, List, Result, Ok, ap, arith}
use Rattle.cmm_types.specs.declared.plan.GuestPlan.{GuestPlan}
use Rattle.cmm_scenario.specs.Outcome.{◌>>=◌}
use Rattle.cmm_check.specs.Heads.{event_fits}
use Rattle.cmm_check.specs.Journal.{LinesWalked, entry_fits}
use Rattle.cmm_check.specs.Verdict.{line_that, events_fit, entries_fit}

step_ok : {A B E : Type 0} (r : Result A E) (f : A → Result B E) (x : A) → ◌≡◌ {A = Result A E} r (Ok x) → (r >>= f) ≡ f x
step_ok r f x e = ap (λ s. s >>= f) e

-- one less is left to be walked
less : (done count : ℕ) → done < count → count - done ≡ suc (count - (done + 1))
less done count h = omega arith

pub events_more : (number count : ℕ) (text : List ℕ) (next : ℕ × List ℕ) → number < count → line_that (event_fits number) text ≡ Ok next
    → events_fit number (count - number) text ≡ events_fit (number + 1) (count - (number + 1)) next.1
events_more number count text next h e =
    ap (λ n. events_fit number n text) (less number count h) ∙ step_ok (line_that (event_fits number) text) (λ (s : ℕ × List ℕ). events_fit (number + 1) (count - (number + 1)) s.1) next e

pub entries_more : (plan : GuestPlan) (walked : LinesWalked) (done count : ℕ) (text : List ℕ) (next : LinesWalked × List ℕ) → done < count → line_that (entry_fits plan walked) text ≡ Ok next
    → entries_fit plan walked (count - done) text ≡ entries_fit plan next.0 (count - (done + 1)) next.1
entries_more plan walked done count text next h e =
    ap (λ n. entries_fit plan walked n text) (less done count h)
    ∙ step_ok (line_that (entry_fits plan walked) text) (λ (s : LinesWalked × List ℕ). entries_fit plan s.0 (count - (done + 1)) s.1) next e
