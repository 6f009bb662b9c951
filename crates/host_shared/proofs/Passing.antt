-- A pass over the guests, one after another.
use Rattle.std.specs.Prelude.{◌≡◌, ℕ, ◌+◌, ◌<◌, ◌≤◌, List, length, false, None, slice_set, slice_index_or}
use Rattle.std.proofs.Common.{arith, sym, subst, inl, inr, ◌∙◌, get_or-set_other, get_or-set_same}
use Rattle.std.proofs.lemmas.Bool.{cases_eq}
use Rattle.std.proofs.lemmas.List.{get_or_default, length-set}
use Rattle.state_words.specs.SeatView.{Seated}
use Rattle.host_shared.specs.Looks.{GrewByLooks, pages_but, freed_in, freed_in_all}
use Rattle.host_shared.specs.Reclaiming.{IsReclaim}
use Rattle.host_shared.proofs.Looking.{reclaims_wider}
use Rattle.host_shared.proofs.Seats.{freed_set}

-- one guest's seat looked at each of its pages once
abbrev pub PassedOne : (faults risen : ℕ) → Seated → Seated → Type 0
PassedOne faults risen s t = GrewByLooks (IsReclaim false faults risen) (pages_but None 0 s.words.pages) s.view t.view

-- the pass over the guests below one
pub record PassedBelow (guest : ℕ) (old new : List Seated) (faults risen freed : ℕ) : Type 0 where
  pub count : length new ≡ length old
  pub each : (other : ℕ) (d : Seated) → other < guest → PassedOne faults risen (slice_index_or old other d) (slice_index_or new other d)
  pub rest : (other : ℕ) (d : Seated) → guest ≤ other → slice_index_or new other d ≡ slice_index_or old other d
  pub freed_is : freed + freed_in_all old ≡ freed_in_all new

-- one guest's looks, or one that was looked at before, while the pager's faults rose further
one_wider : (faults risen before after : ℕ) (s t : Seated) → before ≤ faults → risen ≤ after → PassedOne faults risen s t → PassedOne before after s t
one_wider faults risen before after s t low high one = reclaims_wider false faults risen before after (pages_but None 0 s.words.pages) s.view t.view low high one

pub passed_more : (guest : ℕ) (old mid : List Seated) (start faults risen freed more : ℕ) (d s : Seated) → guest < length old → start ≤ faults → faults ≤ risen →
    PassedBelow guest old mid start faults freed → PassedOne faults risen (slice_index_or mid guest d) s → more + freed_in (slice_index_or mid guest d).view ≡ freed_in s.view →
    PassedBelow (guest + 1) old (slice_set mid guest s) start risen (freed + more)
passed_more guest old mid start faults risen freed more d s inside low high passed one by =
    let within : guest < length mid = omega (arith, inside, passed.count) in
    let same : slice_index_or mid guest d ≡ slice_index_or old guest d = passed.rest guest d (omega arith) in
    record {
      count = length-set mid guest s ∙ passed.count;
      each = λ other e below. elim (cases_eq other guest) [
        | inl here ↦ subst (λ (k : ℕ). PassedOne start risen (slice_index_or old k e) (slice_index_or (slice_set mid guest s) k e)) (sym here)
            (subst (λ (q : Seated). PassedOne start risen (slice_index_or old guest e) q) (sym (get_or-set_same mid guest s e within))
            (subst (λ (q : Seated). PassedOne start risen q s) (same ∙ get_or_default old guest d e inside)
            (one_wider faults risen start risen (slice_index_or mid guest d) s low (omega arith) one)))
        | inr there ↦ subst (λ (q : Seated). PassedOne start risen (slice_index_or old other e) q) (sym (get_or-set_other mid guest other s e there))
            (one_wider start faults start risen (slice_index_or old other e) (slice_index_or mid other e) (omega arith) high (passed.each other e (omega (arith, below, there))))
      ];
      rest = λ other e above. get_or-set_other mid guest other s e (omega (arith, above)) ∙ passed.rest other e (omega (arith, above));
      freed_is = let total = freed_set mid guest more d s within by in omega (arith, total, passed.freed_is);
    }
