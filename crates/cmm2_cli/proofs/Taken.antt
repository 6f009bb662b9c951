-- Which bytes of an input were taken, of one that is told and of one that isn't.
use Rattle.std.specs.Prelude.{◌≡◌, ◌⊎◌, ℕ, ◌+◌, ◌≤◌, List, [], length, take, Option, Some, None, IfSome, refl}
use Rattle.std.proofs.Common.{◌∙◌, inl, inr, sym, ap, subst, arith}
use Rattle.std.specs.Io.KnownBytes.{Consumes}
use Rattle.std.proofs.Math.Seq.{take-append_seam}
use Rattle.std.proofs.lemmas.List.{length-append, take_all}
use Rattle.cmm_io.specs.SourceBytes.{HasTaken, HasTakenCount, IsRest}
use Rattle.cmm2_cli.specs.declared.refusal.Refusal.TheVariants.{Long}
use Rattle.cmm2_cli.specs.declared.status.Status.{Status}
use Rattle.cmm2_cli.specs.declared.status.Status.TheVariants.{ScenarioRefused, ReadFault, NoMemory}
use Rattle.cmm2_cli.specs.Refusal.{refusal_text}
use Rattle.cmm2_cli.specs.Outcome.{Answers, taken_of, RefusesLong, AnswersWhole, AnswersInput, AnswersSome}

if_some : (known : Option (List ℕ)) (P : List ℕ → Type 0) → ((bytes : List ℕ) → known ≡ Some bytes → P bytes) → IfSome known P
if_some None P each = tt
if_some (Some bytes) P each = each bytes refl

-- the bytes that are lost are a front of those that were left
front : (bytes : List ℕ) (after : Option (List ℕ)) (taken : List ℕ) → Consumes (Some bytes) after taken → (take (length taken) bytes ≡ taken) × (length taken ≤ length bytes)
front bytes None taken lost = absurd lost
front bytes (Some left) taken lost = (
  ap (take (length taken)) lost ∙ take-append_seam taken left,
  omega (arith, ap length lost, length-append taken left),
)

short_whole : (limit : ℕ) (bytes : List ℕ) → length bytes ≤ limit + 1 → bytes ≡ taken_of limit bytes
short_whole limit bytes few = sym (take_all (limit + 1) bytes few)

module _ {S : Type 0} (rest : S → Option (List ℕ)) (given : S → ℕ) (before after : S) {K : Type 0} (faults : K → ℕ) (written : K → Option (List ℕ)) (old new : K)
    (limit : ℕ) (Meant : List ℕ → Status → Type 0) where
  Long_told : (bytes : List ℕ) (result : Status) → rest before ≡ Some bytes → HasTakenCount rest given before after (limit + 1)
      → Answers faults written old new (refusal_text Long) ScenarioRefused result → RefusesLong rest given before after faults written old new limit Meant bytes result
  Long_told bytes result told taken answer =
      let parts = front bytes (rest after) taken.0 (subst (λ known. Consumes known (rest after) taken.0) told taken.2.lost) in
      let same : taken.0 ≡ taken_of limit bytes = sym parts.0 ∙ ap (λ n. take n bytes) taken.1 in
      record {
        long = omega (arith, parts.1, taken.1);
        taken = subst (HasTaken rest given before after) same taken.2;
        answer = answer;
      }

  -- what a longer input is answered, where it is told
  pub long_answer : (result : Status) → HasTakenCount rest given before after (limit + 1) → Answers faults written old new (refusal_text Long) ScenarioRefused result
      → IfSome (rest before) (λ bytes. (result ≡ ReadFault) ⊎ AnswersInput rest given before after faults written old new limit Meant bytes result)
  long_answer result taken answer = if_some (rest before) _ (λ bytes told. inr (inl (Long_told bytes result told taken answer)))

  -- and where it isn't: the bytes that were taken are such an input
  pub long_some : (result : Status) → HasTakenCount rest given before after (limit + 1) → Answers faults written old new (refusal_text Long) ScenarioRefused result
      → AnswersSome rest given before after faults written old new limit Meant result
  long_some result taken answer = inr (
    taken.0,
    inl (record {
      long = omega (arith, taken.1);
      taken = subst (HasTaken rest given before after) (short_whole limit taken.0 (omega (arith, taken.1))) taken.2;
      answer = answer;
    }),
  )

  Whole : (bytes : List ℕ) (result : Status) → length bytes ≤ limit → HasTaken rest given before after bytes → Meant bytes result
      → AnswersWhole rest given before after faults written old new limit Meant bytes result
  Whole bytes result few taken answer = record {
    short = few;
    taken = subst (HasTaken rest given before after) (short_whole limit bytes (omega arith)) taken;
    answer = answer;
  }

  is_told : (bytes read : List ℕ) → rest before ≡ Some bytes → IsRest (rest before) read → read ≡ bytes
  is_told bytes read told whole = subst (λ known. IsRest known read) told whole

  -- what an input within the limit is answered, where it is told, and where it isn't
  pub whole_answer : (read : List ℕ) (result : Status) → IsRest (rest before) read → length read ≤ limit → HasTaken rest given before after read
      → Meant read result
      → IfSome (rest before) (λ bytes. (result ≡ ReadFault) ⊎ AnswersInput rest given before after faults written old new limit Meant bytes result)
  whole_answer read result whole few taken answer =
      if_some (rest before) _ (λ bytes told. inr (inr (inl (subst (λ b. AnswersWhole rest given before after faults written old new limit Meant b result) (is_told bytes read told whole)
      (Whole read result few taken answer)))))

  pub whole_some : (read : List ℕ) (result : Status) → length read ≤ limit → HasTaken rest given before after read → Meant read result
      → AnswersSome rest given before after faults written old new limit Meant result
  whole_some read result few taken answer = inr (read, inr (inl (Whole read result few taken answer)))

pub nothing_lost : (known : Option (List ℕ)) → Consumes known known []
nothing_lost None = tt
nothing_lost (Some bytes) = refl

-- what an input is answered, where memory ran out before anything was read
pub none_answer : {S : Type 0} (rest : S → Option (List ℕ)) (given : S → ℕ) (src : S) {K : Type 0} (faults : K → ℕ) (written : K → Option (List ℕ)) (out : K)
    (limit : ℕ) (Meant : List ℕ → Status → Type 0) (result : Status)
    → result ≡ NoMemory
    → IfSome (rest src) (λ bytes. (result ≡ ReadFault) ⊎ AnswersInput rest given src src faults written out out limit Meant bytes result)
none_answer rest given src faults written out limit Meant result is =
    if_some (rest src) _ (λ bytes told. inr (inr (inr (record {
      taken = ([], omega arith, record { lost = nothing_lost (rest src); counted = omega arith });
      answer = record { status = is; same = refl };
    }))))
