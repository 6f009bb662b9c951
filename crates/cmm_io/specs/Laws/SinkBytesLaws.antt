-- How texts that are written one behind another come together.
use Rattle.std.specs.Prelude.{ℕ, ◌+◌, ◌≤◌, List, [], ◌++◌, length, take, Option, Some, None, Result, Ok, Err, IsErr, refl}
use Rattle.std.specs.Io.KnownBytes.{Appends}
use Rattle.std.proofs.Common.{◌∙◌, sym, ap, subst, append_assoc, append-nil, length-append, arith}
use Rattle.std.proofs.lemmas.Bool.{false≢true}
use Rattle.std.proofs.Math.Seq.{take-append-add}
use Rattle.std.proofs.lemmas.List.{take-append-le}
use Rattle.cmm_io.specs.Faults.{raised}
use Rattle.cmm_io.specs.SinkBytes.{AppendsFront, Writes}

pub Appends-nothing : (known : Option (List ℕ)) → Appends known known []
Appends-nothing None = tt
Appends-nothing (Some before) = sym (append-nil before)

pub Appends-then : (old middle new : Option (List ℕ)) (a b : List ℕ) → Appends old middle a → Appends middle new b → Appends old new (a ++ b)
Appends-then None middle new a b first second = tt
Appends-then (Some x) None new a b first second = absurd first
Appends-then (Some x) (Some y) None a b first second = absurd second
Appends-then (Some x) (Some y) (Some z) a b first second = second ∙ ap (λ l. l ++ b) first ∙ append_assoc x a b

front_fits : (a b : List ℕ) (n : ℕ) → n ≤ length a → n ≤ length (a ++ b)
front_fits a b n h = omega (arith, length-append a b)

both_fit : (a b : List ℕ) (n : ℕ) → n ≤ length b → length a + n ≤ length (a ++ b)
both_fit a b n h = omega (arith, length-append a b)

-- a front of the first text is one of both
pub AppendsFront-first : (old new : Option (List ℕ)) (a b : List ℕ) → AppendsFront old new a → AppendsFront old new (a ++ b)
AppendsFront-first old new a b w = (w.0, front_fits a b w.0 w.1, subst (Appends old new) (sym (take-append-le w.0 a b w.1)) w.2)

-- the whole first text and a front of the second are a front of both
pub AppendsFront-then : (old middle new : Option (List ℕ)) (a b : List ℕ) → Appends old middle a → AppendsFront middle new b → AppendsFront old new (a ++ b)
AppendsFront-then old middle new a b first w =
    (length a + w.0, both_fit a b w.0 w.1, subst (Appends old new) (sym (take-append-add a b w.0)) (Appends-then old middle new a (take w.0 b) first w.2))

module _ {K : Type 0} (faults : K → ℕ) (written : K → Option (List ℕ)) where
  -- nothing was written yet
  pub Writes-nothing : (out : K) {T E : Type 0} (done : T) → Writes faults written out out [] {T = T} {E = E} (Ok done)
  Writes-nothing out done = record {
    whole = Appends-nothing (written out);
    no_fault = refl;
    front = tt;
    fault = tt;
    never_falls = omega arith;
  }

  -- the first text was written, and of the second what the result says
  pub Writes-then : (old middle new : K) (a b : List ℕ) {S F T E : Type 0} (done : S) (result : Result T E) → Writes faults written old middle a {T = S} {E = F} (Ok done)
      → Writes faults written middle new b result → Writes faults written old new (a ++ b) result
  Writes-then old middle new a b done (Ok x) first second = record {
    whole = Appends-then (written old) (written middle) (written new) a b first.whole second.whole;
    no_fault = second.no_fault ∙ first.no_fault;
    front = tt;
    fault = tt;
    never_falls = omega (arith, first.never_falls, second.never_falls);
  }
  Writes-then old middle new a b done (Err e) first second = record {
    whole = tt;
    no_fault = tt;
    front = AppendsFront-then (written old) (written middle) (written new) a b first.whole second.front;
    fault = second.fault ∙ ap raised first.no_fault;
    never_falls = omega (arith, first.never_falls, second.never_falls);
  }

  -- the first text failed, and nothing came behind it
  pub Writes-stop : (old new : K) (a b : List ℕ) {S F T E : Type 0} (cause : F) (result : Result T E) → IsErr result → Writes faults written old new a {T = S} {E = F} (Err cause)
      → Writes faults written old new (a ++ b) result
  Writes-stop old new a b cause (Ok done) failed first = absurd (false≢true failed)
  Writes-stop old new a b cause (Err error) failed first = record {
    whole = tt;
    no_fault = tt;
    front = AppendsFront-first (written old) (written new) a b first.front;
    fault = first.fault;
    never_falls = first.never_falls;
  }
