-- What the loops of `read_all` and `write_all` keep.
use Rattle.std.proofs.Common.{◌≡◌, ◌∙◌, ℕ, ◌+◌, ◌^◌, ◌<◌, ◌≤◌, List, [], ◌++◌, length, take, drop, Option, Some, None, refl, sym, ap, append_assoc, subst, arith}
use Rattle.std.specs.Io.KnownBytes.{Consumes}
use Rattle.std.proofs.Math.Seq.{take-append_seam}
use Rattle.std.proofs.lemmas.List.{length-take-le, length-drop, drop-drop, take-append-drop, drop-take, take-take, length-append}
use Rattle.cmm_io.specs.SourceBytes.{given_after, HasTaken, IsLonger}

Consumes-nothing : (known : Option (List ℕ)) → Consumes known known []
Consumes-nothing None = tt
Consumes-nothing (Some rest) = refl

pub Consumes-then : (old middle new : Option (List ℕ)) (a b : List ℕ) → Consumes old middle a → Consumes middle new b → Consumes old new (a ++ b)
Consumes-then None middle new a b first second = tt
Consumes-then (Some x) None new a b first second = absurd first
Consumes-then (Some x) (Some y) None a b first second = absurd second
Consumes-then (Some x) (Some y) (Some z) a b first second = first ∙ ap (λ l. a ++ l) second ∙ sym (append_assoc a b z)

given_nothing : (given : ℕ) → given ≡ given_after given 0
given_nothing given = omega arith

given_then : (given n m : ℕ) → given_after (given_after given n) m ≡ given_after given (n + m)
given_then given n m = omega arith

module _ {S : Type 0} (rest : S → Option (List ℕ)) (given : S → ℕ) where
  pub HasTaken-nothing : (src : S) (bytes : List ℕ) → bytes ≡ [] → HasTaken rest given src src bytes
  HasTaken-nothing src bytes empty =
      subst (HasTaken rest given src src) (sym empty) (record { lost = Consumes-nothing (rest src); counted = given_nothing (given src) })

  pub HasTaken-then : (old middle new : S) (a b : List ℕ) → HasTaken rest given old middle a → HasTaken rest given middle new b → HasTaken rest given old new (a ++ b)
  HasTaken-then old middle new a b first second = record {
    lost = Consumes-then (rest old) (rest middle) (rest new) a b first.lost second.lost;
    counted =
        second.counted ∙ ap (λ n. given_after n (length b)) first.counted ∙ given_then (given old) (length a) (length b)
        ∙ ap (given_after (given old)) (sym (length-append a b));
  }

pub longer : (old new : Option (List ℕ)) (bytes : List ℕ) (limit : ℕ) → Consumes old new bytes → limit < length bytes → IsLonger old limit
longer None new bytes limit lost more = tt
longer (Some rest) None bytes limit lost more = absurd lost
longer (Some rest) (Some left) bytes limit lost more = omega (arith, ap length lost, length-append bytes left)

pub take_then : (piece : List ℕ) (done n : ℕ) → take done piece ++ take n (drop done piece) ≡ take (done + n) piece
take_then piece done n =
    ap (λ l. take done piece ++ l) (sym (drop-take done n piece))
    ∙ ap (λ l. l ++ drop done (take (done + n) piece)) (sym (take-take done (done + n) piece (omega arith)))
    ∙ take-append-drop done (take (done + n) piece)

-- the bytes that were copied into a buffer's front, of which the rest loses as many
pub copied_front : (copy back : List ℕ) (n : ℕ) → length copy ≡ n → take n (copy ++ back) ≡ copy
copied_front copy back n size = ap (λ k. take k (copy ++ back)) (sym size) ∙ take-append_seam copy back

pub taken_from : (items copy back : List ℕ) (taken n : ℕ) → n ≤ length (drop taken items) → copy ≡ take n (drop taken items) → drop taken items ≡ take n (copy ++ back) ++ drop (taken + n) items
taken_from items copy back taken n fits e =
    let size : length copy ≡ n = ap length e ∙ length-take-le n (drop taken items) fits in
    sym (take-append-drop n (drop taken items)) ∙ ap (λ l. l ++ drop n (drop taken items)) (sym e ∙ sym (copied_front copy back n size))
    ∙ ap (λ l. take n (copy ++ back) ++ l) (drop-drop n taken items)

pub given_copied : (items copy back : List ℕ) (taken n given : ℕ) → n ≤ length (drop taken items) → copy ≡ take n (drop taken items) → taken ≡ given → length items < 2 ^ 64
    → taken + n ≡ given_after given (length (take n (copy ++ back)))
given_copied items copy back taken n given fits e same few =
    let size : length copy ≡ n = ap length e ∙ length-take-le n (drop taken items) fits in
    let front : length (take n (copy ++ back)) ≡ n = ap length (copied_front copy back n size) ∙ size in
    omega (arith, length-drop taken items)
