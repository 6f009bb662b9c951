-- A text without a separator ends where the separator stands.
use Rattle.std.proofs.Common.{◌≡◌, ◌≢◌, ◌∙◌, ℕ, ◌/◌, ◌%◌, ◌<◌, ◌≤◌, List, [], ◌∷◌, ◌++◌, Bool, true, false, cond, eqb, inl, inr, get_or, refl, sym, ap, arith}
use Rattle.std.specs.Prelude.{decimal, zero, suc, ◌==◌, if◌then◌else◌}
use Rattle.std.specs.List.{AllByRecursion}
use Rattle.std.specs.Fmt.{digit_glyph, digits, digits_onto}
use Rattle.std.proofs.lemmas.Bool.{false≢true}
use Rattle.std.proofs.lemmas.Bool.Decides.{eqb_tells, nat_tests}

abbrev pub tail_of : {A : Type 0} → List A → List A
tail_of [] = []
tail_of (x ∷ xs) = xs

pub head_same : {A : Type 0} (x y : A) (xs ys : List A) → x ∷ xs ≡ y ∷ ys → x ≡ y
head_same x y xs ys e = ap (λ l. get_or l 0 x) e

pub tail_same : {A : Type 0} (x y : A) (xs ys : List A) → x ∷ xs ≡ y ∷ ys → xs ≡ ys
tail_same x y xs ys e = ap tail_of e

-- the byte stands nowhere in the text
abbrev pub IsFree : ℕ → List ℕ → Type 0
IsFree byte text = AllByRecursion (λ x. x ≢ byte) text

pub IsFree-append : (byte : ℕ) (a b : List ℕ) → IsFree byte a → IsFree byte b → IsFree byte (a ++ b)
IsFree-append byte [] b fa fb = fb
IsFree-append byte (x ∷ a) b fa fb = (fa.0, IsFree-append byte a b fa.1 fb)

-- two texts up to the first separator, and what comes behind it
pub split_same : (byte : ℕ) (a b u v : List ℕ) → IsFree byte a → IsFree byte b → a ++ (byte ∷ u) ≡ b ++ (byte ∷ v) → (a ≡ b) × (u ≡ v)
split_same byte [] [] u v fa fb e = (refl, tail_same byte byte u v e)
split_same byte [] (y ∷ b) u v fa fb e = absurd (fb.0 (sym (head_same byte y u (b ++ (byte ∷ v)) e)))
split_same byte (x ∷ a) [] u v fa fb e = absurd (fa.0 (head_same x byte (a ++ (byte ∷ u)) v e))
split_same byte (x ∷ a) (y ∷ b) u v fa fb e =
    let rest = split_same byte a b u v fa.1 fb.1 (tail_same x y (a ++ (byte ∷ u)) (b ++ (byte ∷ v)) e) in
    (ap (λ z. z ∷ a) (head_same x y (a ++ (byte ∷ u)) (b ++ (byte ∷ v)) e) ∙ ap (λ t. y ∷ t) rest.0, rest.1)

glyph_low : (d : ℕ) → 48 ≤ digit_glyph false d
glyph_low d = grind (arith, nat_tests)

IsFree-onto : (byte : ℕ) → byte < 48 → (k n : ℕ) (text : List ℕ) → IsFree byte text → IsFree byte (digits_onto k 10 false n text)
IsFree-onto byte low zero n text free = free
IsFree-onto byte low (suc k) n text free =
    elim (n / 10 == 0) as (λ last. IsFree byte (if last then digit_glyph false (n % 10) ∷ text else digits_onto k 10 false (n / 10) (digit_glyph false (n % 10) ∷ text))) [
      | true ↦ more
      | false ↦ IsFree-onto byte low k (n / 10) (digit_glyph false (n % 10) ∷ text) more
    ]
  where
    more : IsFree byte (digit_glyph false (n % 10) ∷ text)
    more = ((λ same. absurd (omega (arith, glyph_low (n % 10), same))), free)

-- no number has a space or a line feed
pub IsFree-decimal : (byte : ℕ) → byte < 48 → (n : ℕ) → IsFree byte (decimal n)
unfolding digits
IsFree-decimal byte low n = IsFree-onto byte low 64 n [] tt

-- the test of a text that is written out
abbrev pub is_free : ℕ → List ℕ → Bool
is_free byte [] = true
is_free byte (x ∷ xs) = cond (eqb x byte) false (is_free byte xs)

pub IsFree-text : (byte : ℕ) (text : List ℕ) → is_free byte text ≡ true → IsFree byte text
IsFree-text byte [] h = tt
IsFree-text byte (x ∷ xs) h =
    elim (eqb_tells x byte) as (λ s. IsFree byte (x ∷ xs)) [
      | inl w ↦ absurd (false≢true (sym (ap (λ t. cond t false (is_free byte xs)) w.0) ∙ h))
      | inr w ↦ (w.1, IsFree-text byte xs (sym (ap (λ t. cond t false (is_free byte xs)) w.0) ∙ h))
    ]
