-- Bodies that go from slots into a list, the last first.
use Rattle.std.proofs.Common.{◌≡◌, List, [], ◌∷◌, ◌++◌, map, reverse, Option, Some, is_some, true, sym, ap, ◌∙◌, refl, append_assoc, zero, suc, arith}
use Rattle.std.specs.Prelude.{slice_index_or, length, ◌<◌, ℕ}
use Rattle.std.specs.Option.{option_to_list}
use Rattle.std.proofs.lemmas.List.{reverse-append}
use Rattle.std.proofs.Math.Seq.{append_snoc}
use Rattle.state_words.specs.Slots.{bodies_in}

module _ {B : Type 0} where
  bodies_in-append : (xs ys : List (Option B)) → bodies_in (xs ++ ys) ≡ bodies_in xs ++ bodies_in ys
  bodies_in-append [] ys = refl
  bodies_in-append (x ∷ xs) ys =
      ap (λ q. option_to_list x ++ q) (bodies_in-append xs ys) ∙ sym (append_assoc (option_to_list x) (bodies_in xs) (bodies_in ys))

  pub bodies_in-map : (xs : List B) → bodies_in (map Some xs) ≡ xs
  bodies_in-map [] = refl
  bodies_in-map (x ∷ xs) = ap (λ q. x ∷ q) (bodies_in-map xs)

  pub poured : (whole slots left : List (Option B)) (out out' : List B) (slot : Option B) (b : B) → bodies_in whole ≡ bodies_in slots ++ reverse out
      → slots ≡ left ++ slot ∷ [] → slot ≡ Some b → out' ≡ out ++ b ∷ [] → bodies_in whole ≡ bodies_in left ++ reverse out'
  poured whole slots left out out' slot b e is there more =
      e ∙ ap (λ q. bodies_in q ++ reverse out) (is ∙ ap (λ q. left ++ q ∷ []) there) ∙ ap (λ q. q ++ reverse out) (bodies_in-append left (Some b ∷ []))
      ∙ append_snoc (bodies_in left) b (reverse out) ∙ ap (λ q. bodies_in left ++ q) (sym (ap reverse more ∙ reverse-append out (b ∷ [])))

  pub all_some-map : (xs : List B) (k : ℕ) (d : Option B) → k < length (map Some xs) → is_some (slice_index_or (map Some xs) k d) ≡ true
  all_some-map [] k d l = absurd (omega arith)
  all_some-map (x ∷ xs) zero d l = refl
  all_some-map (x ∷ xs) (suc k) d l = all_some-map xs k d (omega arith)
