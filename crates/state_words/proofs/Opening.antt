-- The rule stands at the start.
use Rattle.std.proofs.Common.{◌≡◌, ℕ, ◌<◌, List, [], ◌∷◌, map, length, replicate, get_or, zero, suc, sym, refl, ap, ◌∙◌, subst, arith, Option, Some, None}
use mathlib.Core.Option.{some, some-injective, some-ne-none}
use lib.ListN.{get_elem?, length-map, length-replicate, get_or-replicate}
use Rattle.std.specs.Prelude.{All}
use Rattle.essa_state.specs.PageValue.{MayBecome, opening_value}
use Rattle.essa_state.specs.Laws.PageValueLaws.{MayBecome-refl}
use Rattle.essa_state.specs.PageBody.{Body, FitsWord, actual}
use Rattle.atomic_table.specs.Table.{opening}
use Rattle.atomic_table.specs.Seated.{TableId}
use Rattle.atomic_table.proofs.Lists.{at_map}
use Rattle.state_words.specs.SeatView.{Guest, SeatView, guest_first}
use Rattle.essa_state.specs.StateWord.{opening_word}
use Rattle.state_words.specs.WordsRule.{ViewFits, WordsRule, FitsStart}

there_is : {A : Type 0} (l : List A) (i : ℕ) → i < length l → (a : A) × (get_elem? l i ≡ some a)
there_is [] i h = absurd (omega arith)
there_is (x ∷ xs) zero h = (x, refl)
there_is (x ∷ xs) (suc i) h = there_is xs i (omega arith)

module _ {D : Type 0} (body : D → Body) (house_of : D → TableId) (house : TableId) where
  only_view : (n seat : ℕ) (words : List ℕ) (v : SeatView) → get_elem? (guest_first n house ∷ []) seat ≡ some v → ViewFits house words (replicate n opening_value) 0 (λ i. None) seat v
  only_view n zero words v e =
      let is : guest_first n house ≡ v = some-injective (guest_first n house) v e in
      subst (λ q. ViewFits house words (replicate n opening_value) 0 (λ i. None) zero q) is record {
        guests = λ vs f. (refl, let same : Guest (replicate n opening_value) ≡ Guest vs = f in cc);
        housed = λ f. refl;
        holds = λ h f. absurd (let bad : None ≡ Some h = f in cc);
        own = λ h vs f g. absurd (let bad : None ≡ Some h = f in cc);
      }
  only_view n (suc seat) words v e = absurd (some-ne-none v (sym e))

  pub starts : (n : ℕ) (bodies : List D) → length bodies ≡ n → ((i : ℕ) (b : D) → get_elem? bodies i ≡ some b → FitsStart body house_of house b)
      → WordsRule body house_of house (opening (replicate n 9) (map Some bodies) (guest_first n house))
  starts n bodies count fit = record {
    guest = 0;
    values = replicate n opening_value;
    by = λ i. None;
    whole = length-map (map Some bodies) (λ (x : Option D). some x) ∙ length-map bodies (λ (x : D). Some x) ∙ count ∙ sym (length-replicate n 9);
    valued = length-replicate n opening_value ∙ sym (length-replicate n 9);
    guest_there = (guest_first n house, refl, refl);
    pages = λ i l.
        let inside : i < n = subst (λ q. i < q) (length-replicate n 9) l in
        let b = there_is bodies i (subst (λ q. i < q) (sym count) inside) in
        let f = fit i b.0 b.1 in
        record {
          word = opening_word;
          there = b.0;
          written = get_or-replicate n i 9 0 inside;
          permitted = refl;
          free = refl;
          home = at_map some (map Some bodies) i (Some b.0) (at_map Some bodies i b.0 b.1);
          fits = f.0;
          housed = f.1;
          may = subst (λ q. MayBecome q (actual opening_word (body b.0))) (sym (get_or-replicate n i opening_value opening_value inside)) (MayBecome-refl opening_value);
        };
    seats = λ seat v e. only_view n seat (replicate n 9) v e;
  }

pub within : {A : Type 0} (l : List A) (i : ℕ) (a : A) → get_elem? l i ≡ some a → i < length l
within [] i a e = absurd (some-ne-none a (sym e))
within (x ∷ xs) zero a e = omega arith
within (x ∷ xs) (suc i) a e = let l = within xs i a e in omega arith

pub read : {A : Type 0} (l : List A) (i : ℕ) (a d : A) → get_elem? l i ≡ some a → get_or l i d ≡ a
read [] i a d e = absurd (some-ne-none a (sym e))
read (x ∷ xs) zero a d e = some-injective x a e
read (x ∷ xs) (suc i) a d e = read xs i a d e

module _ {D : Type 0} (body : D → Body) (house_of : D → TableId) where
  pub same_house : (bodies : List D) (house : TableId) (like : D) → 0 < length bodies → get_or bodies 0 like ≡ like → All (FitsStart body house_of house) bodies → house_of like ≡ house
  same_house bodies house like any first all = ap house_of (sym first) ∙ (all 0 like any).1

  pub starts_at : (n : ℕ) (bodies : List D) (words : List ℕ) (slots : List (Option D)) (house : TableId) (like : D)
      → length bodies ≡ n → words ≡ replicate n 9 → slots ≡ map Some bodies → 0 < length bodies
      → get_or bodies 0 like ≡ like → All (FitsStart body house_of house) bodies → WordsRule body house_of (house_of like) (opening words slots (guest_first n (house_of like)))
  starts_at n bodies words slots house like count filled kept any first all =
      subst (λ q. WordsRule body house_of (house_of like) (opening q slots (guest_first n (house_of like)))) (sym filled)
      (subst (λ q. WordsRule body house_of (house_of like) (opening (replicate n 9) q (guest_first n (house_of like)))) (sym kept)
      (starts body house_of (house_of like) n bodies count (λ i b e.
      let fit = all i b (within bodies i b e) in (
        subst (λ q. FitsWord opening_word (body q)) (read bodies i b b e) fit.0,
        ap house_of (sym (read bodies i b b e)) ∙ fit.1 ∙ sym (same_house bodies house like any first all),
      ))))
