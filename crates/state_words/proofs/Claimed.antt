-- From what a claim's step tells to what the claim answers.
use Rattle.std.proofs.Common.{◌≡◌, ℕ, List, [], ◌∷◌, sym, refl, ap, ◌∙◌, subst, true, false, Option, Some, None}
use Rattle.std.proofs.lemmas.Option.{same_Some}
use Rattle.essa_state.specs.declared.fields.Fields.{Fields}
use Rattle.essa_state.specs.StateWord.{number_of}
use Rattle.essa_state.specs.Layout.{fields_at}
use Rattle.essa_state.specs.Laws.LayoutLaws.{fields_at-number_of}
use Rattle.essa_state.specs.PageValue.{PageValue}
use Rattle.essa_state.specs.PageBody.{Body, FitsWord, actual}
use Rattle.atomic_table.specs.Table.{Me, rest}
use Rattle.atomic_table.specs.Seated.{TableId}
use Rattle.state_words.specs.SeatView.{Role, Guest, Host, Spent, SeatStep, SeatView, is_guest}
use Rattle.state_words.specs.Steps.{claimed_view, looked_view, released_view, IsExpected, HasCounted}
use Rattle.state_words.specs.Plays.{Got, Claims, IsClaimed, IsBusyFound, Looks, LooksAt, Releases}

pub same_fields : (v w : Fields) (n : ℕ) → number_of v ≡ n → number_of w ≡ n → v ≡ w
same_fields v w n e f = sym (fields_at-number_of v) ∙ ap fields_at (e ∙ sym f) ∙ fields_at-number_of w

pub same_word : (v w : Fields) → number_of v ≡ number_of w → v ≡ w
same_word v w e = same_fields v w (number_of w) e refl

module _ {D : Type 0} (body : D → Body) (house_of : D → TableId) where
  abbrev M : Type 0
  M = Me (Option D) SeatView

  pub got_by : (page n : ℕ) (m m' : M) (word : Fields) → number_of word ≡ n → word.busy ≡ false → Claims body house_of page n m m' → Got body house_of page word m m'
  got_by page n m m' word written free (w, permitted, is, won, lost) =
      let same : w ≡ word = same_fields w word n is written in
      subst (λ q. Got body house_of page q m m') same (won (ap (λ q. q.busy) same ∙ free))

  pub busy_by : (page n : ℕ) (m m' : M) (word : Fields) → number_of word ≡ n → word.busy ≡ true → Claims body house_of page n m m' → IsBusyFound page m n m'
  busy_by page n m m' word written busy (w, permitted, is, won, lost) =
      let same : w ≡ word = same_fields w word n is written in
      let found : w.busy ≡ true = ap (λ q. q.busy) same ∙ busy in
      record { word = w; permitted = permitted; written = is; busy = found; me = lost found }

  pub in_hand : (page : ℕ) (word : Fields) (m m' : M) → Got body house_of page word m m' → (x : Option D) × (m'.1 ≡ (page, x) ∷ rest m'.1)
  in_hand page word m m' g = (Some g.there, g.hand ∙ ap (λ q. (page, Some g.there) ∷ q) (sym (ap rest g.hand)))

  hand_or : Option D → List (ℕ × Option D) → Option D
  hand_or d [] = d
  hand_or d (x ∷ xs) = x.1

  first_of_hand : (page : ℕ) (xs ys : List (ℕ × Option D)) (x y : Option D) → (page, x) ∷ xs ≡ (page, y) ∷ ys → x ≡ y
  unfolding hand_or
  first_of_hand page xs ys x y e = ap (hand_or x) e

  pub claimed_by : (page : ℕ) (word : Fields) (m m' m'' : M) (x : Option D) (b : D) → m.1 ≡ [] → word.busy ≡ false → Got body house_of page word m m'
      → m'.1 ≡ (page, x) ∷ rest m'.1 → x ≡ Some b → m'' ≡ (m'.0, (page, None) ∷ rest m'.1) → IsClaimed body house_of page m word b m''
  claimed_by page word m m' m'' x b idle free g held is after =
      let same : g.there ≡ b = same_Some g.there b (first_of_hand page m.1 (rest m'.1) (Some g.there) x (sym g.hand ∙ held) ∙ is) in
      record {
        free = free;
        fits = subst (λ q. FitsWord word (body q)) same g.fits;
        housed = ap house_of (sym same) ∙ g.housed;
        expected = subst (λ q. IsExpected m.0.role page (actual word (body q))) same g.expected;
        view = ap (λ q. q.0) after ∙ g.view ∙ ap (λ q. claimed_view m.0 page word (body q)) same;
        hand = ap (λ q. q.1) after ∙ ap (λ q. (page, None) ∷ q) (ap rest g.hand ∙ idle);
      }

  pub loaded : (page : ℕ) (m m' : M) (v : SeatView) (b : D) → v ≡ m.0 → m.1 ≡ (page, None) ∷ [] → m' ≡ (m.0, (page, Some b) ∷ rest m.1) → m' ≡ (v, (page, Some b) ∷ [])
  loaded page m m' v b same hand after = after ∙ (λ i. (sym same i, (page, Some b) ∷ ap rest hand i))

  pub released_by : (page raw : ℕ) (note : SeatStep) (m m' : M) (v : SeatView) (b : D) (word : Fields) → m ≡ (v, (page, Some b) ∷ []) → number_of word ≡ raw → Releases body page note raw m m'
      → m' ≡ (released_view v page (actual word (body b)) note, [])
  released_by page raw note m m' v b word at written r =
      let same_word : r.word ≡ word = same_fields r.word word raw r.written written in
      let same_there : r.there ≡ b = same_Some r.there b (first_of_hand page [] [] (Some r.there) (Some b) (sym r.hand ∙ ap (λ q. q.1) at)) in
      let view : m'.0 ≡ released_view v page (actual word (body b)) note =
      r.view ∙ ap (λ q. released_view q page (actual r.word (body r.there)) note) (ap (λ q. q.0) at)
      ∙ ap (λ q. released_view v page (actual q (body r.there)) note) same_word ∙ ap (λ q. released_view v page (actual word (body q)) note) same_there in
      λ i. (view i, r.empty i)

pub looked_by : {D : Type 0} (page raw : ℕ) (m m' : Me (Option D) SeatView) (word : Fields) → number_of word ≡ raw → Looks page m raw m' → LooksAt page m word m'
looked_by page raw m m' word written l =
    let same : l.word ≡ word = same_fields l.word word raw l.written written in
    record {
      counted = subst (λ q. HasCounted m.0.role page q) same l.counted;
      me = l.me ∙ ap (λ q. (looked_view m.0 page q, m.1)) same;
    }

-- the values that a guest's role has
pub record HasValues (role : Role) : Type 0 where
  pub values : List PageValue
  pub is : role ≡ Guest values

pub values_of : (role : Role) → is_guest role ≡ true → HasValues role
values_of (Guest values) e = record { values = values; is = refl }
values_of Host e = absurd (let bad : false ≡ true = e in cc)
values_of Spent e = absurd (let bad : false ≡ true = e in cc)
