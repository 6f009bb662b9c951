-- What one step changes of a state that meets the rule, and that the rule stands afterwards.
use Rattle.std.proofs.Common.{◌≡◌, ◌≢◌, ℕ, ◌<◌, ◌⊎◌, List, [], ◌∷◌, length, set, zero, suc, sym, refl, ap, ◌∙◌, subst, ⊎_elim, inl, inr, arith, Option, Some, None, slice_index}
use mathlib.Core.Logic.{dite}
use mathlib.Core.Option.{some, some-injective, some-ne-none}
use mathlib.Core.Option as maybe
use native.Mathlib.Decide.{ℕ_discrete}
use lib.ListN.{get_elem?}
use Rattle.essa_state.specs.PageValue.{PageValue, MayBecome}
use Rattle.essa_state.specs.PageBody.{Body, actual}
use Rattle.atomic_table.specs.Table.{State}
use Rattle.atomic_table.specs.Seated.{TableId}
use Rattle.atomic_table.proofs.Lists.{at_set, set_else}
use Rattle.state_words.specs.SeatView.{Hold, found_value, HoldsPage, Guest, SeatView, value_at, is_spent}
use Rattle.state_words.specs.WordsRule.{IsHome, HoldFits, ViewFits, SeatHolds, PageFits, WordsRule}

abbrev pick : {P : Type 0} → Dec P → Option ℕ → Option ℕ → Option ℕ
pick (yes _) a b = a
pick (no _) a b = b

-- who holds a page now
pub put : (ℕ → Option ℕ) → ℕ → Option ℕ → ℕ → Option ℕ
put f i c j = pick (ℕ_discrete j i) c (f j)

pub put_here : (f : ℕ → Option ℕ) (i : ℕ) (c : Option ℕ) → put f i c i ≡ c
unfolding put
put_here f i c = go (ℕ_discrete i i)
  where
    go : (d : Dec (i ≡ i)) → pick d c (f i) ≡ c
    go (yes _) = refl
    go (no n) = absurd (n refl)

pub put_else : (f : ℕ → Option ℕ) (i : ℕ) (c : Option ℕ) (j : ℕ) → j ≢ i → put f i c j ≡ f j
unfolding put
put_else f i c j other = go (ℕ_discrete j i)
  where
    go : (d : Dec (j ≡ i)) → pick d c (f j) ≡ f j
    go (yes e) = absurd (other e)
    go (no _) = refl

pub set_there : {A : Type 0} (l : List A) (i : ℕ) (a b : A) → get_elem? l i ≡ some a → get_elem? (set l i b) i ≡ some b
set_there [] i a b e = absurd (some-ne-none a (sym e))
set_there (x ∷ xs) zero a b e = refl
set_there (x ∷ xs) (suc i) a b e = set_there xs i a b e

-- what a step of one seat changes: the page's word, the page's place at home, the seat's view, and the guest's value of the page
pub record Change {D : Type 0} (words words' : List ℕ) (homes homes' : List (maybe.Option (Option D))) (values values' : List PageValue) (page : ℕ) : Type 0 where
  pub word_count : length words' ≡ length words
  pub words_same : (i : ℕ) → i ≢ page → slice_index words' i ≡ slice_index words i
  pub home_count : length homes' ≡ length homes
  pub homes_same : (i : ℕ) → i ≢ page → get_elem? homes' i ≡ get_elem? homes i
  pub value_count : length values' ≡ length values
  pub values_same : (i : ℕ) → i ≢ page → value_at values' i ≡ value_at values i

module _ {D : Type 0} (body : D → Body) (house_of : D → TableId) (house : TableId) where
  abbrev St : Type 0
  St = State (Option D) SeatView

  abbrev Rule : St → Type 0
  Rule = WordsRule body house_of house

  home_stays : (words words' : List ℕ) (homes homes' : List (maybe.Option (Option D))) (values values' : List PageValue) (page i : ℕ) → Change words words' homes homes' values values' page → i ≢ page
      → IsHome body house_of house words homes i (value_at values i) → IsHome body house_of house words' homes' i (value_at values' i)
  home_stays words words' homes homes' values values' page i c other h = record {
    word = h.word;
    there = h.there;
    written = c.words_same i other ∙ h.written;
    permitted = h.permitted;
    free = h.free;
    home = c.homes_same i other ∙ h.home;
    fits = h.fits;
    housed = h.housed;
    may = subst (λ q. MayBecome q (actual h.word (body h.there))) (sym (c.values_same i other)) h.may;
  }

  holds_stays : (views : List SeatView) (seat i : ℕ) (v w : SeatView) → get_elem? views seat ≡ some v → (HoldsPage v i → HoldsPage w i) → (j : ℕ) → SeatHolds views j i
      → SeatHolds (set views seat w) j i
  holds_stays views seat i v w at keeps j h = dite (ℕ_discrete j seat)
      (λ e. let is : v ≡ h.view = some-injective v h.view (sym at ∙ ap (get_elem? views) (sym e) ∙ h.there) in
      let had : HoldsPage v i = record { hold = h.hold; held = ap (λ q. q.held) is ∙ h.held; of_page = h.of_page } in
      let has = keeps had in
      record { view = w; hold = has.hold; there = ap (get_elem? (set views seat w)) e ∙ set_there views seat v w at; held = has.held; of_page = has.of_page })
      (λ n. record { view = h.view; hold = h.hold; there = set_else views seat j w n ∙ h.there; held = h.held; of_page = h.of_page })

  page_stays : (s s' : St) (values values' : List PageValue) (page seat i : ℕ) (v w : SeatView) → Change s.words s'.words s.homes s'.homes values values' page → s'.views ≡ set s.views seat w
      → get_elem? s.views seat ≡ some v → (HoldsPage v i → HoldsPage w i) → i ≢ page → (o : Option ℕ)
      → PageFits body house_of house s (value_at values i) i o → PageFits body house_of house s' (value_at values' i) i o
  page_stays s s' values values' page seat i v w c viewed at keeps other None h = home_stays s.words s'.words s.homes s'.homes values values' page i c other h
  page_stays s s' values values' page seat i v w c viewed at keeps other (Some j) h = subst (λ q. SeatHolds q j i) (sym viewed) (holds_stays s.views seat i v w at keeps j h)

  hold_stays : (words words' : List ℕ) (homes homes' : List (maybe.Option (Option D))) (values values' : List PageValue) (page : ℕ) (h : Hold)
      → Change words words' homes homes' values values' page → h.page ≢ page
      → HoldFits words values h → HoldFits words' values' h
  hold_stays words words' homes homes' values values' page h c other f = record {
    within = let e = c.word_count in let l = f.within in omega arith;
    written = c.words_same h.page other ∙ f.written;
    permitted = f.permitted;
    free = f.free;
    fits = f.fits;
    may = subst (λ q. MayBecome q (found_value h)) (sym (c.values_same h.page other)) f.may;
  }

  -- a seat takes or gives back a page, and the rule stands for everything else
  pub page_step : (s s' : St) (r : Rule s) (values' : List PageValue) (page seat : ℕ) (v w : SeatView) (x : Option ℕ)
      → Change s.words s'.words s.homes s'.homes r.values values' page → s'.views ≡ set s.views seat w → get_elem? s.views seat ≡ some v
      → ((j : ℕ) → r.by page ≡ Some j → j ≡ seat)
      → ((i : ℕ) → i ≢ page → HoldsPage v i → HoldsPage w i)
      → ((j : ℕ) (u : SeatView) (vs : List PageValue) → j ≢ seat → get_elem? s.views j ≡ some u → u.role ≡ Guest vs → vs ≡ values')
      → ((g : SeatView) × (get_elem? (set s.views seat w) r.guest ≡ some g) × (g.role ≡ Guest values'))
      → PageFits body house_of house s' (value_at values' page) page x
      → ViewFits house s'.words values' r.guest (put r.by page x) seat w
      → Rule s'
  page_step s s' r values' page seat v w x c viewed at alone keeps guests guest_there here mine = record {
    guest = r.guest;
    values = values';
    by = put r.by page x;
    whole = c.home_count ∙ r.whole ∙ sym c.word_count;
    valued = c.value_count ∙ r.valued ∙ sym c.word_count;
    guest_there = (guest_there.0, ap (λ q. get_elem? q r.guest) viewed ∙ guest_there.1, guest_there.2);
    pages = λ i l. dite (ℕ_discrete i page)
        (λ e. subst (λ k. PageFits body house_of house s' (value_at values' k) k (put r.by page x k)) (sym e)
        (subst (λ o. PageFits body house_of house s' (value_at values' page) page o) (sym (put_here r.by page x)) here))
        (λ n. subst (λ o. PageFits body house_of house s' (value_at values' i) i o) (sym (put_else r.by page x i n))
        (page_stays s s' r.values values' page seat i v w c viewed at (keeps i n) n (r.by i) (r.pages i (let e = c.word_count in omega arith))));
    seats = λ j u there. seats_fit j u (ap (λ q. get_elem? q j) (sym viewed) ∙ there);
  }
    where
      other_seat : (j : ℕ) (u : SeatView) → j ≢ seat → get_elem? s.views j ≡ some u → ViewFits house s'.words values' r.guest (put r.by page x) j u
      other_seat j u n there =
          let f = r.seats j u there in
          let apart : (h : Hold) → u.held ≡ Some h → h.page ≢ page = λ h e p. n (alone j (ap r.by (sym p) ∙ (f.holds h e).0)) in
          record {
            guests = λ vs e. ((f.guests vs e).0, guests j u vs n there e);
            housed = f.housed;
            holds = λ h e. (put_else r.by page x h.page (apart h e) ∙ (f.holds h e).0, hold_stays s.words s'.words s.homes s'.homes r.values values' page h c (apart h e) (f.holds h e).1);
            own = λ h vs e is. c.values_same h.page (apart h e) ∙ f.own h vs e is;
          }

      seats_fit : (j : ℕ) (u : SeatView) → get_elem? (set s.views seat w) j ≡ some u → ViewFits house s'.words values' r.guest (put r.by page x) j u
      seats_fit j u there = ⊎_elim
          (λ (t : (j ≡ seat) × (w ≡ u)). subst (λ (q : ℕ × SeatView). ViewFits house s'.words values' r.guest (put r.by page x) q.0 q.1) (λ i. (sym t.0 i, t.1 i)) mine)
          (λ (t : (j ≢ seat) × (get_elem? s.views j ≡ some u)). other_seat j u t.0 t.1) (at_set s.views seat j w u there)

  -- a step that changes nothing but the seat's record
  pub same_step : (s s' : St) (r : Rule s) (seat : ℕ) (v w : SeatView) → s'.words ≡ s.words → s'.homes ≡ s.homes → s'.views ≡ set s.views seat w → get_elem? s.views seat ≡ some v
      → w.role ≡ v.role → w.held ≡ v.held → w.house ≡ v.house → Rule s'
  same_step s s' r seat v w ew eh viewed at role held housed = record {
    guest = r.guest;
    values = r.values;
    by = r.by;
    whole = ap length eh ∙ r.whole ∙ sym (ap length ew);
    valued = r.valued ∙ sym (ap length ew);
    guest_there = guest_again (dite (ℕ_discrete r.guest seat) (λ e. inl e) (λ n. inr n));
    pages = λ i l. page_again i (r.by i) (r.pages i (subst (λ q. i < length q) ew l));
    seats = λ j u there. seats_fit j u (ap (λ q. get_elem? q j) (sym viewed) ∙ there);
  }
    where
      has_again : (i : ℕ) → HoldsPage v i → HoldsPage w i
      has_again i h = record { hold = h.hold; held = held ∙ h.held; of_page = h.of_page }

      guest_again : (r.guest ≡ seat) ⊎ (r.guest ≢ seat) → (g : SeatView) × (get_elem? s'.views r.guest ≡ some g) × (g.role ≡ Guest r.values)
      guest_again (inl e) = let g = r.guest_there in (
        w,
        ap (λ q. get_elem? q r.guest) viewed ∙ ap (get_elem? (set s.views seat w)) e ∙ set_there s.views seat v w at,
        role ∙ ap (λ q. q.role) (some-injective v g.0 (sym at ∙ ap (get_elem? s.views) (sym e) ∙ g.1)) ∙ g.2,
      )
      guest_again (inr n) = let g = r.guest_there in (g.0, ap (λ q. get_elem? q r.guest) viewed ∙ set_else s.views seat r.guest w n ∙ g.1, g.2)

      page_again : (i : ℕ) (o : Option ℕ) → PageFits body house_of house s (value_at r.values i) i o → PageFits body house_of house s' (value_at r.values i) i o
      page_again i None h = subst (λ ws. IsHome body house_of house ws s'.homes i (value_at r.values i)) (sym ew)
          (subst (λ hs. IsHome body house_of house s.words hs i (value_at r.values i)) (sym eh) h)
      page_again i (Some j) h = subst (λ q. SeatHolds q j i) (sym viewed) (holds_stays s.views seat i v w at (has_again i) j h)

      mine_again : (f : ViewFits house s.words r.values r.guest r.by seat v) → ViewFits house s.words r.values r.guest r.by seat w
      mine_again f = record {
        guests = λ vs e. f.guests vs (sym role ∙ e);
        housed = λ e. housed ∙ f.housed (ap is_spent (sym role) ∙ e);
        holds = λ h e. f.holds h (sym held ∙ e);
        own = λ h vs e is. f.own h vs (sym held ∙ e) (sym role ∙ is);
      }

      seats_fit : (j : ℕ) (u : SeatView) → get_elem? (set s.views seat w) j ≡ some u → ViewFits house s'.words r.values r.guest r.by j u
      seats_fit j u there = subst (λ ws. ViewFits house ws r.values r.guest r.by j u) (sym ew) (⊎_elim
          (λ (t : (j ≡ seat) × (w ≡ u)). subst (λ (q : ℕ × SeatView). ViewFits house s.words r.values r.guest r.by q.0 q.1) (λ i. (sym t.0 i, t.1 i)) (mine_again (r.seats seat v at)))
          (λ (t : (j ≢ seat) × (get_elem? s.views j ≡ some u)). r.seats j u t.1) (at_set s.views seat j w u there))
