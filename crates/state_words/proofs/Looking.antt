-- A load keeps the rule, and so do a split and a join.
use Rattle.std.proofs.Common.{◌≡◌, ◌≢◌, ℕ, ◌<◌, ◌≤◌, List, [], ◌∷◌, ◌++◌, set, sym, refl, ap, ◌∙◌, subst, ⊎_elim, arith, true, false, Option, Some, None, slice_index}
use mathlib.Core.Logic.{dite}
use mathlib.Core.Option.{none, some, some-injective}
use native.Mathlib.Decide.{ℕ_discrete}
use lib.ListN.{get_elem?}
use lib.Seq.{set-get_or}
use Rattle.essa_state.specs.declared.fields.Fields.{Fields}
use Rattle.essa_state.specs.StateWord.{is_permitted, number_of}
use Rattle.essa_state.specs.PageValue.{PageValue, MayBecome}
use Rattle.essa_state.specs.PageBody.{Body, actual}
use Rattle.atomic_table.specs.Table.{State, Me, keeps, step, stepped, Allows, Splits, Joins}
use Rattle.atomic_table.specs.Seated.{TableId}
use Rattle.atomic_table.proofs.Lists.{at_set, set_else, set_again, at_longer, at_snoc}
use Rattle.state_words.specs.SeatView.{found_value, Role, Guest, Host, Spent, SeatView, value_at, is_spent, busied, host_first, no_view}
use Rattle.state_words.specs.WordsRule.{ViewFits, SeatHolds, PageFits, WordsRule}
use Rattle.state_words.specs.Steps.{HasCounted, looked_view}
use Rattle.state_words.specs.Plays.{looks}
use Rattle.state_words.proofs.Kept.{same_step}

may-count : (v w : PageValue) → MayBecome v w → v.count ≤ w.count
may-count v w m = grind arith

module _ {D : Type 0} (body : D → Body) (house_of : D → TableId) (house : TableId) where
  abbrev St : Type 0
  St = State (Option D) SeatView

  abbrev M : Type 0
  M = Me (Option D) SeatView

  abbrev Rule : St → Type 0
  Rule = WordsRule body house_of house

  -- whoever holds the page, its word is permitted and counts all discards that the guest knows of
  pub record Word (s : St) (r : Rule s) (page : ℕ) : Type 0 where
    pub word : Fields
    pub permitted : is_permitted word ≡ true
    pub written : number_of word ≡ slice_index s.words page
    pub counted : (value_at r.values page).count ≤ word.count

  pub word_of : (s : St) (r : Rule s) (page : ℕ) (o : Option ℕ) → PageFits body house_of house s (value_at r.values page) page o → Word s r page
  word_of s r page None h = record { word = h.word; permitted = h.permitted; written = sym h.written; counted = may-count (value_at r.values page) (actual h.word (body h.there)) h.may }
  word_of s r page (Some j) h =
      let f = ((r.seats j h.view h.there).holds h.hold h.held).1 in
      let counts : (value_at r.values h.hold.page).count ≤ h.hold.word.count = may-count (value_at r.values h.hold.page) (found_value h.hold) f.may in
      record {
        word = busied h.hold.word;
        permitted = f.permitted;
        written = sym f.written ∙ ap (slice_index s.words) h.of_page;
        counted = subst (λ q. (value_at r.values q).count ≤ h.hold.word.count) h.of_page counts;
      }

  pub look_allows : (slots id page : ℕ) (me : M) → page < slots → Allows Rule slots id me page (λ n. n) (looks (step slots page 0 0 none) me)
  look_allows slots id page me l s r deep at small =
      let found = word_of s r page (r.by page) (r.pages page (let a = r.whole in let b = deep in omega (arith, l))) in
      let w : SeatView = looked_view me.0 page found.word in (
        w,
        keeps,
        tt,
        same_step body house_of house s (stepped s page (slice_index s.words page) id me.1 w keeps) r id me.0 w (set-get_or s.words page 0) refl refl at refl refl refl,
        record { word = found.word; permitted = found.permitted; written = found.written; counted = counts me.0.role refl found.word found.counted; me = refl },
      )
    where
      counts : (o : Role) → me.0.role ≡ o → (word : Fields) → (value_at r.values page).count ≤ word.count → HasCounted me.0.role page word
      counts (Guest vs) e word h = subst (λ q. HasCounted q page word) (sym e) (subst (λ q. (value_at q page).count ≤ word.count) (sym ((r.seats id me.0 at).guests vs e).1) h)
      counts Host e word h = subst (λ q. HasCounted q page word) (sym e) tt
      counts Spent e word h = subst (λ q. HasCounted q page word) (sym e) tt

  holds_longer : (views : List SeatView) (x : SeatView) (j page : ℕ) → SeatHolds views j page → SeatHolds (views ++ x ∷ []) j page
  holds_longer views x j page h = record { view = h.view; hold = h.hold; there = at_longer views (x ∷ []) j h.view h.there; held = h.held; of_page = h.of_page }

  host_fits : (words : List ℕ) (values : List PageValue) (guest : ℕ) (by : ℕ → Option ℕ) (seat : ℕ) (v : SeatView) → v.house ≡ house → ViewFits house words values guest by seat (host_first v.house)
  host_fits words values guest by seat v housed = record {
    guests = λ vs e. absurd (let bad : Host ≡ Guest vs = e in cc);
    housed = λ e. housed;
    holds = λ h e. absurd (let bad : None ≡ Some h = e in cc);
    own = λ h vs e i. absurd (let bad : None ≡ Some h = e in cc);
  }

  longer_step : (s : St) (r : Rule s) (v : SeatView) → v.house ≡ house → Rule record { words = s.words; homes = s.homes; views = s.views ++ host_first v.house ∷ [] }
  longer_step s r v housed = record {
    guest = r.guest;
    values = r.values;
    by = r.by;
    whole = r.whole;
    valued = r.valued;
    guest_there = let g = r.guest_there in (g.0, at_longer s.views (host_first v.house ∷ []) r.guest g.0 g.1, g.2);
    pages = λ i l. page_longer i (r.by i) (r.pages i l);
    seats = λ j u there. ⊎_elim (λ (e : get_elem? s.views j ≡ some u). r.seats j u e)
        (λ (e : host_first v.house ≡ u). subst (λ q. ViewFits house s.words r.values r.guest r.by j q) e (host_fits s.words r.values r.guest r.by j v housed))
        (at_snoc s.views (host_first v.house) u j there);
  }
    where
      page_longer : (i : ℕ) (o : Option ℕ) → PageFits body house_of house s (value_at r.values i) i o
          → PageFits body house_of house (record { words = s.words; homes = s.homes; views = s.views ++ host_first v.house ∷ [] }) (value_at r.values i) i o
      page_longer i None h = h
      page_longer i (Some j) h = holds_longer s.views (host_first v.house) j i h

  pub split_allows : (id : ℕ) (v : SeatView) → is_spent v.role ≡ false → Splits Rule id v v (host_first v.house)
  split_allows id v used s r at = subst (λ q. Rule record { words = s.words; homes = s.homes; views = q ++ host_first v.house ∷ [] }) (sym (set_again s.views id v at))
      (longer_step s r v ((r.seats id v at).housed used))

  no_view_fits : (words : List ℕ) (values : List PageValue) (guest : ℕ) (by : ℕ → Option ℕ) (seat : ℕ) → ViewFits house words values guest by seat no_view
  no_view_fits words values guest by seat = record {
    guests = λ vs e. absurd (let bad : Spent ≡ Guest vs = e in cc);
    housed = λ e. absurd (let bad : true ≡ false = e in cc);
    holds = λ h e. absurd (let bad : None ≡ Some h = e in cc);
    own = λ h vs e i. absurd (let bad : None ≡ Some h = e in cc);
  }

  spend_step : (s : St) (r : Rule s) (other : ℕ) (w : SeatView) → get_elem? s.views other ≡ some w → w.held ≡ None → w.role ≡ Host
      → Rule record { words = s.words; homes = s.homes; views = set s.views other no_view }
  spend_step s r other w at idle role = record {
    guest = r.guest;
    values = r.values;
    by = r.by;
    whole = r.whole;
    valued = r.valued;
    guest_there = let g = r.guest_there in (g.0, set_else s.views other r.guest no_view apart ∙ g.1, g.2);
    pages = λ i l. page_spent i (r.by i) (r.pages i l);
    seats = λ j u there. ⊎_elim
        (λ (t : (j ≡ other) × (no_view ≡ u)). subst (λ q. ViewFits house s.words r.values r.guest r.by j q) t.1 (no_view_fits s.words r.values r.guest r.by j))
        (λ (t : (j ≢ other) × (get_elem? s.views j ≡ some u)). r.seats j u t.1) (at_set s.views other j no_view u there);
  }
    where
      apart : r.guest ≢ other
      apart e =
          let g = r.guest_there in
          let same : w ≡ g.0 = some-injective w g.0 (sym at ∙ ap (get_elem? s.views) (sym e) ∙ g.1) in
          let bad : Host ≡ Guest r.values = sym role ∙ ap (λ q. q.role) same ∙ g.2 in cc

      page_spent : (i : ℕ) (o : Option ℕ) → PageFits body house_of house s (value_at r.values i) i o
          → PageFits body house_of house (record { words = s.words; homes = s.homes; views = set s.views other no_view }) (value_at r.values i) i o
      page_spent i None h = h
      page_spent i (Some j) h = dite (ℕ_discrete j other)
          (λ e. absurd (let same : w ≡ h.view = some-injective w h.view (sym at ∙ ap (get_elem? s.views) (sym e) ∙ h.there) in
          let bad : None ≡ Some h.hold = sym idle ∙ ap (λ q. q.held) same ∙ h.held in cc))
          (λ n. record { view = h.view; hold = h.hold; there = set_else s.views other j no_view n ∙ h.there; held = h.held; of_page = h.of_page })

  pub join_allows : (id : ℕ) (v : SeatView) (other : ℕ) (w : SeatView) → w.held ≡ None → w.role ≡ Host → Joins Rule id v other w v no_view
  join_allows id v other w idle role s r at n there =
      let again = set_again s.views id v at in
      subst (λ q. Rule record { words = s.words; homes = s.homes; views = set q other no_view }) (sym again)
      (spend_step s r other w (ap (λ q. get_elem? q other) (sym again) ∙ there) idle role)
