-- A claim keeps the rule, whatever the state is in which it comes.
use Rattle.std.proofs.Common.{◌≡◌, ◌≢◌, ℕ, ◌<◌, List, length, set, sym, refl, ap, ◌∙◌, subst, arith, true, false, Option, Some, None, length-set, get_or-set_other, get_or-set_same, slice_index}
use Rattle.std.specs.Prelude.{bit_or}
use Rattle.std.proofs.lemmas.Option.{same_Some}
use mathlib.Core.Option.{none, some, some-injective}
use lib.ListN.{get_elem?}
use lib.Seq.{set-get_or}
use Rattle.essa_state.specs.StateWord.{number_of}
use Rattle.essa_state.specs.PageValue.{PageValue, MayBecome, opening_value}
use Rattle.essa_state.specs.Laws.PageValueLaws.{MayBecome-refl}
use Rattle.essa_state.specs.PageBody.{Body, actual}
use Rattle.atomic_table.specs.Table.{State, Me, Act, keeps, takes, step, stepped, Valid, carried_after, Allows}
use Rattle.atomic_table.specs.Seated.{TableId}
use Rattle.atomic_table.proofs.Lists.{set_else}
use Rattle.state_words.specs.SeatView.{Hold, found_value, Role, Guest, Host, Spent, SeatView, value_at, is_spent, busied}
use Rattle.state_words.specs.WordsRule.{IsHome, HoldFits, ViewFits, SeatHolds, PageFits, WordsRule}
use Rattle.state_words.specs.Steps.{role_with, IsExpected, claimed_view, tried_view}
use Rattle.state_words.specs.Plays.{Got, claims}
use Rattle.state_words.proofs.Busy.{or-free, or-busied}
use Rattle.state_words.proofs.Kept.{put, put_here, Change, set_there, page_step, same_step}

pub guest_values : (vs ws : List PageValue) → Guest vs ≡ Guest ws → vs ≡ ws
guest_values vs ws e = cc

module _ {D : Type 0} (body : D → Body) (house_of : D → TableId) (house : TableId) where
  abbrev St : Type 0
  St = State (Option D) SeatView

  abbrev M : Type 0
  M = Me (Option D) SeatView

  abbrev Rule : St → Type 0
  Rule = WordsRule body house_of house

  -- what a claim in this state owes
  abbrev Claim : (slots id page : ℕ) → M → St → Type 0
  Claim slots id page me s = (w : SeatView) × (a : Act (Option D)) × Valid s.homes me.1 a × Rule (stepped s page (bit_or (slice_index s.words page) 64) id me.1 w a)
      × claims body house_of (step slots page 64 0 none) me (slice_index s.words page) (w, carried_after me.1 a)

  -- somebody holds the page
  claim_busy : (slots id page : ℕ) (me : M) (s : St) (r : Rule s) → get_elem? s.views id ≡ some me.0 → (j : ℕ) → SeatHolds s.views j page → Claim slots id page me s
  claim_busy slots id page me s r at j h =
      let f = ((r.seats j h.view h.there).holds h.hold h.held).1 in
      let word = h.hold.word in
      let is : slice_index s.words page ≡ number_of (busied word) = ap (slice_index s.words) (sym h.of_page) ∙ f.written in
      let same : bit_or (slice_index s.words page) 64 ≡ slice_index s.words page = ap (λ n. bit_or n 64) is ∙ or-busied word ∙ sym is in
      let w : SeatView = tried_view me.0 page (busied word) in
      let s' : St = stepped s page (bit_or (slice_index s.words page) 64) id me.1 w keeps in (
        w,
        keeps,
        tt,
        same_step body house_of house s s' r id me.0 w (ap (set s.words page) same ∙ set-get_or s.words page 0) refl refl at refl refl refl,
        (busied word, f.permitted, sym is, (λ (e : true ≡ false). absurd (let bad : true ≡ false = e in cc)), (λ e. refl)),
      )

  home_change : (s : St) (values values' : List PageValue) (page n : ℕ) (b : D) → length values' ≡ length values → ((i : ℕ) → i ≢ page → value_at values' i ≡ value_at values i)
      → Change s.words (set s.words page n) s.homes (set s.homes page none) values values' page
  home_change s values values' page n b count same = record {
    word_count = length-set s.words page n;
    words_same = λ i o. get_or-set_other s.words page i n 0 o;
    home_count = length-set s.homes page none;
    homes_same = λ i o. set_else s.homes page i none o;
    value_count = count;
    values_same = same;
  }

  -- nobody holds the page; `values'` is what the guest's seat knows of the values afterwards
  claim_free : (slots id page : ℕ) (me : M) (s : St) (r : Rule s) → page < length s.words → get_elem? s.views id ≡ some me.0 → me.0.held ≡ None → is_spent me.0.role ≡ false
      → r.by page ≡ None → (h : IsHome body house_of house s.words s.homes page (value_at r.values page))
      → (values' : List PageValue) → length values' ≡ length r.values → ((i : ℕ) → i ≢ page → value_at values' i ≡ value_at r.values i)
      → IsExpected me.0.role page (actual h.word (body h.there)) → MayBecome (value_at values' page) (actual h.word (body h.there))
      → ((j : ℕ) (u : SeatView) (vs : List PageValue) → j ≢ id → get_elem? s.views j ≡ some u → u.role ≡ Guest vs → vs ≡ values')
      → ((g : SeatView) × (get_elem? (set s.views id (claimed_view me.0 page h.word (body h.there))) r.guest ≡ some g) × (g.role ≡ Guest values'))
      → ((vs : List PageValue) → role_with me.0.role page (actual h.word (body h.there)) ≡ Guest vs → (id ≡ r.guest) × (vs ≡ values') × (value_at values' page ≡ actual h.word (body h.there)))
      → (is_spent (role_with me.0.role page (actual h.word (body h.there))) ≡ false → is_spent me.0.role ≡ false)
      → Claim slots id page me s
  claim_free slots id page me s r inside at idle used nobody h values' count same found may guests guest_there mine spent =
      let word = h.word in
      let value = actual h.word (body h.there) in
      let w : SeatView = claimed_view me.0 page word (body h.there) in
      let a : Act (Option D) = takes page (Some h.there) in
      let n : ℕ = bit_or (slice_index s.words page) 64 in
      let is : n ≡ number_of (busied word) = ap (λ q. bit_or q 64) h.written ∙ or-free word h.free in
      let s' : St = stepped s page n id me.1 w a in
      let hold : Hold = record { page = page; word = word; body = body h.there } in
      let kept : HoldFits s'.words values' hold = record {
        within = let e = length-set s.words page n in omega arith;
        written = get_or-set_same s.words page n 0 inside ∙ is;
        permitted = h.permitted;
        free = h.free;
        fits = h.fits;
        may = may;
      } in
      let fits : ViewFits house s'.words values' r.guest (put r.by page (Some id)) id w = record {
        guests = λ vs e. ((mine vs e).0, (mine vs e).1);
        housed = λ e. (r.seats id me.0 at).housed (spent e);
        holds = λ g e. subst (λ (q : Hold). (put r.by page (Some id) q.page ≡ Some id) × HoldFits s'.words values' q) (same_Some hold g e) (put_here r.by page (Some id), kept);
        own = λ g vs e i. subst (λ (q : Hold). value_at values' q.page ≡ found_value q) (same_Some hold g e) (mine vs i).2;
      } in
      let got : Got body house_of page word me (w, carried_after me.1 a) = record {
        there = h.there;
        fits = h.fits;
        housed = h.housed ∙ sym ((r.seats id me.0 at).housed used);
        expected = found;
        view = refl;
        hand = refl;
      } in (
        w,
        a,
        h.home,
        page_step body house_of house s s' r values' page id me.0 w (Some id) (home_change s r.values values' page n h.there count same) refl at
            (λ j e. absurd (let bad : None ≡ Some j = sym nobody ∙ e in cc))
            (λ i o has. absurd (let bad : None ≡ Some has.hold = sym idle ∙ has.held in cc))
            guests guest_there (record { view = w; hold = hold; there = set_there s.views id me.0 w at; held = refl; of_page = refl }) fits,
        (word, h.permitted, sym h.written, (λ e. got), (λ e. absurd (let bad : false ≡ true = sym h.free ∙ e in cc))),
      )

  guest_claim : (slots id page : ℕ) (me : M) (s : St) (r : Rule s) → page < length s.words → get_elem? s.views id ≡ some me.0 → me.0.held ≡ None → is_spent me.0.role ≡ false
      → r.by page ≡ None → IsHome body house_of house s.words s.homes page (value_at r.values page) → (vs : List PageValue) → me.0.role ≡ Guest vs → Claim slots id page me s
  guest_claim slots id page me s r inside at idle used nobody h vs role =
      let is = (r.seats id me.0 at).guests vs role in
      let value = actual h.word (body h.there) in
      let within : page < length vs = let a = ap length is.1 in let b = r.valued in omega arith in
      let w : SeatView = claimed_view me.0 page h.word (body h.there) in
      let here : value_at (set vs page value) page ≡ value = get_or-set_same vs page value opening_value within in
      let now : role_with me.0.role page value ≡ Guest (set vs page value) = ap (λ q. role_with q page value) role in
      claim_free slots id page me s r inside at idle used nobody h (set vs page value)
      (length-set vs page value ∙ ap length is.1)
      (λ i o. get_or-set_other vs page i value opening_value o ∙ ap (λ q. value_at q i) is.1)
      (subst (λ q. IsExpected q page value) (sym role) (subst (λ q. MayBecome (value_at q page) value) (sym is.1) h.may))
      (subst (λ q. MayBecome q value) (sym here) (MayBecome-refl value))
      (λ j u ws o there e. absurd (o (((r.seats j u there).guests ws e).0 ∙ sym is.0)))
      (w, ap (get_elem? (set s.views id w)) (sym is.0) ∙ set_there s.views id me.0 w at, now)
      (λ ws e. (is.0, guest_values ws (set vs page value) (sym e ∙ now), here))
      (λ e. used)

  host_claim : (slots id page : ℕ) (me : M) (s : St) (r : Rule s) → page < length s.words → get_elem? s.views id ≡ some me.0 → me.0.held ≡ None → is_spent me.0.role ≡ false
      → r.by page ≡ None → IsHome body house_of house s.words s.homes page (value_at r.values page) → me.0.role ≡ Host → Claim slots id page me s
  host_claim slots id page me s r inside at idle used nobody h role =
      let value = actual h.word (body h.there) in
      let g = r.guest_there in
      let now : role_with me.0.role page value ≡ Host = ap (λ q. role_with q page value) role in
      let apart : r.guest ≢ id = λ e.
      let same : me.0 ≡ g.0 = some-injective me.0 g.0 (sym at ∙ ap (get_elem? s.views) (sym e) ∙ g.1) in
      let bad : Host ≡ Guest r.values = sym role ∙ ap (λ q. q.role) same ∙ g.2 in cc in
      claim_free slots id page me s r inside at idle used nobody h r.values refl (λ i o. refl)
      (subst (λ q. IsExpected q page value) (sym role) tt)
      h.may
      (λ j u ws o there e. ((r.seats j u there).guests ws e).1)
      (g.0, set_else s.views id r.guest (claimed_view me.0 page h.word (body h.there)) apart ∙ g.1, g.2)
      (λ ws e. absurd (let bad : Host ≡ Guest ws = sym now ∙ e in cc))
      (λ e. used)

  pub claim_allows : (slots id page : ℕ) (me : M) → page < slots → me.0.held ≡ None → is_spent me.0.role ≡ false
      → Allows Rule slots id me page (λ n. bit_or n 64) (claims body house_of (step slots page 64 0 none) me)
  claim_allows slots id page me l idle used s r deep at small = by_holder (r.by page) refl (r.pages page inside)
    where
      inside : page < length s.words
      inside = let a = r.whole in let b = deep in omega (arith, l)

      by_role : (o : Role) → me.0.role ≡ o → r.by page ≡ None → IsHome body house_of house s.words s.homes page (value_at r.values page) → Claim slots id page me s
      by_role (Guest vs) role nobody h = guest_claim slots id page me s r inside at idle used nobody h vs role
      by_role Host role nobody h = host_claim slots id page me s r inside at idle used nobody h role
      by_role Spent role nobody h = absurd (let bad : true ≡ false = ap is_spent (sym role) ∙ used in cc)

      by_holder : (o : Option ℕ) → r.by page ≡ o → PageFits body house_of house s (value_at r.values page) page o → Claim slots id page me s
      by_holder None e h = by_role me.0.role refl e h
      by_holder (Some j) e h = claim_busy slots id page me s r at j h
