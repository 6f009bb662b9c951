-- A release keeps the rule.
use Rattle.std.proofs.Common.{◌≡◌, ◌≢◌, ℕ, ◌<◌, List, [], ◌∷◌, length, set, sym, refl, ap, ◌∙◌, subst, arith, true, false, Option, Some, None, length-set, get_or-set_other, get_or-set_same}
use Rattle.std.proofs.lemmas.Option.{same_Some}
use mathlib.Core.Option.{none, some, some-injective}
use lib.ListN.{get_elem?}
use Rattle.cmm_types.specs.declared.page.Move.{Move}
use Rattle.essa_state.specs.declared.fields.Fields.{Fields}
use Rattle.essa_state.specs.StateWord.{is_permitted, number_of}
use Rattle.essa_state.specs.PageValue.{PageValue, MayBecome, opening_value}
use Rattle.essa_state.specs.Laws.PageValueLaws.{MayBecome-refl, MayBecome-trans}
use Rattle.essa_state.specs.PageBody.{Body, FitsWord, actual}
use Rattle.atomic_table.specs.Table.{State, Me, Act, gives, step, stepped, Valid, carried_after, Allows}
use Rattle.atomic_table.specs.Seated.{TableId}
use Rattle.atomic_table.proofs.Lists.{set_else, set_here}
use Rattle.state_words.specs.SeatView.{Hold, found_value, Guest, Host, SeatStep, Left, Moved, SeatView, value_at, is_spent}
use Rattle.state_words.specs.WordsRule.{IsHome, ViewFits, WordsRule}
use Rattle.state_words.specs.Accesses.{Leads}
use Rattle.state_words.specs.Laws.AccessLaws.{Leads-busy, Leads-fits}
use Rattle.state_words.specs.Steps.{role_with, released_view, IsAllowedOn, IsMovedBody, word_after, moved_value}
use Rattle.state_words.specs.Plays.{Releases, leaves, moves}
use Rattle.state_words.proofs.Kept.{put, Change, set_there, page_step}
use Rattle.state_words.proofs.Claiming.{guest_values}
use Rattle.state_words.proofs.Moving.{after-free, after-may}

module _ {D : Type 0} (body : D → Body) (house_of : D → TableId) (house : TableId) where
  abbrev St : Type 0
  St = State (Option D) SeatView

  abbrev M : Type 0
  M = Me (Option D) SeatView

  abbrev Rule : St → Type 0
  Rule = WordsRule body house_of house

  -- what the release of a page in this state owes, with this body in hand
  abbrev Release : (id page raw : ℕ) (v : SeatView) (there : D) (note : SeatStep) → St → Type 0
  Release id page raw v there note s = (w : SeatView) × (a : Act (Option D)) × Valid s.homes ((page, Some there) ∷ []) a × Rule (stepped s page raw id ((page, Some there) ∷ []) w a)
      × Releases body page note raw (v, (page, Some there) ∷ []) (w, carried_after ((page, Some there) ∷ []) a)

  release_any : (id page : ℕ) (v : SeatView) (h : Hold) (word : Fields) (b : D) (note : SeatStep) (s : St) (r : Rule s)
      → get_elem? s.views id ≡ some v → v.held ≡ Some h → h.page ≡ page → is_spent v.role ≡ false
      → is_permitted word ≡ true → word.busy ≡ false → FitsWord word (body b) → house_of b ≡ v.house
      → (values' : List PageValue) → length values' ≡ length r.values → ((i : ℕ) → i ≢ page → value_at values' i ≡ value_at r.values i)
      → MayBecome (value_at values' page) (actual word (body b))
      → ((j : ℕ) (u : SeatView) (vs : List PageValue) → j ≢ id → get_elem? s.views j ≡ some u → u.role ≡ Guest vs → vs ≡ values')
      → ((g : SeatView) × (get_elem? (set s.views id (released_view v page (actual word (body b)) note)) r.guest ≡ some g) × (g.role ≡ Guest values'))
      → ((vs : List PageValue) → role_with v.role page (actual word (body b)) ≡ Guest vs → (id ≡ r.guest) × (vs ≡ values'))
      → Release id page (number_of word) v b note s
  release_any id page v h word b note s r at held of_page used permitted free fits housed values' count same may guests guest_there mine =
      let value = actual word (body b) in
      let w : SeatView = released_view v page value note in
      let s' : St = stepped s page (number_of word) id ((page, Some b) ∷ []) w gives in
      let f = r.seats id v at in
      let hf = (f.holds h held).1 in
      let inside : page < length s.words = subst (λ q. q < length s.words) of_page hf.within in
      let by_me : r.by page ≡ Some id = ap r.by (sym of_page) ∙ (f.holds h held).0 in
      let change : Change s.words s'.words s.homes s'.homes r.values values' page = record {
        word_count = length-set s.words page (number_of word);
        words_same = λ i o. get_or-set_other s.words page i (number_of word) 0 o;
        home_count = length-set s.homes page (some (Some b));
        homes_same = λ i o. set_else s.homes page i (some (Some b)) o;
        value_count = count;
        values_same = same;
      } in
      let home : IsHome body house_of house s'.words s'.homes page (value_at values' page) = record {
        word = word;
        there = b;
        written = get_or-set_same s.words page (number_of word) 0 inside;
        permitted = permitted;
        free = free;
        home = set_here s.homes page (some (Some b)) (let e = r.whole in omega arith);
        fits = fits;
        housed = housed ∙ f.housed used;
        may = may;
      } in
      let fit : ViewFits house s'.words values' r.guest (put r.by page None) id w = record {
        guests = mine;
        housed = λ e. f.housed used;
        holds = λ g e. absurd (let bad : None ≡ Some g = e in cc);
        own = λ g vs e i. absurd (let bad : None ≡ Some g = e in cc);
      } in (
        w,
        gives,
        tt,
        page_step body house_of house s s' r values' page id v w None change refl at
            (λ j e. let both : Some j ≡ Some id = sym e ∙ by_me in cc)
            (λ i o has. absurd (o (sym has.of_page ∙ ap (λ q. q.page) (same_Some has.hold h (sym has.held ∙ held)) ∙ of_page)))
            guests guest_there home fit,
        record { word = word; there = b; written = refl; hand = refl; view = refl; empty = refl },
      )

  guest_release : (id page : ℕ) (v : SeatView) (h : Hold) (word : Fields) (b : D) (note : SeatStep) (vs : List PageValue) (s : St) (r : Rule s)
      → get_elem? s.views id ≡ some v → v.held ≡ Some h → h.page ≡ page → v.role ≡ Guest vs
      → is_permitted word ≡ true → Leads h.word h.body word (body b) → house_of b ≡ v.house → Release id page (number_of word) v b note s
  guest_release id page v h word b note vs s r at held of_page role permitted leads housed =
      let is = (r.seats id v at).guests vs role in
      let hf = ((r.seats id v at).holds h held).1 in
      let free = Leads-busy h.word h.body word (body b) leads ∙ hf.free in
      let fits = Leads-fits h.word h.body word (body b) hf.fits leads in
      let value = actual word (body b) in
      let within : page < length vs = let a = ap length is.1 in let b = r.valued in let l = subst (λ q. q < length s.words) of_page hf.within in omega arith in
      let here : value_at (set vs page value) page ≡ value = get_or-set_same vs page value opening_value within in
      let now : role_with v.role page value ≡ Guest (set vs page value) = ap (λ q. role_with q page value) role in
      release_any id page v h word b note s r at held of_page (ap is_spent role) permitted free fits housed (set vs page value)
      (length-set vs page value ∙ ap length is.1)
      (λ i o. get_or-set_other vs page i value opening_value o ∙ ap (λ q. value_at q i) is.1)
      (subst (λ q. MayBecome q value) (sym here) (MayBecome-refl value))
      (λ j u ws o there e. absurd (o (((r.seats j u there).guests ws e).0 ∙ sym is.0)))
      (released_view v page value note, ap (get_elem? (set s.views id (released_view v page value note))) (sym is.0) ∙ set_there s.views id v (released_view v page value note) at, now)
      (λ ws e. (is.0, guest_values ws (set vs page value) (sym e ∙ now)))

  host_release : (id page : ℕ) (v : SeatView) (h : Hold) (word : Fields) (b : D) (note : SeatStep) (s : St) (r : Rule s)
      → get_elem? s.views id ≡ some v → v.held ≡ Some h → h.page ≡ page → v.role ≡ Host
      → is_permitted word ≡ true → (action : Option Move) → IsAllowedOn action h.word → word ≡ word_after action h.word → IsMovedBody action h (body b) → house_of b ≡ v.house
      → Release id page (number_of word) v b note s
  host_release id page v h word b note s r at held of_page role permitted action allowed is moved housed =
      let hf = ((r.seats id v at).holds h held).1 in
      let value = actual word (body b) in
      let free = ap (λ q. q.busy) is ∙ after-free h.word action allowed ∙ hf.free in
      let fits = subst (λ q. FitsWord q (body b)) (sym is) moved.fits in
      let worth : value ≡ moved_value action h = ap (λ q. actual q (body b)) is ∙ moved.bytes in
      let may : MayBecome (found_value h) value = subst (λ q. MayBecome (found_value h) q) (sym worth) (after-may h.word h.body action allowed) in
      let g = r.guest_there in
      let now : role_with v.role page value ≡ Host = ap (λ q. role_with q page value) role in
      let apart : r.guest ≢ id = λ e.
      let same : v ≡ g.0 = some-injective v g.0 (sym at ∙ ap (get_elem? s.views) (sym e) ∙ g.1) in
      let bad : Host ≡ Guest r.values = sym role ∙ ap (λ q. q.role) same ∙ g.2 in cc in
      release_any id page v h word b note s r at held of_page (ap is_spent role) permitted free fits housed r.values refl (λ i o. refl)
      (MayBecome-trans (value_at r.values page) (found_value h) value (subst (λ q. MayBecome (value_at r.values q) (found_value h)) of_page hf.may) may)
      (λ j u ws o there e. ((r.seats j u there).guests ws e).1)
      (g.0, set_else s.views id r.guest (released_view v page value note) apart ∙ g.1, g.2)
      (λ ws e. absurd (let bad : Host ≡ Guest ws = sym now ∙ e in cc))

  pub guest_release_allows : (slots id page raw : ℕ) (me : M) (h : Hold) (vs : List PageValue) (word : Fields) (b : D)
      → me.0.held ≡ Some h → h.page ≡ page → me.0.role ≡ Guest vs → me.1 ≡ (page, Some b) ∷ []
      → number_of word ≡ raw → is_permitted word ≡ true → Leads h.word h.body word (body b) → house_of b ≡ me.0.house
      → Allows Rule slots id me page (λ _. raw) (λ _. leaves body (step slots page raw 0 none) me raw)
  guest_release_allows slots id page raw me h vs word b held of_page role hand written permitted leads housed =
      subst (λ n. Allows Rule slots id me page (λ _. n) (λ _. leaves body (step slots page n 0 none) me n)) written
      (subst (λ c. Allows Rule slots id (me.0, c) page (λ _. number_of word) (λ _. leaves body (step slots page (number_of word) 0 none) (me.0, c) (number_of word))) (sym hand)
      (λ s r deep at small. guest_release id page me.0 h word b (Left page) vs s r at held of_page role permitted leads housed))

  pub host_release_allows : (slots id page raw : ℕ) (me : M) (h : Hold) (action : Option Move) (word : Fields) (b : D)
      → me.0.held ≡ Some h → h.page ≡ page → me.0.role ≡ Host → me.1 ≡ (page, Some b) ∷ []
      → number_of word ≡ raw → is_permitted word ≡ true → IsAllowedOn action h.word → word ≡ word_after action h.word → IsMovedBody action h (body b) → house_of b ≡ me.0.house
      → Allows Rule slots id me page (λ _. raw) (λ _. moves body action (step slots page raw 0 none) me raw)
  host_release_allows slots id page raw me h action word b held of_page role hand written permitted allowed is moved housed =
      subst (λ n. Allows Rule slots id me page (λ _. n) (λ _. moves body action (step slots page n 0 none) me n)) written
      (subst (λ c. Allows Rule slots id (me.0, c) page (λ _. number_of word) (λ _. moves body action (step slots page (number_of word) 0 none) (me.0, c) (number_of word))) (sym hand)
      (λ s r deep at small. host_release id page me.0 h word b (Moved page action) s r at held of_page role permitted action allowed is moved housed))
