-- What stands in the slots once the table is closed.
use Rattle.std.proofs.Common.{◌≡◌, ◌≢◌, ℕ, ◌+◌, ◌<◌, List, [], ◌∷◌, ◌++◌, length, get_or, set, take, count_by, slice_index, Bool, true, false, Option, Some, None}
use Rattle.std.proofs.Common.{rules, arith, sym, ap, ◌∙◌, subst, append_assoc, length-append, get_or-set_other, get_or-set_same}
use Rattle.std.specs.Prelude.{slice_set}
use Rattle.std.specs.Mem.Slots.Ownership.{Filled}
use Rattle.std.proofs.lemmas.Grind.{common_steps}
use Rattle.std.proofs.lemmas.List.Sums.{count_by_more_yes, count_by_more_no}
use Rattle.std.proofs.lemmas.Option.{same_Some}
use mathlib.Core.Logic.{dite}
use native.Mathlib.Decide.{ℕ_discrete}
use mathlib.Core.Option.{some, some-injective}
use lib.ListN.{get_elem?}
use Rattle.essa_state.specs.StateWord.{number_of, IsWord}
use Rattle.essa_state.specs.Laws.LayoutLaws.{fields_at-number}
use Rattle.essa_state.specs.PageBody.{Body}
use Rattle.atomic_table.specs.Table.{State, Final, Seen}
use Rattle.atomic_table.specs.Seated.{TableId}
use Rattle.state_words.specs.SeatView.{SeatView, busied, value_at}
use Rattle.state_words.specs.WordsRule.{PageFits, WordsRule}
use Rattle.state_words.specs.Closing.{is_busy_number, HasComeBack}
use Rattle.state_words.proofs.Opening.{read, within}
use Rattle.state_words.proofs.Looking.{word_of}

-- a body at home
pub record Left {D : Type 0} (house_of : D → TableId) (house : TableId) (slots : List (Option D)) (page : ℕ) : Type 0 where
  pub there : D
  pub home : get_elem? slots page ≡ some (Some there)
  pub housed : house_of there ≡ house

module _ {D : Type 0} (body : D → Body) (house_of : D → TableId) (house : TableId) where
  abbrev Rule : State (Option D) SeatView → Type 0
  Rule = WordsRule body house_of house

  pub closed_word : (id : ℕ) (v : SeatView) (words : List ℕ) (slots : List (Option D)) (page raw : ℕ) → Final (Seen Rule id v) words slots → get_elem? words page ≡ some raw → IsWord raw
  closed_word id v words slots page raw (s, (r, at), ew, el, homes) there =
      let inside : page < length s.words = subst (λ q. page < length q) (sym ew) (within words page raw there) in
      let w = word_of body house_of house s r page (r.by page) (r.pages page inside) in
      record { fields = w.word; permitted = w.permitted; written = w.written ∙ ap (λ q. slice_index q page) ew ∙ read words page raw 0 there }

  -- the body of a page whose word isn't busy is there
  pub closed_home : (id : ℕ) (v : SeatView) (words : List ℕ) (slots : List (Option D)) (page raw : ℕ) → Final (Seen Rule id v) words slots
      → get_elem? words page ≡ some raw → is_busy_number raw ≡ false → Left house_of house slots page
  closed_home id v words slots page raw (s, (r, at), ew, el, homes) there free =
      let inside : page < length s.words = subst (λ q. page < length q) (sym ew) (within words page raw there) in
      go (r.by page) (r.pages page inside)
    where
      is : slice_index s.words page ≡ raw
      is = ap (λ q. slice_index q page) ew ∙ read words page raw 0 there

      go : (o : Option ℕ) → PageFits body house_of house s (value_at r.values page) page o → Left house_of house slots page
      go None h = record { there = h.there; home = homes page (Some h.there) h.home; housed = h.housed }
      go (Some j) h =
          let f = ((r.seats j h.view h.there).holds h.hold h.held).1 in
          let found : raw ≡ number_of (busied h.hold.word) = sym is ∙ ap (slice_index s.words) (sym h.of_page) ∙ f.written in
          let bad : true ≡ false = ap (λ q. q.busy) (sym (fields_at-number raw (busied h.hold.word) found)) ∙ free in absurd (cc)

module _ (old new : List Bool) (page len : ℕ) (now : new ≡ slice_set old page false) (count : length old ≡ len) where
  pub still_filled : Filled old page len → Filled new (page + 1) len
  still_filled f k a b = ap (λ q. get_or q k false) now ∙ get_or-set_other old page k false false (λ (e : k ≡ page). omega arith) ∙ f k (omega arith) b

  pub now_empty : page < len → ((k : ℕ) → k < page → get_or old k false ≡ false) → (k : ℕ) → k < page + 1 → get_or new k false ≡ false
  now_empty inside f k a = ap (λ q. get_or q k false) now ∙ dite (ℕ_discrete k page)
      (λ (e : k ≡ page). ap (λ q. get_or (set old page false) q false) e ∙ get_or-set_same old page false false (omega arith))
      (λ (n : k ≢ page). get_or-set_other old page k false false n ∙ f k (omega arith))

module _ {D : Type 0} (house_of : D → TableId) (house : TableId) (before after : List D) (busy page : ℕ) (g : HasComeBack house_of house before after busy page) where
  pub moved_none : (after' : List D) (busy' : ℕ) → after' ≡ after → busy' ≡ busy + 1 → HasComeBack house_of house before after' busy' (page + 1)
  moved_none after' busy' e f = record { got = g.got; items = e ∙ g.items; housed = g.housed; count = let c = g.count in omega arith }

  pub moved_one : (after' : List D) (busy' : ℕ) (b : D) → after' ≡ after ++ b ∷ [] → busy' ≡ busy → house_of b ≡ house → HasComeBack house_of house before after' busy' (page + 1)
  moved_one after' busy' b e f h = record {
    got = g.got ++ b ∷ [];
    items = e ∙ ap (λ q. q ++ b ∷ []) g.items ∙ append_assoc before g.got (b ∷ []);
    housed = search (rules, common_steps, g.housed, h);
    count = let c = g.count in let l = length-append g.got (b ∷ []) in omega arith;
  }

module _ (words : List ℕ) (page raw busy busy' : ℕ) (there : get_elem? words page ≡ some raw) (so_far : count_by is_busy_number (take page words) ≡ busy) where
  pub counted_busy : is_busy_number raw ≡ true → busy' ≡ busy + 1 → count_by is_busy_number (take (page + 1) words) ≡ busy'
  counted_busy is more =
      count_by_more_yes is_busy_number words page 0 (within words page raw there) (ap is_busy_number (read words page raw 0 there) ∙ is)
      ∙ ap (λ n. n + 1) so_far ∙ sym more

  pub counted_free : is_busy_number raw ≡ false → busy' ≡ busy → count_by is_busy_number (take (page + 1) words) ≡ busy'
  counted_free is same =
      count_by_more_no is_busy_number words page 0 (within words page raw there) (ap is_busy_number (read words page raw 0 there) ∙ is)
      ∙ so_far ∙ sym same

pub not_none : {D : Type 0} (slots slots' : List (Option D)) (page : ℕ) (b : D) (x : Option D) → get_elem? slots page ≡ some (Some b) → slots' ≡ slots → get_elem? slots' page ≡ some x → x ≡ Some b
not_none slots slots' page b x there same found = some-injective x (Some b) (sym found ∙ ap (λ q. get_elem? q page) same ∙ there)
