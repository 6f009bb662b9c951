-- The discards of a guest's pages are the counts in its words.
use Rattle.std.specs.Prelude.{◌≡◌, ◌<◌, ◌≤◌, ℕ, zero, suc, ◌+◌, List, length, take, drop, sum_by, slice_index_or}
use Rattle.std.proofs.Common.{refl, sym, ap, arith, inl, inr, ◌∙◌, get_or-drop, length-drop, take_all}
use Rattle.std.proofs.lemmas.Bool.{cases_lt}
use Rattle.std.proofs.lemmas.List.{get_or_past}
use Rattle.std.proofs.lemmas.List.Sums.{sum_by_more}
use Rattle.essa_state.specs.declared.fields.Fields.{Fields}
use Rattle.essa_state.specs.StateWord.{opening_word}
use Rattle.host_plain.specs.HostState.{first_place, pages_of}
use Rattle.cmm_types.specs.Sums.{sum_below}
use Rattle.cmm_world.specs.WorldState.{WorldState, guest_at}
use Rattle.cmm_world.specs.WorldView.{discards_of}
use Rattle.cmm_world.specs.WorldFit.{WorldFit}

taken_past : {X : Type 0} (xs : List X) (n : ℕ) → length xs ≤ n → take (n + 1) xs ≡ take n xs
taken_past xs n past = take_all (n + 1) xs (omega (arith, past)) ∙ sym (take_all n xs past)

-- the words from a place on, and those past the end counted as fresh ones
sum_below-words : (words : List Fields) (start count : ℕ)
    → sum_below (λ page. (slice_index_or words (start + page) opening_word).count) count ≡ sum_by (λ word. word.count) (take count (drop start words))
sum_below-words words start zero = refl
sum_below-words words start (suc count) =
    let before = sum_below-words words start count in
    let next : suc count ≡ count + 1 = omega arith in
    let taken : sum_by (λ word. word.count) (take (suc count) (drop start words)) ≡ sum_by (λ word. word.count) (take (count + 1) (drop start words)) =
    ap (λ n. sum_by (λ word. word.count) (take n (drop start words))) next in
    elim (cases_lt count (length (drop start words))) [
      | inl below ↦
          let more = sum_by_more (λ word. word.count) (drop start words) count opening_word below in
          let at : slice_index_or (drop start words) count opening_word ≡ slice_index_or words (start + count) opening_word = get_or-drop start words count opening_word in
          omega (arith, before, more, taken, ap (λ word. word.count) at)
      | inr past ↦
          let size = length-drop start words in
          let at : slice_index_or words (start + count) opening_word ≡ opening_word = get_or_past words (start + count) opening_word (omega (arith, past, size)) in
          let same = ap (sum_by (λ (word : Fields). word.count)) (taken_past (drop start words) count past) in
          omega (arith, before, taken, same, ap (λ word. word.count) at)
    ]

-- a guest's handled faults are at most the discards of its pages
pub faults_few : (w : WorldState) (guest : ℕ) → WorldFit w → guest < length w.guests → (guest_at w guest).parts.faults ≤ discards_of w guest
faults_few w guest fit below = omega (arith, (fit guest below).faults, sum_below-words w.host.memory.words (first_place w.host guest) (pages_of w.host guest))
