-- The ages that are given candidate by candidate are those of the table, and what no mark of a candidate says.
use Rattle.std.specs.Prelude.{◌≡◌, refl, ℕ, zero, suc, ◌+◌, ◌-◌, ◌<◌, ◌≤◌, List, ◌∷◌, length, map, Bool, false, Option, Some, None, IfSome, IfNone, slice_set, replicate}
use Rattle.std.proofs.Common.{arith, ap, sym, subst, ◌∙◌}
use Rattle.std.proofs.lemmas.List.{set-get_or, get_or-map, get_or_default}
use Rattle.essa_state.specs.declared.fields.Fields.{Fields}
use Rattle.host_clock.specs.Victim.{is_candidate}
use Rattle.marks.specs.Marking.{wrapped, is_marked, NoneMarked}
use Rattle.marks.specs.Laws.MarkingLaws.{wrapped-same, wrapped-over}
use Rattle.essa_state.specs.StateWord.{opening_word}
use Rattle.host_plain.specs.Eviction.{aged_words, aged_candidate, word_in}
use Rattle.host_plain.proofs.Kept.{length-aged_words, aged_words-next}
use Rattle.host_plain.specs.Candidates.{NoCandidates}

pub map-replicate : {X Y : Type 0} (f : X → Y) (n : ℕ) (x : X) → map f (replicate n x) ≡ replicate n (f x)
map-replicate f zero x = refl
map-replicate f (suc n) x = ap (λ ys. f x ∷ ys) (map-replicate f n x)

-- words that are no candidates stay as they are
pub aged_words-skip : (words : List Fields) (hand n j : ℕ) → ((k : ℕ) → k < j → is_candidate (word_in (aged_words words hand n) (wrapped (length words) (hand + (n + k)))) ≡ false) →
    aged_words words hand (n + j) ≡ aged_words words hand n
unfolding aged_words
aged_words-skip words hand n zero none = let same : n + 0 ≡ n = omega arith in ap (aged_words words hand) same
aged_words-skip words hand n (suc j) none =
    let next : n + suc j ≡ suc (n + j) = omega arith in
    let before : aged_words words hand (n + j) ≡ aged_words words hand n = aged_words-skip words hand n j (λ k less. none k (omega (arith, less))) in
    let place = wrapped (length words) (hand + (n + j)) in
    let stays : aged_candidate (word_in (aged_words words hand n) place) ≡ word_in (aged_words words hand n) place = idle (word_in (aged_words words hand n) place) (none j (omega arith)) in
    ap (aged_words words hand) next
    ∙ ap (λ (ws : List Fields). slice_set ws place (aged_candidate (word_in ws place))) before
    ∙ ap (slice_set (aged_words words hand n) place) stays
    ∙ set-get_or (aged_words words hand n) place opening_word
  where
    idle : (w : Fields) → is_candidate w ≡ false → aged_candidate w ≡ w
    idle w none = rw none refl

-- the ages past the last word go on at the first
pub aged_words-around : (words : List Fields) (hand n j : ℕ) → hand + n ≡ length words → j ≤ length words →
    aged_words words hand (n + j) ≡ aged_words (aged_words words hand n) 0 j
unfolding aged_words
aged_words-around words hand n zero round most = let same : n + 0 ≡ n = omega arith in ap (aged_words words hand) same
aged_words-around words hand n (suc j) round most =
    let next : n + suc j ≡ suc (n + j) = omega arith in
    let before : aged_words words hand (n + j) ≡ aged_words (aged_words words hand n) 0 j = aged_words-around words hand n j round (omega (arith, most)) in
    let far : hand + (n + j) ≡ length words + j = omega (arith, round) in
    let less : j < length words = omega (arith, most) in
    let first : wrapped (length words) (hand + (n + j)) ≡ j = ap (wrapped (length words)) far ∙ wrapped-over (length words) j in
    let zeroth : 0 + j ≡ j = omega arith in
    let other : wrapped (length (aged_words words hand n)) (0 + j) ≡ j = ap (wrapped (length (aged_words words hand n))) zeroth
    ∙ rw (length-aged_words words hand n) (wrapped-same (length words) j less) in
    ap (aged_words words hand) next
    ∙ ap (λ (place : ℕ). slice_set (aged_words words hand (n + j)) place (aged_candidate (word_in (aged_words words hand (n + j)) place))) (first ∙ sym other)
    ∙ ap (λ (ws : List Fields). slice_set ws (wrapped (length (aged_words words hand n)) (0 + j)) (aged_candidate (word_in ws (wrapped (length (aged_words words hand n)) (0 + j))))) before

-- a mark of a candidate
pub candidate-mark : (words : List Fields) (place : ℕ) → place < length words → is_marked (map is_candidate words) place ≡ is_candidate (word_in words place)
candidate-mark words place below = get_or-map is_candidate words place opening_word false below

-- no mark of a candidate
pub no-candidates : (words : List Fields) (from to : ℕ) → to ≤ length words → NoneMarked (map is_candidate words) from to → NoCandidates words from to
no-candidates words from to within none place low high =
    let below : place < length words = omega (arith, high, within) in
    sym (candidate-mark words place below) ∙ none place low high

-- the ages up to the next candidate
pub aged_words-up_to : (words : List Fields) (from start place : ℕ) → from ≤ start → start ≤ place → place ≤ length words → NoCandidates (aged_words words from (start - from)) start place →
    aged_words words from (place - from) ≡ aged_words words from (start - from)
aged_words-up_to words from start place low high within none =
    let all : place - from ≡ (start - from) + (place - start) = omega (arith, low, high) in
    ap (aged_words words from) all
    ∙ aged_words-skip words from (start - from) (place - start) (λ k less.
    let there : from + ((start - from) + k) ≡ start + k = omega (arith, low) in
    let near : start + k < place = omega (arith, less) in
    let inside : start + k < length words = omega (arith, near, within) in
    rw (there, wrapped-same (length words) (start + k) inside) (none (start + k) (omega arith) near))

-- and that of the candidate
pub aged_words-step : (words : List Fields) (from start place : ℕ) (now : List Fields) (word old : Fields) → from ≤ start → start ≤ place → place < length words →
    now ≡ aged_words words from (start - from) → NoCandidates now start place → old ≡ word_in now place → word ≡ aged_candidate old →
    slice_set now place word ≡ aged_words words from (place + 1 - from)
aged_words-step words from start place now word old low high below grown none found made =
    let skipped : aged_words words from (place - from) ≡ aged_words words from (start - from) =
    aged_words-up_to words from start place low high (omega (arith, below)) (subst (λ (ws : List Fields). NoCandidates ws start place) grown none) in
    let there : from + (place - from) ≡ place = omega (arith, low, high) in
    let at : place ≡ wrapped (length words) (from + (place - from)) = sym (ap (wrapped (length words)) there ∙ wrapped-same (length words) place below) in
    let more : place + 1 - from ≡ (place - from) + 1 = omega (arith, low, high) in
    let inside : place < length now = rw (grown, length-aged_words words from (start - from)) below in
    aged_words-next words from (place - from) place now word old (grown ∙ sym skipped) at below (found ∙ get_or_default now place opening_word old inside) made
    ∙ ap (aged_words words from) (sym more)

pub no-candidates-to : (words : List Fields) (marks : List Bool) (from to : ℕ) (found : Option ℕ) → marks ≡ map is_candidate words → to ≤ length words →
    IfNone found (NoneMarked marks from to) → IfNone found (NoCandidates words from to)
no-candidates-to words marks from to None by within none = no-candidates words from to within (subst (λ (ms : List Bool). NoneMarked ms from to) by none)
no-candidates-to words marks from to (Some place) by within none = tt

pub no-candidates-before : (words : List Fields) (marks : List Bool) (from to : ℕ) (found : Option ℕ) → marks ≡ map is_candidate words → to ≤ length words →
    IfSome found (λ place. (from ≤ place) × (place < to)) → IfSome found (λ place. NoneMarked marks from place) → IfSome found (λ place. NoCandidates words from place)
no-candidates-before words marks from to None by most within none = tt
no-candidates-before words marks from to (Some place) by most within none =
    no-candidates words from place (omega (arith, most, within.1)) (subst (λ (ms : List Bool). NoneMarked ms from place) by none)

pub aged_words-zero : (words : List Fields) (hand n : ℕ) → n ≡ 0 → words ≡ aged_words words hand n
unfolding aged_words
aged_words-zero words hand n none = rw none refl

-- two parts of the ages, where the second begins at the first word
pub aged_words-both : (words now last : List Fields) (hand behind rest before all count : ℕ) → behind ≡ all → rest ≡ before → hand + all ≡ length words → before ≤ length words → all + before ≡ count →
    now ≡ aged_words words hand behind → last ≡ aged_words now 0 rest → last ≡ aged_words words hand count
aged_words-both words now last hand behind rest before all count e f round most whole first second =
    second ∙ ap (aged_words now 0) f ∙ ap (λ (ws : List Fields). aged_words ws 0 before) (first ∙ ap (aged_words words hand) e) ∙ sym (aged_words-around words hand all before round most)
    ∙ ap (aged_words words hand) whole

pub aged_words-count : (words now : List Fields) (hand n : ℕ) → now ≡ aged_words words hand n → length now ≡ length words
aged_words-count words now hand n grown = ap (λ (ws : List Fields). length ws) grown ∙ length-aged_words words hand n
