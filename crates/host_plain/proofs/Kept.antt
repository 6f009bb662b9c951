-- What keeps a host's memory sound.
use Rattle.std.specs.Prelude.{◌≡◌, ◌≢◌, refl, ℕ, zero, suc, ◌+◌, ◌-◌, ◌<◌, ◌≤◌, List, [], ◌∷◌, length, Bool, not, is_ok, true, false, is_some, Ok, if◌then◌else◌, slice_index_or, slice_set}
use Rattle.std.proofs.Common.{arith, ap, sym, subst, inl, inr, ◌∙◌, get_or-set_other, get_or-set_same}
use Rattle.std.proofs.Math.ListN.{length-set, get_or-eq_default}
use Rattle.std.proofs.lemmas.Bool.{cases_eq, cases_lt}
use Rattle.std.proofs.lemmas.Grind.{common_steps}
use Rattle.std.proofs.lemmas.List.{set-get_or, get_or_default}
use Rattle.essa_state.specs.declared.fields.Fields.{Fields}
use Rattle.essa_state.specs.StateWord.{is_resident, is_permitted, is_zero, opening_word}
use Rattle.essa_state.specs.declared.orders.Order.{Order}
use Rattle.essa_state.specs.declared.orders.Order.TheVariants.{Get}
use Rattle.cmm_types.specs.declared.page.TheConstants.{PAGE}
use Rattle.cmm_types.specs.declared.page.Content.TheVariants.{Resident}
use Rattle.cmm_types.specs.declared.page.Move.TheVariants.{Discard, Preserve, Age}
use Rattle.essa_state.specs.Moves.{move_answer, discard_answer, brought}
use Rattle.cmm_io.specs.FailurePlan.{FailurePlan, fails_next}
use Rattle.essa_state.specs.Orders.{after_order}
use Rattle.essa_state.specs.Laws.WordLaws.{ordered-permitted}
use Rattle.cmm_types.specs.Bytes.{with_bytes, zero_page}
use Rattle.cmm_types.specs.Laws.BytesLaws.{length-zero_page}
use Rattle.essa_state.specs.PageBody.{Body, FitsWord, frame_bytes}
use Rattle.host_plain.specs.Eviction.{aged_words, aged_candidate, word_in, words_passed, passed_by, moved_page, reclaimed_page, preserved_at}
use Rattle.marks.specs.Marking.{wrapped}
use Rattle.host_plain.specs.MemoryState.{MemoryState, word_at, body_at, with_word, memory_with_page, with_moved, with_use}
use Rattle.host_plain.specs.MemoryState.{stored_at, IsMemory, IsNumbering, IsPage, body_with_bytes, no_body, frames_of, resident_of}
use Rattle.host_plain.specs.Numbering.{Numbering, number_at, renumbered}
use Rattle.host_plain.specs.Touches.{zeroed_at}
use Rattle.host_plain.proofs.Numbers.{numbers_same, resident_set, renumbered_kept, renumbered-spare}

pub resident-set : (words : List Fields) (place : ℕ) (word d : Fields) → place < length words →
    resident_of (slice_set words place word) + frames_of (slice_index_or words place d) ≡ resident_of words + frames_of word
resident-set [] place word d below = absurd (omega (arith, below))
resident-set (w ∷ words) zero word d below = omega arith
resident-set (w ∷ words) (suc place) word d below = omega (arith, resident-set words place word d (omega (arith, below)))

pages_set : (words : List Fields) (bodies : List Body) (place : ℕ) (word : Fields) (body : Body) → length bodies ≡ length words → place < length words → IsPage word body →
    ((k : ℕ) → k < length words → IsPage (slice_index_or words k opening_word) (slice_index_or bodies k no_body)) →
    (k : ℕ) → k < length words → IsPage (slice_index_or (slice_set words place word) k opening_word) (slice_index_or (slice_set bodies place body) k no_body)
pages_set words bodies place word body same below page pages k inside =
    let other : place < length bodies = omega (arith, below, same) in
    elim (cases_eq k place) [
      | inl e ↦ rw (e, get_or-set_same words place word opening_word below, get_or-set_same bodies place body no_body other) page
      | inr n ↦ rw (get_or-set_other words place k word opening_word n, get_or-set_other bodies place k body no_body n) (pages k inside)
    ]

-- another word and body at a place, with as many free frames and such numbers as that leaves
pub page_with : (m : MemoryState) (place : ℕ) (word : Fields) (body : Body) (free : ℕ) (numbers : Numbering) → IsMemory m → place < length m.words → IsPage word body →
    free + frames_of word ≡ m.free + frames_of (word_at m place) → length numbers.spare ≡ free → IsNumbering m.frames (slice_set m.words place word) numbers →
    IsMemory (record (memory_with_page m place word body) { free = free; numbers = numbers })
page_with m place word body free numbers sound below page balance spare numbered = record {
  same = length-set m.bodies place body ∙ sound.same ∙ sym (length-set m.words place word);
  few = rw (length-set m.words place word) sound.few;
  some = sound.some;
  most = sound.most;
  hand = rw (length-set m.words place word) sound.hand;
  pages = λ k inside. pages_set m.words m.bodies place word body sound.same below page sound.pages k (subst (λ n. k < n) (length-set m.words place word) inside);
  balance = omega (arith, sound.balance, balance, resident-set m.words place word opening_word below);
  spare = spare;
  numbers = numbered;
}

frames-fit : (word : Fields) (body : Body) → FitsWord word body → frames_of word ≡ (if is_some body.frame then 1 else 0)
frames-fit word body fits = ap (λ (b : Bool). if b then 1 else 0) (sym fits)

-- the number of a page's frame is there where its body has one
pub number-there : (m : MemoryState) (place : ℕ) → IsMemory m → place < length m.words → is_some (number_at m.numbers place) ≡ is_some (body_at m place).frame
number-there m place sound below = sound.numbers.resident place ∙ sym (sound.pages place below).fits

-- where the page gets a frame, one is free
one-free : (m : MemoryState) (place : ℕ) (word : Fields) (body : Body) → IsMemory m → place < length m.words → FitsWord word body → frames_of word ≤ m.free + frames_of (word_at m place) →
    (if is_some body.frame then 1 else 0) ≤ length m.numbers.spare + (if is_some (body_at m place).frame then 1 else 0)
one-free m place word body sound below fits room =
    omega (arith, room, frames-fit (word_at m place) (body_at m place) (sound.pages place below).fits, frames-fit word body fits, sound.spare)

-- as many numbers are spare as frames are free
pub moved-spare : (m : MemoryState) (place : ℕ) (word : Fields) (body : Body) → IsMemory m → place < length m.words → FitsWord word body → frames_of word ≤ m.free + frames_of (word_at m place) →
    length (renumbered m.numbers place (is_some (body_at m place).frame) (is_some body.frame)).spare ≡ m.free + frames_of (word_at m place) - frames_of word
moved-spare m place word body sound below fits room =
    let spare = renumbered-spare (is_some (body_at m place).frame) (is_some body.frame) m.numbers place (number-there m place sound below) (one-free m place word body sound below fits room) in
    omega (arith, room, frames-fit (word_at m place) (body_at m place) (sound.pages place below).fits, frames-fit word body fits, sound.spare, spare)

-- a page whose frame was free before or is free now; where it gets one, one is free
pub page_kept : (m : MemoryState) (place : ℕ) (word : Fields) (body : Body) → IsMemory m → place < length m.words → IsPage word body →
    frames_of word ≤ m.free + frames_of (word_at m place) → IsMemory (with_moved m place word body)
page_kept m place word body sound below page room =
    page_with m place word body (m.free + frames_of (word_at m place) - frames_of word) (renumbered m.numbers place (is_some (body_at m place).frame) (is_some body.frame)) sound below page
    (omega (arith, room)) (moved-spare m place word body sound below page.fits room)
    (renumbered_kept (is_some (body_at m place).frame) (is_some body.frame) m.frames m.words m.numbers place word sound.numbers below (sym (sound.pages place below).fits) (sym page.fits)
    (one-free m place word body sound below page.fits room))

-- a page that is resident exactly where it was
pub page_same : (m : MemoryState) (place : ℕ) (word : Fields) (body : Body) → IsMemory m → place < length m.words → IsPage word body →
    is_resident word.content ≡ is_resident (word_at m place).content → IsMemory (memory_with_page m place word body)
page_same m place word body sound below page same =
    page_with m place word body m.free m.numbers sound below page (ap (λ (b : Bool). m.free + (if b then 1 else 0)) same) sound.spare
    (numbers_same m.frames m.words (slice_set m.words place word) m.numbers (length-set m.words place word) (resident_set m.words place word same below) sound.numbers)

-- another word at a place, resident exactly where the old one was
pub word_kept : (m : MemoryState) (place : ℕ) (word : Fields) → IsMemory m → place < length m.words → is_permitted word ≡ true →
    is_resident word.content ≡ is_resident (word_at m place).content → IsMemory (with_word m place word)
word_kept m place word sound below permitted same =
    let page = sound.pages place below in
    let whole : IsPage word (body_at m place) = record { permitted = permitted; fits = page.fits ∙ sym same; whole = page.whole } in
    subst (λ all. IsMemory (record m { words = slice_set m.words place word; bodies = all })) (set-get_or m.bodies place no_body)
    (page_same m place word (body_at m place) sound below whole same)

pub order-resident : (word : Fields) (code : Order) → is_resident (after_order word code).content ≡ is_resident word.content
order-resident word Get = grind arith
order-resident word code = grind arith

-- the word after an order
pub order_kept : (m : MemoryState) (place : ℕ) (code : Order) → IsMemory m → place < length m.words → IsMemory (with_word m place (after_order (word_at m place) code))
order_kept m place code sound below =
    word_kept m place (after_order (word_at m place) code) sound below (ordered-permitted (word_at m place) code (sound.pages place below).permitted) (order-resident (word_at m place) code)

used-permitted : (old : Fields) → is_permitted old ≡ true → is_resident old.content ≡ true → is_permitted (record old { referenced = true }) ≡ true
used-permitted old permitted resident = grind arith

-- the word of a resident page that is used
pub use_kept : (m : MemoryState) (place : ℕ) → IsMemory m → place < length m.words → is_resident (word_at m place).content ≡ true → IsMemory (with_use m place)
use_kept m place sound below resident =
    word_kept m place (record (word_at m place) { referenced = true }) sound below (used-permitted (word_at m place) (sound.pages place below).permitted resident) refl

stored-permitted : (old : Fields) → is_permitted old ≡ true → is_resident old.content ≡ true → is_permitted (record old { changed = true }) ≡ true
stored-permitted old permitted resident = grind arith

written-length : (old new : List ℕ) (off : ℕ) → length old ≡ PAGE → off + length new ≤ PAGE → length (with_bytes old off new) ≡ PAGE
written-length old new off whole within = grind (arith, common_steps)

-- a resident page whose bytes are written
pub store_kept : (m : MemoryState) (place off : ℕ) (bytes : List ℕ) → IsMemory m → place < length m.words → is_resident (word_at m place).content ≡ true → off + length bytes ≤ PAGE →
    IsMemory (stored_at m place off bytes)
store_kept m place off bytes sound below resident within =
    let page = sound.pages place below in
    page_same m place (record (word_at m place) { changed = true }) (body_with_bytes (body_at m place) (with_bytes (frame_bytes (body_at m place)) off bytes)) sound below
    (record {
      permitted = stored-permitted (word_at m place) page.permitted resident;
      fits = sym resident;
      whole = record { block = page.whole.block; bytes = λ some. written-length (frame_bytes (body_at m place)) bytes off (page.whole.bytes (page.fits ∙ resident)) within };
    })
    refl

pub frames_of-resident : (word : Fields) → is_resident word.content ≡ true → frames_of word ≡ 1
frames_of-resident word resident = ap (λ b. if b then 1 else 0) resident

zeroed-page : (old : Fields) → is_permitted old ≡ true → is_zero old.content ≡ true →
    (is_permitted (record old { content = Resident }) ≡ true) × (is_resident old.content ≡ false)
zeroed-page old permitted blank = grind arith

-- a page without contents that gets a frame of the free ones
pub zeroed_kept : (m : MemoryState) (place : ℕ) → IsMemory m → place < length m.words → is_zero (word_at m place).content ≡ true → 0 < m.free → IsMemory (zeroed_at m place)
zeroed_kept m place sound below blank frame =
    let page = sound.pages place below in
    let zeroed = zeroed-page (word_at m place) page.permitted blank in
    page_kept m place (brought (word_at m place)) (body_with_bytes (body_at m place) zero_page) sound below
    (record { permitted = zeroed.0; fits = refl; whole = record { block = page.whole.block; bytes = λ some. length-zero_page } })
    (omega (arith, frame))

-- ages keep the number of words
pub length-aged_words : (words : List Fields) (hand n : ℕ) → length (aged_words words hand n) ≡ length words
unfolding aged_words
length-aged_words words hand zero = refl
length-aged_words words hand (suc n) = length-set (aged_words words hand n) _ _ ∙ length-aged_words words hand n

-- one word more is aged
pub aged_words-next : (words : List Fields) (hand n place : ℕ) (now : List Fields) (word old : Fields) → now ≡ aged_words words hand n →
    place ≡ wrapped (length words) (hand + n) → place < length words → old ≡ slice_index_or now place old → word ≡ aged_candidate old →
    slice_set now place word ≡ aged_words words hand (n + 1)
unfolding aged_words
aged_words-next words hand n place now word old grown there below found made =
    let next : suc n ≡ n + 1 = omega arith in
    let inside : place < length now = rw (grown, length-aged_words words hand n) below in
    let at : old ≡ word_in now place = found ∙ get_or_default now place old opening_word inside in
    let step : aged_words words hand (suc n) ≡ aged_words words hand (n + 1) = ap (aged_words words hand) next in
    ap (λ w. slice_set now place w) (made ∙ ap aged_candidate at)
    ∙ ap (λ p. slice_set now p (aged_candidate (word_in now p))) there
    ∙ ap (λ ws. slice_set ws (wrapped (length words) (hand + n)) (aged_candidate (word_in ws (wrapped (length words) (hand + n))))) grown
    ∙ step

pub aged-permitted : (word : Fields) → is_permitted word ≡ true → is_permitted (aged_candidate word) ≡ true
aged-permitted word permitted = grind arith

pub aged-resident : (word : Fields) → is_resident (aged_candidate word).content ≡ is_resident word.content
aged-resident word = grind arith

pub wrapped-below : (count hand n : ℕ) → hand < count → n < count → wrapped count (hand + n) < count
wrapped-below count hand n first second = grind arith

-- another hand
pub hand_kept : (m : MemoryState) (hand : ℕ) → IsMemory m → hand < length m.words → IsMemory (record m { hand = hand })
hand_kept m hand sound inside = record {
  same = sound.same;
  few = sound.few;
  some = sound.some;
  most = sound.most;
  hand = inside;
  pages = sound.pages;
  balance = sound.balance;
  spare = sound.spare;
  numbers = sound.numbers;
}

aged_one : (words : List Fields) (p place : ℕ) →
    is_resident (word_in (slice_set words p (aged_candidate (word_in words p))) place).content ≡ is_resident (word_in words place).content
aged_one words p place = elim (cases_eq place p) [
  | inl e ↦ elim (cases_lt p (length words)) [
    | inl inside ↦ rw (e, get_or-set_same words p (aged_candidate (word_in words p)) opening_word inside) (aged-resident (word_in words p))
    | inr outside ↦
        let more : length (slice_set words p (aged_candidate (word_in words p))) ≤ p = rw (length-set words p (aged_candidate (word_in words p))) outside in
        rw (e, get_or-eq_default (slice_set words p (aged_candidate (word_in words p))) opening_word more, get_or-eq_default words opening_word outside) refl
  ]
  | inr n ↦ rw (get_or-set_other words p place (aged_candidate (word_in words p)) opening_word n) refl
]

-- ages take no frame
pub aged_words-resident : (words : List Fields) (hand n place : ℕ) →
    is_resident (word_in (aged_words words hand n) place).content ≡ is_resident (word_in words place).content
unfolding aged_words
aged_words-resident words hand zero place = refl
aged_words-resident words hand (suc n) place =
    aged_one (aged_words words hand n) (wrapped (length words) (hand + n)) place ∙ aged_words-resident words hand n place

not-true : (b : Bool) → not b ≡ true → b ≡ false
not-true true h = sym h
not-true false h = refl

-- a page whose frame was got leaves one free
frees_by : (b : Bool) (m : MemoryState) (place : ℕ) (pager : FailurePlan) → is_resident (word_at m place).content ≡ true →
    (moved_page (if b then Discard else Preserve) m place pager).done ≡ true → 0 < (moved_page (if b then Discard else Preserve) m place pager).memory.free
frees_by true m place pager resident done = omega (arith, frames_of-resident (word_at m place) resident)
frees_by false m place pager resident done =
    let good : fails_next pager ≡ false = not-true (fails_next pager) done in
    let left : 0 < (preserved_at m place).free = omega (arith, frames_of-resident (word_at m place) resident) in
    rw good left

pub reclaimed-frees : (m : MemoryState) (place : ℕ) (pager : FailurePlan) → is_resident (word_at m place).content ≡ true →
    (reclaimed_page m place pager).done ≡ true → 0 < (reclaimed_page m place pager).memory.free
unfolding reclaimed_page
reclaimed-frees m place pager resident done = frees_by (is_ok (discard_answer (word_at m place))) m place pager resident done

pub evicted-frees : (m : MemoryState) (place hand : ℕ) (pager : FailurePlan) → is_resident (word_at m place).content ≡ true →
    (reclaimed_page (passed_by m (place, hand)) place pager).done ≡ true → 0 < (reclaimed_page (passed_by m (place, hand)) place pager).memory.free
unfolding passed_by
evicted-frees m place hand pager resident done =
    reclaimed-frees (passed_by m (place, hand)) place pager
    (aged_words-resident m.words m.hand (words_passed m.words m.hand place) place ∙ resident) done

absent-stays : (word : Fields) → is_resident word.content ≡ false → aged_candidate word ≡ word
absent-stays word absent = grind arith

pub other_place : (words : List Fields) (place p : ℕ) → is_resident (word_in words place).content ≡ true → is_resident (word_in words p).content ≡ false → p ≢ place
other_place words place p resident absent e =
    let both : true ≡ false = sym resident ∙ subst (λ q. is_resident (word_in words q).content ≡ false) e absent in
    grind (arith, both)

-- a word that isn't resident is no candidate, and stays
aged_one-other : (words : List Fields) (p place : ℕ) → is_resident (word_in words place).content ≡ false →
    word_in (slice_set words p (aged_candidate (word_in words p))) place ≡ word_in words place
aged_one-other words p place absent = elim (cases_eq place p) [
  | inl e ↦
      let same : aged_candidate (word_in words p) ≡ word_in words p = absent-stays (word_in words p) (subst (λ q. is_resident (word_in words q).content ≡ false) e absent) in
      rw (same, set-get_or words p opening_word) refl
  | inr n ↦ get_or-set_other words p place (aged_candidate (word_in words p)) opening_word n
]

pub aged_words-other : (words : List Fields) (hand n place : ℕ) → is_resident (word_in words place).content ≡ false →
    word_in (aged_words words hand n) place ≡ word_in words place
unfolding aged_words
aged_words-other words hand zero place absent = refl
aged_words-other words hand (suc n) place absent =
    let before : word_in (aged_words words hand n) place ≡ word_in words place = aged_words-other words hand n place absent in
    aged_one-other (aged_words words hand n) (wrapped (length words) (hand + n)) place (ap (λ w. is_resident w.content) before ∙ absent) ∙ before

other_by : (b : Bool) (m : MemoryState) (place p : ℕ) (pager : FailurePlan) → p ≢ place →
    word_at (moved_page (if b then Discard else Preserve) m place pager).memory p ≡ word_at m p
other_by true m place p pager other = get_or-set_other m.words place p _ opening_word other
other_by false m place p pager other = kept (fails_next pager)
  where
    kept : (fails : Bool) → word_at (if fails then m else preserved_at m place) p ≡ word_at m p
    kept true = refl
    kept false = get_or-set_other m.words place p _ opening_word other

pub evicted-other : (m : MemoryState) (place hand p : ℕ) (pager : FailurePlan) → is_resident (word_at m place).content ≡ true →
    is_resident (word_at m p).content ≡ false → word_at (reclaimed_page (passed_by m (place, hand)) place pager).memory p ≡ word_at m p
unfolding passed_by reclaimed_page
evicted-other m place hand p pager resident absent =
    other_by _ (passed_by m (place, hand)) place p pager (other_place m.words place p resident absent)
    ∙ aged_words-other m.words m.hand (words_passed m.words m.hand place) p absent

count_after : (b : Bool) (m : MemoryState) (place : ℕ) (pager : FailurePlan) →
    length (moved_page (if b then Discard else Preserve) m place pager).memory.words ≡ length m.words
count_after true m place pager = length-set m.words place _
count_after false m place pager = kept (fails_next pager)
  where
    kept : (fails : Bool) → length (if fails then m else preserved_at m place).words ≡ length m.words
    kept true = refl
    kept false = length-set m.words place _

pub evicted-count : (m : MemoryState) (place hand : ℕ) (pager : FailurePlan) →
    length (reclaimed_page (passed_by m (place, hand)) place pager).memory.words ≡ length m.words
unfolding passed_by reclaimed_page
evicted-count m place hand pager = count_after _ (passed_by m (place, hand)) place pager ∙ length-aged_words m.words m.hand (words_passed m.words m.hand place)

aged-page : (old word : Fields) → is_permitted old ≡ true → move_answer old Age ≡ Ok word → (is_permitted word ≡ true) × (is_resident word.content ≡ is_resident old.content)
aged-page old word permitted answer = grind arith

-- the word of a page that is aged
pub age_kept : (m : MemoryState) (place : ℕ) (word : Fields) → IsMemory m → place < length m.words → move_answer (word_at m place) Age ≡ Ok word → IsMemory (with_word m place word)
age_kept m place word sound below answer =
    let page = aged-page (word_at m place) word (sound.pages place below).permitted answer in
    word_kept m place word sound below page.0 page.1
