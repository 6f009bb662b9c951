-- The host's own steps keep what they are to keep.
use Rattle.std.specs.Prelude.{◌≡◌, ◌≢◌, refl, ℕ, zero, suc, ◌+◌, ◌-◌, ◌<◌, ◌≤◌, List, length, Bool, true, false}
use Rattle.std.specs.Prelude.{is_ok, is_some, Option, Some, None, Result, Ok, Err, position, nat_lt, if◌then◌else◌, IfSome}
use Rattle.std.specs.Option.{option_or}
use Rattle.std.proofs.Common.{arith, ap, sym, subst, inl, inr, ◌∙◌, get_or-set_other, get_or-set_same}
use Rattle.std.proofs.Math.ListN.{length-set}
use Rattle.std.proofs.lemmas.Bool.{cases_eq}
use Rattle.std.proofs.lemmas.Grind.{common_steps}
use Rattle.std.proofs.lemmas.List.Quantifiers.{position-Some}
use Rattle.cmm_types.specs.declared.page.Move.{Move}
use Rattle.cmm_types.specs.declared.page.Move.TheVariants.{Discard, Preserve, Bring, Age}
use Rattle.cmm_types.specs.declared.page.Refused.{Refused as Reason}
use Rattle.cmm_io.specs.FailurePlan.{FailurePlan, fails_next}
use Rattle.essa_state.specs.declared.fields.Fields.{Fields}
use Rattle.essa_state.specs.StateWord.{is_resident, is_permitted, is_preserved, opening_word}
use Rattle.essa_state.specs.Moves.{move_answer, discard_answer, preserve_answer, discarded, preserved, brought, aged}
use Rattle.essa_state.specs.Laws.WordLaws.{moved_permitted}
use Rattle.essa_state.specs.PageBody.{Body, Makes, moved_body, actual}
use Rattle.essa_state.specs.PageValue.{MayBecome}
use Rattle.essa_state.specs.Laws.PageValueLaws.{move-may_become, move-fits, MayBecome-refl, MayBecome-trans}
use Rattle.host_clock.specs.Victim.{is_candidate, is_takeable, from_hand, victim_after, victim_of}
use Rattle.marks.specs.Marking.{wrapped}
use Rattle.host_clock.proofs.Cycle.{place_candidate}
use Rattle.host_plain.specs.declared.moves.ApplyError.TheVariants.{Paging}
use Rattle.host_plain.specs.MemoryState.{MemoryState, IsMemory, IsPage, IsWholeBody, no_body, word_at, body_at, memory_value_at, with_word, memory_with_page, with_moved, frames_of}
use Rattle.host_plain.specs.Eviction.{Paged, aged_words, aged_candidate, word_in, words_passed, passed_by, discarded_at}
use Rattle.host_plain.specs.Eviction.{preserved_at, brought_at, aged_at, moved_page, reclaimed_page, evicted_at, evicted, frame_freed}
use Rattle.host_plain.specs.HostMoves.{Applied, Reclaimed, move_answered, brought_after, allowed_move, applied_as, applied, reclaim_counted, more_at, one_more, reclaimed}
use Rattle.host_plain.specs.Keeping.{HostKeeps, SamePage}
use Rattle.host_plain.proofs.Kept.{page_kept, word_kept, length-aged_words, hand_kept, wrapped-below, aged-permitted, aged-resident, aged_words-resident, evicted-frees, evicted-other, other_place}

pub keeps-refl : (m : MemoryState) → IsMemory m → HostKeeps m m
keeps-refl m sound = record { sound = sound; count = refl; frames = refl; busy = λ place. refl; values = λ place. MayBecome-refl (memory_value_at m place) }

pub keeps-trans : (m k l : MemoryState) → HostKeeps m k → HostKeeps k l → HostKeeps m l
keeps-trans m k l first second = record {
  sound = second.sound;
  count = second.count ∙ first.count;
  frames = second.frames ∙ first.frames;
  busy = λ place. second.busy place ∙ first.busy place;
  values = λ place. MayBecome-trans _ _ _ (first.values place) (second.values place);
}

-- of two memories, whichever it is
pub keeps-either : (b : Bool) (m k l : MemoryState) → HostKeeps m k → HostKeeps m l → HostKeeps m (if b then k else l)
keeps-either true m k l first second = first
keeps-either false m k l first second = second

moved-busy : (w : Fields) (action : Move) (w' : Fields) → move_answer w action ≡ Ok w' → w'.busy ≡ w.busy
moved-busy w Discard w' h = grind arith
moved-busy w action w' h = grind arith

preserved-was_resident : (w w' : Fields) → move_answer w Preserve ≡ Ok w' → is_resident w.content ≡ true
preserved-was_resident w w' h = grind arith

pub none-whole : (b : Body) → is_some b.frame ≡ false → is_some b.frame ≡ true → ⊥
none-whole b none some = grind (arith, none, some)

whole_after : (w : Fields) (b : Body) (action : Move) (w' : Fields) → IsPage w b → move_answer w action ≡ Ok w' → IsWholeBody (moved_body action b)
whole_after w b Discard w' page answer = record { block = page.whole.block; bytes = λ some. absurd (none-whole (moved_body Discard b) refl some) }
whole_after w b Preserve w' page answer = record {
  block = page.whole.bytes (page.fits ∙ preserved-was_resident w w' answer);
  bytes = λ some. absurd (none-whole (moved_body Preserve b) refl some);
}
whole_after w b Bring w' page answer = record { block = page.whole.block; bytes = λ some. page.whole.block }
whole_after w b Age w' page answer = page.whole

made : (r : Result Fields Reason) (action : Move) (w : Fields) (b : Body) (w' : Fields) → r ≡ Ok w' → Makes r action w b w' (moved_body action b)
made r action w b w' answer = subst (λ a. Makes a action w b w' (moved_body action b)) (sym answer) (refl, refl)

-- a move that isn't refused leads a page to a page
moved-page : (w : Fields) (b : Body) (action : Move) (w' : Fields) → IsPage w b → move_answer w action ≡ Ok w' → IsPage w' (moved_body action b)
moved-page w b action w' page answer = record {
  permitted = moved_permitted w w' action answer page.permitted;
  fits = move-fits w b action w' (moved_body action b) page.fits (made (move_answer w action) action w b w' answer);
  whole = whole_after w b action w' page answer;
}

-- a word and a body at a place, each of the others as before
pub busy_set : (m : MemoryState) (place : ℕ) (word : Fields) → place < length m.words → word.busy ≡ (word_at m place).busy →
    (p : ℕ) → (word_at (with_word m place word) p).busy ≡ (word_at m p).busy
busy_set m place word inside same p = elim (cases_eq p place) [
  | inl e ↦ rw (e, get_or-set_same m.words place word opening_word inside) same
  | inr n ↦ ap (λ (w : Fields). w.busy) (get_or-set_other m.words place p word opening_word n)
]

values_set : (m : MemoryState) (place : ℕ) (word : Fields) (body : Body) → place < length m.words → place < length m.bodies →
    MayBecome (memory_value_at m place) (actual word body) → (p : ℕ) → MayBecome (memory_value_at m p) (memory_value_at (memory_with_page m place word body) p)
values_set m place word body inside other may p = elim (cases_eq p place) [
  | inl e ↦ rw (e, get_or-set_same m.words place word opening_word inside, get_or-set_same m.bodies place body no_body other) may
  | inr n ↦ rw (get_or-set_other m.words place p word opening_word n, get_or-set_other m.bodies place p body no_body n) (MayBecome-refl (memory_value_at m p))
]

-- a move that isn't refused, with a frame where it needs one
moved-keeps : (m : MemoryState) (place : ℕ) (action : Move) (w' : Fields) → IsMemory m → place < length m.words → move_answer (word_at m place) action ≡ Ok w' →
    frames_of w' ≤ m.free + frames_of (word_at m place) → HostKeeps m (with_moved m place w' (moved_body action (body_at m place)))
moved-keeps m place action w' sound below answer room =
    let other : place < length m.bodies = omega (arith, below, sound.same) in
    record {
      sound = page_kept m place w' (moved_body action (body_at m place)) sound below (moved-page (word_at m place) (body_at m place) action w' (sound.pages place below) answer) room;
      count = length-set m.words place w';
      frames = refl;
      busy = busy_set m place w' below (moved-busy (word_at m place) action w' answer);
      values = values_set m place w' (moved_body action (body_at m place)) below other
          (move-may_become (word_at m place) (body_at m place) action w' (moved_body action (body_at m place))
          (made (move_answer (word_at m place) action) action (word_at m place) (body_at m place) w' answer));
    }

discard-made : (w : Fields) → is_ok (discard_answer w) ≡ true → discard_answer w ≡ Ok (discarded w)
discard-made w h = grind arith

preserve-made : (w : Fields) → is_ok (preserve_answer w) ≡ true → preserve_answer w ≡ Ok (preserved w)
preserve-made w h = grind arith

bring-made : (w : Fields) → is_preserved w.content ≡ true → move_answer w Bring ≡ Ok (brought w)
bring-made w h = rw h refl

age-made : (w : Fields) → is_resident w.content ≡ true → move_answer w Age ≡ Ok (aged w)
age-made w h = rw h refl

reclaiming-made : (w : Fields) → is_resident w.content ≡ true → is_ok (discard_answer w) ≡ false → is_ok (preserve_answer w) ≡ true
reclaiming-made w resident refused = grind arith

pub discarded_at-keeps : (m : MemoryState) (place : ℕ) → IsMemory m → place < length m.words → is_ok (discard_answer (word_at m place)) ≡ true → HostKeeps m (discarded_at m place)
discarded_at-keeps m place sound below allowed =
    moved-keeps m place Discard (discarded (word_at m place)) sound below (discard-made (word_at m place) allowed) (omega arith)

pub preserved_at-keeps : (m : MemoryState) (place : ℕ) → IsMemory m → place < length m.words → is_ok (preserve_answer (word_at m place)) ≡ true → HostKeeps m (preserved_at m place)
preserved_at-keeps m place sound below allowed =
    moved-keeps m place Preserve (preserved (word_at m place)) sound below (preserve-made (word_at m place) allowed) (omega arith)

pub brought_at-keeps : (m : MemoryState) (place : ℕ) → IsMemory m → place < length m.words → is_preserved (word_at m place).content ≡ true → 0 < m.free → HostKeeps m (brought_at m place)
brought_at-keeps m place sound below there frame =
    moved-keeps m place Bring (brought (word_at m place)) sound below (bring-made (word_at m place) there) (omega (arith, frame))

-- a word at a place that says the same of the page
word-keeps : (m : MemoryState) (place : ℕ) (word : Fields) → IsMemory m → place < length m.words → is_permitted word ≡ true →
    is_resident word.content ≡ is_resident (word_at m place).content → word.busy ≡ (word_at m place).busy →
    actual word (body_at m place) ≡ memory_value_at m place → HostKeeps m (with_word m place word)
word-keeps m place word sound below permitted same busy value = record {
  sound = word_kept m place word sound below permitted same;
  count = length-set m.words place word;
  frames = refl;
  busy = busy_set m place word below busy;
  values = λ p. elim (cases_eq p place) [
    | inl e ↦ rw (e, get_or-set_same m.words place word opening_word below) (inl value)
    | inr n ↦ rw (get_or-set_other m.words place p word opening_word n) (MayBecome-refl (memory_value_at m p))
  ];
}

pub aged_at-keeps : (m : MemoryState) (place : ℕ) → IsMemory m → place < length m.words → is_resident (word_at m place).content ≡ true → HostKeeps m (aged_at m place)
aged_at-keeps m place sound below resident =
    word-keeps m place (aged (word_at m place)) sound below
    (moved_permitted (word_at m place) (aged (word_at m place)) Age (age-made (word_at m place) resident) (sound.pages place below).permitted) refl refl refl

candidate-busy : (w : Fields) → (aged_candidate w).busy ≡ w.busy
candidate-busy w = grind arith

candidate-value : (w : Fields) (body : Body) → actual (aged_candidate w) body ≡ actual w body
candidate-value w body = grind arith

-- ages from the hand on
pub aged_words-keeps : (m : MemoryState) (n : ℕ) → IsMemory m → n ≤ length m.words → HostKeeps m (record m { words = aged_words m.words m.hand n })
unfolding aged_words
aged_words-keeps m zero sound most = keeps-refl m sound
aged_words-keeps m (suc n) sound most =
    let before = aged_words-keeps m n sound (omega (arith, most)) in
    let inside : wrapped (length m.words) (m.hand + n) < length (aged_words m.words m.hand n) =
    rw (length-aged_words m.words m.hand n) (wrapped-below (length m.words) m.hand n sound.hand (omega (arith, most))) in
    keeps-trans m (record m { words = aged_words m.words m.hand n }) _ before
    (word-keeps (record m { words = aged_words m.words m.hand n }) (wrapped (length m.words) (m.hand + n)) _ before.sound inside
    (aged-permitted _ (before.sound.pages (wrapped (length m.words) (m.hand + n)) inside).permitted)
    (aged-resident _) (candidate-busy _) (candidate-value _ _))

passed-most : (referenced : Bool) (count hand place : ℕ) → hand < count → place < count →
    (if referenced then count else if nat_lt place hand then place + count - hand else place - hand) ≤ count
passed-most referenced count hand place first second = grind arith

pub passed_by-keeps : (m : MemoryState) (place hand : ℕ) → IsMemory m → place < length m.words → hand < length m.words → HostKeeps m (passed_by m (place, hand))
unfolding passed_by
passed_by-keeps m place hand sound below inside =
    let most : words_passed m.words m.hand place ≤ length m.words = passed-most (word_in m.words place).referenced (length m.words) m.hand place sound.hand below in
    let aged = aged_words-keeps m (words_passed m.words m.hand place) sound most in
    record {
      sound = hand_kept (record m { words = aged_words m.words m.hand (words_passed m.words m.hand place) }) hand aged.sound
          (rw (length-aged_words m.words m.hand (words_passed m.words m.hand place)) inside);
      count = aged.count;
      frames = refl;
      busy = aged.busy;
      values = aged.values;
    }

-- the move by which a resident page's frame is got
pub reclaimed_page-keeps : (m : MemoryState) (place : ℕ) (pager : FailurePlan) → IsMemory m → place < length m.words →
    is_resident (word_at m place).content ≡ true → HostKeeps m (reclaimed_page m place pager).memory
unfolding reclaimed_page
reclaimed_page-keeps m place pager sound below resident = chosen (is_ok (discard_answer (word_at m place))) refl
  where
    chosen : (b : Bool) → is_ok (discard_answer (word_at m place)) ≡ b → HostKeeps m (moved_page (if b then Discard else Preserve) m place pager).memory
    chosen true allowed = discarded_at-keeps m place sound below allowed
    chosen false refused =
        keeps-either (fails_next pager) m m (preserved_at m place) (keeps-refl m sound)
        (preserved_at-keeps m place sound below (reclaiming-made (word_at m place) resident refused))

wrapped-next : (count place : ℕ) → place < count → wrapped count (place + 1) < count
wrapped-next count place below = grind arith

length-from_hand : (words : List Fields) (hand : ℕ) → length (from_hand words hand) ≡ length words
length-from_hand words hand = grind (arith, common_steps)

steps-sound : (in_need : Bool) (words : List Fields) (hand steps : ℕ) → hand < length words → Some steps ≡ position (is_takeable in_need) (from_hand words hand) →
    (wrapped (length words) (hand + steps) < length words) × (wrapped (length words) (wrapped (length words) (hand + steps) + 1) < length words)
    × (is_candidate (word_in words (wrapped (length words) (hand + steps))) ≡ true)
steps-sound in_need words hand steps held found =
    let near : steps < length words = subst (λ n. steps < n) (length-from_hand words hand) (position-Some (is_takeable in_need) (from_hand words hand) steps opening_word (sym found)).0 in
    let inside : wrapped (length words) (hand + steps) < length words = wrapped-below (length words) hand steps held near in (
      inside,
      wrapped-next (length words) (wrapped (length words) (hand + steps)) inside,
      place_candidate in_need words hand (Some steps) held near found opening_word,
    )

abbrev pub IsVictim : List Fields → ℕ × ℕ → Type 0
IsVictim words v = (v.0 < length words) × (v.1 < length words) × (is_candidate (word_in words v.0) ≡ true)

after-sound : (words : List Fields) (hand : ℕ) (first second : Option ℕ) → hand < length words → first ≡ position (is_takeable false) (from_hand words hand) →
    second ≡ position (is_takeable true) (from_hand words hand) → IfSome (victim_after (length words) hand (option_or first second)) (IsVictim words)
after-sound words hand None None held a b = tt
after-sound words hand None (Some steps) held a b = steps-sound true words hand steps held b
after-sound words hand (Some steps) second held a b = steps-sound false words hand steps held a

-- a victim is a candidate, and it and the new hand are among the pages
pub victim-sound : (words : List Fields) (hand : ℕ) → hand < length words → IfSome (victim_of words hand) (IsVictim words)
victim-sound words hand held = after-sound words hand (position (is_takeable false) (from_hand words hand)) (position (is_takeable true) (from_hand words hand)) held refl refl

candidate-resident : (w : Fields) → is_candidate w ≡ true → is_resident w.content ≡ true
candidate-resident w h = grind arith

-- a victim's page after its move, with the ages before it
pub evicted_at-keeps : (m : MemoryState) (place hand : ℕ) (pager : FailurePlan) → IsMemory m → IsVictim m.words (place, hand) → HostKeeps m (evicted_at m (Some (place, hand)) pager).memory
unfolding passed_by
evicted_at-keeps m place hand pager sound found =
    let aged = passed_by-keeps m place hand sound found.0 found.1 in
    keeps-trans m (passed_by m (place, hand)) _ aged
    (reclaimed_page-keeps (passed_by m (place, hand)) place pager aged.sound (rw (length-aged_words m.words m.hand (words_passed m.words m.hand place)) found.0)
    (aged_words-resident m.words m.hand (words_passed m.words m.hand place) place ∙ candidate-resident (word_in m.words place) found.2))

pub evicted-keeps : (m : MemoryState) (pager : FailurePlan) → IsMemory m → HostKeeps m (evicted m pager).memory
unfolding evicted
evicted-keeps m pager sound = at (victim_of m.words m.hand) (victim-sound m.words m.hand sound.hand)
  where
    at : (v : Option (ℕ × ℕ)) → IfSome v (IsVictim m.words) → HostKeeps m (evicted_at m v pager).memory
    at None found = keeps-refl m sound
    at (Some (place, hand)) found = evicted_at-keeps m place hand pager sound found

pub freed-keeps : (m : MemoryState) (pager : FailurePlan) → IsMemory m → HostKeeps m (frame_freed m pager).memory
unfolding frame_freed
freed-keeps m pager sound = at (nat_lt 0 m.free)
  where
    at : (b : Bool) → HostKeeps m (if b then record { done = true; memory = m; pager = pager } else evicted m pager).memory
    at true = keeps-refl m sound
    at false = evicted-keeps m pager sound

other_body : (b : Bool) (m : MemoryState) (place p : ℕ) (pager : FailurePlan) → p ≢ place →
    body_at (moved_page (if b then Discard else Preserve) m place pager).memory p ≡ body_at m p
other_body true m place p pager other = get_or-set_other m.bodies place p _ no_body other
other_body false m place p pager other = kept (fails_next pager)
  where
    kept : (fails : Bool) → body_at (if fails then m else preserved_at m place) p ≡ body_at m p
    kept true = refl
    kept false = get_or-set_other m.bodies place p _ no_body other

-- a page that isn't resident is no victim, and stays
pub evicted_at-absent : (m : MemoryState) (place hand p : ℕ) (pager : FailurePlan) → IsVictim m.words (place, hand) → is_resident (word_at m p).content ≡ false →
    SamePage m p (evicted_at m (Some (place, hand)) pager).memory
unfolding passed_by reclaimed_page
evicted_at-absent m place hand p pager found absent =
    let resident : is_resident (word_at m place).content ≡ true = candidate-resident (word_in m.words place) found.2 in (
      evicted-other m place hand p pager resident absent,
      other_body _ (passed_by m (place, hand)) place p pager (other_place m.words place p resident absent),
    )

pub freed-absent : (m : MemoryState) (pager : FailurePlan) (p : ℕ) → IsMemory m → is_resident (word_at m p).content ≡ false → SamePage m p (frame_freed m pager).memory
unfolding frame_freed evicted
freed-absent m pager p sound absent = at (nat_lt 0 m.free)
  where
    from : (v : Option (ℕ × ℕ)) → IfSome v (IsVictim m.words) → SamePage m p (evicted_at m v pager).memory
    from None found = (refl, refl)
    from (Some (place, hand)) found = evicted_at-absent m place hand p pager found absent

    at : (b : Bool) → SamePage m p (if b then record { done = true; memory = m; pager = pager } else evicted m pager).memory
    at true = (refl, refl)
    at false = from (victim_of m.words m.hand) (victim-sound m.words m.hand sound.hand)

-- where a frame was found, one is free
pub freed-frees : (m : MemoryState) (pager : FailurePlan) → IsMemory m → (frame_freed m pager).done ≡ true → 0 < (frame_freed m pager).memory.free
unfolding frame_freed evicted
freed-frees m pager sound = at (nat_lt 0 m.free) refl
  where
    from : (v : Option (ℕ × ℕ)) → IfSome v (IsVictim m.words) → (evicted_at m v pager).done ≡ true → 0 < (evicted_at m v pager).memory.free
    from None found done = absurd (none-whole no_body refl done)
    from (Some (place, hand)) found done = evicted-frees m place hand pager (candidate-resident (word_in m.words place) found.2) done

    at : (b : Bool) → nat_lt 0 m.free ≡ b → (if b then record { done = true; memory = m; pager = pager } else evicted m pager).done ≡ true →
        0 < (if b then record { done = true; memory = m; pager = pager } else evicted m pager).memory.free
    at true some done = grind (arith, some)
    at false some done = from (victim_of m.words m.hand) (victim-sound m.words m.hand sound.hand) done

preserved-absent : (w : Fields) → is_preserved w.content ≡ true → is_resident w.content ≡ false
preserved-absent w h = grind arith

bring-of : (w : Fields) → is_ok (move_answer w Bring) ≡ true → is_preserved w.content ≡ true
bring-of w h = grind arith

age-of : (w : Fields) → is_ok (move_answer w Age) ≡ true → is_resident w.content ≡ true
age-of w h = grind arith

-- a preserved page that gets a free frame, if one was found
pub brought_after-keeps : (m : MemoryState) (place : ℕ) (pager : FailurePlan) → IsMemory m → place < length m.words → is_preserved (word_at m place).content ≡ true →
    HostKeeps m (brought_after (frame_freed m pager) place).memory
brought_after-keeps m place pager sound below there = at (frame_freed m pager).done refl
  where
    found : HostKeeps m (frame_freed m pager).memory
    found = freed-keeps m pager sound

    at : (b : Bool) → (frame_freed m pager).done ≡ b → HostKeeps m (if b then moved_page Bring (frame_freed m pager).memory place (frame_freed m pager).pager else frame_freed m pager).memory
    at true done =
        let still = freed-absent m pager place sound (preserved-absent (word_at m place) there) in
        keeps-trans m (frame_freed m pager).memory _ found
        (keeps-either (fails_next (frame_freed m pager).pager) (frame_freed m pager).memory (frame_freed m pager).memory _ (keeps-refl (frame_freed m pager).memory found.sound)
        (brought_at-keeps (frame_freed m pager).memory place found.sound (rw found.count below) (rw still.0 there) (freed-frees m pager sound done)))
    at false done = found

-- a move that isn't refused
pub allowed_move-keeps : (action : Move) (m : MemoryState) (place : ℕ) (pager : FailurePlan) → IsMemory m → place < length m.words →
    is_ok (move_answer (word_at m place) action) ≡ true → HostKeeps m (allowed_move action m place pager).memory
allowed_move-keeps Discard m place pager sound below allowed = discarded_at-keeps m place sound below allowed
allowed_move-keeps Preserve m place pager sound below allowed =
    keeps-either (fails_next pager) m m (preserved_at m place) (keeps-refl m sound) (preserved_at-keeps m place sound below allowed)
allowed_move-keeps Bring m place pager sound below allowed = brought_after-keeps m place pager sound below (bring-of (word_at m place) allowed)
allowed_move-keeps Age m place pager sound below allowed = aged_at-keeps m place sound below (age-of (word_at m place) allowed)

pub answered-memory : (step : Paged) → (move_answered step).memory ≡ step.memory
answered-memory step = at step.done
  where
    at : (b : Bool) → (let r : Applied = if b then record { answer = Ok tt; memory = step.memory; pager = step.pager } else
        record { answer = Err Paging; memory = step.memory; pager = step.pager } in r).memory ≡ step.memory
    at true = refl
    at false = refl

-- a host move, refused or not
pub applied-keeps : (m : MemoryState) (place : ℕ) (action : Move) (pager : FailurePlan) → IsMemory m → place < length m.words → HostKeeps m (applied m place action pager).memory
unfolding applied
applied-keeps m place action pager sound below = at (move_answer (word_at m place) action) refl
  where
    at : (r : Result Fields Reason) → move_answer (word_at m place) action ≡ r → HostKeeps m (applied_as r action m place pager).memory
    at (Ok moved) answer = rw (answered-memory (allowed_move action m place pager)) (allowed_move-keeps action m place pager sound below (ap is_ok answer))
    at (Err why) answer = keeps-refl m sound

counted-memory : (count : ℕ) (step : Paged) → (reclaim_counted count step).memory ≡ step.memory
counted-memory count step = at step.done
  where
    at : (b : Bool) → (let r : Reclaimed = if b then record { count = count + 1; paging = false; memory = step.memory; pager = step.pager } else
        record { count = count; paging = true; memory = step.memory; pager = step.pager } in r).memory ≡ step.memory
    at true = refl
    at false = refl

-- one victim more
pub one_more-keeps : (r : Reclaimed) → IsMemory r.memory → HostKeeps r.memory (one_more r).memory
unfolding one_more
one_more-keeps r sound = at r.paging
  where
    from : (v : Option (ℕ × ℕ)) → IfSome v (IsVictim r.memory.words) → HostKeeps r.memory (more_at r v).memory
    from None found = keeps-refl r.memory sound
    from (Some (place, hand)) found = rw (counted-memory r.count (evicted_at r.memory (Some (place, hand)) r.pager)) (evicted_at-keeps r.memory place hand r.pager sound found)

    at : (b : Bool) → HostKeeps r.memory (if b then r else more_at r (victim_of r.memory.words r.memory.hand)).memory
    at true = keeps-refl r.memory sound
    at false = from (victim_of r.memory.words r.memory.hand) (victim-sound r.memory.words r.memory.hand sound.hand)

-- victims one after the other
pub reclaimed-keeps : (m : MemoryState) (pager : FailurePlan) (n : ℕ) → IsMemory m → HostKeeps m (reclaimed m pager n).memory
unfolding reclaimed
reclaimed-keeps m pager zero sound = keeps-refl m sound
reclaimed-keeps m pager (suc n) sound =
    let before = reclaimed-keeps m pager n sound in
    keeps-trans m (reclaimed m pager n).memory _ before (one_more-keeps (reclaimed m pager n) before.sound)
