-- A memory as its words, its bodies and its hand are seen, after a step on one page.
use Rattle.std.specs.Prelude.{◌≡◌, ℕ, ◌+◌, ◌-◌, ◌<◌, ◌≤◌, List, length, Bool, false, Ok, slice_set, if◌then◌else◌}
use Rattle.std.proofs.Common.{arith, ap, sym, subst, ◌∙◌}
use Rattle.essa_state.specs.declared.fields.Fields.{Fields}
use Rattle.essa_state.specs.Moves.{discard_answer, preserve_answer, discarded, preserved}
use Rattle.essa_state.specs.PageBody.{Body, FitsWord}
use Rattle.host_plain.specs.MemoryState.{MemoryState, IsMemory, word_at, body_at, memory_with_page, with_moved, frames_of}
use Rattle.host_plain.specs.Bodies.{BodiesView, body_in, with_body, memory_of}
use Rattle.host_plain.proofs.Kept.{moved-spare}

-- of two memories of which one is the other
pub sound-by : (k m : MemoryState) → k ≡ m → IsMemory m → IsMemory k
sound-by k m same sound = subst (λ (l : MemoryState). IsMemory l) (sym same) sound

-- the word after a move of a word that was found
pub discarded-word : (found old word : Fields) → old ≡ found → discard_answer old ≡ Ok word → word ≡ discarded found
discarded-word found old word same answer = grind (arith, same, answer)

pub preserved-word : (found old word : Fields) → old ≡ found → preserve_answer old ≡ Ok word → word ≡ preserved found
preserved-word found old word same answer = grind (arith, same, answer)

module _ (words : List Fields) (b : BodiesView) (hand place : ℕ) (m : MemoryState) (seen : memory_of words b hand ≡ m) (sound : IsMemory (memory_of words b hand))
    (below : place < length m.words) where
  inside : place < length words
  inside = subst (λ (k : MemoryState). place < length k.words) (sym seen) below

  -- a page whose frame was free before or is free now
  pub moved : (new : List Fields) (c : BodiesView) (f : Fields → Fields) (g : Body → Body) → new ≡ slice_set words place (f (word_at (memory_of words b hand) place)) →
      c ≡ with_body b place (g (body_in b place)) → FitsWord (f (word_at (memory_of words b hand) place)) (g (body_in b place)) →
      frames_of (f (word_at (memory_of words b hand) place)) ≤ length b.numbers.spare + frames_of (word_at (memory_of words b hand) place) →
      memory_of new c hand ≡ with_moved m place (f (word_at m place)) (g (body_at m place))
  moved new c f g changed stepped fits room =
      let k : MemoryState = memory_of words b hand in
      let spare : length c.numbers.spare ≡ k.free + frames_of (word_at k place) - frames_of (f (word_at k place)) =
      ap (λ (v : BodiesView). length v.numbers.spare) stepped ∙ moved-spare k place (f (word_at k place)) (g (body_at k place)) sound inside fits room in
      let made : memory_of new c hand ≡ with_moved k place (f (word_at k place)) (g (body_at k place)) =
      λ i. record { words = changed i; bodies = (stepped i).bodies; frames = (stepped i).frames; free = spare i; numbers = (stepped i).numbers; hand = hand } in
      subst (λ (l : MemoryState). memory_of new c hand ≡ with_moved l place (f (word_at l place)) (g (body_at l place))) seen made

  -- a page whose bytes were written
  pub written : (new : List Fields) (c : BodiesView) (f : Fields → Fields) (g : Body → Body) → new ≡ slice_set words place (f (word_at (memory_of words b hand) place)) →
      c ≡ record b { bodies = slice_set b.bodies place (g (body_in b place)) } → memory_of new c hand ≡ memory_with_page m place (f (word_at m place)) (g (body_at m place))
  written new c f g changed stepped =
      let k : MemoryState = memory_of words b hand in
      let made : memory_of new c hand ≡ memory_with_page k place (f (word_at k place)) (g (body_at k place)) =
      λ i. record { words = changed i; bodies = (stepped i).bodies; frames = (stepped i).frames; free = length (stepped i).numbers.spare; numbers = (stepped i).numbers; hand = hand } in
      subst (λ (l : MemoryState). memory_of new c hand ≡ memory_with_page l place (f (word_at l place)) (g (body_at l place))) seen made

-- a call of a pager that didn't fail, and one that did
pub after-good : (fails : Bool) (before after : MemoryState) → fails ≡ false → (if fails then before else after) ≡ after
after-good fails before after good = ap (λ (b : Bool). if b then before else after) good
