-- A memory as it is opened is sound.
use Rattle.std.specs.Prelude.{◌≡◌, refl, ℕ, zero, suc, ◌<◌, ◌≤◌, List, [], ◌∷◌, length, false, is_some, map, replicate, slice_index_or, All}
use Rattle.std.proofs.Common.{arith, ap, sym, ◌∙◌}
use Rattle.std.proofs.lemmas.List.{length-replicate, length-map}
use Rattle.std.proofs.lemmas.List.FromFn.{length-range_with_len}
use Rattle.cmm_types.specs.declared.plan.TheConstants.{MAX_FRAMES, MAX_TOTAL_PAGES}
use Rattle.essa_state.specs.declared.fields.Fields.{Fields}
use Rattle.essa_state.specs.StateWord.{is_permitted, is_resident, opening_word}
use Rattle.host_plain.specs.Bodies.{BodiesView, memory_of, opening_bodies}
use Rattle.host_plain.proofs.Numbers.{opening-numbering}
use Rattle.host_plain.specs.MemoryState.{IsMemory, IsWholeBody, no_body, frameless, resident_of, opening_memory}

pub opening_word-at : (n k : ℕ) → slice_index_or (replicate n opening_word) k opening_word ≡ opening_word
opening_word-at zero k = refl
opening_word-at (suc n) zero = refl
opening_word-at (suc n) (suc k) = opening_word-at n k

frameless-at : (blocks : List (List ℕ)) (k : ℕ) → is_some (slice_index_or (map frameless blocks) k no_body).frame ≡ false
frameless-at [] k = refl
frameless-at (block ∷ blocks) zero = refl
frameless-at (block ∷ blocks) (suc k) = frameless-at blocks k

none-resident : (n : ℕ) → resident_of (replicate n opening_word) ≡ 0
none-resident zero = refl
none-resident (suc n) = omega (arith, none-resident n)

pub opening-sound : (blocks : List (List ℕ)) (frames : ℕ) → 0 < length blocks → length blocks ≤ MAX_TOTAL_PAGES → 0 < frames → frames ≤ MAX_FRAMES →
    All IsWholeBody (map frameless blocks) → IsMemory (opening_memory blocks frames)
opening-sound blocks frames some_pages most_pages some_frames most_frames whole =
    let count : length (replicate (length blocks) opening_word) ≡ length blocks = length-replicate (length blocks) opening_word in
    let bodies : length (map frameless blocks) ≡ length blocks = length-map blocks frameless in
    record {
      same = bodies ∙ sym count;
      few = omega (arith, count, most_pages);
      some = some_frames;
      most = most_frames;
      hand = omega (arith, count, some_pages);
      pages = λ k below. record {
        permitted = ap is_permitted (opening_word-at (length blocks) k);
        fits = frameless-at blocks k ∙ sym (ap (λ (w : Fields). is_resident w.content) (opening_word-at (length blocks) k));
        whole = whole k no_body (omega (arith, below, count, bodies));
      };
      balance = omega (arith, none-resident (length blocks));
      spare = length-range_with_len 0 frames;
      numbers = opening-numbering (length blocks) frames (replicate (length blocks) opening_word) count (λ k. ap (λ (w : Fields). is_resident w.content) (opening_word-at (length blocks) k));
    }

-- by the words and the bodies
pub opening-memory : (blocks : List (List ℕ)) (frames : ℕ) (words : List Fields) (b : BodiesView) → words ≡ replicate (length blocks) opening_word → b ≡ opening_bodies blocks frames →
    memory_of words b 0 ≡ opening_memory blocks frames
opening-memory blocks frames words b p q =
    let free : length b.numbers.spare ≡ frames = ap (λ (v : BodiesView). length v.numbers.spare) q ∙ length-range_with_len 0 frames in
    λ i. record { words = p i; bodies = (q i).bodies; frames = (q i).frames; free = free i; numbers = (q i).numbers; hand = 0 }
