-- Which resident page the host takes a frame from, and where its hand stands afterwards.
use Rattle.std.specs.Prelude.{ℕ, ◌+◌, List, ◌++◌, Bool, true, false, not, ◌&&◌, Option, Some, None, length, take, drop, position}
use Rattle.std.specs.Option.{option_or, option_map}
use Rattle.essa_state.specs.declared.fields.Fields.{Fields}
use Rattle.essa_state.specs.StateWord.{is_resident}
use Rattle.marks.specs.Marking.{wrapped}

-- a resident page that nobody holds
abbrev pub is_candidate : Fields → Bool
is_candidate word = is_resident word.content && not word.busy

-- in need any candidate may be taken, otherwise one without the reference bit
abbrev pub is_takeable : Bool → Fields → Bool
is_takeable true word = is_candidate word
is_takeable false word = is_candidate word && not word.referenced

-- the words in cyclic order from the hand
abbrev pub from_hand : List Fields → ℕ → List Fields
from_hand words hand = drop hand words ++ take hand words

-- the place so many steps from the hand, and the place after it as the new hand
abbrev pub victim_after : ℕ → ℕ → Option ℕ → Option (ℕ × ℕ)
victim_after count hand None = None
victim_after count hand (Some steps) = Some (wrapped count (hand + steps), wrapped count (wrapped count (hand + steps) + 1))

-- the first candidate without the reference bit in cyclic order from the hand; where there is none, the first candidate
abbrev pub victim_of : List Fields → ℕ → Option (ℕ × ℕ)
victim_of words hand =
    victim_after (length words) hand (option_or (position (is_takeable false) (from_hand words hand)) (position (is_takeable true) (from_hand words hand)))

-- the place and the hand after it, among so many
abbrev pub chosen_at : ℕ → Option ℕ → Option (ℕ × ℕ)
chosen_at count place = option_map (λ (p : ℕ). (p, wrapped count (p + 1))) place
