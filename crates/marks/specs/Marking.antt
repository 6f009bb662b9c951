-- Marked places in a list, the counts of them by which the next one is found, and the first one in cyclic order.
use Rattle.std.specs.Prelude.{◌≡◌, ℕ, zero, suc, ◌+◌, ◌-◌, ◌*◌, ◌<◌, ◌≤◌, List, ◌++◌, length, take, drop, position, Option, Bool, false, nat_lt, if◌then◌else◌, slice_index_or}
use Rattle.std.specs.Option.{option_map}

abbrev pub is_marked : List Bool → ℕ → Bool
is_marked marks place = slice_index_or marks place false

-- from a place on, and below another
abbrev pub NoneMarked : List Bool → ℕ → ℕ → Type 0
NoneMarked marks from to = (place : ℕ) → from ≤ place → place < to → is_marked marks place ≡ false

abbrev pub mark_code : Bool → ℕ
mark_code marked = if marked then 1 else 0

-- how many of so many places from one on are marked
abbrev pub marked_in : List Bool → ℕ → ℕ → ℕ
marked_in marks from zero = 0
marked_in marks from (suc n) = marked_in marks from n + mark_code (is_marked marks (from + n))

-- after one more mark, or one fewer
abbrev pub recounted : ℕ → (more : Bool) → ℕ
recounted count more = if more then count + 1 else count - 1

-- each count is that of the places of its block, and there are blocks for all places
pub record AreCounts (size : ℕ) (marks : List Bool) (counts : List ℕ) : Type 0 where
  pub all : length marks < size * length counts
  pub exact : (block : ℕ) → block < length counts → slice_index_or counts block 0 ≡ marked_in marks (size * block) size

-- a place, where the first of count places follows the last
abbrev pub wrapped : ℕ → ℕ → ℕ
wrapped count place = if nat_lt place count then place else place - count

-- the first marked place in cyclic order from the hand
abbrev pub first_marked : List Bool → ℕ → Option ℕ
first_marked marks hand = option_map (λ steps. wrapped (length marks) (hand + steps)) (position (λ marked. marked) (drop hand marks ++ take hand marks))
