-- How a touch looks for a frame: what a look that finds none is, and what a search that found none has done.
use Rattle.std.specs.Prelude.{◌≡◌, ◌⊎◌, ℕ, ◌+◌, ◌-◌, ◌<◌, ◌≤◌, ◌==◌, List, ◌++◌, length, true, false, Option, Some, None, if◌then◌else◌, slice_index_or}
use Rattle.std.specs.List.{sum_by}
use Rattle.essa_state.specs.StateWord.{is_resident}
use Rattle.essa_state.specs.Moves.{reclaiming}
use Rattle.cmm_storage.specs.declared.storage.Trap.{Trap}
use Rattle.cmm_storage.specs.declared.storage.Trap.TheVariants.{Discarded, Paging, NoFrame}
use Rattle.state_words.specs.SeatView.{SeatStep, Looked, Tried, Left, Moved, SeatView, Seated}
use Rattle.host_shared.specs.Looks.{Look, GrewByLooks, pages_but, freed_in, freed_in_all}
use Rattle.host_shared.specs.Reclaiming.{IsToMove}

-- the page isn't resident, and goes back as it was found
pub record LeavesPage (l : Look) : Type 0 where
  pub free : l.word.busy ≡ false
  pub absent : is_resident l.word.content ≡ false
  pub as_found : l.action ≡ None

-- the page's frame is freed, by the move for its word, whether the page was used or not
pub record FreesFrame (l : Look) : Type 0 where
  pub urgent : IsToMove true l.word (reclaiming l.word)
  pub moved : l.action ≡ Some (reclaiming l.word)

-- an urgent reclaim that found the page busy, or left it, or freed its frame
abbrev pub FindsNothing : Look → Type 0
FindsNothing l = (l.word.busy ≡ true) ⊎ LeavesPage l ⊎ FreesFrame l

abbrev pub tried_at : SeatStep → ℕ
tried_at (Looked page word) = 0
tried_at (Tried page word) = 1
tried_at (Left page) = 0
tried_at (Moved page action) = 0

-- how many claims the seat has tried, by its record
abbrev pub tried_in : SeatView → ℕ
tried_in v = sum_by tried_at v.steps

abbrev pub tried_in_all : List Seated → ℕ
tried_in_all seats = sum_by (λ s. tried_in s.view) seats

-- all of so many pages once, from `start` on and round the end, but for one that is skipped
abbrev pub round_but : Option ℕ → (start pages : ℕ) → List ℕ
round_but skip start pages = pages_but skip start (pages - start) ++ pages_but skip 0 start

-- the page of a guest, if it is its page that is held
abbrev pub held_of : (guest page : ℕ) → ℕ → Option ℕ
held_of guest page other = if other == guest then Some page else None

-- looks at these pages found nothing. The takes after them found the pool dry as often as frames were freed
pub record LooksIn (pages : List ℕ) (v w : SeatView) (dry dried looks : ℕ) : Type 0 where
  pub looked : GrewByLooks FindsNothing pages v w
  pub dry_is : dried + freed_in v ≡ dry + freed_in w
  pub looks_are : looks + tried_in v ≡ tried_in w

-- the seat looked once at each page of its guest, but for the held one, and found nothing
abbrev pub LooksRound : Option ℕ → Seated → Seated → Type 0
LooksRound skip s t = (start : ℕ) × (start ≤ s.words.pages) × GrewByLooks FindsNothing (round_but skip start s.words.pages) s.view t.view

-- a search that found no frame: each page of each guest but the held one was looked at once; the pool's seat found it dry once,
-- and once again after each frame that was freed; and these are so many looks
pub record FoundNone (guest page : ℕ) (old new : List Seated) (dry dried looks : ℕ) : Type 0 where
  pub each : (other : ℕ) (d : Seated) → other < length old → LooksRound (held_of guest page other) (slice_index_or old other d) (slice_index_or new other d)
  pub dry_is : dried + freed_in_all old ≡ dry + 1 + freed_in_all new
  pub looks_are : looks + tried_in_all old ≡ tried_in_all new

-- what a trap says of the search before it
abbrev pub SearchCause : Trap → (guest page : ℕ) → (old new : List Seated) → (dry dried : ℕ) → Type 0
SearchCause Discarded guest page old new dry dried = Unit {0}
SearchCause Paging guest page old new dry dried = Unit {0}
SearchCause (NoFrame looks) guest page old new dry dried = FoundNone guest page old new dry dried looks

-- of the guests from one on and below another, each was looked at round, the others not; the takes found the pool dry as often
-- as frames were freed
pub record Searched (guest page from upto : ℕ) (old new : List Seated) (dry dried looks : ℕ) : Type 0 where
  pub each : (other : ℕ) (d : Seated) → from ≤ other → other < upto → LooksRound (held_of guest page other) (slice_index_or old other d) (slice_index_or new other d)
  pub below : (other : ℕ) (d : Seated) → other < from → slice_index_or new other d ≡ slice_index_or old other d
  pub above : (other : ℕ) (d : Seated) → upto ≤ other → slice_index_or new other d ≡ slice_index_or old other d
  pub dry_is : dried + freed_in_all old ≡ dry + freed_in_all new
  pub looks_are : looks + tried_in_all old ≡ tried_in_all new
