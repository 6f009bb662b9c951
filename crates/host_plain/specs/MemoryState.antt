-- The pages of all guests as the host keeps them, with its free frames and the hand of its clock.
use Rattle.std.specs.Prelude.{◌≡◌, ℕ, ◌+◌, ◌-◌, ◌≤◌, ◌<◌, List, [], ◌∷◌, length, true, Some, None, is_some, nat_lt, if◌then◌else◌, slice_index_or, slice_set, map, replicate}
use Rattle.std.specs.List.{sum_by}
use Rattle.cmm_types.specs.declared.page.TheConstants.{PAGE}
use Rattle.cmm_types.specs.declared.plan.TheConstants.{MAX_FRAMES, MAX_TOTAL_PAGES}
use Rattle.essa_state.specs.declared.fields.Fields.{Fields}
use Rattle.essa_state.specs.declared.orders.Old.{Old}
use Rattle.essa_state.specs.declared.orders.Order.{Order}
use Rattle.essa_state.specs.Orders.{order_done}
use Rattle.essa_state.specs.StateWord.{opening_word, is_resident, is_permitted}
use Rattle.essa_state.specs.PageValue.{PageValue}
use Rattle.cmm_types.specs.Bytes.{with_bytes}
use Rattle.essa_state.specs.PageBody.{Body, FitsWord, actual, frame_bytes}
use Rattle.host_plain.specs.Numbering.{Numbering, number_at, renumbered, is_taken, is_number, opening_numbers}

-- the word and the body of each page, guest by guest and page by page; how many frames there are, how many of them are
-- free, and which one each page has; and the hand
pub record MemoryState : Type 0 where
  pub words : List Fields
  pub bodies : List Body
  pub frames : ℕ
  pub free : ℕ
  pub numbers : Numbering
  pub hand : ℕ

abbrev pub no_body : Body
no_body = record { frame = None; block = [] }

abbrev pub word_at : MemoryState → ℕ → Fields
word_at m place = slice_index_or m.words place opening_word

abbrev pub body_at : MemoryState → ℕ → Body
body_at m place = slice_index_or m.bodies place no_body

-- what the page at this place is for its guest
abbrev pub memory_value_at : MemoryState → ℕ → PageValue
memory_value_at m place = actual (word_at m place) (body_at m place)

abbrev pub with_word : MemoryState → ℕ → Fields → MemoryState
with_word m place word = record m { words = slice_set m.words place word }

abbrev pub memory_with_page : MemoryState → ℕ → Fields → Body → MemoryState
memory_with_page m place word body = record m { words = slice_set m.words place word; bodies = slice_set m.bodies place body }

abbrev pub frames_of : Fields → ℕ
frames_of word = if is_resident word.content then 1 else 0

-- the page at a place with another word and body, whose frame was free before or is free now
abbrev pub with_moved : MemoryState → ℕ → Fields → Body → MemoryState
with_moved m place word body = record (memory_with_page m place word body) {
  free = m.free + frames_of (word_at m place) - frames_of word;
  numbers = renumbered m.numbers place (is_some (body_at m place).frame) (is_some body.frame);
}

-- a body with these bytes in its frame
abbrev pub body_with_bytes : Body → List ℕ → Body
body_with_bytes body bytes = record body { frame = Some bytes }

-- the page at a place with bytes written at an offset of its frame, and its change bit set
abbrev pub stored_at : MemoryState → ℕ → ℕ → List ℕ → MemoryState
stored_at m place off bytes =
    memory_with_page m place (record (word_at m place) { changed = true })
    (body_with_bytes (body_at m place) (with_bytes (frame_bytes (body_at m place)) off bytes))

-- the page at a place was used
abbrev pub with_use : MemoryState → ℕ → MemoryState
with_use m place = with_word m place (record (word_at m place) { referenced = true })

-- a block and, if there is one, a frame of whole pages
pub record IsWholeBody (body : Body) : Type 0 where
  pub block : length body.block ≡ PAGE
  pub bytes : is_some body.frame ≡ true → length (frame_bytes body) ≡ PAGE

-- a permitted word, and a whole body that has a frame exactly where the word says so
pub record IsPage (word : Fields) (body : Body) : Type 0 where
  pub permitted : is_permitted word ≡ true
  pub fits : FitsWord word body
  pub whole : IsWholeBody body

-- what an order answers of the word before it
abbrev pub old_of : Fields → Order → Old
old_of word code = record { usage = word.usage; content = word.content; done = order_done word code }

-- how many pages are resident
abbrev pub resident_of : List Fields → ℕ
resident_of [] = 0
resident_of (word ∷ words) = frames_of word + resident_of words

-- the resident pages have a frame's number each, and each of so many numbers is that of one page, or of one spare frame,
-- and of no more
pub record IsNumbering (frames : ℕ) (words : List Fields) (n : Numbering) : Type 0 where
  pub count : length n.taken ≡ length words
  pub resident : (place : ℕ) → is_some (number_at n place) ≡ is_resident (slice_index_or words place opening_word).content
  pub once : (number : ℕ) → sum_by (is_taken number) n.taken + sum_by (is_number number) n.spare ≡ (if nat_lt number frames then 1 else 0)

-- one word and one body a page, of 1 to MAX_TOTAL_PAGES pages; the hand is at a page; and each of the 1 to MAX_FRAMES
-- frames is free or has a resident page
pub record IsMemory (m : MemoryState) : Type 0 where
  pub same : length m.bodies ≡ length m.words
  pub few : length m.words ≤ MAX_TOTAL_PAGES
  pub some : 0 < m.frames
  pub most : m.frames ≤ MAX_FRAMES
  pub hand : m.hand < length m.words
  pub pages : (place : ℕ) → place < length m.words → IsPage (word_at m place) (body_at m place)
  pub balance : m.free + resident_of m.words ≡ m.frames
  pub spare : length m.numbers.spare ≡ m.free
  pub numbers : IsNumbering m.frames m.words m.numbers

-- a body without a frame
abbrev pub frameless : List ℕ → Body
frameless block = record { frame = None; block = block }

-- unused pages without contents, one with each block, and these many frames, all free
abbrev pub opening_memory : List (List ℕ) → ℕ → MemoryState
opening_memory blocks frames = record {
  words = replicate (length blocks) opening_word;
  bodies = map frameless blocks;
  frames = frames;
  free = frames;
  numbers = opening_numbers (length blocks) frames;
  hand = 0;
}
