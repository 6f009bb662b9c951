-- Which frame each page has, and which frames are free, by their numbers in the region.
use Rattle.std.specs.Prelude.{ℕ, ◌-◌, ◌==◌, List, length, take, ◌++◌, Bool, true, false, Option, Some, None, if◌then◌else◌, slice_get, slice_index_or, slice_set, replicate}
use Rattle.std.specs.List.{range_with_len}
use Rattle.std.specs.Option.{option_to_list}

-- the number of each page's frame, by place, where it has one; and those of the free frames, in the order in which they
-- came back
pub record Numbering : Type 0 where
  pub taken : List (Option ℕ)
  pub spare : List ℕ

-- the number of the frame of the page at a place
abbrev pub number_at : Numbering → ℕ → Option ℕ
number_at n place = slice_index_or n.taken place None

-- the page at a place loses its frame, whose number goes behind the spare ones
abbrev pub number_freed : Numbering → ℕ → Numbering
number_freed n place = record { taken = slice_set n.taken place None; spare = n.spare ++ option_to_list (number_at n place) }

-- the page at a place gets a frame, the last of the spare ones
abbrev pub number_taken : Numbering → ℕ → Numbering
number_taken n place = record { taken = slice_set n.taken place (slice_get n.spare (length n.spare - 1)); spare = take (length n.spare - 1) n.spare }

-- the page at a place had a frame before, or hadn't, and has one now, or hasn't
abbrev pub renumbered : Numbering → ℕ → (had has : Bool) → Numbering
renumbered n place true false = number_freed n place
renumbered n place false true = number_taken n place
renumbered n place true true = n
renumbered n place false false = n

-- 1 where it is this number
abbrev pub is_number : ℕ → ℕ → ℕ
is_number number other = if other == number then 1 else 0

-- 1 where it is a page's, and this number
abbrev pub is_taken : ℕ → Option ℕ → ℕ
is_taken number None = 0
is_taken number (Some other) = is_number number other

-- no page has a frame, and so many are free
abbrev pub opening_numbers : ℕ → ℕ → Numbering
opening_numbers places frames = record { taken = replicate places None; spare = range_with_len 0 frames }
