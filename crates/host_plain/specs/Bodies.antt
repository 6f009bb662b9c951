-- Where the bytes of all pages are: the frame of each, while it has one, and its block; and the frames that no page has.
use Rattle.std.specs.Prelude.{ℕ, List, [], ◌∷◌, ◌++◌, length, map, All, Option, None, IfSome, is_some, if◌then◌else◌, slice_index_or, slice_set}
use Rattle.std.specs.List.{sum_by}
use Rattle.std.specs.Option.{option_map, option_to_list}
use Rattle.cmm_types.specs.Bytes.{with_bytes}
use Rattle.essa_state.specs.PageBody.{Body}
use Rattle.page_arena.specs.FrameView.{RegionView, FrameView, IsOf}
use Rattle.essa_state.specs.declared.fields.Fields.{Fields}
use Rattle.host_plain.specs.MemoryState.{MemoryState, no_body, frameless}
use Rattle.host_plain.specs.Numbering.{Numbering, renumbered, opening_numbers}

-- the frame, if there is one, and the bytes of the block
pub record PageParts : Type 0 where
  pub frame : Option FrameView
  pub block : List ℕ

abbrev pub body_of : PageParts → Body
body_of parts = record { frame = option_map (λ frame. frame.bytes) parts.frame; block = parts.block }

abbrev pub without_frame : List ℕ → PageParts
without_frame block = record { frame = None; block = block }

-- the number of the page's frame
abbrev pub frame_number_of : PageParts → Option ℕ
frame_number_of parts = option_map (λ frame. frame.number) parts.frame

-- the page with bytes written at an offset of its frame
abbrev pub written_parts : PageParts → ℕ → List ℕ → PageParts
written_parts parts off bytes = record parts { frame = option_map (λ (frame : FrameView). let f : FrameView = record frame { bytes = with_bytes frame.bytes off bytes } in f) parts.frame }

abbrev pub frames_in : PageParts → ℕ
frames_in parts = if is_some parts.frame then 1 else 0

-- how many of these pages have a frame
abbrev pub framed_of : List PageParts → ℕ
framed_of pages = sum_by frames_in pages

-- the page's frame, if it has one, is of this region
abbrev pub IsFramedOf : RegionView → PageParts → Type 0
IsFramedOf region parts = IfSome parts.frame (IsOf region)

-- every frame, of a page or free, is of this region
abbrev pub AllAreOf : RegionView → List PageParts → List FrameView → Type 0
AllAreOf region pages free = All (IsFramedOf region) pages × All (IsOf region) free

-- the frames of these pages, that of the last one first
abbrev pub frames_back : List PageParts → List FrameView
frames_back [] = []
frames_back (page ∷ pages) = frames_back pages ++ option_to_list page.frame

-- the body of each page, which frame each has, and how many frames there are
pub record BodiesView : Type 0 where
  pub bodies : List Body
  pub numbers : Numbering
  pub frames : ℕ

-- these pages and these free frames, of so many frames
abbrev pub bodies_view : List PageParts → List FrameView → ℕ → BodiesView
bodies_view pages free frames = record {
  bodies = map body_of pages;
  numbers = record { taken = map frame_number_of pages; spare = map (λ frame. frame.number) free };
  frames = frames;
}

abbrev pub body_in : BodiesView → ℕ → Body
body_in b place = slice_index_or b.bodies place no_body

-- another body at a place, whose frame was free before or is free now
abbrev pub with_body : BodiesView → ℕ → Body → BodiesView
with_body b place body = record b { bodies = slice_set b.bodies place body; numbers = renumbered b.numbers place (is_some (body_in b place).frame) (is_some body.frame) }

-- pages without a frame, one with each block, and these many frames, all free
abbrev pub opening_bodies : List (List ℕ) → ℕ → BodiesView
opening_bodies blocks frames = record { bodies = map frameless blocks; numbers = opening_numbers (length blocks) frames; frames = frames }

-- the memory with these words and bodies, and the hand
abbrev pub memory_of : List Fields → BodiesView → ℕ → MemoryState
memory_of words b hand = record { words = words; bodies = b.bodies; frames = b.frames; free = length b.numbers.spare; numbers = b.numbers; hand = hand }
