-- Laws of a region's first frames and of written bytes, for the crates that keep frames.
use Rattle.std.specs.Prelude.{◌≡◌, ℕ, ◌<◌, List, length, slice_index_or, All}
use Rattle.std.proofs.Common.{ap, arith, zero-add}
use Rattle.std.proofs.lemmas.List.FromFn.{get_or-map-range_with_len, length-map-range_with_len}
use Rattle.std.proofs.lemmas.Grind.{common_steps}
use Rattle.page_arena.specs.FrameView.{RegionView, FrameView, IsOf, zero_frame, first_frames, frame_with_bytes}

-- as many as are counted
pub first_frames_count : (region : RegionView) → length (first_frames region) ≡ region.count
first_frames_count region = length-map-range_with_len (zero_frame region) 0 region.count

-- each stands at its number
pub first_frame_at : (region : RegionView) (number : ℕ) (d : FrameView) → number < region.count → slice_index_or (first_frames region) number d ≡ zero_frame region number
first_frame_at region number d below = get_or-map-range_with_len (zero_frame region) 0 region.count number number d below (zero-add number)

-- each is of the region
pub first_frames_are_of : (region : RegionView) → All (IsOf region) (first_frames region)
first_frames_are_of region k d below =
    ap (λ frame. frame.region) (first_frame_at region k d (rw (first_frames_count region) at below))

-- bytes of the same length are the frame's whole bytes afterwards
pub with_whole_bytes : (frame : FrameView) (bytes : List ℕ) → length bytes ≡ length frame.bytes → frame_with_bytes frame bytes ≡ record frame { bytes = bytes }
with_whole_bytes frame bytes same = ap (λ bytes. record frame { bytes = bytes }) (grind (arith, common_steps))
