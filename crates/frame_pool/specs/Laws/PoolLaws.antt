-- A region's first frames are as a pool opens with them.
use Rattle.std.specs.Prelude.{◌≡◌, ℕ, zero, suc, ◌+◌, ◌<◌, map, All}
use Rattle.std.specs.List.{range_with_len}
use Rattle.std.proofs.Common.{refl, sym, subst, arith}
use Rattle.page_arena.specs.FrameView.{RegionView, IsOf, zero_frame, first_frames}
use Rattle.page_arena.specs.Laws.FrameLaws.{first_frames_are_of}
use Rattle.frame_pool.specs.Seats.{AreNumbered, first_region}

numbered_from : (region : RegionView) (from n : ℕ) → AreNumbered from (map (zero_frame region) (range_with_len from n))
numbered_from region from zero = tt
numbered_from region from (suc n) = (refl, numbered_from region (from + 1) n)

pub first_frames_numbered : (region : RegionView) → AreNumbered 0 (first_frames region)
first_frames_numbered region = numbered_from region 0 region.count

region_from : (region : RegionView) (n : ℕ) → 0 < n → first_region (map (zero_frame region) (range_with_len 0 n)) ≡ region
region_from region zero some = absurd (omega arith)
region_from region (suc n) some = refl

pub first_frames_region : (region : RegionView) → 0 < region.count → first_region (first_frames region) ≡ region
first_frames_region region some = region_from region region.count some

pub first_frames_are_one_region : (region : RegionView) → 0 < region.count → All (IsOf (first_region (first_frames region))) (first_frames region)
first_frames_are_one_region region some = subst (λ (r : RegionView). All (IsOf r) (first_frames region)) (sym (first_frames_region region some)) (first_frames_are_of region)
