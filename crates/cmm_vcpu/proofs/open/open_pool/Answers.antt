use Rattle.std.proofs.Common.{◌≡◌, List, length, rules, arith, ap, sym, subst, ◌∙◌, vec_len}
use Rattle.std.specs.Prelude.{All}
use Rattle.page_arena.specs.FrameView.{FrameView, IsOf, first_frames}
use Rattle.page_arena.specs.Laws.FrameLaws.{first_frames_count, first_frames_are_of}
use Rattle.frame_pool.specs.Seats.{AreNumbered, first_region}
use Rattle.frame_pool.specs.Laws.PoolLaws.{first_frames_numbered, first_frames_are_one_region}
use Rattle.cmm_vcpu.proofs.open.open_pool.Goals as goal

pub open-requires : goal.open-requires
open-requires c =
    let region = c.in_ok-region.region in
    let frames : List FrameView = c.in_ok-region.free.items in
    let is : frames ≡ first_frames region = c.in_ok-region.ensures.frames in
    let count : region.count ≡ c.args.frames = c.in_ok-region.ensures.count in
    let long : vec_len c.in_ok-region.free ≡ length frames = search rules in
    let size : length frames ≡ region.count = ap (λ (l : List FrameView). length l) is ∙ first_frames_count region in
    record {
      some = omega (arith, long, size, count, c.requires.some);
      most = omega (arith, long, size, count, c.requires.most);
      region = subst (λ (l : List FrameView). All (IsOf (first_region l)) l) (sym is) (first_frames_are_one_region region (omega (arith, count, c.requires.some)));
      numbers = subst (λ (l : List FrameView). AreNumbered 0 l) (sym is) (first_frames_numbered region);
    }

pub returns-in-Ok-clause-frames : goal.returns-in-Ok-clause-frames
returns-in-Ok-clause-frames c =
    let region = c.in_ok-region.region in
    let frames : List FrameView = c.in_ok-region.free.items in
    let long : vec_len c.in_ok-region.free ≡ length frames = search rules in
    let size : length frames ≡ region.count = ap (λ (l : List FrameView). length l) c.in_ok-region.ensures.frames ∙ first_frames_count region in
    c.in-Ok.ensures.frames ∙ (long ∙ (size ∙ c.in_ok-region.ensures.count))

-- what the pool hands back are the region's first frames
pub close_region-requires : goal.close_region-requires
close_region-requires c =
    let region = c.in_ok-region.region in
    let back : c.into_vec.result.items ≡ first_frames region = c.into_vec.ensures ∙ c.in-Err.ensures.back ∙ c.in_ok-region.ensures.frames in
    subst (λ (l : List FrameView). All (IsOf region) l) (sym back) (first_frames_are_of region)
