use Rattle.std.proofs.Common.{◌≡◌, ◌≤◌, ◌∙◌, List, length, ap, arith, sym, subst, rules, vec_len, vec_capacity}
use Rattle.page_arena.specs.Laws.FrameLaws.{first_frames_count, first_frames_are_of}
use Rattle.std.specs.Prelude.{All}
use Rattle.page_arena.specs.FrameView.{FrameView, IsOf}
use Rattle.host_plain.specs.Bodies.{PageParts, IsFramedOf, framed_of}
use Rattle.host_plain.proofs.Closing.{without-of}
use Rattle.host_plain.proofs.Framed.{without-framed, opening-view, whole-bodies}
use Rattle.host_plain.proofs.bodies.Bodies.open.Goals as goal

pub invariant_of-result : goal.invariant_of-result
invariant_of-result c =
    let all : length c.in_ok-region.free.items ≡ c.in_ok-region.region.count = ap length c.in_ok-region.ensures.frames ∙ first_frames_count c.in_ok-region.region in
    let free : vec_len c.in_ok-region.free ≡ length c.in_ok-region.free.items = search rules in
    let room : vec_len c.in_ok-region.free ≤ vec_capacity c.in_ok-region.free = search rules in
    let none : framed_of c.in_ok-pages.pages.items ≡ 0 = ap framed_of c.in_ok-pages.ensures.pages ∙ without-framed c.args.blocks.items in
    let pages : All (IsFramedOf c.in_ok-region.region) c.in_ok-pages.pages.items =
    subst (λ (ps : List PageParts). All (IsFramedOf c.in_ok-region.region) ps) (sym c.in_ok-pages.ensures.pages) (without-of c.in_ok-region.region c.args.blocks.items) in
    let frames : All (IsOf c.in_ok-region.region) c.in_ok-region.free.items =
    subst (λ (fs : List FrameView). All (IsOf c.in_ok-region.region) fs) (sym c.in_ok-region.ensures.frames) (first_frames_are_of c.in_ok-region.region) in
    (omega (arith, all, free, none, c.in_ok-region.ensures.count), omega (arith, all, free, room, c.in_ok-region.ensures.count), c.in_ok-region.ensures.count, (pages, frames))

pub returns-clause-bodies : goal.returns-clause-bodies
returns-clause-bodies c =
    opening-view c.args.blocks.items c.args.frames c.in_ok-region.region c.in_ok-pages.pages.items c.in_ok-region.free.items c.in_ok-pages.ensures.pages c.in_ok-region.ensures.frames
    c.in_ok-region.ensures.count

pub returns-clause-whole : goal.returns-clause-whole
returns-clause-whole c = whole-bodies c.in_ok-pages.pages.items c.in_ok-pages.ensures.whole
