use Rattle.std.proofs.Common.{◌≡◌, ◌<◌, ◌∙◌, List, [], ◌∷◌, length, get_or, refl, sym, ap, subst, arith, rules}
use Rattle.std.specs.Prelude.{All, IsSome, Option}
use Rattle.page_arena.specs.FrameView.{RegionView, FrameView, IsOf}
use Rattle.frame_pool.specs.Seats.{first_region}
use Rattle.frame_pool.proofs.Beginning.{opens, all_full, same_frames}
use Rattle.frame_pool.proofs.pool.Pool.open.Goals as goal

first_region_at : (fs : List FrameView) (d : FrameView) → 0 < length fs → (get_or fs 0 d).region ≡ first_region fs
first_region_at [] d some = absurd (omega arith)
first_region_at (f ∷ fs) d some = refl

pub new-requires : goal.new-requires
new-requires c =
    let frames : List FrameView = c.args.frames.items in
    let some : 0 < length frames = search rules in
    let is : c.region-region.result ≡ first_region frames = c.region-region.ensures ∙ (ap (λ (f : FrameView). f.region) c.index.ensures ∙ first_region_at frames c.index.result.now some) in
    opens c.region-region.result frames (length frames) _ _ refl (search rules) (search rules) (subst (λ (r : RegionView). All (IsOf r) frames) (sym is) c.requires.region) c.requires.numbers

pub refused-requires-clause-full : goal.refused-requires-clause-full
refused-requires-clause-full c = subst (λ (l : List (Option FrameView)). All IsSome l) (sym (c.in-Err.ensures.err ∙ c.in_ok-words.ensures.slots)) (all_full c.args.frames.items)

pub returns-clause-back : goal.returns-clause-back
returns-clause-back c = same_frames c.refused.result.frames c.args.frames.items (c.refused.ensures ∙ (c.in-Err.ensures.err ∙ c.in_ok-words.ensures.slots))
