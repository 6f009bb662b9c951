use Rattle.std.proofs.Common.{◌++◌, ◌∙◌, List, length, drop, ap, sym, subst, rules, vec_len}
use Rattle.std.specs.Prelude.{◌≡◌, All}
use Rattle.page_arena.specs.FrameView.{FrameView, IsOf, missing}
use Rattle.host_plain.proofs.Closing.{behind}
use Rattle.host_plain.proofs.host.Host.close.Goals as goal

pub returns-clause-before : goal.returns-clause-before
returns-clause-before c =
    let count : vec_len c.args.into.now ≡ length c.args.into.now.items = search rules in
    (behind c.args.into.now.items c.into_frames-region.result.1.items c.append.new.self.items (vec_len c.args.into.now) c.in-Ok.ensures.items count).0

pub returns-clause-of_region : goal.returns-clause-of_region
returns-clause-of_region c =
    let count : vec_len c.args.into.now ≡ length c.args.into.now.items = search rules in
    subst (λ (fs : List FrameView). All (IsOf c.into_frames-region.result.0) fs)
    (sym (behind c.args.into.now.items c.into_frames-region.result.1.items c.append.new.self.items (vec_len c.args.into.now) c.in-Ok.ensures.items count).1)
    c.into_frames-region.ensures.of_region

pub returns-clause-all : goal.returns-clause-all
returns-clause-all c =
    let count : vec_len c.args.into.now ≡ length c.args.into.now.items = search rules in
    ap (λ (fs : List FrameView). missing c.into_frames-region.result.0.count fs)
    (behind c.args.into.now.items c.into_frames-region.result.1.items c.append.new.self.items (vec_len c.args.into.now) c.in-Ok.ensures.items count).1
    ∙ c.into_frames-region.ensures.all
